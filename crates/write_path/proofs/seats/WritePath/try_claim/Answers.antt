use Rattle.std.proofs.Common.{◌≡◌, ◌+◌, ◌-◌, ℕ, ◌^◌, ◌<◌, ◌≤◌, [], ◌∷◌, length, Option, Some, refl}
use Rattle.std.proofs.Common.{sym, ap, ◌∙◌, subst, arith}
use Rattle.path_core.specs.declared.event.ClaimKind.TheVariants.{Entry}
use Rattle.path_core.specs.declared.event.Event.TheVariants.{Look, Claim}
use Rattle.path_core.specs.declared.event.Place.TheVariants.{Log}
use Rattle.path_core.specs.declared.seat.Range.{Range}
use Rattle.path_core.specs.Keys.{entry_end, ordinal_of}
use Rattle.path_core.specs.Parts.{HoldsNoTurn}
use Rattle.path_rule.specs.declared.slot.Slot.TheVariants.{Notes}
use Rattle.path_rule.specs.declared.view.PathSize.{PathSize}
use Rattle.path_rule.specs.declared.view.View.{View}
use Rattle.path_rule.specs.Boxes.{box_of}
use Rattle.path_rule.specs.Calls.{Did}
use Rattle.path_rule.specs.Rule.{view_after}
use Rattle.path_rule.specs.Issued.{issued_in, opened_in}
use Rattle.path_rule.proofs.seats.Staying.{view_columns, free_stays}
use Rattle.write_path.proofs.ClaimBehind.{claim_behind}
use Rattle.write_path.proofs.seats.WritePath.try_claim.Goals as goal

pub invariant_of-seat : goal.invariant_of-seat
invariant_of-seat g c =
    let s = c.args.seat in let m = s.member in let L = c.look_log-looked.ensures in
    let v = m.seat.me.0 in let n = c.look_log-looked.result in
    let C = view_columns v (Look m.number Log) n tt in record {
      writes = ap (λ (v : View). v.part.write) L.step.view ∙ s.writes;
      appends = ap (λ (v : View). v.part.append) L.step.view ∙ s.appends;
      unclaimed = ap (λ (v : View). v.part.claim) L.step.view ∙ s.unclaimed;
      free = subst (λ (v : View). HoldsNoTurn v.part) (sym L.step.view)
          (free_stays (Look m.number Log) v.part _ C refl (λ t b. refl) s.free);
      carries = L.same.2 ∙ (s.carries ∙ (λ i. (
        box_of (sym L.same.1 i) s.group,
        Notes (sym (ap (λ (v : View). v.hands.notes) L.step.view) i),
      ) ∷ []));
      few = subst (λ (v : View). length v.hands.notes ≤ 2 ^ 62) (sym L.step.view) s.few;
      paid = subst (λ (v : View). opened_in v.trail ≤ issued_in v.trail) (sym L.step.view) s.paid;
    }

pub invariant_of-seat-else-found-looked : goal.invariant_of-seat-else-found-looked
invariant_of-seat-else-found-looked g c =
    let s = c.args.seat in let m = s.member in let L = c.look_log-looked.ensures in
    let v = m.seat.me.0 in let n = c.look_log-looked.result in
    let M = c.claim-found.ensures in let D = M.miss (λ e. omega arith) in
    let w = c.look_log-looked.new.member.number in
    let v1 = c.look_log-looked.new.member.seat.me.0 in
    let C = view_columns v (Look m.number Log) n tt in
    let C1 = view_columns v1 (Look w Log) c.claim-found.result tt in record {
      writes = ap (λ (v : View). v.part.write) D.view
          ∙ (ap (λ (v : View). v.part.write) L.step.view ∙ s.writes);
      appends = ap (λ (v : View). v.part.append) D.view
          ∙ (ap (λ (v : View). v.part.append) L.step.view ∙ s.appends);
      unclaimed = ap (λ (v : View). v.part.claim) D.view
          ∙ (ap (λ (v : View). v.part.claim) L.step.view ∙ s.unclaimed);
      free = subst (λ (v : View). HoldsNoTurn v.part) (sym D.view)
          (free_stays (Look w Log) v1.part _ C1 refl (λ t b. refl)
          (subst (λ (v : View). HoldsNoTurn v.part) (sym L.step.view)
          (free_stays (Look m.number Log) v.part _ C refl (λ t b. refl) s.free)));
      carries = M.same.2 ∙ (L.same.2 ∙ (s.carries ∙ (λ i. (
        box_of (sym (M.same.1 ∙ L.same.1) i) s.group,
        Notes (sym (ap (λ (v : View). v.hands.notes) D.view
            ∙ ap (λ (v : View). v.hands.notes) L.step.view) i),
      ) ∷ [])));
      few = subst (λ (v : View). length v.hands.notes ≤ 2 ^ 62) (sym D.view)
          (subst (λ (v : View). length v.hands.notes ≤ 2 ^ 62) (sym L.step.view) s.few);
      paid = subst (λ (v : View). opened_in v.trail ≤ issued_in v.trail) (sym D.view)
          (subst (λ (v : View). opened_in v.trail ≤ issued_in v.trail) (sym L.step.view) s.paid);
    }

pub invariant_of-result : goal.invariant_of-result
invariant_of-result g c =
    let s = c.args.seat in let L = c.look_log-looked.ensures in
    let M = c.claim-found.ensures in let D = M.hit (omega arith) in
    let to = c.in-Some.to in
    let range : ℕ → Option Range = λ n. Some (record { start = to - n; end = to }) in record {
      writes = ap (λ (v : View). v.part.write) D.view
          ∙ (ap (λ (v : View). v.part.write) L.step.view ∙ s.writes);
      appends = ap (λ (v : View). v.part.append) D.view
          ∙ (ap (λ (v : View). v.part.append) L.step.view ∙ s.appends);
      claims = ap (λ (v : View). v.part.claim) D.view
          ∙ ap range c.in-Some.ensures.moves.1;
      free = let m = s.member in
          let v = m.seat.me.0 in let n = c.look_log-looked.result in
          let C = view_columns v (Look m.number Log) n tt in
          let w = c.look_log-looked.new.member.number in
          let v1 = c.look_log-looked.new.member.seat.me.0 in
          let e = Claim w (record { 0 = n }) (record { 0 = to }) Entry in
          let C1 = view_columns v1 e to tt in
          subst (λ (v : View). HoldsNoTurn v.part) (sym D.view)
          (free_stays e v1.part _ C1 refl (λ t b. refl)
          (subst (λ (v : View). HoldsNoTurn v.part) (sym L.step.view)
          (free_stays (Look m.number Log) v.part _ C refl (λ t b. refl) s.free)));
      carries = M.same.2 ∙ (L.same.2 ∙ (s.carries ∙ (λ i. (
        box_of (sym (M.same.1 ∙ L.same.1) i) s.group,
        Notes (sym (ap (λ (v : View). v.hands.notes) D.view
            ∙ ap (λ (v : View). v.hands.notes) L.step.view) i),
      ) ∷ [])));
      few = subst (λ (v : View). length v.hands.notes ≤ 2 ^ 62) (sym D.view)
          (subst (λ (v : View). length v.hands.notes ≤ 2 ^ 62) (sym L.step.view) s.few);
      paid = subst (λ (v : View). opened_in v.trail ≤ issued_in v.trail) (sym D.view)
          (subst (λ (v : View). opened_in v.trail ≤ issued_in v.trail) (sym L.step.view) s.paid);
    }

pub returns-then-found-looked-clause-step : goal.returns-then-found-looked-clause-step
returns-then-found-looked-clause-step g c =
    let L = c.look_log-looked.ensures in
    let D = c.claim-found.ensures.hit (omega arith) in
    let moves = c.in-Some.ensures.moves in let end = moves.0.2 in let size = moves.1 in
    let bytes = c.from-bytes.ensures in (
      omega arith,
      record {
        looked = c.look_log-looked.result;
        did = subst (λ (q : View × ℕ). Did q.0 q.1 (Claim q.1
            (record { 0 = c.look_log-looked.result }) (record { 0 = c.in-Some.to }) Entry)
            c.in-Some.to c.claim-found.new.member.seat.me.0)
            (λ i. (L.step.view i, L.same.1 i)) D;
      },
    )

pub returns-then-found-looked-clause-behind : goal.returns-then-found-looked-clause-behind
returns-then-found-looked-clause-behind g c =
    let D = c.claim-found.ensures.hit (omega arith) in
    let to = c.in-Some.to in
    let from = c.look_log-looked.result in
    let moves = c.in-Some.ensures.moves in
    let bytes = moves.1 in
    let long : to - c.from-bytes.result + c.from-bytes.result ≡ to =
    (let end = moves.0.2 in let size = moves.1 in let is = c.from-bytes.ensures in omega arith) in
    claim_behind c.look_log-looked.new.member.seat.me.0 c.claim-found.new.member.seat.me.0
    c.look_log-looked.new.member.number from to D c.size.result.capacity c.from-bytes.result
    (to - c.from-bytes.result)
    (moves.0.2 ∙ ap (λ (k : ℕ). entry_end c.size.result.capacity from k) bytes) long

pub returns-else-found-looked-clause-step : goal.returns-else-found-looked-clause-step
returns-else-found-looked-clause-step g c =
    let L = c.look_log-looked.ensures in
    let D = c.claim-found.ensures.miss (λ e. omega arith) in
    let moves = c.in-Some.ensures.moves in let from = c.look_log-looked.result in record {
      room = subst (λ (q : PathSize × ℕ). ordinal_of (entry_end q.0.capacity from q.1)
          < q.0.ordinals) (λ i. (c.size.ensures i, c.from-bytes.ensures i))
          (subst (λ (k : ℕ). ordinal_of k < c.size.result.ordinals) (moves.0.2
          ∙ ap (λ (n : ℕ). entry_end c.size.result.capacity from n) moves.1) moves.0.3);
      moved = λ e. omega arith;
      view = D.view ∙ (λ i. view_after (L.step.view i) (Look (L.same.1 i) Log)
          c.claim-found.result);
    }
