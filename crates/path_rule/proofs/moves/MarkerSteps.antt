-- The holder of the Sync turn claims a marker.
use Rattle.std.proofs.Common.{◌≡◌, ◌≢◌, ℕ, eqb, Some, None, is_some, IsTrue, refl, sym, ap, ◌∙◌}
use Rattle.std.proofs.Common.{subst, ◌<◌, Option}
use Rattle.std.specs.Prelude.{slice_index}
use Rattle.std.specs.Option.{option_map}
use mathlib.Core.Option.{none}
use prog.Atomic.{either}
use Rattle.atomic_table.proofs.Lists.{exchanged}
use Rattle.atomic_table.specs.Table.{Me, step, keeps, Allows}
use Rattle.path_core.specs.declared.event.ClaimKind.TheVariants.{Marker}
use Rattle.path_core.specs.declared.event.Event.TheVariants.{Look, Claim}
use Rattle.path_core.specs.declared.event.Place.TheVariants.{Log}
use Rattle.path_core.specs.declared.seat.LastMarker.{LastMarker}
use Rattle.path_core.specs.Allowed.{IsStep, is_entry_last}
use Rattle.path_core.specs.Keys.{MovesLog}
use Rattle.path_core.specs.Next.{next_of, claim_of}
use Rattle.path_core.proofs.frame.Runs.{past_sizes}
use Rattle.path_core.proofs.log.MarkerSteps.{last_marker_claimed}
use Rattle.path_core.proofs.log.MarkerTells.{entry_since}
use Rattle.path_rule.specs.declared.lasting.Beside.{Beside}
use Rattle.path_rule.specs.declared.lasting.Lasting.{Lasting}
use Rattle.path_rule.specs.declared.slot.Slot.{Slot}
use Rattle.path_rule.specs.declared.view.PathSize.{PathSize}
use Rattle.path_rule.specs.declared.view.Progress.{Progress}
use Rattle.path_rule.specs.declared.view.Role.TheVariants.{Steps}
use Rattle.path_rule.specs.declared.view.View.{View}
use Rattle.path_core.specs.Parts.{kept_of, last_kept}
use Rattle.path_rule.specs.HandsAfter.{with_marker}
use Rattle.path_rule.specs.Lasts.{shown}
use Rattle.path_rule.specs.Rule.{Ruled, start_of, view_after, with_hands}
use Rattle.path_rule.specs.Told.{MadeAs, Made}
use Rattle.path_rule.specs.TurnTold.{MarkerClaimed}
use Rattle.path_rule.specs.Turns.{FoundRunning}
use Rattle.path_core.specs.Holders.{behind_last}
use Rattle.path_rule.proofs.boxes.HandsStay.{stamp_stays}
use Rattle.path_rule.proofs.boxes.HolderBoxes.{boxed_goes}
use Rattle.path_rule.proofs.moves.HolderFacts.{has, outside, others_free, others_near, hands_now}
use Rattle.path_rule.proofs.moves.Looks.{Owes, look_owes, within, each_seat_name}
use Rattle.path_rule.proofs.moves.Moving.{core_lawful, known, was, plays}
use Rattle.path_rule.proofs.moves.StepFacts.{claim_bars}
use Rattle.path_rule.proofs.moves.SyncFacts.{turn_exact}
use Rattle.path_rule.proofs.places.ReadBack.{rows_stay}
use Rattle.path_rule.proofs.seats.HolderKnows.{still}

module _ {K : Type 0} (shows : K → Lasting) (o : Beside) (size : PathSize) (slots id : ℕ) (m : Me
    (Slot K) View)
    (w : ℕ) (mine : m.0.role ≡ Steps w) where
  pub claims_marker : (from to : ℕ) → IsTrue (is_some m.0.part.sync) → m.0.hands.box_taken ≡ None
      → FoundRunning m.0.part
      → behind_last m.0.size.capacity m.0.hands.progress.marker < from
      → MovesLog Marker m.0.size.capacity m.0.size.ordinals from to
      → Allows (Ruled shows o size) slots id m 32 (λ n. either (eqb n from) to n)
      (MarkerClaimed (step slots 32 from to none) m)
  claims_marker from to held empty runs moved moves s r _ there _ =
      let n = slice_index s.words 32 in
      let x = r.core in let B = r.boxed in let found : n ≡ x.log = r.words Log tt in
      let then = MarkerClaimed (step slots 32 from to none) m n in
      exchanged n from to (λ z. Owes shows o size slots id m w mine s 32 z then)
      (λ hit. let e = Claim w (record { 0 = from }) (record { 0 = to }) Marker in
      let c = claim_of x.capacity w from to Marker in let law = core_lawful shows o size s r in
      let h = with_marker w from m.0.hands in let v' = view_after (with_hands h m.0) e to in
      let H = hands_now shows o size slots id m w mine s r there in let D = H.desk held in
      let out = outside shows o size slots id m w mine s r there held in
      let z = past_sizes r.events (start_of size) x r.run in
      let k = (known shows o size s r id w m.0 there mine).0 in
      let wide = ap (λ (q : PathSize). q.capacity) k ∙ sym z.capacity in
      let many = ap (λ (q : PathSize). q.ordinals) k ∙ sym z.ordinals in
      let stands : from ≡ x.log = sym hit ∙ found in
      let running : x.stopped ≡ 0 = sym ((turn_exact shows o size slots id m w mine s r there runs.0
      runs.1).stopped 0 runs.2) in
      let kept : last_kept x.claims ≡ m.0.hands.progress.marker =
      B.marked ∙ ap (λ (f : Progress). f.marker) (sym D.2) in
      let since : IsTrue (is_entry_last x) =
      (entry_since x law).1 (subst (λ (q : (ℕ × Option LastMarker) × ℕ). behind_last q.0.0
      q.0.1 < q.1) (λ i. ((wide i, sym kept i), stands i)) moved) in
      let may : IsStep x e = record {
        seat = within shows o size slots id m w mine s r there;
        is_there = tt;
        row = (
          has shows o size slots id m w mine s r there held,
          since,
          stands,
          subst
              (λ (q : ℕ × ℕ). MovesLog Marker q.0 q.1 from to) (λ i. (wide i, many i)) moves,
        );
      } in (
        v',
        keeps,
        tt,
        plays shows o size s r id w m.0 there mine e refl may tt running tt
            tt (rows_stay x e may (λ q. q) r.rows) to to None h refl refl tt m.1 keeps
            (boxed_goes shows size.seats x.notes (shown o size.at_open r.kept_to r.filed r.dropped
            x) x.claims
            (next_of x e).claims x.append x.append s.homes s.views B id w m.0 v' there mine refl
            out out held (still _ m.0.part.sync held)
            (others_free shows o size slots id m w mine s r there held)
            (others_near shows o size slots id m w mine s r there held)
            (record {
              gathered = B.progress.gathered;
              marker = Some
                  (record { by = w; start = from; barrier = None });
            }) empty empty (
              D.0,
              D.1,
              ap (λ (f : Progress).
                  record {
                    gathered = f.gathered;
                    marker = Some
                        (record { by = w; start = from; barrier = None });
                  }) D.2,
            ) B.near B.all
            (ap (option_map kept_of) (last_marker_claimed x w (record { 0 = from })
            (record { 0 = to })))
            (λ b q g. stamp_stays x.claims (next_of x e).claims x.append.current x.append.current
            B.progress.gathered b (B.stamp b) q refl (claim_bars x.claims c refl)
            (B.stamped b q g))
            (λ l. let S = H.swept l in record {
              holds = still _ m.0.part.sync held;
              passed = S.passed;
              empty = S.empty;
            })) tt (refl, refl, refl, refl) tt tt,
        each_seat_name shows o size slots id m w mine
            (λ z. (n ≡ from → MadeAs z (Claim z (record { 0 = from }) (record { 0 = to }) Marker) to
            (with_marker z from m.0.hands) m.0 v' × (m.1 ≡ m.1))
            × (n ≢ from → Made z (Look z Log) n m (v', m.1))) (
              (λ _. ((refl, was shows o size s r id w m.0 there mine e may tt), refl)),
              (λ miss. absurd (miss hit)),
            ),
      ))
      (λ miss. let v' = view_after m.0 (Look w Log) n in
      look_owes shows o size slots id m w mine s r there Log tt tt then (λ made _.
      each_seat_name shows o size slots id m w mine
      (λ z. (n ≡ from → MadeAs z (Claim z (record { 0 = from }) (record { 0 = to }) Marker) to
      (with_marker z from m.0.hands) m.0 v' × (m.1 ≡ m.1))
      × (n ≢ from → Made z (Look z Log) n m (v', m.1)))
      ((λ hit. absurd (miss hit)), (λ _. made))))
