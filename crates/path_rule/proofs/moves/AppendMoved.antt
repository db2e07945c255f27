-- A barrier of the append order is issued: the next group is the current one, and the last marker
-- has its barrier.
use Rattle.std.proofs.Common.{◌≡◌, ℕ, zero, suc, ◌<◌, Bool, false, true, List, [], ◌∷◌, length, map}
use Rattle.std.proofs.Common.{Some, None, refl, sym, ap, ◌∙◌, subst, ⊎_elim, arith}
use Rattle.std.specs.Prelude.{if◌then◌else◌, ◌⊎◌, is_none, ◌&&◌, ◌==◌}
use Rattle.std.proofs.lemmas.Bool.{false≢true, and_from, eq-eqb}
use Rattle.std.proofs.lemmas.List.{length-map}
use Rattle.std.specs.List.{Contains}
use Rattle.std.specs.Option.{option_map}
use mathlib.Core.Logic.{inl, inr}
use mathlib.Core.Option.{none}
use Rattle.atomic_table.specs.Table.{State, Me, step, keeps, Allows}
use Rattle.op_core.specs.declared.count.Order.TheVariants.{Append}
use Rattle.path_core.specs.declared.event.Event.TheVariants.{MoveCurrent}
use Rattle.path_core.specs.declared.event.Reading.TheVariants.{Number}
use Rattle.path_core.specs.declared.note.EntryNote.{EntryNote}
use Rattle.path_core.specs.declared.seat.Issue.TheVariants.{Opened}
use Rattle.path_core.specs.declared.seat.LastMarker.{LastMarker}
use Rattle.path_core.specs.declared.state.Claim.{Claim}
use Rattle.path_core.specs.declared.state.PathState.{PathState}
use Rattle.path_core.specs.Allowed.{IsStep, is_unbarred_marker}
use Rattle.path_core.specs.Lawful.{IsLawfulPath}
use Rattle.path_core.specs.LawfulLog.{claim_in}
use Rattle.path_core.specs.LawfulOrders.{made_at}
use Rattle.path_core.specs.Next.{next_of, barred_marker}
use Rattle.path_core.specs.Parts.{marker_of, seat_of, issue_of, is_marker}
use Rattle.path_core.specs.SeatAfter.{seat_after}
use Rattle.path_core.proofs.log.MarkerSteps.{last_is_marker, last_marker_barred, barred_start}
use Rattle.path_core.proofs.log.MarkerSteps.{barred_is_marker}
use Rattle.path_core.proofs.log.MarkerTells.{marker_exact}
use Rattle.path_rule.specs.declared.lasting.Beside.{Beside}
use Rattle.path_rule.specs.declared.lasting.Lasting.{Lasting}
use Rattle.path_rule.specs.declared.slot.Slot.{Slot}
use Rattle.path_rule.specs.declared.view.Hands.{Hands}
use Rattle.path_rule.specs.declared.view.PathSize.{PathSize}
use Rattle.path_rule.specs.declared.view.Progress.{Progress}
use Rattle.path_rule.specs.declared.view.Role.TheVariants.{Steps}
use Rattle.path_rule.specs.declared.view.View.{View}
use Rattle.path_rule.specs.Boxed.{Stamped}
use Rattle.path_core.specs.Parts.{kept_of, last_kept}
use Rattle.path_rule.specs.HandsAfter.{barred, with_desk}
use Rattle.path_rule.specs.Lasts.{shown}
use Rattle.path_rule.specs.Rule.{Ruled, told_by, view_after, with_hands}
use Rattle.path_rule.specs.Told.{MadeAs}
use Rattle.path_rule.specs.TurnTold.{AppendMoved}
use Rattle.path_rule.specs.Turns.{TurnSaw, MarkerWaits}
use Rattle.path_rule.proofs.boxes.HolderBoxes.{boxed_goes}
use Rattle.path_rule.proofs.moves.HolderFacts.{at_issue, is_held, outside, others_free, others_near}
use Rattle.path_rule.proofs.moves.HolderFacts.{current_is, issue_at, hands_now}
use Rattle.path_rule.proofs.moves.Looks.{within, own_part, each_seat_name}
use Rattle.path_rule.proofs.moves.Moving.{core_lawful, was, plays}
use Rattle.path_rule.proofs.places.ReadBack.{rows_stay}
use Rattle.path_rule.proofs.seats.HolderKnows.{still}

module _ {K : Type 0} (shows : K → Lasting) (o : Beside) (size : PathSize) (slots id : ℕ)
    (m : Me (Slot K) View) (w : ℕ) (mine : m.0.role ≡ Steps w) where
  -- A marker that gets its barrier.
  module _ (group : ℕ) (c : Claim) where
    bar_case : (h : ℕ) → (barred_marker w group c).barrier ≡ Some h
        → (h ≡ group) ⊎ (c.barrier ≡ Some h)
    bar_case h = by (is_unbarred_marker w c)
      where
        by : (b : Bool) → (if b then record c { barrier = Some group } else c).barrier ≡ Some h
            → (h ≡ group) ⊎ (c.barrier ≡ Some h)
        by true e = inl (let q : Some group ≡ Some h = e in cc)
        by false e = inr e

  map_at : (f : Claim → Claim) (l : List Claim) (i : ℕ) → i < length l
      → claim_in (map f l) i ≡ f (claim_in l i)
  map_at f [] i l = absurd (omega arith)
  map_at f (x ∷ xs) zero l = refl
  map_at f (x ∷ xs) (suc i) l = map_at f xs i (omega arith)

  -- the marker that waited has its barrier
  now_barred : (x : PathState) → IsLawfulPath x → (start group : ℕ) (h : Hands)
      → MarkerWaits w (seat_of x w) start
      → last_kept x.claims ≡ h.progress.marker
      → last_kept (next_of x (MoveCurrent w Append group)).claims
      ≡ (barred x.append.current h.progress).marker
  now_barred x L start group h waits told =
      let K = marker_exact x L w (record { by = w; start = start; barrier = None }) waits in
      let c = K.0 in
      let own : is_unbarred_marker w c ≡ true =
      and_from (is_marker c && (c.by == w)) (is_none c.barrier)
      (and_from (is_marker c) (c.by == w) (last_is_marker x.claims c K.1)
      (eq-eqb c.by w (ap (λ (k : LastMarker). k.by) K.2)))
      (ap (λ (k : LastMarker). is_none k.barrier) K.2) in
      ap (option_map kept_of) (last_marker_barred x w group
      ∙ ap (option_map (barred_marker w x.append.current)) K.1)
      ∙ (ap (λ (b : Bool). Some (kept_of
      (if b then record c { barrier = Some x.append.current } else c))) own
      ∙ ap (option_map (λ (m : LastMarker). record m { barrier = Some x.append.current }))
      (sym (ap (option_map kept_of) K.1) ∙ told))

  pub moves : (g c start : ℕ) → MarkerWaits w m.0.part start → issue_of m.0.part ≡ Opened Append
      → TurnSaw Append m.0.part c → g ≡ suc c → m.0.hands.progress.gathered ≡ true
      → m.0.hands.box_taken ≡ None
      → Allows (Ruled shows o size) slots id m 8 (λ _. g)
      (λ _. AppendMoved (step slots 8 g 0 none) m g)
  moves g c start waits doing saw up all empty s r _ there _ = let x = r.core in
      let e = MoveCurrent w Append g in
      let h = with_desk m.0.hands.lasting m.0.hands.pending
      (barred c m.0.hands.progress) m.0.hands in let v' = view_after (with_hands h m.0) e c in
      let law = core_lawful shows o size s r in
      let t = at_issue m.0.part (Opened Append) (λ q. cc) doing in
      let held = is_held m.0.part.sync t.0 t.1 in
      let now = current_is shows o size slots id m w mine s r there held c saw in
      let is = issue_at shows o size slots id m w mine s r there held (Opened Append) t.0 t.1 t.2 in
      let long : length x.append.tallies ≡ suc (suc x.append.current) =
      (law.orders.made_groups Append).made ∙ ap (λ i. made_at i Append x.append.current) is in
      let made : g < length x.append.tallies = omega arith in
      let may : IsStep x e = record {
        seat = within shows o size slots id m w mine s r there;
        is_there = made;
        row = (
          own_part shows o size slots id m w mine s r there issue_of
              (Opened Append) doing,
          up ∙ ap suc now,
        );
      } in
      let out = outside shows o size slots id m w mine s r there held in
      let H = hands_now shows o size slots id m w mine s r there in let D = H.desk held in
      let whole : r.boxed.progress.gathered ≡ true =
      ap (λ (k : Progress). k.gathered) (sym D.2) ∙ all in
      let kept = r.boxed.marked ∙ ap (λ (k : Progress). k.marker) (sym D.2) in
      let marked = subst (λ k. last_kept (next_of x e).claims
      ≡ (barred k m.0.hands.progress).marker) (sym now)
      (now_barred x law start g m.0.hands
      (own_part shows o size slots id m w mine s r there marker_of
      (Some (record { by = w; start = start; barrier = None })) waits) kept) in (
        v',
        keeps,
        tt,
        plays shows o size s r id w m.0 there mine e refl may tt tt tt
            tt (rows_stay x e may (λ q. q) r.rows) g c None h refl
            (ap (λ k. seat_after m.0.part e (Number k) (told_by None h)) now) tt m.1 keeps
            (boxed_goes shows size.seats x.notes (shown o size.at_open r.kept_to r.filed r.dropped
            x) x.claims (next_of
            x e).claims
            x.append
            (next_of x e).append s.homes s.views r.boxed id w m.0 v' there mine refl out out
            held (still _ m.0.part.sync held)
            (others_free shows o size slots id m w mine s r there held)
            (others_near shows o size slots id m w mine s r there held)
            (barred c m.0.hands.progress) empty empty (D.0, D.1, refl)
            (let p = r.boxed.all whole in omega arith) (λ no. absurd (false≢true no)) marked
            (λ b n q. moved s r g b n (up ∙ ap suc now) whole q) (λ l. absurd (omega arith)))
            tt (refl, refl, refl, refl) tt tt,
        (λ z c' role saw'. let same : c ≡ c' = now
            ∙ sym (current_is shows o size slots id m w mine s r there held c' saw') in
            each_seat_name shows o size slots id m w mine
            (λ z. MadeAs z (MoveCurrent z Append g) c'
            (with_desk m.0.hands.lasting m.0.hands.pending
            (barred c' m.0.hands.progress) m.0.hands) m.0 v' × (m.1 ≡ m.1))
            (subst (λ k. MadeAs w (MoveCurrent w Append g) k
            (with_desk m.0.hands.lasting m.0.hands.pending
            (barred k m.0.hands.progress) m.0.hands) m.0 v' × (m.1 ≡ m.1)) same
            ((refl, was shows o size s r id w m.0 there mine e may tt), refl)) z role),
      )
    where
      moved : (s : State (Slot K) View) (r : Ruled shows o size s) (g b : ℕ) (n : EntryNote)
          → g ≡ suc r.core.append.current → r.boxed.progress.gathered ≡ true
          → Contains (r.boxed.contents b) n
          → Stamped (map (barred_marker w r.core.append.current) r.core.claims) g false b
          (r.boxed.stamp b) n
      moved s r g b n up whole q = let S = r.boxed.stamped b n q in
          let cur = r.core.append.current in let now = S.gathered whole in record {
            own = S.own;
            not_above = (omega arith);
            recent = (omega arith);
            gathered = λ no. absurd (false≢true no);
            above = λ i h l mark bar less. let claims = r.core.claims in
                let low : i < length claims = (let k = length-map claims (barred_marker w cur) in
                omega arith) in let at = map_at (barred_marker w cur) claims i low in
                subst (λ k. k < n.end.0) (sym (ap (λ (c : Claim). c.start) at
                ∙ barred_start w cur (claim_in claims i)))
                (⊎_elim (λ (same : h ≡ cur). absurd (omega arith))
                (λ old. S.above i h low (sym (barred_is_marker w cur (claim_in claims i))
                ∙ (ap (λ (c : Claim). is_marker c) (sym at) ∙ mark)) old less)
                (bar_case cur (claim_in claims i) h
                (ap (λ (c : Claim). c.barrier) (sym at) ∙ bar)));
          }
