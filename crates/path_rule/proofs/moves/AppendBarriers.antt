-- A barrier of the append order: the group before the current one expires, and the oldest one moves
-- on.
use Rattle.op_core.specs.CountWords.{count_word}
use Rattle.op_core.proofs.CountWords.{expired_word}
use Rattle.std.proofs.Common.{◌≡◌, ℕ, suc, ◌+◌, ◌*◌, ◌%◌, ◌^◌, ◌<◌, ◌≤◌, length, Option, Some, None}
use Rattle.std.proofs.Common.{is_some, IsTrue, refl, sym, ap, ◌∙◌, subst, arith}
use Rattle.std.specs.Prelude.{slice_index}
use Rattle.std.specs.Option.{option_map}
use mathlib.Core.Option.{none, some}
use lib.ListN.{get_elem?}
use Rattle.atomic_table.specs.Table.{State, Me, step, keeps, Allows}
use Rattle.op_core.specs.declared.count.Order.TheVariants.{Append}
use Rattle.path_core.specs.declared.event.Event.TheVariants.{Expire, Advance}
use Rattle.path_core.specs.declared.event.Place.TheVariants.{Count}
use Rattle.path_core.specs.declared.seat.Issue.TheVariants.{Rest, Moved}
use Rattle.path_core.specs.declared.seat.Seat.{Seat}
use Rattle.path_core.specs.declared.seat.SyncTurn.{SyncTurn}
use Rattle.path_core.specs.Allowed.{IsStep}
use Rattle.path_core.specs.Next.{next_of}
use Rattle.path_core.specs.Parts.{tally_of, issue_of}
use Rattle.path_core.proofs.frame.Seats.{current_is_made}
use Rattle.path_rule.specs.declared.lasting.Beside.{Beside}
use Rattle.path_rule.specs.declared.lasting.Lasting.{Lasting}
use Rattle.path_rule.specs.declared.slot.Slot.{Slot}
use Rattle.path_rule.specs.declared.view.PathSize.{PathSize}
use Rattle.path_rule.specs.declared.view.Role.TheVariants.{Steps}
use Rattle.path_rule.specs.declared.view.View.{View}
use Rattle.path_rule.specs.Boxed.{HandsAs, HandsAre}
use Rattle.path_rule.specs.Lasts.{shown}
use Rattle.path_rule.specs.Rule.{Ruled, view_after}
use Rattle.path_rule.specs.Told.{Made}
use Rattle.path_rule.specs.TurnTold.{AppendExpired, AppendAdvanced}
use Rattle.path_rule.specs.Turns.{TurnSaw, TurnOld, TurnGone}
use Rattle.path_rule.proofs.boxes.HolderBoxes.{boxed_goes}
use Rattle.path_rule.proofs.moves.HolderFacts.{at_issue, is_held, has, outside, others_free}
use Rattle.path_rule.proofs.moves.HolderFacts.{others_near, exact, current_is, issue_at, hands_now}
use Rattle.path_rule.proofs.moves.Looks.{within, own_part, each_name, each_seat_name}
use Rattle.path_rule.proofs.moves.Moving.{core_lawful, was, plays}
use Rattle.path_rule.proofs.places.ReadBack.{rows_stay, count_small}
use Rattle.path_rule.proofs.places.ShownSteps.{open_shown}
use Rattle.path_rule.proofs.seats.HolderKnows.{still}

module _ {K : Type 0} (shows : K → Lasting) (o : Beside) (size : PathSize) (slots id : ℕ)
    (m : Me (Slot K) View) (w : ℕ) (mine : m.0.role ≡ Steps w) where
  pub expires : (g c : ℕ) → issue_of m.0.part ≡ Moved Append → TurnSaw Append m.0.part c → suc g ≡ c
      → m.0.hands.box_taken ≡ None
      → Allows (Ruled shows o size) slots id m (136 + 16 * (g % 32)) (λ n. (n + 2 ^ 63) % 2 ^ 64)
      (AppendExpired (step slots (136 + 16 * (g % 32)) (2 ^ 63) 0 none) m)
  expires g c doing saw up empty s r _ there low =
      let n = slice_index s.words (136 + 16 * (g % 32)) in
      let x = r.core in let k = tally_of x Append g in
      let e = Expire w Append g in let v' = view_after m.0 e n in
      let law = core_lawful shows o size s r in
      let t = at_issue m.0.part (Moved Append) (λ q. cc) doing in
      let held = is_held m.0.part.sync t.0 t.1 in
      let now = current_is shows o size slots id m w mine s r there held c saw in
      let is = issue_at shows o size slots id m w mine s r there held (Moved Append) t.0 t.1 t.2 in
      let G = (law.orders.counts_stand_for_seats Append).each g in
      let unclosed = G.replaced is (up ∙ now) in let more = current_is_made x law Append in
      let made : g < length x.append.tallies = omega arith in
      let fits = open_shown x law Append g made unclosed in
      let found : n ≡ count_word g k = r.words (Count Append g) fits in
      let few = count_small x law Append g in let numbers = r.rows.groups Append in
      let may : IsStep x e = record {
        seat = within shows o size slots id m w mine s r there;
        is_there = made;
        row = (
          own_part shows o size slots id m w mine s r there issue_of
              (Moved Append) doing,
          up ∙ now,
          unclosed,
        );
      } in
      let told = ap (λ z. (z + 2 ^ 63) % 2 ^ 64) found
      ∙ expired_word g k unclosed (omega arith) (omega arith) in
      let rows = rows_stay x e may (λ q. q) r.rows in
      let out = outside shows o size slots id m w mine s r there held in
      let H = hands_of s r there in (
        v',
        keeps,
        tt,
        plays shows o size s r id w m.0 there mine e refl may tt tt fits tt rows
            ((n + 2 ^ 63) % 2 ^ 64) n None m.0.hands told refl tt m.1 keeps
            (boxed_goes shows size.seats x.notes (shown o size.at_open r.kept_to r.filed r.dropped
            x) x.claims x.claims
            x.append
            (next_of x e).append s.homes s.views r.boxed id w m.0 v' there mine refl out out
            held (still_held m.0.part held)
            (others_free shows o size slots id m w mine s r there held)
            (others_near shows o size slots id m w mine s r there held)
            r.boxed.progress empty empty (H.desk held) r.boxed.near r.boxed.all r.boxed.marked
            r.boxed.stamped (λ l. let S = H.swept l in
            record { holds = still_held m.0.part held; passed = S.passed; empty = S.empty }))
            tt (refl, refl, refl, refl) tt tt,
        (λ z q c' role saw' up'. each_name shows o size slots id m w mine g
            (λ z q. Made z (Expire z Append q) n m (v', m.1))
            ((refl, was shows o size s r id w m.0 there mine e may tt), refl) z q role
            (let both = now ∙ sym (current_is shows o size slots id m w mine s r there held c' saw')
            in omega arith)),
      )
    where
      hands_of : (s : State (Slot K) View) (r : Ruled shows o size s)
          → get_elem? s.views id ≡ some m.0
          → HandsAre r.boxed.contents (shown o size.at_open r.kept_to r.filed r.dropped r.core)
          r.boxed.pending r.boxed.progress
          r.core.append
          size.seats w m.0.part m.0.hands
      hands_of s r there = subst (HandsAs r.boxed.contents
          (shown o size.at_open r.kept_to r.filed r.dropped r.core) r.boxed.pending r.boxed.progress
          r.core.append size.seats
          m.0.part
          m.0.hands) mine (r.boxed.in_hands id m.0 there)

      still_held : (p : Seat) → IsTrue (is_some p.sync)
          → IsTrue (is_some (option_map (λ (t : SyncTurn). record t { issue = Rest }) p.sync))
      still_held p h = by p.sync h
        where
          by : (o : Option SyncTurn) → IsTrue (is_some o)
              → IsTrue (is_some (option_map (λ (t : SyncTurn). record t { issue = Rest }) o))
          by None h = h
          by (Some t) h = refl

  pub advances : (g d c : ℕ) (t : SyncTurn) → m.0.part.sync ≡ Some t → t.append.current ≡ Some c
      → t.append.oldest ≡ Some d → t.append.finished ≡ Some d → g ≡ suc d → g ≤ c
      → m.0.hands.box_taken ≡ None
      → Allows (Ruled shows o size) slots id m 24 (λ _. g)
      (λ _. AppendAdvanced (step slots 24 g 0 none) m g)
  advances g d c t sync saw old gone up le empty s r _ there _ = let x = r.core in
      let e = Advance w Append g in let v' = view_after m.0 e g in
      let law = core_lawful shows o size s r in let held = is_held m.0.part.sync t sync in
      let X = exact shows o size slots id m w mine s r there held t sync in
      let now = X.current c saw in
      let last = X.oldest d old in let more = current_is_made x law Append in
      let made : g < length x.append.tallies = omega arith in
      let may : IsStep x e = record {
        seat = within shows o size slots id m w mine s r there;
        is_there = made;
        row = (
          has shows o size slots id m w mine s r there held,
          up
              ∙ ap suc last,
          (omega arith),
          ap (tally_of x Append) (sym last) ∙ X.finished d gone,
        );
      } in
      let out = outside shows o size slots id m w mine s r there held in
      let H = hands_now shows o size slots id m w mine s r there in (
        v',
        keeps,
        tt,
        plays shows o size s r id w m.0 there mine e refl may tt tt tt
            tt (rows_stay x e may (λ q. q) r.rows) g g None m.0.hands refl refl tt m.1 keeps
            (boxed_goes shows size.seats x.notes (shown o size.at_open r.kept_to r.filed r.dropped
            x) x.claims x.claims
            x.append
            (next_of x e).append s.homes s.views r.boxed id w m.0 v' there mine refl out out
            held (still _ m.0.part.sync held)
            (others_free shows o size slots id m w mine s r there held)
            (others_near shows o size slots id m w mine s r there held)
            r.boxed.progress empty empty (H.desk held) (let b = r.boxed.near in omega arith)
            (λ all. absurd (let p = r.boxed.all all in omega arith)) r.boxed.marked
            r.boxed.stamped (λ l. absurd (let p = (H.swept l).passed in omega arith)))
            tt (refl, refl, refl, refl) tt tt,
        each_seat_name shows o size slots id m w mine (λ z. Made z (Advance z Append g) g m
            (v', m.1))
            ((refl, was shows o size s r id w m.0 there mine e may tt), refl),
      )

  -- the same, told by what was found
  pub advances_at : (g d c : ℕ) → TurnSaw Append m.0.part c → TurnOld Append m.0.part d
      → TurnGone Append m.0.part d → g ≡ suc d → g ≤ c → m.0.hands.box_taken ≡ None
      → Allows (Ruled shows o size) slots id m 24 (λ _. g)
      (λ _. AppendAdvanced (step slots 24 g 0 none) m g)
  advances_at g d c saw old gone = advances g d c saw.0 saw.1 saw.2
      (ap (λ (t : SyncTurn). t.append.oldest) (same (sym saw.1 ∙ old.1)) ∙ old.2)
      (ap (λ (t : SyncTurn). t.append.finished) (same (sym saw.1 ∙ gone.1)) ∙ gone.2)
    where
      same : {a b : SyncTurn} → Some a ≡ Some b → a ≡ b
      same e = cc
