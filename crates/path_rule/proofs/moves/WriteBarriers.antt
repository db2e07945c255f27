-- The holder of the Sync turn issues a barrier of the write order.
use Rattle.op_core.specs.CountWords.{count_word}
use Rattle.op_core.proofs.CountWords.{expired_word}
use Rattle.std.proofs.Common.{◌≡◌, ℕ, suc, ◌+◌, ◌*◌, ◌%◌, ◌^◌, ◌<◌, ◌≤◌, [], ◌∷◌, length, Some}
use Rattle.std.proofs.Common.{None, is_some, IsTrue, refl, sym, ap, ◌∙◌, subst, arith}
use Rattle.std.specs.Prelude.{slice_index}
use Rattle.std.proofs.lemmas.List.{length-append}
use mathlib.Core.Option.{none}
use Rattle.atomic_table.specs.Table.{State, Me, step, keeps, Allows}
use Rattle.op_core.specs.declared.count.Order.{Order}
use Rattle.op_core.specs.declared.count.Order.TheVariants.{Write, Append}
use Rattle.op_core.specs.declared.count.Tally.TheVariants.{Open}
use Rattle.path_core.specs.declared.event.Event.TheVariants.{OpenGroup, MoveCurrent, Expire}
use Rattle.path_core.specs.declared.event.Event.TheVariants.{Advance}
use Rattle.path_core.specs.declared.event.Place.TheVariants.{Count}
use Rattle.path_core.specs.declared.event.Reading.TheVariants.{Number}
use Rattle.path_core.specs.declared.seat.Issue.TheVariants.{Rest, Opened, Moved}
use Rattle.path_core.specs.declared.seat.SyncTurn.{SyncTurn}
use Rattle.path_core.specs.Allowed.{IsStep, IsAllowed, WantsBarrier}
use Rattle.path_core.specs.Holders.{HasWaiting}
use Rattle.path_core.specs.LawfulOrders.{made_at}
use Rattle.path_core.specs.Next.{next_of}
use Rattle.path_core.specs.Parts.{groups_of, tally_of, issue_of}
use Rattle.path_core.specs.SeatAfter.{seat_after}
use Rattle.path_core.proofs.frame.Seats.{current_is_made, at_rest}
use Rattle.path_core.proofs.tables.BarrierTells.{wanted_by_stage}
use Rattle.path_rule.specs.declared.lasting.Beside.{Beside}
use Rattle.path_rule.specs.declared.lasting.Lasting.{Lasting}
use Rattle.path_rule.specs.declared.slot.Slot.{Slot}
use Rattle.path_rule.specs.declared.view.PathSize.{PathSize}
use Rattle.path_rule.specs.declared.view.Role.TheVariants.{Steps}
use Rattle.path_rule.specs.declared.view.View.{View}
use Rattle.path_rule.specs.Rule.{Ruled, told_by, view_after, HasRows, Was}
use Rattle.path_rule.specs.Issued.{issued_in, most_issued}
use Rattle.path_rule.specs.Told.{Made}
use Rattle.path_rule.specs.TurnTold.{WriteOpened, WriteMoved, WriteExpired, WriteAdvanced}
use Rattle.path_rule.specs.Turns.{TurnSaw, TurnOld, TurnGone}
use Rattle.path_rule.proofs.log.Issues.{few_made}
use Rattle.path_rule.proofs.moves.HolderFacts.{at_issue, is_held, outside, has, issue_at}
use Rattle.path_rule.proofs.moves.Looks.{within, own_part, each_name, each_seat_name}
use Rattle.path_rule.proofs.moves.Moving.{core_lawful, was, plays}
use Rattle.path_rule.proofs.moves.TurnFacts.{exact_of, now_is, unseen}
use Rattle.path_rule.proofs.places.ReadBack.{kept_below, rows_stay, count_small}
use Rattle.path_rule.proofs.places.ShownSteps.{open_shown}
use Rattle.path_rule.proofs.seats.HolderKnows.{still}

module _ {K : Type 0} (shows : K → Lasting) (o : Beside) (size : PathSize) (slots id : ℕ)
    (m : Me (Slot K) View) (w : ℕ) (mine : m.0.role ≡ Steps w) where
  pub opens_write : (g c d : ℕ) → HasWaiting m.0.part → IsTrue (is_some m.0.part.sync)
      → issue_of m.0.part ≡ Rest → TurnSaw Write m.0.part c → g ≡ suc c
      → TurnOld Write m.0.part d → g ≤ d + 31 → m.0.hands.box_taken ≡ None
      → issued_in m.0.trail < most_issued
      → Allows (Ruled shows o size) slots id m (128 + 16 * (g % 32)) (λ _. 65536 * g)
      (λ _. WriteOpened (step slots (128 + 16 * (g % 32)) (65536 * g) 0 none) m (65536 * g))
  opens_write g c d waits held calm saw up old near empty fits s r _ there _ = let x = r.core in
      let e = OpenGroup w Write g in let n : ℕ = 65536 * g in let v' = view_after m.0 e n in
      let law = core_lawful shows o size s r in
      let now = now_is shows o size slots id m w mine s r there held Write c saw in
      let t = at_rest m.0.part held calm in
      let is = issue_at shows o size slots id m w mine s r there held Rest t.0 t.1 t.2 in
      let long : length x.write.tallies ≡ suc x.write.current =
      (law.orders.made_groups Write).made ∙ ap (λ i. made_at i Write x.write.current) is in
      let may : IsStep x e = record {
        seat = within shows o size slots id m w mine s r there;
        is_there = tt;
        row = (
          has shows o size slots id m w mine s r there held,
          own_part shows o size
              slots id m w mine s r there issue_of Rest calm,
          up ∙ ap suc now,
          let least = (exact_of shows o size slots id m w mine s r there held Write old.0
              old.1).oldest d old.2 in omega arith,
        );
      } in
      let told : n ≡ 0 + 65536 * g = omega arith in
      let wants : WantsBarrier Write x w = (wanted_by_stage x law w).1 (subst HasWaiting
      (sym (own_part shows o size slots id m w mine s r there (λ p. p) m.0.part refl)) waits) in
      let out = outside shows o size slots id m w mine s r there held in (
        v',
        keeps,
        tt,
        plays shows o size s r id w m.0 there mine e refl may tt wants tt
            fits (rows s r g (let all = few_made size r.events x r.fit r.run r.few
            in omega (arith, all))) n n None m.0.hands told refl tt
            m.1 keeps
            (unseen shows o size slots id m w mine s r there held
            (next_of x e).append v' refl refl refl out
            (still _ m.0.part.sync held) refl empty) tt (refl, refl, refl, refl) tt tt,
        (λ z q c' role saw' up'. each_name shows o size slots id m w mine g
            (λ z q. Made z (OpenGroup z Write q) n m (v', m.1)
            × ((was : Was m.0 z (OpenGroup z Write q))
            × IsAllowed was.core (OpenGroup z Write q))) (
              ((refl, was shows o size s r id w m.0 there mine e may tt), refl),
              (
                was shows o size s r id w m.0 there mine e may tt,
                record {
                  seat = may.seat;
                  is_there = tt;
                  row = (may.row, wants);
                },
              ),
            ) z q role (up ∙ (ap suc (now
            ∙ sym (now_is shows o size slots id m w mine s r there held Write c' saw'))
            ∙ sym up'))),
      )
    where
      rows : (s : State (Slot K) View) (r : Ruled shows o size s) (g : ℕ)
          → length r.core.write.tallies < 2 ^ 47 → HasRows (next_of r.core (OpenGroup w Write g))
      rows s r g more = record {
        groups = λ o. by o;
        memtables = r.rows.memtables;
        all = (let same = kept_below r.core (next_of r.core (OpenGroup w Write g)) (λ u. refl) 16 in
            let low = r.rows.all in omega (arith, same, low));
      }
        where
          by : (o : Order) → length (groups_of
              (next_of r.core (OpenGroup w Write g)) o).tallies ≤ 2 ^ 47
          by Write = let l = length-append r.core.write.tallies (Open 0 ∷ []) in omega arith
          by Append = r.rows.groups Append

  pub moves_write : (g c : ℕ) → issue_of m.0.part ≡ Opened Write → TurnSaw Write m.0.part c
      → g ≡ suc c → m.0.hands.box_taken ≡ None
      → Allows (Ruled shows o size) slots id m 0 (λ _. g)
      (λ _. WriteMoved (step slots 0 g 0 none) m g)
  moves_write g c doing saw up empty s r _ there _ = let x = r.core in
      let e = MoveCurrent w Write g in let v' = view_after m.0 e c in
      let law = core_lawful shows o size s r in
      let t = at_issue m.0.part (Opened Write) (λ q. cc) doing in
      let held = is_held m.0.part.sync t.0 t.1 in
      let now = now_is shows o size slots id m w mine s r there held Write c saw in
      let is = issue_at shows o size slots id m w mine s r there held (Opened Write) t.0 t.1 t.2 in
      let long : length x.write.tallies ≡ suc (suc x.write.current) =
      (law.orders.made_groups Write).made ∙ ap (λ i. made_at i Write x.write.current) is in
      let made : g < length x.write.tallies = omega arith in
      let may : IsStep x e = record {
        seat = within shows o size slots id m w mine s r there;
        is_there = made;
        row = (
          own_part shows o size slots id m w mine s r there issue_of
              (Opened Write) doing,
          up ∙ ap suc now,
        );
      } in
      let out = outside shows o size slots id m w mine s r there held in (
        v',
        keeps,
        tt,
        plays shows o size s r id w m.0 there mine e refl may tt tt tt
            tt (rows_stay x e may (λ q. q) r.rows) g c None m.0.hands refl
            (ap (λ k. seat_after m.0.part e (Number k) (told_by None m.0.hands)) now) tt m.1
            keeps
            (unseen shows o size slots id m w mine s r there held x.append v' refl refl refl out
            (still _ m.0.part.sync held) refl empty) tt (refl, refl, refl, refl) tt tt,
        (λ z c' role saw'. let same : c ≡ c' = now
            ∙ sym (now_is shows o size slots id m w mine s r there held Write c' saw') in
            each_seat_name shows o size slots id m w mine
            (λ z. Made z (MoveCurrent z Write g) c' m (v', m.1))
            (subst (λ k. Made w (MoveCurrent w Write g) k m (view_after m.0 e c, m.1)) same
            ((refl, was shows o size s r id w m.0 there mine e may tt), refl)) z role),
      )

  pub expires_write : (g c : ℕ) → issue_of m.0.part ≡ Moved Write → TurnSaw Write m.0.part c
      → suc g ≡ c → m.0.hands.box_taken ≡ None
      → Allows (Ruled shows o size) slots id m (128 + 16 * (g % 32)) (λ n. (n + 2 ^ 63) % 2 ^ 64)
      (WriteExpired (step slots (128 + 16 * (g % 32)) (2 ^ 63) 0 none) m)
  expires_write g c doing saw up empty s r _ there low = let n =
      slice_index s.words (128 + 16 * (g % 32)) in let x = r.core in let k = tally_of x Write g in
      let e = Expire w Write g in let v' = view_after m.0 e n in
      let law = core_lawful shows o size s r in
      let t = at_issue m.0.part (Moved Write) (λ q. cc) doing in
      let held = is_held m.0.part.sync t.0 t.1 in
      let now = now_is shows o size slots id m w mine s r there held Write c saw in
      let is = issue_at shows o size slots id m w mine s r there held (Moved Write) t.0 t.1 t.2 in
      let G = (law.orders.counts_stand_for_seats Write).each g in
      let unclosed = G.replaced is (up ∙ now) in let more = current_is_made x law Write in
      let made : g < length x.write.tallies = omega arith in
      let fits = open_shown x law Write g made unclosed in
      let found : n ≡ count_word g k = r.words (Count Write g) fits in
      let may : IsStep x e = record {
        seat = within shows o size slots id m w mine s r there;
        is_there = made;
        row = (
          own_part shows o size slots id m w mine s r there issue_of
              (Moved Write) doing,
          up ∙ now,
          unclosed,
        );
      } in
      let few = count_small x law Write g in let numbers = r.rows.groups Write in
      let told = ap (λ z. (z + 2 ^ 63) % 2 ^ 64) found
      ∙ expired_word g k unclosed (omega arith) (omega arith) in
      let out = outside shows o size slots id m w mine s r there held in (
        v',
        keeps,
        tt,
        plays shows o size s r id w m.0 there mine e refl may tt tt fits
            tt (rows_stay x e may (λ q. q) r.rows)
            ((n + 2 ^ 63) % 2 ^ 64) n None m.0.hands told refl tt m.1 keeps
            (unseen shows o size slots id m w mine s r there held x.append v' refl refl refl out
            (still _ m.0.part.sync held) refl empty) tt (refl, refl, refl, refl) tt tt,
        (λ z q c' role saw' up'. each_name shows o size slots id m w mine g
            (λ z q. Made z (Expire z Write q) n m (v', m.1))
            ((refl, was shows o size s r id w m.0 there mine e may tt), refl) z q role
            (let both = now ∙ sym (now_is shows o size slots id m w mine s r there held Write c'
            saw') in omega arith)),
      )

  pub advances_write : (g d c : ℕ) (t : SyncTurn) → m.0.part.sync ≡ Some t
      → t.write.current ≡ Some c → t.write.oldest ≡ Some d → t.write.finished ≡ Some d → g ≡ suc d
      → g ≤ c → m.0.hands.box_taken ≡ None
      → Allows (Ruled shows o size) slots id m 16 (λ _. g)
      (λ _. WriteAdvanced (step slots 16 g 0 none) m g)
  advances_write g d c t sync saw old gone up le empty s r _ there _ = let x = r.core in
      let e = Advance w Write g in let v' = view_after m.0 e g in
      let law = core_lawful shows o size s r in let held = is_held m.0.part.sync t sync in
      let X = exact_of shows o size slots id m w mine s r there held Write t sync in
      let now = X.current c saw in
      let last = X.oldest d old in let more = current_is_made x law Write in
      let made : g < length x.write.tallies = omega arith in
      let may : IsStep x e = record {
        seat = within shows o size slots id m w mine s r there;
        is_there = made;
        row = (
          has shows o size slots id m w mine s r there held,
          up
              ∙ ap suc last,
          (omega arith),
          ap (tally_of x Write) (sym last) ∙ X.finished d gone,
        );
      } in
      let out = outside shows o size slots id m w mine s r there held in (
        v',
        keeps,
        tt,
        plays shows o size s r id w m.0 there mine e refl may tt tt tt
            tt (rows_stay x e may (λ q. q) r.rows) g g None m.0.hands refl refl tt m.1 keeps
            (unseen shows o size slots id m w mine s r there held x.append v' refl refl refl out
            (still _ m.0.part.sync held) refl empty) tt (refl, refl, refl, refl) tt tt,
        each_seat_name shows o size slots id m w mine (λ z. Made z (Advance z Write g) g m
            (v', m.1))
            ((refl, was shows o size s r id w m.0 there mine e may tt), refl),
      )

  -- the same, told by what was found
  pub advances_at : (g d c : ℕ) → TurnSaw Write m.0.part c → TurnOld Write m.0.part d
      → TurnGone Write m.0.part d → g ≡ suc d → g ≤ c → m.0.hands.box_taken ≡ None
      → Allows (Ruled shows o size) slots id m 16 (λ _. g)
      (λ _. WriteAdvanced (step slots 16 g 0 none) m g)
  advances_at g d c saw old gone = advances_write g d c saw.0 saw.1 saw.2
      (ap (λ (t : SyncTurn). t.write.oldest) (same (sym saw.1 ∙ old.1)) ∙ old.2)
      (ap (λ (t : SyncTurn). t.write.finished) (same (sym saw.1 ∙ gone.1)) ∙ gone.2)
    where
      same : {a b : SyncTurn} → Some a ≡ Some b → a ≡ b
      same e = cc
