-- The holder of the Sync turn makes the next group of the append order, for its own marker.
use Rattle.std.proofs.Common.{◌^◌, ◌≡◌, ℕ, suc, ◌+◌, ◌*◌, ◌%◌, ◌<◌, ◌≤◌, [], ◌∷◌, length, Some}
use Rattle.std.proofs.Common.{None, is_some, IsTrue, refl, sym, ap, ◌∙◌, arith}
use Rattle.std.proofs.lemmas.List.{length-append}
use mathlib.Core.Option.{none}
use Rattle.atomic_table.specs.Table.{State, Me, step, keeps, Allows}
use Rattle.op_core.specs.declared.count.Order.{Order}
use Rattle.op_core.specs.declared.count.Order.TheVariants.{Write, Append}
use Rattle.op_core.specs.declared.count.Tally.TheVariants.{Open}
use Rattle.path_core.specs.declared.event.Event.TheVariants.{OpenGroup}
use Rattle.path_core.specs.declared.seat.Issue.TheVariants.{Rest}
use Rattle.path_core.specs.Allowed.{IsStep, IsAllowed}
use Rattle.path_core.specs.LawfulOrders.{made_at}
use Rattle.path_core.specs.Next.{next_of}
use Rattle.path_core.specs.Parts.{groups_of, issue_of, marker_of}
use Rattle.path_core.proofs.frame.Seats.{at_rest}
use Rattle.path_core.proofs.log.MarkerTells.{own_wants}
use Rattle.path_rule.specs.declared.lasting.Beside.{Beside}
use Rattle.path_rule.specs.declared.lasting.Lasting.{Lasting}
use Rattle.path_rule.specs.declared.slot.Slot.{Slot}
use Rattle.path_rule.specs.declared.view.PathSize.{PathSize}
use Rattle.path_rule.specs.declared.view.Role.TheVariants.{Steps}
use Rattle.path_rule.specs.declared.view.View.{View}
use Rattle.path_rule.specs.Rule.{Ruled, view_after, Was, HasRows}
use Rattle.path_rule.specs.Issued.{issued_in, most_issued}
use Rattle.path_rule.specs.Told.{Made}
use Rattle.path_rule.specs.TurnTold.{AppendOpened}
use Rattle.path_rule.specs.Turns.{FoundRunning, MarkerWaits, TurnOld, TurnSaw}
use Rattle.path_rule.proofs.log.Issues.{few_made}
use Rattle.path_rule.proofs.moves.HolderFacts.{outside, has, issue_at}
use Rattle.path_rule.proofs.moves.Looks.{within, own_part, each_name}
use Rattle.path_rule.proofs.moves.Moving.{core_lawful, was, plays}
use Rattle.path_rule.proofs.moves.SyncFacts.{turn_exact}
use Rattle.path_rule.proofs.moves.TurnFacts.{exact_of, now_is, unseen}
use Rattle.path_rule.proofs.places.ReadBack.{kept_below}
use Rattle.path_rule.proofs.seats.HolderKnows.{still}

module _ {K : Type 0} (shows : K → Lasting) (o : Beside) (size : PathSize) (slots id : ℕ)
    (m : Me (Slot K) View) (w : ℕ) (mine : m.0.role ≡ Steps w) where
  pub opens_append : (g c d start : ℕ) → MarkerWaits w m.0.part start
      → IsTrue (is_some m.0.part.sync)
      → issue_of m.0.part ≡ Rest → TurnSaw Append m.0.part c → g ≡ suc c
      → TurnOld Append m.0.part d → g ≤ d + 31
      → m.0.hands.box_taken ≡ None → FoundRunning m.0.part → issued_in m.0.trail < most_issued
      → Allows (Ruled shows o size) slots id m (136 + 16 * (g % 32)) (λ _. 65536 * g)
      (λ _. AppendOpened (step slots (136 + 16 * (g % 32)) (65536 * g) 0 none) m (65536 * g))
  opens_append g c d start waits held calm saw up old near empty runs fits s r _ there _ =
      let x = r.core in
      let e = OpenGroup w Append g in let n : ℕ = 65536 * g in let v' = view_after m.0 e n in
      let law = core_lawful shows o size s r in
      let now = now_is shows o size slots id m w mine s r there held Append c saw in
      let t = at_rest m.0.part held calm in
      let is = issue_at shows o size slots id m w mine s r there held Rest t.0 t.1 t.2 in
      let long : length x.append.tallies ≡ suc x.append.current =
      (law.orders.made_groups Append).made ∙ ap (λ i. made_at i Append x.append.current) is in
      let may : IsStep x e = record {
        seat = within shows o size slots id m w mine s r there;
        is_there = tt;
        row = (
          has shows o size slots id m w mine s r there held,
          own_part shows o size
              slots id m w mine s r there issue_of Rest calm,
          up ∙ ap suc now,
          let least = (exact_of shows o size slots id m w mine s r there held Append old.0
              old.1).oldest d old.2 in omega arith,
        );
      } in
      let told : n ≡ 0 + 65536 * g = omega arith in
      let wants = own_wants x law w (record { by = w; start = start; barrier = None })
      (own_part shows o size slots id m w mine s r there marker_of
      (Some (record { by = w; start = start; barrier = None })) waits) refl refl in
      let running : x.stopped ≡ 0 = sym ((turn_exact shows o size slots id m w mine s r there runs.0
      runs.1).stopped 0 runs.2) in
      let out = outside shows o size slots id m w mine s r there held in (
        v',
        keeps,
        tt,
        plays shows o size s r id w m.0 there mine e refl may tt (wants, running)
            tt
            fits (rows s r g (let all = few_made size r.events x r.fit r.run r.few
            in omega (arith, all))) n n None m.0.hands told refl tt
            m.1 keeps
            (unseen shows o size slots id m w mine s r there held
            (next_of x e).append v' refl refl refl out
            (still _ m.0.part.sync held) refl empty) tt (refl, refl, refl, refl) tt tt,
        (λ z q c' role saw' up'. each_name shows o size slots id m w mine g
            (λ z q. Made z (OpenGroup z Append q) n m (v', m.1)
            × ((was : Was m.0 z (OpenGroup z Append q))
            × IsAllowed was.core (OpenGroup z Append q))) (
              ((refl, was shows o size s r id w m.0 there mine e may tt), refl),
              (
                was shows o size s r id w m.0 there mine e may tt,
                record {
                  seat = may.seat;
                  is_there = tt;
                  row = (may.row, wants);
                },
              ),
            ) z q role (up ∙ (ap suc (now
            ∙ sym (now_is shows o size slots id m w mine s r there held Append c' saw'))
            ∙ sym up'))),
      )
    where
      rows : (s : State (Slot K) View) (r : Ruled shows o size s) (g : ℕ)
          → length r.core.append.tallies < 2 ^ 47 → HasRows (next_of r.core (OpenGroup w Append g))
      rows s r g more = record {
        groups = λ o. by o;
        memtables = r.rows.memtables;
        all = (let same = kept_below r.core (next_of r.core (OpenGroup w Append g)) (λ u. refl) 16
            in
            let low = r.rows.all in omega (arith, same, low));
      }
        where
          by : (o : Order) → length (groups_of
              (next_of r.core (OpenGroup w Append g)) o).tallies ≤ 2 ^ 47
          by Append = let l = length-append r.core.append.tallies (Open 0 ∷ []) in omega arith
          by Write = r.rows.groups Write
