-- The Sync turn is taken and given back, with the desk.
use Rattle.std.proofs.Common.{◌≡◌, ◌≢◌, ℕ, eqb, Bool, false, true, List, ◌∷◌, cond, set, None}
use Rattle.std.proofs.Common.{is_some, IsTrue, refl, sym, ap, ◌∙◌, subst, arith}
use Rattle.std.specs.Prelude.{slice_index}
use Rattle.std.specs.List.{list_any}
use mathlib.Core.Option.{none}
use prog.Atomic.{either}
use Rattle.atomic_table.proofs.Lists.{exchanged}
use Rattle.atomic_table.specs.Table.{Me, step, takes, gives, put_back, rest, Allows}
use Rattle.path_core.specs.declared.event.Event.TheVariants.{Look, TakeTurn, GiveTurn}
use Rattle.path_core.specs.declared.event.Place.TheVariants.{TurnWord}
use Rattle.path_core.specs.declared.event.Reading.TheVariants.{Number}
use Rattle.path_core.specs.declared.event.Turn.TheVariants.{Sync}
use Rattle.path_core.specs.declared.note.EntryNote.{EntryNote}
use Rattle.path_core.specs.declared.seat.Issue.TheVariants.{Rest}
use Rattle.path_core.specs.declared.seat.Seat.{Seat}
use Rattle.path_core.specs.Allowed.{IsStep}
use Rattle.path_core.specs.Parts.{issue_of, holds_turn, IsIdle}
use Rattle.path_core.specs.SeatAfter.{seat_after}
use Rattle.path_core.proofs.frame.Turns.{unheld}
use Rattle.path_rule.specs.declared.lasting.Beside.{Beside}
use Rattle.path_rule.specs.declared.lasting.Lasting.{Lasting}
use Rattle.path_rule.specs.declared.slot.Slot.{Slot}
use Rattle.path_rule.specs.declared.view.PathSize.{PathSize}
use Rattle.path_rule.specs.declared.view.Progress.{Progress}
use Rattle.path_rule.specs.declared.view.Role.TheVariants.{Steps}
use Rattle.path_rule.specs.declared.view.View.{View}
use Rattle.path_rule.specs.Boxed.{Boxed}
use Rattle.path_rule.specs.Boxes.{boxes, desk_box, DeskIs}
use Rattle.path_rule.specs.HandsAfter.{with_desk, unswept_hands}
use Rattle.path_rule.specs.Lasts.{shown}
use Rattle.path_rule.specs.Rule.{Ruled, view_after, with_hands}
use Rattle.path_rule.specs.Told.{MadeAs, Made}
use Rattle.path_rule.specs.TurnTold.{TookDesk, SyncTaken, SyncGiven}
use Rattle.path_rule.proofs.boxes.DeskMoved.{boxed_desk_take, boxed_desk_give}
use Rattle.path_rule.proofs.boxes.OneHolder.{desk_free}
use Rattle.path_rule.proofs.moves.LeavesWrites.{FirstBelow}
use Rattle.path_rule.proofs.moves.Looks.{Owes, as_part, within, own_part, look_owes, each_seat_name}
use Rattle.path_rule.proofs.moves.Moving.{core_lawful, enough_boxes, known, was, plays}
use Rattle.path_rule.proofs.places.ReadBack.{rows_stay}
use Rattle.path_rule.proofs.seats.Untaken.{untaken}

-- the word of a turn is 0 or 1
one_held : (n : ℕ) (b : Bool) → n ≡ cond b 1 0 → n ≢ 0 → n ≡ 1
one_held n true is miss = is
one_held n false is miss = absurd (miss is)

module _ {K : Type 0} (shows : K → Lasting) (o : Beside) (size : PathSize) (slots id : ℕ) (m : Me
    (Slot K) View)
    (w : ℕ) (mine : m.0.role ≡ Steps w) where
  pub takes_sync : IsIdle m.0.part → m.0.part.sync ≡ None
      → Allows (Ruled shows o size) slots id m 56 (λ n. either (eqb n 0) 1 n)
      (SyncTaken shows (step slots 56 0 1 none) m)
  takes_sync idle bare s r _ there _ = let n = slice_index s.words 56 in let x = r.core in
      let empty = untaken shows o size s r id w m.0 there mine bare in
      let then = SyncTaken shows (step slots 56 0 1 none) m n in
      exchanged n 0 1 (λ z. Owes shows o size slots id m w mine s 56 z then)
      (λ hit. let e = TakeTurn w Sync in let is = as_part shows o size slots id m w mine s r there
      in
      let h = with_desk (shown o size.at_open r.kept_to r.filed r.dropped x) r.boxed.pending
      r.boxed.progress m.0.hands
      in
      let v' = view_after (with_hands h m.0) e 1 in
      let free = unheld x Sync (ap Number (sym (r.words (TurnWord Sync) tt) ∙ hit)) in
      let in_it = within shows o size slots id m w mine s r there in
      let may : IsStep x e = record {
        seat = in_it;
        is_there = tt;
        row =
            (subst IsIdle is idle, free);
      } in
      let home = r.boxed.at_home desk_box (omega arith) (desk_free shows o size s r free) in (
        v',
        takes desk_box home.0,
        home.1,
        plays shows o size s r id w m.0 there mine e refl may tt tt tt
            tt (rows_stay x e may (λ q. q) r.rows) 1 1 None h refl
            (ap (λ k. seat_after m.0.part e (Number 1) (record { files = false; marker = k }))
            (sym r.boxed.marked)) tt m.1 (takes desk_box home.0)
            (boxed_desk_take shows size.seats x.notes
            (shown o size.at_open r.kept_to r.filed r.dropped x) x.claims x.append s.homes s.views
            r.boxed id w m.0 v' there mine
            refl
            idle.append idle.append empty empty refl refl (refl, refl, refl)) tt
            (refl, refl, refl, refl) (omega arith) tt,
        each_seat_name shows o size slots id m w mine
            (λ z. (m.0.hands.box_taken ≡ None)
            × (n ≡ 0 → ((lasting : Lasting) × (pending : List EntryNote) × (marks : Progress)
            × MadeAs z (TakeTurn z Sync) 1 (with_desk lasting pending marks m.0.hands) m.0 v'
            × (lasting.at_open ≡ m.0.size.at_open))
            × TookDesk shows m (v', (desk_box, home.0) ∷ m.1))
            × (n ≢ 0 → Made z (Look z (TurnWord Sync)) n m (v', (desk_box, home.0) ∷ m.1)
            × (n ≡ 1))) (
              empty,
              (λ _. (
                (
                  shown o size.at_open r.kept_to r.filed r.dropped x,
                  r.boxed.pending,
                  r.boxed.progress,
                  (refl, was shows o size s r id w m.0 there mine e may tt),
                  ap (λ (z : PathSize). z.at_open)
                      (sym (known shows o size s r id w m.0 there mine).0),
                ),
                (home.0, refl, home.2.desk refl),
              )),
              (λ miss. absurd (miss hit)),
            ),
      ))
      (λ miss. let v' = view_after m.0 (Look w (TurnWord Sync)) n in
      look_owes shows o size slots id m w mine s r there (TurnWord Sync) tt tt then (λ made _.
      each_seat_name shows o size slots id m w mine
      (λ z. (m.0.hands.box_taken ≡ None)
      × (n ≡ 0 → ((lasting : Lasting) × (pending : List EntryNote) × (marks : Progress)
      × MadeAs z (TakeTurn z Sync) 1 (with_desk lasting pending marks m.0.hands) m.0 v'
      × (lasting.at_open ≡ m.0.size.at_open)) × TookDesk shows m (v', m.1))
      × (n ≢ 0 → Made z (Look z (TurnWord Sync)) n m (v', m.1) × (n ≡ 1))) (
        empty,
        (λ hit. absurd (miss hit)),
        (λ _. (
          made,
          one_held n
              (list_any (λ (p : Seat). holds_turn p Sync) x.seats)
              (r.words (TurnWord Sync) tt) miss,
        )),
      )))

  pub gives_sync : (y : Slot K) (cs : List (ℕ × Slot K)) → IsTrue (is_some m.0.part.sync)
      → issue_of m.0.part ≡ Rest → m.0.hands.box_taken ≡ None
      → m.1 ≡ (desk_box, y) ∷ cs → DeskIs shows y m.0.hands.lasting m.0.hands.pending
      m.0.hands.progress
      → Allows (Ruled shows o size) slots id m 56 (λ _. 0) (λ _. SyncGiven
      (step slots 56 0 0 none) m 0)
  gives_sync y cs held rest_now empty holds fits s r _ there _ = let x = r.core in
      let law = core_lawful shows o size s r in let e = GiveTurn w Sync in
      let h = unswept_hands m.0.hands in let v' = view_after (with_hands h m.0) e 0 in
      let in_it = within shows o size slots id m w mine s r there in
      let has = own_part shows o size slots id m w mine s r there
      (λ (p : Seat). is_some p.sync) true held in
      let may : IsStep x e = record {
        seat = in_it;
        is_there = tt;
        row =
            (has, own_part shows o size slots id m w mine s r there issue_of Rest rest_now);
      } in
      let out = ap (λ (p : Seat). p.append) (as_part shows o size slots id m w mine s r there)
      ∙ (law.orders.one_holder_a_turn.holder_is_idle Sync w has).1 in (
        v',
        gives,
        tt,
        plays shows o size s r id w m.0 there mine e refl may tt tt tt
            tt (rows_stay x e may (λ q. q) r.rows) 0 0 None h refl refl tt m.1 gives
            (subst
            (λ l. Boxed shows size.seats x.notes (shown o size.at_open r.kept_to r.filed r.dropped
            x) x.claims x.append
            (put_back s.homes l) (set s.views id v')) (sym holds)
            (boxed_desk_give shows size.seats x.notes
            (shown o size.at_open r.kept_to r.filed r.dropped x) x.claims x.append s.homes s.views
            r.boxed id w m.0 v' there mine
            refl out
            out empty empty refl y refl held fits (enough_boxes shows o size s r))) tt
            (refl, refl, refl, refl)
            (subst (λ l. FirstBelow (boxes size.seats) l) (sym holds) (omega arith)) tt,
        each_seat_name shows o size slots id m w mine
            (λ z. MadeAs z (GiveTurn z Sync) 0 h m.0 v' × (rest m.1 ≡ rest m.1))
            ((refl, was shows o size s r id w m.0 there mine e may tt), refl),
      )
