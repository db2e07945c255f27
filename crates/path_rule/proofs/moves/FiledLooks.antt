-- The holder of both turns looks at the synced key before it puts a table file.
use Rattle.std.proofs.Common.{◌≡◌, ◌≢◌, ℕ, ◌<◌, ◌≤◌, List, [], Some, sym, ap, ◌∙◌, subst, arith}
use Rattle.std.specs.Prelude.{◌^◌, slice_index}
use mathlib.Core.Option.{none}
use Rattle.atomic_table.specs.Table.{Me, step, Allows}
use Rattle.clog_base.specs.declared.cell.Cell.{Cell}
use Rattle.clog_base.specs.declared.cell.CellKey.{CellKey}
use Rattle.path_core.specs.declared.event.Cursor.TheVariants.{Synced}
use Rattle.path_core.specs.declared.event.Event.TheVariants.{Look}
use Rattle.path_core.specs.declared.event.Place.TheVariants.{CursorWord}
use Rattle.path_core.specs.declared.seat.SyncTurn.{SyncTurn}
use Rattle.path_core.specs.Keys.{after}
use Rattle.path_rule.specs.declared.lasting.Beside.{Beside}
use Rattle.path_rule.specs.declared.lasting.Lasting.{Lasting}
use Rattle.path_rule.specs.declared.slot.Slot.{Slot}
use Rattle.path_rule.specs.declared.view.FlushRead.{FlushRead}
use Rattle.path_rule.specs.declared.view.PathSize.{PathSize}
use Rattle.path_rule.specs.declared.view.Role.TheVariants.{Steps}
use Rattle.path_rule.specs.declared.view.View.{View}
use Rattle.path_rule.specs.Filing.{MayPut}
use Rattle.path_rule.specs.Finds.{Finds}
use Rattle.path_rule.specs.FilingTold.{AreSeen, FiledFound, FoundFinal, SeesAll, next_file}
use Rattle.path_rule.specs.Rule.{Ruled, view_after}
use Rattle.path_rule.specs.Told.{Made}
use Rattle.path_rule.proofs.log.Behind.{after_rises}
use Rattle.path_rule.proofs.moves.FilingFacts.{may_be_put}
use Rattle.path_rule.proofs.moves.Looks.{look_owes, each_seat_name}
use Rattle.path_rule.proofs.moves.Moving.{capacity_is, core_lawful, known}
use Rattle.path_rule.proofs.places.ReadBack.{log_small}

module _ {K : Type 0} (shows : K → Lasting) (o : Beside) (size : PathSize) (slots id : ℕ)
    (m : Me (Slot K) View) (w : ℕ) (mine : m.0.role ≡ Steps w) where
  pub looks_filed : (t : SyncTurn) → m.0.part.sync ≡ Some t → t.stopped ≡ Some 0
      → Allows (Ruled shows o size) slots id m 40 (λ n. n) (FiledFound (step slots 40 0 0 none) m)
  looks_filed turn sync runs s r _ there _ = let n = slice_index s.words 40 in let x = r.core in
      let e = Look w (CursorWord Synced) in let v' = view_after m.0 e n in
      let found : n ≡ x.synced = r.words (CursorWord Synced) tt in
      let L = core_lawful shows o size s r in
      let is = (known shows o size s r id w m.0 there mine).0 in
      let capacity : m.0.size.capacity ≡ x.capacity =
      ap (λ (z : PathSize). z.capacity) is ∙ sym (capacity_is shows o size s r) in
      let small = log_small x L in let below = L.synced_below_the_log.below_log in
      let P : Type 0 = (t k bound : ℕ) (q : FlushRead) (cells : List (CellKey × Cell))
      → t < m.0.size.tables → SeesAll m.0.size.seats m.0.hands t k q → q.seen ≢ []
      → FoundFinal t m.0.part k bound → bound ≤ after m.0.size.capacity n → AreSeen q t cells
      → MayPut m.0.hands.lasting (next_file m.0.hands.lasting t bound cells) in
      let Q : Type 0 = (key : ℕ) → Finds (CursorWord Synced) key m.0.trail
      → after m.0.size.capacity key ≤ after m.0.size.capacity n in
      look_owes shows o size slots id m w mine s r there (CursorWord Synced) tt tt
      (FiledFound (step slots 40 0 0 none) m n) (λ made seen.
      each_seat_name shows o size slots id m w mine
      (λ u. Made u (Look u (CursorWord Synced)) n m (v', m.1) × P × (n < 2 ^ 62) × Q) (
        made,
        (λ t k bound q cells inside sees some_seen final low seen.
            may_be_put shows o size slots id m w mine s r there (record { 0 = t }) k bound q inside
            (subst (λ (z : PathSize). SeesAll z.seats m.0.hands t k q) is sees) some_seen final turn
            sync runs (subst (λ (y : ℕ × ℕ). bound ≤ after y.0 y.1)
            (λ i. (capacity i, found i)) low) cells seen),
        omega arith,
        λ key F. let low = (seen.0.tells.synced key F).lasting in let at = seen.1 in
            subst (λ (y : ℕ × ℕ). after y.0 key ≤ after y.0 y.1)
            (λ i. (sym capacity i, sym found i))
            (after_rises x L key (omega (arith, low, at, found))),
      ))
