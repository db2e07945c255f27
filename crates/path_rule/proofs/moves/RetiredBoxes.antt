-- A memtable is retired once the boxes of the one below it were emptied: so what lies in a box was
-- placed in the last retired one of its table, or in one that is not retired.
use Rattle.std.proofs.Common.{◌≡◌, ℕ, suc, ◌<◌, false, List, Some, sym, ◌∙◌, subst, ⊎_elim, arith}
use Rattle.std.specs.List.{Contains}
use mathlib.Core.Logic.{dite, inr}
use mathlib.Core.Option.{some}
use native.Mathlib.Decide.{ℕ_discrete}
use lib.ListN.{get_elem?}
use Rattle.atomic_table.specs.Table.{State}
use Rattle.clog_base.specs.declared.cell.Table.{Table}
use Rattle.path_core.specs.declared.event.Cursor.TheVariants.{OldestLive}
use Rattle.path_core.specs.declared.event.Event.TheVariants.{Put}
use Rattle.path_core.specs.declared.note.EntryNote.{EntryNote}
use Rattle.path_core.specs.declared.state.TableState.{TableState}
use Rattle.path_core.specs.Allowed.{IsStep}
use Rattle.path_core.specs.Next.{next_of}
use Rattle.path_core.specs.Parts.{table_of}
use Rattle.path_rule.specs.declared.lasting.Beside.{Beside}
use Rattle.path_rule.specs.declared.lasting.Lasting.{Lasting}
use Rattle.path_rule.specs.declared.slot.Slot.{Slot}
use Rattle.path_rule.specs.declared.view.FlushRead.{FlushRead}
use Rattle.path_rule.specs.declared.view.PathSize.{PathSize}
use Rattle.path_rule.specs.declared.view.Role.TheVariants.{Steps}
use Rattle.path_rule.specs.declared.view.View.{View}
use Rattle.path_rule.specs.Boxes.{memtable_box}
use Rattle.path_rule.specs.Memtables.{IsPlacedIn}
use Rattle.path_rule.specs.Rule.{Ruled}
use Rattle.path_rule.proofs.boxes.ReadsStay.{read_live}
use Rattle.path_rule.proofs.moves.LeavesWrites.{live_moves, live_still}
use Rattle.path_rule.proofs.moves.Moving.{puts_now, reads_now}

module _ {K : Type 0} (shows : K → Lasting) (o : Beside) (size : PathSize) (s : State (Slot K) View)
    (r : Ruled shows o size s) (id w : ℕ) (v : View) (at : get_elem? s.views id ≡ some v)
    (mine : v.role ≡ Steps w) (q : FlushRead) (is : v.hands.reading ≡ Some q)
    (unretired : q.retired ≡ false) (t : Table) (table : q.table ≡ t.0) (f : ℕ)
    (may : IsStep r.core (Put w (OldestLive t) f)) where
  abbrev tables' : List TableState
  tables' = (next_of r.core (Put w (OldestLive t) f)).tables

  -- nothing of the memtable below the one that is read is left
  not_below : (z u j : ℕ) (n : EntryNote) → u < 16
      → Contains (r.memtables.contents (memtable_box size.seats z u j)) n
      → (p : IsPlacedIn r.core.placed r.core.tables u j n.end.0) → u ≡ q.table
      → q.memtable ≡ suc p.memtable → ⊥
  not_below z u j n few h p here below = let ring = p.ring in
      let inside = r.memtables.within (memtable_box size.seats z u j) n h in
      let same : memtable_box size.seats z u j ≡ memtable_box size.seats z q.table p.memtable =
      omega arith in
      let bare = (puts_now shows o size s r id w v at mine).emptied q z p.memtable is
      (inr (unretired, below, omega arith)) in
      absurd (let l = (subst (λ (l : List EntryNote). Contains l n) bare
      (subst (λ (b : ℕ). Contains (r.memtables.contents b) n) same h)).1 in omega arith)

  pub late_still : (z u j : ℕ) (n : EntryNote) → u < 16
      → Contains (r.memtables.contents (memtable_box size.seats z u j)) n
      → IsPlacedIn r.core.placed r.core.tables u j n.end.0
      → IsPlacedIn r.core.placed tables' u j n.end.0
  late_still z u j n few h p = record {
    memtable = p.memtable;
    ring = p.ring;
    among = p.among;
    late = dite (ℕ_discrete u t.0)
        (λ here. let live = read_live size.seats r.core v.part q
        (reads_now shows o size s r id w v at mine q is) unretired in
        let least : (table_of r.core u).oldest_live ≡ q.memtable =
        subst (λ (c : ℕ). (table_of r.core c).oldest_live ≡ q.memtable) (table ∙ sym here) live in
        let late = p.late in
        let apart = not_below z u j n few h p (here ∙ sym table) in
        ⊎_elim (λ same. omega arith) (λ up. dite (ℕ_discrete q.memtable (suc p.memtable))
        (λ below. absurd (apart below)) (λ above. omega arith))
        (live_moves r.core (Put w (OldestLive t) f) may u))
        (λ apart. let same = live_still r.core (Put w (OldestLive t) f) may u apart in
        let late = p.late in omega arith);
  }
