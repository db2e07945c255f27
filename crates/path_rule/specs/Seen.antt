-- What a flush has seen of a memtable, once it has seen the boxes of all seats.
use Rattle.std.specs.Prelude.{ℕ, ◌↔◌}
use Rattle.std.specs.List.{Contains}
use Rattle.path_core.specs.declared.note.EntryNote.{EntryNote}
use Rattle.path_core.specs.declared.state.PathState.{PathState}
use Rattle.path_core.specs.History.{bound_before, final_bound}
use Rattle.path_core.specs.LawfulTables.{IsTouched}
use Rattle.path_rule.specs.declared.view.FlushRead.{FlushRead}
use Rattle.path_rule.specs.Memtables.{LiesAmong}

-- They are notes of the state, and end exactly where the entries do that touch the table in the
-- memtable's log interval.
pub record SeesItsInterval (x : PathState) (q : FlushRead) : Type 0 where
  pub among : (n : EntryNote) → Contains q.seen n → Contains x.notes n
  pub ends : (entry : ℕ) → LiesAmong q.seen entry
      ↔ IsTouched x q.table (bound_before x q.table q.memtable)
      (final_bound x q.table q.memtable) entry
