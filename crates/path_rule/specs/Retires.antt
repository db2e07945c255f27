-- What is so of a state in which a memtable is retired. A seat is told of one that its steps fit
-- (`Was`), and not which one it stepped in.
use Rattle.std.specs.Prelude.{◌≡◌, ℕ, true, false, [], ◌∷◌, ◌++◌}
use Rattle.path_core.specs.declared.event.Event.{Event}
use Rattle.path_core.specs.declared.state.PathState.{PathState}
use Rattle.path_core.specs.declared.state.WrittenFile.{WrittenFile}
use Rattle.path_core.specs.Next.{files_after}
use Rattle.path_core.specs.Parts.{is_empty, table_of}
use Rattle.path_rule.specs.declared.lasting.PutTable.{PutTable}
use Rattle.path_rule.specs.Filing.{IsFileOf}

-- Memtable m is the least of table t that is not retired, and nothing is placed in it.
pub record RetiresEmptyIn (x : PathState) (t m : ℕ) : Type 0 where
  pub least : (table_of x t).oldest_live ≡ m
  pub empty : is_empty x t m ≡ true

-- the file of a memtable as the machine writes it, where a keeper has put f
abbrev pub written_as : ℕ → PutTable → WrittenFile
written_as m f = record { table = f.table; memtable = m; lower = f.lower; upper = f.upper }

-- Memtable m is the least of table t that is not retired, and something is placed in it. At the
-- step e the machine has file f behind its others, for the interval that f stands for, and f holds
-- what the notes have there.
pub record RetiresFiledIn (x : PathState) (e : Event) (t m : ℕ) (f : PutTable) : Type 0 where
  pub least : (table_of x t).oldest_live ≡ m
  pub filled : is_empty x t m ≡ false
  pub of_table : f.table ≡ t
  pub files : files_after x e ≡ x.files ++ written_as m f ∷ []
  pub exact : IsFileOf x.notes f
