-- Which names a run's table files have, by the folder in front of them and behind them.
use Rattle.std.specs.Prelude.{◌⊎◌, ◌↔◌, ℕ, ◌+◌, ◌<◌, ◌≤◌, List, length}
use Rattle.clog_spec.specs.Names.{IsTableName}
use Rattle.clog_base.specs.declared.cell.Table.{Table}
use Rattle.clog_disk.specs.Files.{Files}
use Rattle.clog_table.specs.declared.table_file.TableFile.{TableFile}
use Rattle.clog_crash.specs.Folder.{HoldsName, IsBase}
use Rattle.clog_applied.specs.Filed.{files_of}

-- a file of the table has the sequence
abbrev pub HoldsSequence : Files → Table → ℕ → Type 0
HoldsSequence files table n = HoldsName files (λ (name : List ℕ). IsTableName name table.0 n)

-- Each table has the sequences that it had, and from its next one on as many more as files of it
-- are listed, one after another; and no other.
abbrev pub HaveNextNames : Files → Files → List TableFile → Type 0
HaveNextNames opened after files =
    (table : Table) (next n : ℕ) → IsBase (HoldsSequence opened table) 1 next
    → HoldsSequence after table n
    ↔ (HoldsSequence opened table n ⊎ ((next ≤ n) × (n < next + length (files_of table files))))
