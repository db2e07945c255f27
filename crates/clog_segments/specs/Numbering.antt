-- The greatest sequences of the tables' files in a folder, as a log keeps them.
use Rattle.std.specs.Prelude.{◌≡◌, ℕ, ◌+◌, List, get_or, length, Option, Some, None, IfSome, ⊤}
use Rattle.std.specs.FinMap as finmap
use Rattle.clog_spec.specs.Sizes.{most_tables}
use Rattle.clog_base.specs.declared.cell.Table.{Table}
use Rattle.clog_disk.specs.Files.{Files}
use Rattle.clog_crash.specs.Folder.{IsBase}
use Rattle.clog_segments.specs.Named.{HasSequence, OneHas}
use Rattle.clog_segments.specs.declared.sequences.Sequences.{Sequences}

-- One for each table: the greatest sequence that a name has, 0 where none has one. The next one is
-- one more.
pub record AreGreatest (names : List (List ℕ)) (greatest : List ℕ) : Type 0 where
  pub all : length greatest ≡ most_tables
  pub each : (table : Table)
      → IsBase (OneHas (HasSequence table) names) 1 (get_or greatest table.0 0 + 1)

-- where the disk tells its files, they are those of its names
abbrev pub AreOfNames : Option Files → Sequences → Type 0
AreOfNames told known = IfSome told (λ f. AreGreatest (finmap.keys f) known.greatest)

-- so it is with what is kept, where something is
abbrev pub KeepsSequences : Option Files → Option Sequences → Type 0
KeepsSequences told None = ⊤
KeepsSequences told (Some known) = AreOfNames told known
