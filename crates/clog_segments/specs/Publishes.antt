-- A table file is put for an interval of the log, whose places are keys from a base on.
use Rattle.std.specs.Prelude.{
  ◌≡◌,
  ◌⊎◌,
  ℕ,
  ◌+◌,
  ◌<◌,
  ◌^◌,
  List,
  [],
  ◌∷◌,
  ◌++◌,
  IfSome,
  Option,
  Some,
  None,
  option_map,
}
use Rattle.std.specs.FinMap as finmap
use Rattle.clog_spec.specs.Names.{table_name_of}
use Rattle.clog_base.specs.declared.cell.Cell.{Cell}
use Rattle.clog_base.specs.declared.cell.CellKey.{CellKey}
use Rattle.clog_base.specs.declared.cell.Table.{Table}
use Rattle.clog_base.specs.declared.position.Position.{Position}
use Rattle.clog_base.specs.Positions.{ordinal_of, position_of}
use Rattle.clog_disk.specs.declared.change.Change.{Change}
use Rattle.clog_disk.specs.declared.change.Change.TheVariants as change
use Rattle.clog_disk.specs.Files.{Files, PutsAt, Told}
use Rattle.clog_scan.specs.Cut.{Section}
use Rattle.clog_table.specs.declared.table_file.TableFile.{TableFile}
use Rattle.clog_table.specs.Format.{file_of}
use Rattle.clog_table.specs.Limits.{IsWritable}
use Rattle.clog_table.specs.Refusals.{IsFileOf}
use Rattle.clog_crash.specs.Changes.{IsTrueOf}
use Rattle.clog_crash.specs.Folder.{IsBase}
use Rattle.clog_crash.specs.Log.{Write, IsResting}
use Rattle.clog_crash.specs.Readings.{Reading}
use Rattle.clog_crash.specs.Rest.{IsBeyond, settled}
use Rattle.clog_crash.specs.Restore.{IsInInterval}
use Rattle.clog_segments.specs.Named.{HasSequence, OneHas}
use Rattle.clog_segments.specs.declared.publishing.Published.{Published}

-- the file of an interval, where the segment of ordinal 0 has the id `base`
abbrev pub file_at : ℕ → Published → List (CellKey × Cell) → TableFile
file_at base p cells =
    file_of p.table (position_of base p.lower.0) (position_of base p.upper.0) cells

-- What is asked of the numbers: a sequence that a name can have, ids that fit, and a file that can
-- be written.
pub record IsNumbered (base sequence : ℕ) (p : Published) (cells : List (CellKey × Cell)) : Type 0
  where
    pub starts : 0 < sequence
    pub fits : sequence < 2 ^ 63
    pub lower_fits : base + ordinal_of p.lower.0 < 2 ^ 64
    pub upper_fits : base + ordinal_of p.upper.0 < 2 ^ 64
    pub writable : IsWritable (file_at base p cells)

-- A sequence that a name can have, and where the disk tells its files, the next one of the table.
pub record IsNextSequence (told : Option Files) (table : Table) (sequence : ℕ) : Type 0 where
  pub starts : 0 < sequence
  pub fits : sequence < 2 ^ 63
  pub next : IfSome told
      (λ f. IsBase (OneHas (HasSequence table) (finmap.keys f)) 1 sequence)

-- The file is true of what lasts, its interval ends where the log lasts, and its name is free.
pub record IsTrueHere (files : Files) (id : ℕ) (old : List Section) (file : TableFile)
    (sequence : ℕ) : Type 0 where
  pub free : finmap.get files (table_name_of file.table.0 sequence) ≡ None
  pub is_true : IsTrueOf (settled files id old) file
  pub below : (at : Position) → IsInInterval file at → ¬ IsBeyond id old at

-- The disk tells its files, which are at rest, and the file is true of what lasts.
abbrev pub MayPut : Option Files → (List ℕ → Option (List ℕ) → Type 0) → Reading → List Write → ℕ
    → List Section → List Section → TableFile → ℕ → Type 0
MayPut told leaves r past id old kept file sequence =
    Told told (λ f. IsResting f leaves r past id old kept × IsTrueHere f id old file sequence)

-- The file has come, as its one spelling, by one change.
pub record HasCome (told now : Option Files) (before after : Option (List Change))
    (file : TableFile) (sequence : ℕ) : Type 0 where
  pub bytes : List ℕ
  pub spelled : IsFileOf file.table bytes file
  pub put : PutsAt told now (table_name_of file.table.0 sequence) (Some bytes)
  pub adds : after
      ≡ option_map (λ changes.
      changes ++ change.Publish (table_name_of file.table.0 sequence) bytes ∷ []) before

-- Nothing has changed, or the file has come, as its one spelling.
abbrev pub MayHaveCome : Option Files → Option Files → TableFile → ℕ → Type 0
MayHaveCome told now file sequence =
    (now ≡ told)
    ⊎ ((bytes : List ℕ) × IsFileOf file.table bytes file
    × PutsAt told now (table_name_of file.table.0 sequence) (Some bytes))
