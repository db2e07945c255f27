-- A table file that may come, and a segment that may go.
use Rattle.std.specs.Prelude.{◌≡◌, ℕ, ◌<◌, ◌^◌, List, Option, Contains, None}
use Rattle.std.specs.FinMap as finmap
use Rattle.clog_spec.specs.Names.{table_name_of, IsTableName}
use Rattle.clog_base.specs.declared.position.Position.{Position}
use Rattle.clog_disk.specs.Files.{Files, bytes_at}
use Rattle.clog_scan.specs.Cut.{Section}
use Rattle.clog_table.specs.declared.table_file.TableFile.{TableFile}
use Rattle.clog_table.specs.Refusals.{IsFileOf}
use Rattle.clog_crash.specs.Changes.{AreCovered, IsTrueOf}
use Rattle.clog_crash.specs.Covering.{SameMerge}
use Rattle.clog_crash.specs.Readings.{Reading, RestoresIn}
use Rattle.clog_crash.specs.Rest.{IsBeyond, settled}
use Rattle.clog_crash.specs.Restore.{IsInInterval, IsUndamaged}

-- The bytes are a table file that is not there yet, and that is true of a folder that reads as r.
pub record IsNewFile (files : Files) (r : Reading) (file : TableFile) (sequence : ℕ)
    (bytes : List ℕ) : Type 0 where
  pub named : IsTableName (table_name_of file.table.0 sequence) file.table.0 sequence
  pub spelled : IsFileOf file.table bytes file
  pub free : finmap.get files (table_name_of file.table.0 sequence) ≡ None
  pub is_true : IsTrueOf r file

-- ---- while a segment is written, the old sections of which last

-- A new table file that is true of what lasts. Its interval ends where the log lasts.
pub record IsTrueFile (files : Files) (id : ℕ) (old : List Section) (file : TableFile)
    (sequence : ℕ) (bytes : List ℕ) : Type 0 where
  pub new : IsNewFile files (settled files id old) file sequence bytes
  pub below : (at : Position) → IsInInterval file at → ¬ IsBeyond id old at

-- an older segment for all of whose cells table files stand
pub record IsCovered (files : Files) (id : ℕ) (old : List Section) (other : ℕ) : Type 0 where
  pub below : other < id
  pub covered : AreCovered (settled files id old) other

-- ---- where everything lasts

-- a crash leaves each name as it is, and nothing is damaged
pub record IsSettled (files : Files) (leaves : List ℕ → Option (List ℕ) → Type 0) : Type 0 where
  pub exact : (name : List ℕ) (left : Option (List ℕ)) → leaves name left
      → left ≡ finmap.get files name
  pub undamaged : IsUndamaged files

-- the image has the same newest cells, and no damage
pub record IsSameFolder (files image : Files) : Type 0 where
  pub same : SameMerge (RestoresIn (bytes_at image)) (RestoresIn (bytes_at files))
  pub undamaged : IsUndamaged image

-- a segment for all of whose cells table files stand
pub record IsCoveredHere (files : Files) (id : ℕ) : Type 0 where
  pub fits : id < 2 ^ 63
  pub covered : AreCovered (bytes_at files) id

-- each of these segments is such
abbrev pub AllCovered : Files → List ℕ → Type 0
AllCovered files segments = (id : ℕ) → Contains segments id → IsCoveredHere files id
