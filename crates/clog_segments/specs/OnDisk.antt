-- What a keeper keeps in mind, as a folder holds it: the entries of its segments, and its table
-- files. The segment of an ordinal has the id `base + ordinal`.
use Rattle.std.specs.Prelude.{◌≡◌, ◌⊎◌, ℕ, ◌+◌, ◌<◌, ◌≤◌, ◌++◌, Contains, IsTrue}
use Rattle.clog_base.specs.declared.cell.Table.{Table}
use Rattle.clog_base.specs.Positions.{ordinal_of, position_of}
use Rattle.clog_mutation.specs.Stored.{IsPayload}
use Rattle.clog_scan.specs.Segment.{Entry}
use Rattle.clog_table.specs.declared.table_file.TableFile.{TableFile}
use Rattle.clog_crash.specs.Readings.{IsLoggedIn, IsSkippedIn, IsTableIn, Reading}
use Rattle.clog_crash.specs.Restore.{end_position}
use Rattle.path_core.specs.declared.note.EntryNote.{EntryNote}
use Rattle.path_core.specs.Keeper.{Holding, IsFiledIn, PutFile, upper_from}
use Rattle.path_core.specs.Keys.{after}
use Rattle.path_core.specs.Parts.{touches}
use Rattle.path_core.specs.Whole.{IsWhole}

-- the entry of the segment of this id is the note's
pub record IsEntryOf (base id : ℕ) (entry : Entry) (n : EntryNote) : Type 0 where
  pub segment : id ≡ base + ordinal_of n.start.0
  pub place : position_of base n.end.0 ≡ end_position id entry
  pub whole : IsWhole n
  pub said : IsPayload entry.payload whole.mutation

-- the table file is the one that was put
pub record IsFileOn (base : ℕ) (put : PutFile) (file : TableFile) : Type 0 where
  pub table : file.table.0 ≡ put.table
  pub lower : file.lower ≡ position_of base put.lower
  pub upper : file.upper ≡ position_of base put.upper

-- What a folder logs that reads so the keeper has in its list, or a refused sync has kept it; and
-- the folder has the keeper's files.
pub record IsOnDisk (h : Holding) (r : Reading) : Type 0 where
  pub entries : (id : ℕ) (entry : Entry) → IsLoggedIn r id entry
      → (n : EntryNote) × Contains (h.logged ++ h.kept) n × IsEntryOf h.base id entry n
  pub files : (put : PutFile) → Contains h.files put
      → (file : TableFile) × IsTableIn r file × IsFileOn h.base put file

-- a note's entry is in the folder's log
abbrev pub IsOnIt : Holding → Reading → EntryNote → Type 0
IsOnIt h r n =
    (entry : Entry) × IsLoggedIn r (h.base + ordinal_of n.start.0) entry
    × IsEntryOf h.base (h.base + ordinal_of n.start.0) entry n

-- table files stand for a note in each of its tables
abbrev pub IsAllFiled : Holding → EntryNote → Type 0
IsAllFiled h n = (t : ℕ) → IsTrue (touches n.tables t) → IsFiledIn h.files t n.end.0

-- Besides, the folder logs what the keeper has in its list, but for what table files stand for; no
-- other table files stand for a place from the base on; none reaches above its table's last; and
-- what is kept ends behind the place where the log goes on.
pub record IsAllOnDisk (h : Holding) (r : Reading) : Type 0 where
  pub on_disk : IsOnDisk h r
  pub logged : (n : EntryNote) → Contains h.logged n → IsOnIt h r n ⊎ IsAllFiled h n
  pub skips : (table : Table) (key : ℕ) → IsSkippedIn r table (position_of h.base key)
      → IsFiledIn h.files table.0 key
  pub tiled : (put : PutFile) → Contains h.files put
      → put.upper ≤ upper_from put.table 0 h.files
  pub kept_beyond : (n : EntryNote) → Contains h.kept n
      → after h.sizes.capacity h.synced < n.end.0

-- a table file as a folder holds it
abbrev pub file_on : ℕ → PutFile → TableFile
file_on base put = record {
  table = record { 0 = put.table };
  lower = position_of base put.lower;
  upper = position_of base put.upper;
  cells = put.cells;
}
