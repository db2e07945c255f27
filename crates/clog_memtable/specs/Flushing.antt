-- Memtables that a keeper is to put table files for, and how far it came.
use Rattle.std.specs.Prelude.{◌≡◌, ◌+◌, ◌<◌, ◌≤◌, ◌^◌, List, ◌++◌, length, map, Contains}
use Rattle.std.specs.List.{AllPairs}
use Rattle.clog_cells.specs.Merge.{IsMergeOf}
use Rattle.path_core.specs.Keeper.{Holding, IsLoggedCell, PutFile, upper_from}
use Rattle.path_core.specs.Keys.{after}
use Rattle.clog_memtable.specs.declared.flushing.Memtable.{Memtable}

-- the table file of a memtable
abbrev pub file_of : Memtable → PutFile
file_of m = record {
  table = m.interval.table.0;
  lower = m.interval.lower.0;
  upper = m.interval.upper.0;
  cells = m.cells;
}

abbrev pub files_of : List Memtable → List PutFile
files_of memtables = map file_of memtables

-- What is asked of a memtable, where none of its table was put since: as a keeper asks of its file.
pub record MayFlushOne (h : Holding) (m : Memtable) : Type 0 where
  pub table_is : m.interval.table.0 < h.sizes.tables
  pub lasting : m.interval.upper.0 ≤ after h.sizes.capacity h.synced
  pub goes_on : m.interval.lower.0 ≡ upper_from m.interval.table.0 0 h.files
  pub forward : m.interval.lower.0 ≤ m.interval.upper.0
  pub merged : IsMergeOf (IsLoggedCell h (file_of m)) m.cells

-- The memtables may be flushed one after another: each may be, and each is of a table of its own.
pub record MayFlush (h : Holding) (memtables : List Memtable) : Type 0 where
  pub each : (m : Memtable) → Contains memtables m → MayFlushOne h m
  pub apart : AllPairs (λ (a b : Memtable). a.interval.table.0 ≡ b.interval.table.0 → ⊥) memtables
  pub few : length h.files + length memtables < 2 ^ 47

-- These files are put, behind those that there were; nothing else of what the keeper holds has
-- changed but its disk's count of faults, whether it has stopped, and which file was refused last.
abbrev pub HasPutFiles : Holding → Holding → List PutFile → Type 0
HasPutFiles before now files =
    now ≡ record before {
      faults = now.faults;
      stopped = now.stopped;
      files = before.files ++ files;
      refused = now.refused;
    }

-- All are flushed, and the keeper runs as before.
pub record FlushesAll (before now : Holding) (memtables : List Memtable) : Type 0 where
  pub runs : now.stopped ≡ before.stopped
  pub put : HasPutFiles before now (files_of memtables)
