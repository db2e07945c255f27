-- What is written is a table file.
use Rattle.std.proofs.Common.{◌≡◌, List, ℕ, refl}
use Rattle.std.specs.List.{AllByRecursion}
use Rattle.clog_cells.specs.Merge.{IsCellMap}
use Rattle.clog_table.specs.declared.table_file.TableFile.{TableFile}
use Rattle.clog_table.specs.Format.{head_of, table_file_bytes}
use Rattle.clog_table.specs.Limits.{IsWritable, IsStoredCell}
use Rattle.clog_table.specs.Heads.{IsStoredHead}
use Rattle.clog_table.specs.Refusals.{IsFileOf}

pub written : (file : TableFile) (bytes : List ℕ) → IsWritable file → IsStoredHead (head_of file)
    → AllByRecursion (IsStoredCell file.table) file.cells → IsCellMap file.cells
    → bytes ≡ table_file_bytes file → IsFileOf file.table bytes file
written file bytes writable head stored map spelled = record {
  is_file = record {
    table = writable.table;
    lower = head.lower;
    upper = head.upper;
    interval = writable.interval;
    stored = stored;
    map = map;
  };
  same_table = refl;
  spelled = spelled;
}
