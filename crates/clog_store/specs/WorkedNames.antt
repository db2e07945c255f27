-- A worked row of names: a folder holds a file of table 0 with the sequence 7, and nothing else.
use Rattle.std.specs.Prelude.{ℕ, List, map}
use Rattle.std.specs.FinMap as finmap
use Rattle.clog_spec.specs.Names.{table_name_of}
use Rattle.clog_disk.specs.Files.{Files, no_files}
use Rattle.clog_segments.specs.StoreFolder.{PlacedFile}

abbrev pub with_seventh : List ℕ → Files
with_seventh bytes = finmap.insert no_files (table_name_of 0 7) bytes

abbrev pub sequences_of : List PlacedFile → List ℕ
sequences_of placed = map (λ (p : PlacedFile). p.sequence) placed
