-- A worked row of the order: one entry is logged in segment 1000, a table file is put that holds
-- it, and the segment goes. Where the segment goes first, or the table file comes first, or the
-- archive name comes last, the changes are in no order.
use Rattle.std.specs.Prelude.{◌≡◌, Bool, if◌then◌else◌, List, [], ◌∷◌, ◌++◌}
use Rattle.clog_spec.specs.Names.{archive_name_of, segment_name_of}
use Rattle.clog_mutation.specs.Payload.{payload_of}
use Rattle.clog_disk.specs.declared.change.Change.{Change}
use Rattle.clog_disk.specs.declared.change.Change.TheVariants as change
use Rattle.clog_scan.specs.Cut.{Section}
use Rattle.clog_crash.specs.Log.{Write}
use Rattle.clog_crash.specs.Sections.{segment_bytes}
use Rattle.clog_table.specs.Format.{table_file_bytes}
use Rattle.clog_crash.specs.Worked.{logged, the_mutation}
use Rattle.path_core.specs.Keeper.{PutFile}
use Rattle.clog_segments.specs.Discards.{goes_by}
use Rattle.clog_segments.specs.Notes.{note_at}
use Rattle.clog_segments.specs.OnDisk.{file_on}
use Rattle.clog_segments.specs.StoreFolder.{Deeds, PlacedFile, StoreLog}
use Rattle.clog_segments.specs.StoreOrder.{IsSpelled, publish_of}

abbrev pub the_section : Section
the_section = record { until = 60; payloads = payload_of the_mutation ∷ [] }

abbrev pub the_segment : Write
the_segment = record { id = 1000; sections = the_section ∷ [] }

-- the log has gone on behind it
abbrev pub the_log : StoreLog
the_log = record {
  base = 1000;
  past = the_segment ∷ [];
  id = 1001;
  sections = [];
  logged = note_at 28 ∷ [];
}

-- A file of table 0 is put under some name, which holds the entry.
pub record IsFirstFile (p : PlacedFile) : Type 0 where
  pub spelled : IsSpelled 1000 p
  pub table_is : p.put.table ≡ 0
  pub lower_is : p.put.lower ≡ 0
  pub upper_is : p.put.upper ≡ 60

-- such a file, with the entry's cell
abbrev pub the_first_put : PutFile
the_first_put = record { table = 0; lower = 0; upper = 60; cells = logged ∷ [] }

abbrev pub the_first_file : PlacedFile
the_first_file = record {
  put = the_first_put;
  sequence = 1;
  bytes = table_file_bytes (file_on 1000 the_first_put);
}

-- and the segment is dropped
abbrev pub the_deeds : Bool → PutFile → Deeds
the_deeds archives put = record {
  archives = archives;
  files = put ∷ [];
  dropped = 0 ∷ [];
  archived = if archives then 0 ∷ [] else [];
}

abbrev pub the_append : Change
the_append = change.Append (segment_name_of 6 1000) (segment_bytes 1000 (the_section ∷ []))

-- a sync, the table file, and the segment with its archive name first or without one
abbrev pub the_changes : Bool → PlacedFile → List Change
the_changes archives p = the_append ∷ publish_of p ∷ goes_by archives 1000

-- the segment goes before the table file comes
abbrev pub the_wrong_changes : Bool → PlacedFile → List Change
the_wrong_changes archives p = the_append ∷ goes_by archives 1000 ++ publish_of p ∷ []

-- the table file comes before its entry was appended
abbrev pub the_early_file : Bool → PlacedFile → List Change
the_early_file archives p = publish_of p ∷ the_append ∷ goes_by archives 1000

-- the segment goes before it has its archive name
abbrev pub the_late_name : PlacedFile → List Change
the_late_name p =
    the_append ∷ publish_of p ∷ change.Remove (segment_name_of 6 1000)
    ∷ change.Link (segment_name_of 6 1000) (archive_name_of 1000) ∷ []
