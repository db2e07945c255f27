-- Worked rows: a line or two, each of which says the worked mutation, whose entry has 32 bytes, are
-- applied to an empty folder by one writer, with receipts.
use Rattle.std.specs.Prelude.{ℕ, ◌+◌, Bool, false, true, None, List, [], ◌∷◌, ◌++◌}
use Rattle.std.specs.FinMap as finmap
use Rattle.sync_core.specs.declared.SyncCore.{SyncCore}
use Rattle.sync_core.specs.declared.SyncCore.TheVariants.{Periodic}
use Rattle.clog_spec.specs.Names.{archive_name_of, segment_name_of, table_name_of}
use Rattle.clog_spec.specs.Segment.{header_bytes, section_bytes}
use Rattle.clog_base.specs.declared.position.Position.{Position}
use Rattle.clog_disk.specs.declared.change.Change.{Change}
use Rattle.clog_disk.specs.declared.change.Change.TheVariants as change
use Rattle.clog_disk.specs.Files.{Files, no_files}
use Rattle.clog_mutation.specs.declared.mutation.Mutation.{Mutation}
use Rattle.clog_table.specs.declared.table_file.TableFile.{TableFile}
use Rattle.clog_table.specs.Format.{table_file_bytes}
use Rattle.clog_words.specs.declared.request.ApplyOptions.{ApplyOptions}
use Rattle.clog_crash.specs.Worked.{first_table, logged, the_mutation, the_segment}
use Rattle.clog_crash.specs.WorkedGrown.{one_entry}
use Rattle.clog_applied.specs.History.{LoggedLine}
use Rattle.clog_applied.specs.Printed.{applied_line, receipt_line}

-- what is asked for: how it is synced, and whether it is drained
abbrev pub asked : SyncCore → Bool → ApplyOptions
asked sync drain = record {
  writers = 1;
  sync = sync;
  segment_kib = 32768;
  flush_at = None;
  archive = false;
  receipts = true;
  drain = drain;
  dump = false;
}

abbrev pub log_name : List ℕ
log_name = segment_name_of 6 1000

abbrev pub one_line : List Mutation
one_line = the_mutation ∷ []

abbrev pub two_lines : List Mutation
two_lines = the_mutation ∷ the_mutation ∷ []

-- a line that is logged from an offset on
abbrev pub line_at : ℕ → ℕ → LoggedLine
line_at number start = record {
  writer = 0;
  number = number;
  id = 1000;
  start = start;
  end = start + 32;
  mutation = the_mutation;
}

-- the folder with a segment alone
abbrev pub with_log : List ℕ → Files
with_log bytes = finmap.insert no_files log_name bytes

-- ---- one sync: both entries are in one section

abbrev pub both_bytes : List ℕ
both_bytes = header_bytes 1000 ++ section_bytes 1000 20 (one_entry ++ one_entry)

abbrev pub both_changes : List Change
both_changes = change.Append log_name both_bytes ∷ []

abbrev pub both_logged : List LoggedLine
both_logged = line_at 1 28 ∷ line_at 2 60 ∷ []

-- ---- a sync of each: a marker stands between the entries

abbrev pub first_bytes : List ℕ
first_bytes = header_bytes 1000 ++ section_bytes 1000 20 one_entry

abbrev pub second_bytes : List ℕ
second_bytes = section_bytes 1000 60 one_entry

abbrev pub each_changes : List Change
each_changes = change.Append log_name first_bytes ∷ change.Append log_name second_bytes ∷ []

abbrev pub each_logged : List LoggedLine
each_logged = line_at 1 28 ∷ line_at 2 68 ∷ []

-- ---- a drain: a table file comes, and then the segment goes

-- the file of the one cell, up to an end
abbrev pub file_to : Position → TableFile
file_to upper = record {
  table = first_table;
  lower = record { id = 1000; offset = 0 };
  upper = upper;
  cells = logged ∷ [];
}

abbrev pub the_end : Position
the_end = record { id = 1000; offset = 60 }

abbrev pub file_name : List ℕ
file_name = table_name_of 0 1

abbrev pub with_file : Files
with_file = finmap.insert no_files file_name (table_file_bytes (file_to the_end))

abbrev pub goes_in : Change
goes_in = change.Append log_name the_segment

abbrev pub comes : TableFile → Change
comes file = change.Publish file_name (table_file_bytes file)

abbrev pub goes_out : Change
goes_out = change.Remove log_name

abbrev pub one_logged : List LoggedLine
one_logged = line_at 1 28 ∷ []

abbrev pub drained_changes : List Change
drained_changes = goes_in ∷ comes (file_to the_end) ∷ goes_out ∷ []

-- ---- the same where archives are kept: the segment gets its archive name before it goes

abbrev pub asked_to_archive : ApplyOptions
asked_to_archive = record (asked (Periodic 10000) true) { archive = true }

abbrev pub gets_archived : Change
gets_archived = change.Link log_name (archive_name_of 1000)

abbrev pub archived_changes : List Change
archived_changes =
    goes_in ∷ comes (file_to the_end) ∷ gets_archived ∷ goes_out ∷ []

-- ---- what is wrong

-- the segment goes before the table file comes
abbrev pub gone_early : List Change
gone_early = goes_in ∷ goes_out ∷ comes (file_to the_end) ∷ []

-- the table file comes before the log behind it; it ends in the next segment
abbrev pub far_end : Position
far_end = record { id = 1001; offset = 0 }

abbrev pub come_early : List Change
come_early = comes (file_to far_end) ∷ goes_in ∷ goes_out ∷ []

-- the archive name of a segment that the run does not have comes, and goes again
abbrev pub stray_name : List ℕ
stray_name = archive_name_of 2000

abbrev pub stray_comes : Change
stray_comes = change.Publish stray_name []

abbrev pub stray_goes : Change
stray_goes = change.Remove stray_name

abbrev pub strays : List Change
strays = goes_in ∷ stray_comes ∷ stray_goes ∷ []

abbrev pub twice_logged : List LoggedLine
twice_logged = line_at 1 28 ∷ line_at 1 60 ∷ []

-- the first file ends at 60 and the second begins at 68
abbrev pub with_gap : List TableFile
with_gap =
    file_to the_end
    ∷ record {
      table = first_table;
      lower = record { id = 1000; offset = 68 };
      upper = record { id = 1000; offset = 100 };
      cells = logged ∷ [];
    }
    ∷ []

-- ---- reports

abbrev pub report_of_one : List ℕ
report_of_one = applied_line 1 ++ receipt_line 1 1000 60

-- of two lines, the second of which ends at an offset
abbrev pub report_of_two : ℕ → List ℕ
report_of_two end = applied_line 2 ++ (receipt_line 1 1000 60 ++ receipt_line 2 1000 end)
