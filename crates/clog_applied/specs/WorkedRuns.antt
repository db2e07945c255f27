-- Further worked runs: one whose segment goes under its archive name, one with a number at which
-- the writer flushes, one over a folder that holds what a drained run left, and one over two
-- segments.
use Rattle.std.specs.Prelude.{◌+◌, ℕ, List, [], ◌∷◌, ◌++◌, Some, false}
use Rattle.std.specs.FinMap as finmap
use Rattle.sync_core.specs.declared.SyncCore.TheVariants.{Periodic}
use Rattle.clog_spec.specs.Names.{archive_name_of, segment_name_of}
use Rattle.clog_spec.specs.Segment.{header_bytes, section_bytes}
use Rattle.clog_disk.specs.declared.change.Change.{Change}
use Rattle.clog_disk.specs.declared.change.Change.TheVariants as change
use Rattle.clog_disk.specs.Files.{Files}
use Rattle.clog_mutation.specs.declared.mutation.Mutation.{Mutation}
use Rattle.clog_mutation.specs.Payload.{payload_of}
use Rattle.clog_scan.specs.Cut.{Section}
use Rattle.clog_words.specs.declared.request.ApplyOptions.{ApplyOptions}
use Rattle.clog_crash.specs.Sections.{segment_bytes}
use Rattle.clog_crash.specs.Worked.{the_mutation, the_segment}
use Rattle.clog_crash.specs.WorkedGrown.{one_entry}
use Rattle.clog_applied.specs.History.{LoggedLine}
use Rattle.clog_applied.specs.Printed.{applied_line, receipt_line}
use Rattle.clog_applied.specs.Worked.{asked, log_name, with_file, with_log}

-- ---- archived: the table file, and the segment under its archive name

abbrev pub with_archive : Files
with_archive = finmap.insert with_file (archive_name_of 1000) the_segment

-- ---- flushed at one update, and not drained

abbrev pub asked_to_flush : ApplyOptions
asked_to_flush = record (asked (Periodic 10000) false) { flush_at = Some 1 }

-- ---- over the folder that a drained run has left: the line goes into the next segment

abbrev pub next_name : List ℕ
next_name = segment_name_of 6 1001

abbrev pub next_segment : List ℕ
next_segment = header_bytes 1001 ++ section_bytes 1001 20 one_entry

abbrev pub next_changes : List Change
next_changes = change.Append next_name next_segment ∷ []

abbrev pub next_logged : List LoggedLine
next_logged =
    record {
      writer = 0;
      number = 1;
      id = 1001;
      start = 28;
      end = 60;
      mutation = the_mutation;
    }
    ∷ []

abbrev pub with_next : Files
with_next = finmap.insert with_file next_name next_segment

abbrev pub report_of_next : List ℕ
report_of_next = applied_line 1 ++ receipt_line 1 1001 60

-- ---- over two segments of 4096 bytes: each has a line whose payload has 2036 bytes, so that its
-- entry is as long as half a segment

abbrev pub asked_for_small : ApplyOptions
asked_for_small = record (asked (Periodic 10000) false) { segment_kib = 4 }

-- one section with one entry, which ends at 2076
abbrev pub large_section : Mutation → Section
large_section m = record { until = 2076; payloads = payload_of m ∷ [] }

abbrev pub large_segment : ℕ → Mutation → List ℕ
large_segment id m = segment_bytes id (large_section m ∷ [])

abbrev pub large_changes : Mutation → List Change
large_changes m =
    change.Append log_name (large_segment 1000 m)
    ∷ change.Append next_name (large_segment 1001 m) ∷ []

abbrev pub with_both : Mutation → Files
with_both m = finmap.insert (with_log (large_segment 1000 m)) next_name (large_segment 1001 m)

abbrev pub large_lines : Mutation → List Mutation
large_lines m = m ∷ m ∷ []

abbrev pub report_of_large : List ℕ
report_of_large = applied_line 2 ++ (receipt_line 1 1000 2076 ++ receipt_line 2 1001 2076)
