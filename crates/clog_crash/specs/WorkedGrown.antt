-- A worked row: two sections of segment 1000 and one of segment 1001 are appended, each with one
-- entry of 32 bytes.
use Rattle.std.specs.Prelude.{ℕ, List, [], ◌∷◌, ◌++◌}
use Rattle.clog_spec.specs.Names.{segment_name_of}
use Rattle.clog_spec.specs.Segment.{header_bytes, section_bytes, entry_bytes}
use Rattle.clog_mutation.specs.Payload.{payload_of}
use Rattle.clog_scan.specs.Segment.{Entry, entry_from}
use Rattle.clog_crash.specs.Grown.{Append}
use Rattle.clog_crash.specs.Worked.{the_mutation}

abbrev pub one_entry : List ℕ
one_entry = entry_bytes (payload_of the_mutation)

abbrev pub the_appends : List Append
the_appends =
    (segment_name_of 6 1000, header_bytes 1000 ++ section_bytes 1000 20 one_entry)
    ∷ (segment_name_of 6 1000, section_bytes 1000 60 one_entry)
    ∷ (segment_name_of 6 1001, header_bytes 1001 ++ section_bytes 1001 20 one_entry)
    ∷ []

abbrev pub entry_at : ℕ → Entry
entry_at start = entry_from start (payload_of the_mutation)
