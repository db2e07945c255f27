-- Worked rows of damage. A segment whose marker's check is wrong, alone and with an empty segment
-- behind it. And a segment of two entries, the first of which has a payload with a wrong tag.
use Rattle.std.specs.Prelude.{ℕ, List, [], ◌∷◌, ◌++◌}
use Rattle.std.specs.FinMap as finmap
use Rattle.clog_spec.specs.Names.{segment_name_of}
use Rattle.clog_spec.specs.Segment.{header_bytes, marker_bytes, entry_bytes}
use Rattle.clog_disk.specs.Files.{Files, no_files}
use Rattle.clog_mutation.specs.Payload.{payload_of}
use Rattle.clog_crash.specs.Worked.{the_mutation}

-- the marker of segment 1000 at 20, to 60: its check is 0x0bd68ae2, and here begins with 0x0c
abbrev pub the_wrong_marker : List ℕ
the_wrong_marker = 0 ∷ 0 ∷ 0 ∷ 60 ∷ 0x0c ∷ 0xd6 ∷ 0x8a ∷ 0xe2 ∷ []

abbrev pub the_torn_segment : List ℕ
the_torn_segment =
    header_bytes 1000 ++ (the_wrong_marker ++ entry_bytes (payload_of the_mutation))

abbrev pub torn_alone : Files
torn_alone = finmap.insert no_files (segment_name_of 6 1000) the_torn_segment

abbrev pub torn_and_next : Files
torn_and_next = finmap.insert torn_alone (segment_name_of 6 1001) []

-- the payload of the mutation with its tag, at 19, changed to 2
abbrev pub the_bad_payload : List ℕ
the_bad_payload =
    0 ∷ 2 ∷ 97 ∷ 98 ∷ 0 ∷ 1 ∷ 0 ∷ 0 ∷ 2 ∷ 99 ∷ 100 ∷ 0 ∷ 0 ∷ 0 ∷ 0 ∷ 0 ∷ 0 ∷ 0 ∷ 5 ∷ 2 ∷ []

-- both entries stand in one section, from 28 to 60 and from 60 to 92
abbrev pub the_bad_segment : List ℕ
the_bad_segment =
    header_bytes 1000 ++ marker_bytes 1000 20 92
    ++ (entry_bytes the_bad_payload ++ entry_bytes (payload_of the_mutation))

abbrev pub bad_alone : Files
bad_alone = finmap.insert no_files (segment_name_of 6 1000) the_bad_segment
