-- Worked rows: two segments of two sections each, and appends that bring them, or parts of them.
use Rattle.std.specs.Prelude.{ℕ, List, [], ◌∷◌}
use Rattle.clog_spec.specs.Names.{segment_name_of}
use Rattle.clog_scan.specs.Cut.{Section}
use Rattle.clog_crash.specs.Grown.{Append}
use Rattle.clog_crash.specs.Log.{Write}
use Rattle.clog_crash.specs.Sections.{segment_bytes}

abbrev pub two_segments : Section → Section → List Write
two_segments one two =
    record { id = 1000; sections = one ∷ two ∷ [] }
    ∷ record { id = 1001; sections = one ∷ two ∷ [] }
    ∷ []

-- a segment's bytes with these sections, by one append
abbrev pub brings : ℕ → List Section → Append
brings id sections = (segment_name_of 6 id, segment_bytes id sections)

abbrev pub both_whole : Section → Section → List Append
both_whole one two = brings 1000 (one ∷ two ∷ []) ∷ brings 1001 (one ∷ two ∷ []) ∷ []

abbrev pub second_torn : Section → Section → List Append
second_torn one two = brings 1000 (one ∷ two ∷ []) ∷ brings 1001 (one ∷ []) ∷ []

abbrev pub first_torn : Section → Section → List Append
first_torn one two = brings 1000 (one ∷ []) ∷ brings 1001 (one ∷ two ∷ []) ∷ []
