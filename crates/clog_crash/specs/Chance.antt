-- What no crash brings about by chance: a header, a marker or an entry that passes its checks where
-- no such one was written.
use Rattle.std.specs.Prelude.{ℕ, ◌<◌, List, [], ◌∷◌, Contains}
use Rattle.clog_spec.specs.Crc.{IsBytes}
use Rattle.clog_spec.specs.Sizes.{header_size}
use Rattle.clog_entry.specs.Soft.{PassesAsHeader}
use Rattle.clog_entry.specs.Spelled.{IsHeaderAt, IsMarkerAt, IsEntryAt}
use Rattle.clog_scan.specs.Cut.{Section}
use Rattle.clog_scan.specs.Laws.{Reaches}
use Rattle.clog_scan.specs.Segment.{entry_from, entries_of}

-- where the markers of these sections stand, the first of which begins at an offset
abbrev pub marks_of : ℕ → List Section → List ℕ
marks_of at [] = []
marks_of at (s ∷ ss) = at ∷ marks_of s.until ss

-- Of a segment to which these sections were written, and an image of its file: the image's numbers
-- are bytes. What passes as a header is the segment's. What passes as a marker, where reading comes
-- to one, stands where a marker was written; its target, which no check covers, may be any. What
-- passes as an entry, where reading comes to one, is the entry that was written there.
pub record NoChance (id : ℕ) (written : List Section) (image : List ℕ) : Type 0 where
  pub are_bytes : IsBytes image
  pub header : PassesAsHeader image → IsHeaderAt image id
  pub marker : (at until : ℕ) → Reaches image id at at → IsMarkerAt image id at until
      → Contains (marks_of header_size written) at
  pub entry : (at until : ℕ) (payload : List ℕ) → at < until → Reaches image id at until
      → IsEntryAt image at until payload
      → Contains (entries_of header_size written) (entry_from at payload)
