-- A segment's file that is read in pieces: what is known of it, and what was given of it.
use Rattle.std.specs.Prelude.{◌≡◌, ℕ, ◌+◌, ◌<◌, ◌≤◌, List, ◌++◌, length, take, drop}
use Rattle.clog_spec.specs.Sizes.{marker_size, frame_size}
use Rattle.clog_entry.specs.Fields.{entry_front_size}
use Rattle.clog_entry.specs.Spelled.{IsMarkerAt, IsEntryAt}
use Rattle.clog_scan.specs.declared.whole.Whole.{Whole}
use Rattle.clog_scan.specs.declared.next.Next.{Next}
use Rattle.clog_scan.specs.declared.next.Next.TheVariants as nexts
use Rattle.clog_scan.specs.Laws.{IsFile}
use Rattle.clog_scan.specs.Segment.{Entry, StopsAt}

-- at an offset of the file these bytes stand, and then others
pub record IsAhead (file window : List ℕ) (at : ℕ) : Type 0 where
  pub rest : List ℕ
  pub there : drop at file ≡ window ++ rest

-- the same of a file of so many bytes
pub record IsWindow (file : List ℕ) (len : ℕ) (window : List ℕ) (at : ℕ) : Type 0 where
  pub is_file : IsFile file
  pub len_is : length file ≡ len
  pub ahead : IsAhead file window at

-- the entry that is given
abbrev pub entry_of : Whole → Entry
entry_of w = record { start = w.start; end = w.end; payload = w.payload.items }

-- what stands at the place ends behind so many bytes
pub record IsStuck (file : List ℕ) (at until fed : ℕ) : Type 0 where
  pub marker : at ≡ until → fed < at + marker_size
  pub entry : (payload : List ℕ) → at < until → IsEntryAt file at until payload
      → fed < at + frame_size + length payload

-- what comes next, by the bytes that are there, in a section that ends at a place
abbrev pub NextIs : ℕ → ℕ → List ℕ → ℕ → ℕ → Next → Type 0
NextIs len id window at until (nexts.Section next) =
    (at ≡ until) × (marker_size ≤ length window) × (at + marker_size ≤ next) × (next ≤ len)
    × ((file : List ℕ) → IsWindow file len window at → IsMarkerAt file id at next)
NextIs len id window at until (nexts.Entry size) =
    (at < until) × (frame_size + size ≤ length window) × (at + frame_size + size ≤ until)
    × ((file : List ℕ) → IsWindow file len window at
    → IsEntryAt file at until (take size (drop entry_front_size window)))
NextIs len id window at until (nexts.End end) =
    (file : List ℕ) → IsWindow file len window at → StopsAt file id at until end
NextIs len id window at until nexts.Wait =
    (at + length window < len)
    × ((file : List ℕ) → IsWindow file len window at
    → IsStuck file at until (at + length window))
