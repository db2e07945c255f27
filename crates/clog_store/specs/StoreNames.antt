-- Which names of a store last, by what it wrote.
use Rattle.std.specs.Prelude.{◌≡◌, ℕ, List, Option, Some, false}
use Rattle.clog_disk.specs.Files.{Files}
use Rattle.clog_disk.specs.Images.{LastsAs}
use Rattle.clog_segments.specs.NamesLast.{IsOpen}
use Rattle.clog_segments.specs.StoreFolder.{HoldsStore, IsRow, log_of}
use Rattle.clog_segments.specs.StoreState.{StoreState, deeds_by}

-- While the disk has not failed, each name that the store wrote lasts: those of its segments, but
-- for the one at hand while a section of it does not last, of those that it archived, and of the
-- table files that it put.
abbrev pub RowsLast : {D : Type 0} → (D → Option Files)
    → (D → List ℕ → Option (List ℕ) → Type 0) → StoreState D → Type 0
RowsLast files leaves s =
    s.notes.log.is_stopped ≡ false → (first now : Files) → files s.first ≡ Some first
    → files s.notes.log.disk ≡ Some now
    → (holds : HoldsStore first (log_of s.notes) (deeds_by s) now) → (name bytes : List ℕ)
    → IsRow (log_of s.notes) (deeds_by s) holds.placed name bytes
    → (IsOpen s.notes.log name → ⊥)
    → LastsAs (leaves s.notes.log.disk) name (Some bytes)
