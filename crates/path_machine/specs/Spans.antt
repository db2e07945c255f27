-- The least and the greatest position of a segment's entries that touch a table.
use Rattle.std.specs.Prelude.{◌≡◌, ℕ, ◌≤◌, true, false, min, max, List, Option, Some, None}
use Rattle.std.specs.List.{Contains}
use Rattle.path_core.specs.declared.note.EntryNote.{EntryNote}
use Rattle.path_core.specs.declared.state.WrittenFile.{WrittenFile}
use Rattle.path_core.specs.Droppable.{is_filed, is_of}
use Rattle.path_machine.specs.declared.table_files.Span.{Span}

-- Each key from one to another lies in the table's files, and the one is not behind the other.
pub record AreFiledTo (files : List WrittenFile) (t from to : ℕ) : Type 0 where
  pub ahead : from ≤ to
  pub each : (key : ℕ) → from ≤ key → key ≤ to → is_filed files t key ≡ true

-- An entry of the segment that touches the table ends at the position.
pub record EndsAt (o t : ℕ) (notes : List EntryNote) (position : ℕ) : Type 0 where
  pub note : EntryNote
  pub among : Contains notes note
  pub is : is_of o t note ≡ true
  pub end : note.end.0 ≡ position

-- All entries of the segment that touch the table end within the span, and at both its ends one.
pub record Spans (o t : ℕ) (notes : List EntryNote) (span : Span) : Type 0 where
  pub least : EndsAt o t notes span.least
  pub greatest : EndsAt o t notes span.greatest
  pub each : (n : EntryNote) → Contains notes n → is_of o t n ≡ true
      → (span.least ≤ n.end.0) × (n.end.0 ≤ span.greatest)

-- the same, or there is no such entry
abbrev pub IsSpan : ℕ → ℕ → List EntryNote → Option Span → Type 0
IsSpan o t notes None = (n : EntryNote) → Contains notes n → is_of o t n ≡ false
IsSpan o t notes (Some span) = Spans o t notes span

-- the span with one position more
abbrev pub widened : Option Span → ℕ → Span
widened None position = record { least = position; greatest = position }
widened (Some span) position = record {
  least = min span.least position;
  greatest = max span.greatest position;
}
