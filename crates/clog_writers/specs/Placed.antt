-- Receipts of logged entries, each at the place of its line.
use Rattle.std.specs.Prelude.{◌≡◌, ℕ, ◌+◌, ◌<◌, List, length, slice_index_or}
use Rattle.std.specs.List.{Contains}
use Rattle.clog_base.specs.Positions.{position_of}
use Rattle.path_core.specs.declared.note.EntryNote.{EntryNote}
use Rattle.write_path.specs.declared.commit.Receipt.{Receipt}

-- the receipt of an entry, where the segment of ordinal 0 has the id `base`
abbrev pub receipt_of : ℕ → EntryNote → Receipt
receipt_of base n = record { line = n.line; position = position_of base n.end.0 }

-- At a place stands the receipt of one of these entries that is of the place's line, which is
-- counted from 1.
pub record HasItsReceipt (base : ℕ) (notes : List EntryNote) (receipts : List Receipt) (i : ℕ) :
    Type 0 where
  pub note : EntryNote
  pub among : Contains notes note
  pub line : note.line ≡ i + 1
  pub is : (d : Receipt) → slice_index_or receipts i d ≡ receipt_of base note

-- Each of these entries' lines has its receipt.
pub record AreAtTheirLines (base : ℕ) (notes : List EntryNote) (receipts : List Receipt) : Type 0
  where
    pub each : (n : EntryNote) → Contains notes n → (i : ℕ) → n.line ≡ i + 1
        → i < length receipts → HasItsReceipt base notes receipts i
