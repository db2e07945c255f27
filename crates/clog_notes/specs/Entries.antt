-- The entry of a mutation, and the note of it.
use Rattle.std.specs.Prelude.{
  ◌≡◌,
  ℕ,
  ◌+◌,
  ◌-◌,
  ◌*◌,
  ◌/◌,
  ◌%◌,
  ◌<◌,
  ◌≤◌,
  ◌^◌,
  ◌↔◌,
  List,
  [],
  ◌∷◌,
  length,
  min,
  IsTrue,
  Result,
  Ok,
  Err,
}
use Rattle.std.specs.Int.Bits.{bit_or}
use Rattle.clog_mutation.specs.declared.mutation.Mutation.{Mutation}
use Rattle.clog_mutation.specs.declared.mutation.Update.{Update}
use Rattle.clog_mutation.specs.Payload.{payload_of}
use Rattle.clog_mutation.specs.Stored.{IsStored}
use Rattle.clog_spec.specs.Segment.{entry_bytes}
use Rattle.clog_spec.specs.Sizes.{frame_size}
use Rattle.path_core.specs.declared.note.EntryNote.{EntryNote}
use Rattle.path_core.specs.Parts.{touches}
use Rattle.path_core.specs.Whole.{Updates}
use Rattle.clog_notes.specs.declared.entry.LargeEntry.{LargeEntry}

-- ---- the entry

-- the entry of a mutation
unfoldable pub entry_of : Mutation → List ℕ
entry_of m = entry_bytes (payload_of m)

-- its length: what a claim of it takes
abbrev pub entry_size : Mutation → ℕ
entry_size m = length (payload_of m) + frame_size

-- the most bytes of an entry: half a segment's capacity
abbrev pub entry_limit : ℕ → ℕ
entry_limit capacity = capacity / 2

-- The entry has more bytes than may be.
pub record IsTooLarge (capacity : ℕ) (m : Mutation) (size max : ℕ) : Type 0 where
  pub over : entry_limit capacity < entry_size m
  pub size_is : size ≡ min (entry_size m) (2 ^ 32 - 1)
  pub max_is : max ≡ entry_limit capacity

-- The size of an entry, where it is not too large.
abbrev pub GivesSize : ℕ → Mutation → Result ℕ LargeEntry → Type 0
GivesSize capacity m (Ok size) = (size ≡ entry_size m) × (size ≤ entry_limit capacity)
GivesSize capacity m (Err large) = IsTooLarge capacity m large.size large.max

-- ---- the tables

-- A set of tables, bit t for table t, holds exactly those that the mutation updates.
abbrev pub HoldsTables : Mutation → ℕ → Type 0
HoldsTables m tables = (t : ℕ) → IsTrue (touches tables t) ↔ Updates m t

-- the set with one table more
abbrev pub with_table : ℕ → ℕ → ℕ
with_table tables t = bit_or tables (1 * 2 ^ t % 2 ^ 16)

-- the set with the tables of the updates
abbrev pub with_tables : ℕ → List Update → ℕ
with_tables tables [] = tables
with_tables tables (u ∷ us) = with_tables (with_table tables u.table.0) us

-- ---- the note

-- The note says what a mutation of a line deposits, wherever it is claimed; its payload can be read
-- back.
pub record IsNoteOf (line : ℕ) (m : Mutation) (n : EntryNote) : Type 0 where
  pub bytes : n.bytes ≡ entry_of m
  pub tables : HoldsTables m n.tables
  pub told : n.line ≡ line
  pub stored : IsStored m
