-- What is true of the log in each state: of claims, notes, and what a sync made lasting.
use Rattle.std.specs.Prelude.{
  ◌≡◌,
  ℕ,
  zero,
  suc,
  ◌+◌,
  ◌-◌,
  ◌/◌,
  ◌^◌,
  ◌<◌,
  ◌≤◌,
  ◌==◌,
  nat_le,
  Bool,
  false,
  ◌&&◌,
  map,
  List,
  length,
  get_or,
  Option,
  Some,
  None,
  is_none,
  IsTrue,
}
use Rattle.std.specs.List.{filter, Contains, AllPairs, count_by}
use Rattle.std.specs.Option.{option_map_or}
use Rattle.path_core.specs.declared.event.ClaimKind.{ClaimKind}
use Rattle.path_core.specs.declared.event.ClaimKind.TheVariants.{Entry, Marker}
use Rattle.path_core.specs.declared.note.EntryNote.{EntryNote}
use Rattle.path_core.specs.declared.seat.Range.{Range}
use Rattle.path_core.specs.declared.seat.Seat.{Seat}
use Rattle.path_core.specs.declared.state.Claim.{Claim}
use Rattle.path_core.specs.declared.state.PathState.{PathState}
use Rattle.path_core.specs.declared.state.WrittenFile.{WrittenFile}
use Rattle.path_core.specs.Keys.{
  ordinal_of,
  offset_of,
  first_offset,
  least_entry,
  entry_start,
  entry_end,
  marker_end,
  behind_marker,
  after,
}
use Rattle.path_core.specs.Parts.{no_claim, seat_of, is_entry, is_marker}
use Rattle.path_core.specs.Droppable.{IsDroppable}
use Rattle.path_core.specs.Whole.{IsWhole}

-- the log key behind a claim of a range
abbrev pub key_behind : ClaimKind → ℕ → ℕ → ℕ → ℕ
key_behind Entry capacity start end = end
key_behind Marker capacity start end = behind_marker capacity start

-- the claim of a number
abbrev pub claim_in : List Claim → ℕ → Claim
claim_in claims i = get_or claims i no_claim

-- where the log key stood before the claim of a number
abbrev pub key_before : ℕ → List Claim → ℕ → ℕ
key_before capacity claims zero = first_offset
key_before capacity claims (suc i) =
    let c = claim_in claims i in key_behind c.what capacity c.start c.end

-- A claim stands where the rule of allocation puts it at a log key.
pub record EntryStandsAt (capacity ordinals key start end : ℕ) : Type 0 where
  pub least : least_entry ≤ end - start
  pub greatest : end - start ≤ capacity / 2
  pub starts : start ≡ entry_start capacity key (end - start)
  pub ends : end ≡ entry_end capacity key (end - start)
  pub segment : ordinal_of end < ordinals

pub record MarkerStandsAt (capacity key start end : ℕ) : Type 0 where
  pub starts : start ≡ key
  pub ends : end ≡ marker_end capacity key

abbrev pub StandsAt : ClaimKind → ℕ → ℕ → ℕ → ℕ → ℕ → Type 0
StandsAt Entry capacity ordinals key start end = EntryStandsAt capacity ordinals key start end
StandsAt Marker capacity ordinals key start end = MarkerStandsAt capacity key start end

-- The claims tile the log up to a key.
pub record TileTo (capacity ordinals log : ℕ) (claims : List Claim) : Type 0 where
  -- each stands where the log key stood after the one before it
  pub stands : (i : ℕ) → i < length claims
      → StandsAt (claim_in claims i).what capacity ordinals (key_before capacity claims i)
      (claim_in claims i).start (claim_in claims i).end
  -- the log key is the one behind the last
  pub log_is_behind : log ≡ key_before capacity claims (length claims)
  -- they do not overlap
  pub apart : (i j : ℕ) → i < j → j < length claims
      → (claim_in claims i).end ≤ (claim_in claims j).start
  pub forward : (i : ℕ) → i < length claims → (claim_in claims i).start ≤ (claim_in claims i).end
  pub below_log : (i : ℕ) → i < length claims → (claim_in claims i).end ≤ log
  -- entries lie behind a segment's front and within its capacity
  pub inside : (i : ℕ) → i < length claims → IsTrue (is_entry (claim_in claims i))
      → (first_offset ≤ offset_of (claim_in claims i).start)
      × (offset_of (claim_in claims i).start
      + ((claim_in claims i).end - (claim_in claims i).start) ≤ capacity)
  -- before the first marker, and between two, stands an entry
  pub entry_before : (i : ℕ) → i < length claims → IsTrue (is_marker (claim_in claims i))
      → (k : ℕ) × (i ≡ suc k) × IsTrue (is_entry (claim_in claims k))
  -- the log key lies behind a segment's front and below its capacity
  pub log_behind_front : first_offset ≤ offset_of log
  pub log_inside : offset_of log < capacity
  pub few_ordinals : ordinal_of log ≤ length claims
  pub within_ordinals : ordinal_of log ≤ ordinals

abbrev pub ClaimsTile : PathState → Type 0
ClaimsTile x = TileTo x.capacity x.ordinals x.log x.claims

-- a seat has claimed the entry that ends at a key, and not yet deposited it
abbrev pub is_undeposited : ℕ → Seat → Bool
is_undeposited end s =
    option_map_or (λ (r : Range). r.end == end) s.claim false && is_none s.note

-- a seat's write has the entry that ends at a key
abbrev pub is_write_of : ℕ → Seat → Bool
is_write_of end s = option_map_or (λ (r : Range). r.end == end) s.claim false

abbrev pub is_note_at : ℕ → EntryNote → Bool
is_note_at end n = n.end.0 == end

-- The note that a seat deposited for its claim.
pub record HasNote (notes : List EntryNote) (claim : Option Range) (w tables : ℕ) : Type 0 where
  pub note : EntryNote
  pub among : Contains notes note
  pub writer : note.writer.0 ≡ w
  pub tables_are : note.tables ≡ tables
  pub range : claim ≡ Some (record { start = note.start.0; end = note.end.0 })

-- Each entry claim is noted once.
pub record EachClaimNoted (x : PathState) : Type 0 where
  -- one seat has it that has not deposited it, or it is in notes once
  pub once : (c : Claim) → Contains x.claims c → IsTrue (is_entry c)
      → count_by (is_undeposited c.end) x.seats + count_by (is_note_at c.end) x.notes ≡ 1
  -- a deposited seat's note is its own
  pub own : (w tables : ℕ) → (seat_of x w).note ≡ Some tables
      → HasNote x.notes (seat_of x w).claim w tables

-- the entry claim of a writer and a range
abbrev pub entry_claim : ℕ → ℕ → ℕ → Claim
entry_claim by start end = record {
  by = by;
  start = start;
  end = end;
  what = Entry;
  barrier = None;
}

-- A seat's claim is an entry claim of the list, and names the seat.
abbrev pub OwnClaims : PathState → Type 0
OwnClaims x = (w : ℕ) (r : Range) → (seat_of x w).claim ≡ Some r
    → Contains x.claims (entry_claim w r.start r.end)

-- A note is the entry claim of its writer, is whole, and is of tables that there are.
pub record IsClaimed (x : PathState) (n : EntryNote) : Type 0 where
  pub claim : Contains x.claims (entry_claim n.writer.0 n.start.0 n.end.0)
  pub whole : IsWhole n
  pub tables_are_there : n.tables < 2 ^ length x.tables

pub record NotesAreClaims (x : PathState) : Type 0 where
  pub each : (n : EntryNote) → Contains x.notes n → IsClaimed x n
  -- they stand in the order of the log
  pub in_order : AllPairs (λ (a b : EntryNote). a.end.0 ≤ b.start.0) x.notes

-- Each position that a sync made lasting is a note's.
abbrev pub LoggedAreNotes : PathState → Type 0
LoggedAreNotes x = (position : ℕ) → Contains x.logged position
    → (n : EntryNote) × Contains x.notes n × (n.end.0 ≡ position)

abbrev pub is_at_most : ℕ → EntryNote → Bool
is_at_most key n = nat_le n.end.0 key

-- What a sync made lasting is the part of the notes up to the synced key.
pub record LoggedIsSynced (x : PathState) : Type 0 where
  -- each entry claim that ends at or below it is in notes
  pub gathered : (c : Claim) → Contains x.claims c → IsTrue (is_entry c) → c.end ≤ x.synced
      → count_by (is_note_at c.end) x.notes ≡ 1
  pub logged : x.logged ≡ map (λ (n : EntryNote). n.end.0) (filter (is_at_most x.synced) x.notes)
  pub files_are_below : (f : WrittenFile) → Contains x.files f
      → f.upper ≤ after x.capacity x.synced

-- The synced key is 0 or the start of a marker, and at most the log key.
pub record SyncedIsMarker (x : PathState) : Type 0 where
  pub below_log : x.synced ≤ x.log
  pub marker : 0 < x.synced
      → (c : Claim) × Contains x.claims c × IsTrue (is_marker c) × (c.start ≡ x.synced)

pub record DroppedWas (x : PathState) : Type 0 where
  pub droppable : (o : ℕ) → Contains x.dropped o → IsDroppable x o
  pub below_synced : (o : ℕ) → Contains x.dropped o → o < ordinal_of x.synced
