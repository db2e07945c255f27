-- When a segment may go: the tables' files hold all that it holds.
use Rattle.std.specs.Prelude.{
  ℕ,
  ◌+◌,
  ◌-◌,
  ◌<◌,
  ◌≤◌,
  ◌==◌,
  nat_lt,
  nat_le,
  Bool,
  not,
  ◌&&◌,
  ◌||◌,
  IsTrue,
  List,
  length,
}
use Rattle.std.specs.List.{list_any, list_all, range_with_len, filter, Contains}
use Rattle.path_core.specs.declared.note.EntryNote.{EntryNote}
use Rattle.path_core.specs.declared.state.Claim.{Claim}
use Rattle.path_core.specs.declared.state.PathState.{PathState}
use Rattle.path_core.specs.declared.state.WrittenFile.{WrittenFile}
use Rattle.path_core.specs.Keys.{ordinal_of}
use Rattle.path_core.specs.Parts.{is_entry_in, touches}

-- a file of the table has the key in its interval `lower < key <= upper`
abbrev pub is_in_file : ℕ → ℕ → WrittenFile → Bool
is_in_file t key f = (f.table == t) && nat_lt f.lower key && nat_le key f.upper

-- the key lies in the union of the table's intervals
abbrev pub is_filed : List WrittenFile → ℕ → ℕ → Bool
is_filed files t key = list_any (is_in_file t key) files

-- the note is of the segment, and touches the table
abbrev pub is_of : ℕ → ℕ → EntryNote → Bool
is_of o t n = (ordinal_of n.start.0 == o) && touches n.tables t

-- Segment `o` is closed, has an entry, all its entries are logged, and for each table each key from
-- the least to the greatest position of its entries that touch the table lies in the table's files.
pub record IsDroppable (x : PathState) (o : ℕ) : Type 0 where
  pub closed : o < ordinal_of x.log
  pub has_entry : IsTrue (list_any (is_entry_in o) x.claims)
  pub logged : (c : Claim) → Contains x.claims c → IsTrue (is_entry_in o c)
      → Contains x.logged c.end
  pub filed : (t : ℕ) (a b : EntryNote) → t < length x.tables
      → Contains x.notes a → Contains x.notes b → IsTrue (is_of o t a) → IsTrue (is_of o t b)
      → (key : ℕ) → a.end.0 ≤ key → key ≤ b.end.0 → IsTrue (is_filed x.files t key)

-- The same as a test.

abbrev pub is_logged : List ℕ → ℕ → Bool
is_logged logged position = list_any (λ (p : ℕ). p == position) logged

-- each key from one to another lies in the table's files
abbrev pub are_filed : List WrittenFile → ℕ → ℕ → ℕ → Bool
are_filed files t from to = list_all (is_filed files t) (range_with_len from (to + 1 - from))

abbrev pub is_table_filed : PathState → ℕ → ℕ → Bool
is_table_filed x o t =
    let notes = filter (is_of o t) x.notes in
    list_all (λ (a : EntryNote). list_all (λ (b : EntryNote).
    are_filed x.files t a.end.0 b.end.0) notes) notes

abbrev pub is_droppable : PathState → ℕ → Bool
is_droppable x o =
    nat_lt o (ordinal_of x.log)
    && list_any (is_entry_in o) x.claims
    && list_all (λ (c : Claim). not (is_entry_in o c) || is_logged x.logged c.end) x.claims
    && list_all (is_table_filed x o) (range_with_len 0 (length x.tables))
