-- What a write that has deposited its entry puts into memtables, and what it has put there.
use Rattle.std.specs.Prelude.{
  ◌≡◌,
  ◌≢◌,
  ℕ,
  ◌<◌,
  ◌==◌,
  ◌&&◌,
  not,
  Bool,
  List,
  map,
  IsTrue,
  Some,
}
use Rattle.std.specs.List.{Contains, filter, list_any, range_with_len}
use Rattle.clog_spec.specs.Sizes.{most_tables}
use Rattle.path_core.specs.declared.note.EntryNote.{EntryNote}
use Rattle.path_core.specs.declared.state.Placed.{Placed}
use Rattle.path_core.specs.Parts.{seat_table, touches}
use Rattle.path_rule.specs.Applying.{HasDeposited}
use Rattle.path_table.specs.Members.{view_of, part_of, hands_of}
use Rattle.write_path.specs.declared.deposited.Deposited.{Deposited}
use Rattle.write_path.specs.declared.prepared.Prepared.{Prepared}

-- whether the entry that ends at a key is among those that were put into a table's memtables
abbrev pub is_applied : List Placed → ℕ → ℕ → Bool
is_applied applied end t = list_any (λ (a : Placed). (a.entry == end) && (a.table == t)) applied

-- the tables of a set, in ascending order, into none of whose memtables it was put
abbrev pub tables_left : ℕ → ℕ → List Placed → List ℕ
tables_left tables end applied =
    filter (λ t. touches tables t && not (is_applied applied end t)) (range_with_len 0 most_tables)

module _ {K : Type 0} where
  -- The prepared write came back with the seat when that deposited its entry. For each of the
  -- write's tables into none of whose memtables the seat has put the entry, it holds a copy of the
  -- note that was deposited.
  pub record HoldsUpdates (s : Deposited K) (p : Prepared) : Type 0 where
    pub note : EntryNote
    pub deposited : HasDeposited note (view_of s.member).trail
    pub starts : note.start.0 ≡ s.start.0
    pub ends : note.end.0 ≡ s.end.0
    pub tables : note.tables ≡ s.tables
    pub writer : note.writer.0 ≡ s.member.number
    pub copies : p.updates
        ≡ map (λ (t : ℕ). note) (tables_left s.tables s.end.0 (hands_of s.member).applied)

  -- The seat has put the write's entry into no memtable of this table.
  abbrev pub IsUnapplied : ℕ → Deposited K → Type 0
  IsUnapplied t s = (a : Placed) → Contains (hands_of s.member).applied a → a.entry ≡ s.end.0
      → a.table ≢ t

  -- into none of the tables from a number on
  abbrev pub IsUnappliedFrom : ℕ → Deposited K → Type 0
  IsUnappliedFrom k s = (a : Placed) → Contains (hands_of s.member).applied a → a.entry ≡ s.end.0
      → a.table < k

  -- The write has its place at each of its tables below a number, and the seat has put its entry
  -- there.
  abbrev pub IsAppliedBelow : ℕ → Deposited K → Type 0
  IsAppliedBelow k s = (t : ℕ) → t < k → IsTrue (touches s.tables t)
      → (m : ℕ) × ((seat_table (part_of s.member) t).place ≡ Some m)
      × Contains (hands_of s.member).applied
      (record { table = t; entry = s.end.0; memtable = m })
