-- A seat has at most one place at each table.
use Rattle.std.proofs.Common.{
  ◌≡◌,
  ℕ,
  ◌+◌,
  ◌<◌,
  ◌≤◌,
  ◌==◌,
  Bool,
  ◌&&◌,
  true,
  false,
  cond,
  List,
  [],
  ◌∷◌,
  Option,
  Some,
  None,
  refl,
  ap,
  arith,
}
use Rattle.std.specs.Option.{option_map_or}
use Rattle.std.specs.List.{count_by}
use Rattle.std.proofs.lemmas.Bool.{and_parts, eqb-true, ne_eqb}
use Rattle.std.proofs.lemmas.List.Sums.{sum_by-cons}
use mathlib.Core.Logic.{dite}
use native.Mathlib.Decide.{ℕ_discrete}
use Rattle.path_core.specs.declared.seat.SeatTable.{SeatTable}
use Rattle.path_core.specs.declared.state.Placed.{Placed}
use Rattle.path_core.specs.Next.{places_from}
use Rattle.path_core.specs.LawfulPlaces.{is_placing}

-- the places from a table on are none of an earlier table
none_before : (t entry first end : ℕ) (ss : List SeatTable) → t < first
    → count_by (is_placing t entry) (places_from first end ss) ≡ 0
none_before t entry first end [] low = refl
none_before t entry first end (s ∷ ss) low =
    by s.place (none_before t entry (first + 1) end ss (omega arith))
  where
    by : (o : Option ℕ) → count_by (is_placing t entry) (places_from (first + 1) end ss) ≡ 0
        → count_by (is_placing t entry) (option_map_or
        (λ (m : ℕ). record { table = first; entry = end; memtable = m }
        ∷ places_from (first + 1) end ss) o (places_from (first + 1) end ss)) ≡ 0
    by None rest = rest
    by (Some m) rest =
        let s = sum_by-cons (λ p. cond (is_placing t entry p) 1 0)
        (record { table = first; entry = end; memtable = m }) (places_from (first + 1) end ss) in
        let c : cond {A = ℕ} ((first == t) && (end == entry)) 1 0 ≡ 0
        = ap (λ (b : Bool). cond {A = ℕ} (b && (end == entry)) 1 0)
        (ne_eqb first t (λ e. omega arith)) in
        omega arith

-- there is at most one of each table
pub one_each : (t entry first end : ℕ) (ss : List SeatTable)
    → count_by (is_placing t entry) (places_from first end ss) ≤ 1
one_each t entry first end [] = omega arith
one_each t entry first end (s ∷ ss) = by s.place (one_each t entry (first + 1) end ss)
  where
    by : (o : Option ℕ) → count_by (is_placing t entry) (places_from (first + 1) end ss) ≤ 1
        → count_by (is_placing t entry) (option_map_or
        (λ (m : ℕ). record { table = first; entry = end; memtable = m }
        ∷ places_from (first + 1) end ss) o (places_from (first + 1) end ss)) ≤ 1
    by None rest = rest
    by (Some m) rest =
        let s = sum_by-cons (λ p. cond (is_placing t entry p) 1 0)
        (record { table = first; entry = end; memtable = m }) (places_from (first + 1) end ss) in
        dite (ℕ_discrete first t)
        (λ is. let n = none_before t entry (first + 1) end ss (omega arith) in
        let c = at_most ((first == t) && (end == entry)) in omega arith)
        (λ n. let c : cond {A = ℕ} ((first == t) && (end == entry)) 1 0 ≡ 0
        = ap (λ (b : Bool). cond {A = ℕ} (b && (end == entry)) 1 0) (ne_eqb first t n) in
        omega arith)
      where
        at_most : (b : Bool) → cond {A = ℕ} b 1 0 ≤ 1
        at_most true = omega arith
        at_most false = omega arith

-- a placing is of its entry
pub placing_entry : (t entry : ℕ) (p : Placed) → is_placing t entry p ≡ true → p.entry ≡ entry
placing_entry t entry p h =
    eqb-true p.entry entry (and_parts (p.table == t) (p.entry == entry) h).1
