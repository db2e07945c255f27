-- What a seat's places are, for the tables of its note.
use Rattle.std.proofs.Common.{
  ◌≡◌,
  ℕ,
  zero,
  suc,
  ◌+◌,
  ◌/◌,
  ◌%◌,
  ◌≤◌,
  ◌==◌,
  Bool,
  true,
  false,
  List,
  ◌∷◌,
  length,
  Option,
  count_ones,
  refl,
  sym,
  ap,
  ◌∙◌,
  subst,
  arith,
  eq-eqb,
}
use Rattle.std.specs.Int.{bit_at}
use Rattle.std.specs.List.{Contains}
use Rattle.std.specs.Option.{option_map_or}
use Rattle.std.specs.Prelude.{if◌then◌else◌}
use Rattle.std.proofs.lemmas.Bool.{eqb-true, false≢true}
use Rattle.std.proofs.lemmas.Nat.{ones_le_self}
use Rattle.std.proofs.lemmas.Nat.Bits.{bit_at-suc, bit_at-zero}
use lib.Count.{ones_step}
use mathlib.Core.Logic.{dite}
use native.Mathlib.Decide.{ℕ_discrete}
use Rattle.clog_base.specs.declared.cell.Table.{Table}
use Rattle.path_core.specs.declared.seat.Seat.{Seat}
use Rattle.path_core.specs.Allowed.{IsItsPlaces}
use Rattle.path_core.proofs.lists.Heads.{first_in, later_in}
use Rattle.path_rule.specs.Accepted.{places_from, place_at, tables_noted, places_of, IsPlaced}

module _ (memtable : ℕ → ℕ) where
  -- one for each bit that is set
  pub as_many : (more first bits : ℕ) → bits ≤ more
      → length (places_from memtable more first bits) ≡ count_ones bits
  as_many zero first bits few = let none = ones_le_self bits in omega arith
  as_many (suc more) first bits few =
      let rest = as_many more (suc first) (bits / 2) (omega arith) in
      let step = ones_step bits in by (bits % 2 == 1) refl rest step
    where
      others : List (Table × ℕ)
      others = places_from memtable more (suc first) (bits / 2)

      by : (b : Bool) → (bits % 2 == 1) ≡ b → length others ≡ count_ones (bits / 2)
          → count_ones bits ≡ bits % 2 + count_ones (bits / 2)
          → length (if b then (record { 0 = first }, memtable first) ∷ others else others)
          ≡ count_ones bits
      by true set rest step = let one = eqb-true (bits % 2) 1 set in omega arith
      by false unset rest step = let none = not_one unset in omega arith
        where
          not_one : (bits % 2 == 1) ≡ false → bits % 2 ≡ 0
          not_one e = dite (ℕ_discrete (bits % 2) 1)
              (λ one. absurd (false≢true (sym e ∙ eq-eqb (bits % 2) 1 one)))
              (λ other. omega arith)

  -- and each of them is there
  pub is_there : (more first bits t : ℕ) → bits ≤ more → bit_at bits t ≡ 1
      → Contains (places_from memtable more first bits)
      (record { 0 = first + t }, memtable (first + t))
  is_there zero first bits t few set =
      absurd (let none = ap (λ (n : ℕ). bit_at n t) (no_bits bits few) ∙ bit_at-zero t in omega
      arith)
    where
      no_bits : (n : ℕ) → n ≤ 0 → n ≡ 0
      no_bits n l = omega arith
  is_there (suc more) first bits zero few set =
      subst (λ (b : Bool). Contains (if b then (record { 0 = first }, memtable first) ∷ others
      else others) (record { 0 = first + 0 }, memtable (first + 0)))
      (sym (eq-eqb (bits % 2) 1 (omega arith)))
      (subst (λ (k : ℕ). Contains ((record { 0 = first }, memtable first) ∷ others)
      (record { 0 = k }, memtable k)) (omega arith)
      (first_in (record { 0 = first }, memtable first) others))
    where
      others : List (Table × ℕ)
      others = places_from memtable more (suc first) (bits / 2)
  is_there (suc more) first bits (suc t) few set = by (bits % 2 == 1)
      (subst (λ (k : ℕ). Contains others (record { 0 = k }, memtable k)) (omega arith)
      (is_there more (suc first) (bits / 2) t (omega arith) (sym (bit_at-suc bits t) ∙ set)))
    where
      others : List (Table × ℕ)
      others = places_from memtable more (suc first) (bits / 2)

      by : (b : Bool) → Contains others (record { 0 = first + suc t }, memtable (first + suc t))
          → Contains (if b then (record { 0 = first }, memtable first) ∷ others else others)
          (record { 0 = first + suc t }, memtable (first + suc t))
      by true h = later_in (record { 0 = first }, memtable first) _ others h
      by false h = h

-- the places of a seat whose write was accepted at each of its tables are what its close carries
pub its_places : (s : Seat) → IsPlaced s → IsItsPlaces s (places_of s)
its_places s P = record {
  tables = P.tables;
  deposited = P.deposited;
  one_each = as_many (place_at s) (tables_noted s) 0 (tables_noted s) (omega arith)
      ∙ ap count_ones noted;
  each = λ t touched. let p = P.each t touched in (
    p.0,
    p.1,
    subst (λ (m : ℕ). Contains (places_of s) (record { 0 = t }, m))
        (ap (λ (o : Option ℕ). option_map_or (λ (m : ℕ). m) o 0) p.1)
        (subst (λ (k : ℕ). Contains (places_of s) (record { 0 = k }, place_at s k)) (from_zero t)
        (is_there (place_at s) (tables_noted s) 0 (tables_noted s) t (omega arith)
        (ap (λ (n : ℕ). bit_at n t) noted ∙ eqb-true (bit_at P.tables t) 1 touched))),
  );
}
  where
    noted : tables_noted s ≡ P.tables
    noted = ap (λ (o : Option ℕ). option_map_or (λ (tables : ℕ). tables) o 0) P.deposited

    from_zero : (t : ℕ) → 0 + t ≡ t
    from_zero t = omega arith
