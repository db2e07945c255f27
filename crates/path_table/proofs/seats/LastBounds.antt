-- The words of a closed table tell the bounds below the newest memtables.
use Rattle.std.proofs.Common.{◌≡◌, ◌≢◌, ℕ, zero, suc, ◌+◌, ◌-◌, ◌*◌, ◌<◌, ◌≤◌, List, [], ◌∷◌}
use Rattle.std.proofs.Common.{length, refl, sym, ap, ◌∙◌, arith}
use Rattle.std.specs.Prelude.{◌%◌, ◌^◌, slice_index, slice_set}
use mathlib.Core.Logic.{inl}
use mathlib.Core.Option.{some, some-injective, some-ne-none}
use lib.ListN.{get_elem?}
use Rattle.path_core.specs.declared.event.Place.{Place}
use Rattle.path_core.specs.declared.event.Place.TheVariants.{Bound, Newest}
use Rattle.path_core.specs.declared.state.Bound.{Bound as BoundOf}
use Rattle.path_core.specs.declared.state.Bound.TheVariants.{Live, Raising, Final}
use Rattle.path_core.specs.declared.state.PathState.{PathState}
use Rattle.path_core.specs.History.{bound_below, bound_before}
use Rattle.path_core.specs.Lawful.{IsLawfulPath}
use Rattle.path_core.specs.Parts.{key_of_bound, memtable_of, table_of}
use Rattle.path_core.specs.Words.{reading}
use Rattle.path_rule.specs.Layout.{IsShown, bound_word, word_at, word_for}
use Rattle.path_rule.specs.Rule.{HasRows}
use Rattle.path_rule.proofs.places.ReadBack.{log_small}
use Rattle.path_table.specs.ClosedBounds.{key_below, last_key}

-- ---- words and rows of numbers

-- what stands at a place
pub stands : (words : List ℕ) (i a : ℕ) → get_elem? words i ≡ some a → slice_index words i ≡ a
stands [] i a e = absurd (some-ne-none a (sym e))
stands (x ∷ xs) zero a e = some-injective x a e
stands (x ∷ xs) (suc i) a e = stands xs i a e

-- a number that is written to a row, and the others of the row

pub set_long : (xs : List ℕ) (i v : ℕ) → length (slice_set xs i v) ≡ length xs
set_long [] i v = refl
set_long (x ∷ xs) zero v = refl
set_long (x ∷ xs) (suc i) v = ap suc (set_long xs i v)

pub set_here : (xs : List ℕ) (i v : ℕ) → i < length xs → slice_index (slice_set xs i v) i ≡ v
set_here [] i v inside = absurd (omega arith)
set_here (x ∷ xs) zero v inside = refl
set_here (x ∷ xs) (suc i) v inside = set_here xs i v (omega arith)

pub set_there : (xs : List ℕ) (i j v : ℕ) → j ≢ i
    → slice_index (slice_set xs i v) j ≡ slice_index xs j
set_there [] i j v apart = refl
set_there (x ∷ xs) zero zero v apart = absurd (apart refl)
set_there (x ∷ xs) zero (suc j) v apart = refl
set_there (x ∷ xs) (suc i) zero v apart = refl
set_there (x ∷ xs) (suc i) (suc j) v apart = set_there xs i j v (λ e. apart (ap suc e))

-- ---- the key below the newest memtable, as words tell it

pub at_first : (words : List ℕ) (t n : ℕ) → slice_index words (64 + 4 * t) ≡ n → n ≡ 0
    → 0 ≡ last_key words t
at_first words t n is none = sym (ap (λ (k : ℕ). key_below words t k) (is ∙ none))

pub at_later : (words : List ℕ) (t n w : ℕ) → slice_index words (64 + 4 * t) ≡ n → n ≢ 0
    → slice_index words (640 + 16 * ((n - 1) % 4) + t) ≡ w → w % 2 ^ 62 ≡ last_key words t
at_later words t zero w is made at = absurd (made refl)
at_later words t (suc m) w is made at =
    let place : 640 + 16 * ((suc m - 1) % 4) + t ≡ 640 + 16 * (m % 4) + t = omega arith in
    sym (ap (λ (k : ℕ). key_below words t k) is
    ∙ ap (λ (k : ℕ). k % 2 ^ 62) (ap (λ (k : ℕ). slice_index words k) (sym place) ∙ at))

-- the key of a bound is what its word has below the marks
key_back : (b : BoundOf) → key_of_bound b < 2 ^ 62 → bound_word b % 2 ^ 62 ≡ key_of_bound b
key_back Live small = refl
key_back (Raising k) small = omega arith
key_back (Final k) small = omega arith

module _ (x : PathState) (L : IsLawfulPath x) (rows : HasRows x) (words : List ℕ)
    (reads : (at : Place) → IsShown x at
    → slice_index words (word_at at) ≡ word_for at (reading x at)) where
  -- the number of each memtable fits its word
  few_made : (t : ℕ) → suc (table_of x t).newest ≤ 2 ^ 47
  few_made t = let made = (L.switches.tables t).bounds_rise.made in
      let few = rows.memtables t in omega arith

  -- the newest memtable, as its word tells it
  newest_is : (t : ℕ) → t < 16 → slice_index words (64 + 4 * t) ≡ (table_of x t).newest
  newest_is t inside = reads (Newest (record { 0 = t })) inside

  pub few_newest : (t : ℕ) → t < 16 → slice_index words (64 + 4 * t) ≤ 2 ^ 47
  few_newest t inside = let is = newest_is t inside in let few = few_made t in omega arith

  below_is : (t n : ℕ) → t < 16 → (table_of x t).newest ≡ n
      → key_below words t n ≡ bound_below (table_of x t) n
  below_is t zero inside is = refl
  below_is t (suc m) inside is =
      let B = (L.switches.tables t).bounds_rise in let low = B.below_log m in
      let top = log_small x L in
      ap (λ (w : ℕ). w % 2 ^ 62)
      (reads (Bound (record { 0 = t }) m) (inside, inl (omega arith, omega arith)))
      ∙ key_back (memtable_of x t m).bound (omega arith)

  pub last_is : (t : ℕ) → t < 16
      → last_key words t ≡ bound_before x t (table_of x t).newest
  last_is t inside = ap (λ (n : ℕ). key_below words t n) (newest_is t inside)
      ∙ below_is t (table_of x t).newest inside refl
