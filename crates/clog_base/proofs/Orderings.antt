-- Tests that hold, and answers of comparisons.
use Rattle.std.proofs.Common.{◌≡◌, Bool, true, false, refl}
use Rattle.std.specs.Prelude.{T, ◌&&◌}
use Rattle.std.specs.Ordering.{ordering_then, is_lt}
use Rattle.std.specs.declared.cmp.Ordering.{Ordering}
use Rattle.std.specs.declared.cmp.Ordering.TheVariants.{Less, Equal, Greater}

-- ---- two tests

pub both_hold : (a b : Bool) → T a → T b → T (a && b)
both_hold true b p q = q
both_hold false b p q = p

pub first_holds : (a b : Bool) → T (a && b) → T a
first_holds true b p = tt
first_holds false b p = p

pub second_holds : (a b : Bool) → T (a && b) → T b
second_holds true b p = p
second_holds false b p = absurd p

-- ---- comparisons

pub is_less : (r : Ordering) → T (is_lt r) → r ≡ Less
is_less Less p = refl
is_less Equal p = absurd p
is_less Greater p = absurd p

pub both_equal : (r s : Ordering) → ordering_then r s ≡ Equal → (r ≡ Equal) × (s ≡ Equal)
both_equal Less s e = cc
both_equal Equal s e = (refl, e)
both_equal Greater s e = cc
