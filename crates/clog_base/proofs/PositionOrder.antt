-- The order of positions.
use Rattle.std.proofs.Common.{◌≡◌, ◌⊎◌, true, false, not, arith}
use Rattle.std.proofs.lemmas.Bool.Decides.{nat_tests}
use Rattle.clog_base.specs.declared.position.Position.{Position}
use Rattle.clog_base.specs.Positions.{IsBelow, IsUpTo, is_below}

pub below_trans : (a b c : Position) → IsBelow a b → IsBelow b c → IsBelow a c
below_trans a b c p q = grind arith

pub below_up_to : (a b c : Position) → IsBelow a b → IsUpTo b c → IsBelow a c
below_up_to a b c p q = grind arith

pub up_to_below : (a b c : Position) → IsUpTo a b → IsBelow b c → IsBelow a c
up_to_below a b c p q = grind arith

pub up_to_trans : (a b c : Position) → IsUpTo a b → IsUpTo b c → IsUpTo a c
up_to_trans a b c p q = grind arith

pub below_is_up_to : (a b : Position) → IsBelow a b → IsUpTo a b
below_is_up_to a b p = grind arith

pub up_to_itself : (a : Position) → IsUpTo a a
up_to_itself a = grind arith

pub not_both : (a b : Position) → IsBelow a b → IsUpTo b a → ⊥
not_both a b p q = grind arith

-- of two positions the first is below the other, or the other is up to it
pub below_or_up_to : (a b : Position) → IsBelow a b ⊎ IsUpTo b a
below_or_up_to a b = grind (arith, nat_tests)

-- ---- the test

pub is_below-true : (a b : Position) → is_below a b ≡ true → IsBelow a b
is_below-true a b h = grind (arith, nat_tests)

pub is_below-false : (a b : Position) → is_below a b ≡ false → IsUpTo b a
is_below-false a b h = grind (arith, nat_tests)

pub below-is_below : (a b : Position) → IsBelow a b → is_below a b ≡ true
below-is_below a b h = grind (arith, nat_tests)

pub not_below-up_to : (a b : Position) → not (is_below a b) ≡ true → IsUpTo b a
not_below-up_to a b h = grind (arith, nat_tests)

pub not_not_below : (a b : Position) → not (is_below a b) ≡ false → IsBelow a b
not_not_below a b h = grind (arith, nat_tests)

pub up_to-not_below : (a b : Position) → IsUpTo b a → not (is_below a b) ≡ true
up_to-not_below a b h = grind (arith, nat_tests)
