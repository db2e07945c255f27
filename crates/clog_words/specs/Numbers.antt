-- Numbers among words.
use Rattle.std.specs.Prelude.{◌≡◌, ℕ, ◌≤◌, List, length}
use Rattle.std.specs.Str.Parse.{IsNumeral, digits_value}

-- The text is 1 to 10 ASCII digits, leading zeros among them, that write this number, and the
-- number lies within the bounds.
pub record IsNumberWithin (least most : ℕ) (text : List ℕ) (number : ℕ) : Type 0 where
  pub digits : IsNumeral 10 text
  pub short : length text ≤ 10
  pub value : number ≡ digits_value 10 text
  pub from : least ≤ number
  pub up_to : number ≤ most
