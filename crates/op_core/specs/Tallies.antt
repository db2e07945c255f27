-- The count of a group of operations, and when a barrier over groups is passed.
use Rattle.std.specs.Prelude.{
  ◌≡◌,
  ℕ,
  ◌+◌,
  ◌-◌,
  ◌<◌,
  ◌≤◌,
  ◌==◌,
  Bool,
  true,
  false,
  List,
  length,
  get_or,
  ℤ,
  pos,
  negsuc,
}
use Rattle.op_core.specs.declared.count.Order.{Order}
use Rattle.op_core.specs.declared.count.Order.TheVariants.{Write, Append}
use Rattle.op_core.specs.declared.count.Tally.{Tally}
use Rattle.op_core.specs.declared.count.Tally.TheVariants.{Open, Expired}

abbrev pub is_same_order : Order → Order → Bool
is_same_order Write Write = true
is_same_order Write Append = false
is_same_order Append Write = false
is_same_order Append Append = true

-- the operations that are running
abbrev pub running_of : Tally → ℕ
running_of (Open r) = r
running_of (Expired r) = r

-- the signed number that stands for a count
abbrev pub number_of : Tally → ℤ
number_of (Open r) = pos r
number_of (Expired r) = negsuc r

-- operations may register
abbrev pub IsOpen : Tally → Type 0
IsOpen (Open r) = Unit {0}
IsOpen (Expired r) = ⊥

abbrev pub is_open : Tally → Bool
is_open (Open r) = true
is_open (Expired r) = false

-- the count -1: expired, and nothing is left
abbrev pub is_finished : Tally → Bool
is_finished (Open r) = false
is_finished (Expired r) = r == 0

-- the count after one more operation registered
abbrev pub one_more : Tally → Tally
one_more (Open r) = Open (r + 1)
one_more (Expired r) = Expired (r + 1)

-- the count after one operation closed
abbrev pub one_less : Tally → Tally
one_less (Open r) = Open (r - 1)
one_less (Expired r) = Expired (r - 1)

-- the count once no more may register
abbrev pub expired : Tally → Tally
expired (Open r) = Expired r
expired (Expired r) = Expired r

-- the count of a group; one that was not made reads as open and empty
abbrev pub tally_at : List Tally → ℕ → Tally
tally_at tallies group = get_or tallies group (Open 0)

-- The barrier of a group is passed: the group was made, and it and all earlier ones are finished.
pub record IsPassed (tallies : List Tally) (group : ℕ) : Type 0 where
  pub made : group < length tallies
  pub finished : (g : ℕ) → g ≤ group → tally_at tallies g ≡ Expired 0
