-- The groups of one order, over whatever counts the operations in them.
--
-- `count` says how many operations are in each group: a sum over seats, or over the views of a
-- table. `top` is the last group that was made; `moved` says that the group before the current one
-- is not yet expired.
use Rattle.std.specs.Prelude.{◌≡◌, ℕ, suc, ◌<◌, ◌≤◌, Bool, true, List, length}
use Rattle.op_core.specs.declared.count.Tally.{Tally}
use Rattle.op_core.specs.declared.count.Tally.TheVariants.{Open, Expired}
use Rattle.op_core.specs.Tallies.{running_of, IsOpen, tally_at}

-- What is true of the count of a group.
pub record GroupIs (moved : Bool) (current oldest group : ℕ) (count : Tally) : Type 0 where
  -- below the current one it is expired, but the one that is being replaced
  pub below_current : group < current → IsOpen count → (suc group ≡ current) × (moved ≡ true)
  pub replaced : moved ≡ true → suc group ≡ current → IsOpen count
  pub below_oldest : group < oldest → count ≡ Expired 0
  pub now : group ≡ current → IsOpen count
  -- one above it has no operation yet
  pub above : current < group → count ≡ Open 0

-- What is true of the groups from the oldest to the last one made.
pub record GroupsAre (moved : Bool) (current oldest top : ℕ) (tallies : List Tally)
    (count : ℕ → ℕ) : Type 0 where
  pub made : length tallies ≡ suc top
  pub reached : current ≤ top
  pub low : oldest ≤ current
  pub counted : (g : ℕ) → running_of (tally_at tallies g) ≡ count g
  pub each : (g : ℕ) → GroupIs moved current oldest g (tally_at tallies g)
