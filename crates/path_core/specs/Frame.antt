-- What a step leaves at its own place, told by the step and by what stood there alone; and what
-- all steps leave as it is.
use Rattle.std.specs.Prelude.{◌≡◌, length}
use Rattle.op_core.specs.declared.count.Tally.TheVariants.{Open as OpenTally}
use Rattle.op_core.specs.Tallies.{one_more, one_less, expired}
use Rattle.path_core.specs.declared.event.Event.{Event}
use Rattle.path_core.specs.declared.event.Event.TheVariants.{
  Look,
  Register,
  Close,
  OpenGroup,
  MoveCurrent,
  Expire,
  Advance,
  Claim,
  Switch,
  Raise,
  Finalise,
  TakeTurn,
  GiveTurn,
  Put,
}
use Rattle.path_core.specs.declared.event.Reading.{Reading}
use Rattle.path_core.specs.declared.event.Reading.TheVariants.{Operations, Number, Limit}
use Rattle.path_core.specs.declared.event.SwitchPart.TheVariants.{Clear, Open, Mark}
use Rattle.path_core.specs.declared.state.Bound.TheVariants.{Live, Raising}
use Rattle.path_core.specs.declared.state.PathState.{PathState}
use Rattle.path_core.specs.SeatParts.{raised_to, made_final}

-- What stands at the place of the step after it, where this stood. A reading of another sort than
-- its place has stands as it is.
abbrev pub left_by : Event → Reading → Reading
left_by (Look by at) found = found
left_by (Register by order group) (Operations k) = Operations (one_more k)
left_by (Register by order group) found = found
left_by (Close by order group carried) (Operations k) = Operations (one_less k)
left_by (Close by order group carried) found = found
left_by (OpenGroup by order group) found = Operations (OpenTally 0)
left_by (MoveCurrent by order group) found = Number group
left_by (Expire by order group) (Operations k) = Operations (expired k)
left_by (Expire by order group) found = found
left_by (Advance by order group) found = Number group
left_by (Claim by from to what) found = Number to.0
left_by (Switch by table memtable Clear) found = Limit Live
left_by (Switch by table memtable Open) found = Number memtable
left_by (Switch by table memtable Mark) found = Limit (Raising (record { 0 = 0 }))
left_by (Raise by table memtable to) (Limit b) = Limit (raised_to to.0 b)
left_by (Raise by table memtable to) found = found
left_by (Finalise by table memtable) (Limit b) = Limit (made_final b)
left_by (Finalise by table memtable) found = found
left_by (TakeTurn by turn) found = Number 1
left_by (GiveTurn by turn) found = Number 0
left_by (Put by cursor value) found = Number value

-- Two states are of the same sizes.
pub record SameSizes (x y : PathState) : Type 0 where
  pub base : y.base ≡ x.base
  pub capacity : y.capacity ≡ x.capacity
  pub ordinals : y.ordinals ≡ x.ordinals
  pub tables : length y.tables ≡ length x.tables
  pub seats : length y.seats ≡ length x.seats
