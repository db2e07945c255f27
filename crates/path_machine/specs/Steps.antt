-- What an attempt at a step leaves.
use Rattle.std.specs.Prelude.{
  ◌≡◌,
  ◌≤◌,
  ◌<◌,
  ◌++◌,
  ℕ,
  List,
  length,
  Ok,
  Err,
  Option,
  Some,
  None,
}
use Rattle.std.specs.List.Sorted.{IsNonDecreasingBy}
use Rattle.std.specs.declared.result.Result.{Result}
use Rattle.clog_base.specs.declared.fault.OutOfMemory.{OutOfMemory}
use Rattle.clog_spec.specs.Sizes.{greatest_capacity}
use Rattle.op_core.specs.declared.count.Tally.{Tally}
use Rattle.op_core.specs.Tallies.{running_of, one_more}
use Rattle.path_core.specs.declared.event.Carried.{Carried}
use Rattle.path_core.specs.declared.event.Carried.TheVariants.{Nothing, Deposit, Applied}
use Rattle.path_core.specs.declared.event.Event.{Event}
use Rattle.path_core.specs.declared.event.Cursor.TheVariants.{Synced, OldestLive, Stopped}
use Rattle.path_core.specs.declared.event.Event.TheVariants.{
  Look,
  Register,
  Close,
  OpenGroup,
  MoveCurrent,
  Expire,
  Advance,
  Claim,
  Switch,
  Raise,
  Finalise,
  TakeTurn,
  GiveTurn,
  Put,
}
use Rattle.path_core.specs.declared.event.SwitchPart.TheVariants.{Clear, Open, Mark}
use Rattle.path_core.specs.declared.event.Turn.TheVariants.{Sync, Flush}
use Rattle.path_core.specs.declared.note.EntryNote.{EntryNote}
use Rattle.path_core.specs.declared.state.PathState.{PathState}
use Rattle.path_core.specs.Words.{by_of}
use Rattle.path_core.specs.Allowed.{IsThere, IsAllowed}
use Rattle.path_core.specs.Parts.{tally_of, seat_of}
use Rattle.path_core.specs.Next.{
  next_of,
  places_from,
  end_of_claim,
  newly_dropped,
}
use Rattle.path_machine.specs.declared.path.StepFault.{StepFault}
use Rattle.path_machine.specs.declared.path.StepFault.TheVariants.{
  NotAllowed,
  OutOfMemory as NoMemory,
}

-- notes in the order of their starts
abbrev pub StandInOrder : List EntryNote → Type 0
StandInOrder notes = IsNonDecreasingBy (λ (n : EntryNote). n.start.0) notes

-- What a path keeps: numbers within the limits of its sizes, and its notes in order.
pub record IsWithin (x : PathState) : Type 0 where
  pub few_tables : length x.tables ≤ 16
  pub capacity : x.capacity ≤ greatest_capacity
  pub notes : StandInOrder x.notes

-- What a step's seat and words are: they are there.
pub record Names (x : PathState) (e : Event) : Type 0 where
  pub within : IsWithin x
  pub seat : by_of e < length x.seats
  pub is_there : IsThere x e

-- A step that may want memory: one that makes a list of the state longer. To register takes none:
-- that fails only where the count of the group is at its type's end. No other step takes any, so
-- none of them ever fails for want of it.
abbrev pub MayWantMemory : PathState → Event → Type 0
MayWantMemory x (Look by at) = ⊥
MayWantMemory x (Register by order group) =
    running_of (tally_of x order group) ≡ 18446744073709551615
MayWantMemory x (Close by order group carried) = Unit {0}
MayWantMemory x (OpenGroup by order group) = Unit {0}
MayWantMemory x (MoveCurrent by order group) = ⊥
MayWantMemory x (Expire by order group) = ⊥
MayWantMemory x (Advance by order group) = ⊥
MayWantMemory x (Claim by from to what) = Unit {0}
MayWantMemory x (Switch by table memtable Clear) = ⊥
MayWantMemory x (Switch by table memtable Open) = Unit {0}
MayWantMemory x (Switch by table memtable Mark) = ⊥
MayWantMemory x (Raise by table memtable to) = ⊥
MayWantMemory x (Finalise by table memtable) = ⊥
MayWantMemory x (TakeTurn by turn) = ⊥
MayWantMemory x (GiveTurn by Sync) = Unit {0}
MayWantMemory x (GiveTurn by (Flush table)) = ⊥
MayWantMemory x (Put by Synced value) = Unit {0}
MayWantMemory x (Put by (OldestLive table) value) = Unit {0}
MayWantMemory x (Put by Stopped value) = ⊥

-- The step was made; for want of memory nothing changed.
abbrev pub Makes : Result (Unit {0}) OutOfMemory → PathState → PathState → Event → Type 0
Makes (Ok u) old new e = new ≡ next_of old e
Makes (Err f) old new e = (new ≡ old) × MayWantMemory old e

-- One more operation, unless the number is at its end.
abbrev pub IsOneMore : Option Tally → Tally → Type 0
IsOneMore None tally = running_of tally ≡ 18446744073709551615
IsOneMore (Some more) tally = more ≡ one_more tally

-- A seat's places joined the placed ones; for want of memory nothing changed.
abbrev pub PutsPlaces : Result (Unit {0}) OutOfMemory → PathState → PathState → ℕ → Type 0
PutsPlaces (Ok u) old new by = let s = seat_of old by in
    new ≡ record old { placed = old.placed ++ places_from 0 (end_of_claim s) s.tables }
PutsPlaces (Err f) old new by = new ≡ old

-- no note is carried
abbrev pub IsNoDeposit : Carried → Type 0
IsNoDeposit Nothing = Unit {0}
IsNoDeposit (Deposit note) = ⊥
IsNoDeposit (Applied places) = Unit {0}

-- The segments that may go have gone; for want of memory nothing changed.
abbrev pub Drops : Result (Unit {0}) OutOfMemory → PathState → PathState → Type 0
Drops (Ok u) old new = new ≡ record old { dropped = old.dropped ++ newly_dropped old }
Drops (Err f) old new = new ≡ old

-- A step is made exactly where it is allowed; after a refusal nothing changed.
abbrev pub StepsTo : Result (Unit {0}) StepFault → PathState → Event → PathState → Type 0
StepsTo (Ok u) old e new = IsAllowed old e × (new ≡ next_of old e)
StepsTo (Err NotAllowed) old e new = (IsAllowed old e → ⊥) × (new ≡ old)
StepsTo (Err NoMemory) old e new = IsAllowed old e × (new ≡ old) × MayWantMemory old e
