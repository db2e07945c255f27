-- Seats are handed out and taken back, and what is known of a table that was closed.
use Rattle.std.specs.Prelude.{◌≡◌, ◌⊎◌, ◌<◌, ℕ, suc, false, List, [], ◌∷◌, ◌++◌, map}
use Rattle.std.specs.List.{Contains}
use mathlib.Core.Option.{some}
use lib.ListN.{get_elem?}
use Rattle.path_core.specs.declared.event.Event.{Event}
use Rattle.path_core.specs.declared.seat.Seat.{Seat}
use Rattle.path_core.specs.declared.state.PathState.{PathState}
use Rattle.path_core.specs.Keeper.{Holding, HasRisen}
use Rattle.path_core.specs.Keys.{first_offset}
use Rattle.path_core.specs.Lawful.{IsLawfulPath}
use Rattle.path_core.specs.Parts.{seat_of}
use Rattle.path_core.specs.Runs.{Past}
use Rattle.path_rule.specs.declared.lasting.Beside.{Beside}
use Rattle.path_rule.specs.declared.lasting.Filed.{Filed}
use Rattle.path_rule.specs.declared.view.OwnStep.{OwnStep}
use Rattle.path_rule.specs.declared.view.PathSize.{PathSize}
use Rattle.path_rule.specs.declared.view.Returned.{Returned}
use Rattle.path_rule.specs.declared.view.Role.{Role}
use Rattle.path_rule.specs.declared.view.Role.TheVariants.{Opener, Steps, Spent}
use Rattle.path_rule.specs.declared.view.View.{View}
use Rattle.path_rule.specs.Filing.{HasFiled}
use Rattle.path_rule.specs.Kept.{MayBeKept}
use Rattle.path_rule.specs.Lasts.{lasting_of, none_lasting, shown}
use Rattle.path_rule.specs.Rule.{
  AreBuilt,
  HasRows,
  IsFit,
  start_of,
  event_of,
  steps_by,
  fresh_view,
  new_seat,
}
use Rattle.path_rule.specs.Trails.{TrailTells}

-- the view of the opener once it has handed out a seat, and that of the seat
abbrev pub one_on : Role → Role
one_on (Opener k) = Opener (suc k)
one_on (Steps w) = Steps w
one_on Spent = Spent

abbrev pub handing : View → View
handing v = record v { role = one_on v.role }

abbrev pub spent_view : PathSize → View
spent_view size = fresh_view Spent size

abbrev pub spent : View
spent = spent_view (record {
  tables = 0;
  seats = 0;
  capacity = 0;
  ordinals = 0;
  base = 0;
  at_open = 0;
  files = false;
})

abbrev pub handed_by : Role → PathSize → View
handed_by (Opener k) size = new_seat k size
handed_by (Steps w) size = spent_view size
handed_by Spent size = spent_view size

abbrev pub handed : View → View
handed v = handed_by v.role v.size

-- what a view tells when it is taken back
abbrev pub told_by : Role → Seat → List OwnStep → List Returned
told_by (Steps w) p t = record { number = w; part = p; trail = t } ∷ []
told_by (Opener k) p t = []
told_by Spent p t = []

abbrev pub taking : View → View → View
taking v w = record v {
  returned = v.returned ++ told_by w.role w.part w.trail;
}

-- a seat and those that it took in are all of the machine's
abbrev pub HasAll : ℕ → ℕ → List Returned → Type 0
HasAll seats w returned = (z : ℕ) → z < seats
    → (z ≡ w) ⊎ ((n : ℕ) × (b : Returned) × (get_elem? returned n ≡ some b) × (b.number ≡ z))

-- There is one run of the machine, of sizes within the limits, which ends in a lawful state with
-- this log key, and in which each seat's steps are those that it made, and tell what is so of that
-- state. The keeper holds what is lasting in that state: the entries, the synced key, what is
-- filed and dropped, and the count of faults with which the log is stopped, which has risen; and it
-- may have kept the entries of a sync that was refused.
pub record Ended (o : Beside) (size : PathSize) (returned : List Returned) (log : ℕ)
    (keeper : Holding) : Type 0 where
  pub core : PathState
  pub events : List Event
  pub fit : IsFit size
  pub run : Past (start_of size) events core
  -- each step was of a kind that is built
  pub built : AreBuilt size.at_open (start_of size) events core run
  pub lawful : IsLawfulPath core
  -- the numbers of all groups and memtables that it made fit their words
  pub rows : HasRows core
  pub log_is : log ≡ core.log
  pub kept_to : ℕ
  pub may_be_kept : MayBeKept core kept_to
  -- what it has filed and dropped is what the state has
  pub filed : Filed
  pub dropped : List ℕ
  pub filing : HasFiled o size core filed dropped
  -- what it dropped is dropped there, and not only about to go: no seat holds the Sync turn
  pub gone : (ordinal : ℕ) → Contains dropped ordinal → Contains core.dropped ordinal
  pub lasting_is : lasting_of keeper ≡ shown o size.at_open kept_to filed dropped core
  pub risen : 0 < core.stopped → HasRisen size.at_open core.stopped
  pub each : (n : ℕ) (b : Returned) → get_elem? returned n ≡ some b
      → (b.part ≡ seat_of core b.number) × (map event_of b.trail ≡ steps_by b.number events)
      × TrailTells size.capacity core b.trail

-- No step was made: the log is at its first key, and the keeper holds that nothing is lasting.
abbrev pub EndsUnused : Beside → PathSize → ℕ → Holding → Type 0
EndsUnused o size log keeper = (log ≡ first_offset) × (lasting_of keeper ≡ none_lasting o size)
