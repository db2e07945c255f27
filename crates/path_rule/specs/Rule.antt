-- The rule of the shared table: there is a run of the machine from its opening, in which each step
-- was allowed, and its last state is what the words, the views and the boxes show.
use Rattle.std.specs.Prelude.{◌+◌, ◌≡◌, ◌≢◌, ℕ, ◌<◌, ◌≤◌, ◌==◌, cond, false, List, [], ◌∷◌, map}
use Rattle.std.specs.Prelude.{length, slice_index, Option, Some, None, is_some}
use mathlib.Core.Option.{some}
use lib.ListN.{get_elem?}
use base.Stored.{gnil}
use Rattle.atomic_table.specs.Table.{State}
use Rattle.clog_base.specs.Sizes.{IsWithinLimits}
use Rattle.op_core.specs.declared.count.Order.{Order}
use Rattle.op_core.specs.declared.count.Order.TheVariants.{Append, Write}
use Rattle.path_core.specs.declared.event.ClaimKind.TheVariants.{Marker}
use Rattle.path_core.specs.declared.event.Cursor.TheVariants.{Synced, Stopped}
use Rattle.path_core.specs.declared.event.Event.{Event}
use Rattle.path_core.specs.declared.event.Event.TheVariants.{Claim, OpenGroup, Put}
use Rattle.path_core.specs.declared.event.Place.{Place}
use Rattle.path_core.specs.declared.seat.Seat.{Seat}
use Rattle.path_core.specs.declared.state.PathState.{PathState}
use Rattle.path_core.specs.Allowed.{IsStep, WantsBarrier}
use Rattle.path_core.specs.Keeper.{HasRisen}
use Rattle.path_core.specs.Lawful.{IsLawfulPath}
use Rattle.path_core.specs.Parts.{fresh_seat, seat_of, groups_of, table_of}
use Rattle.path_core.specs.Runs.{opening, Past}
use Rattle.path_core.specs.SeatAfter.{Told, seat_after}
use Rattle.path_core.specs.Whole.{CarriesWhole}
use Rattle.path_core.specs.Words.{reading, by_of, place_of}
use Rattle.path_rule.specs.declared.lasting.Beside.{Beside}
use Rattle.path_rule.specs.declared.lasting.Filed.{Filed}
use Rattle.path_rule.specs.declared.lasting.Lasting.{Lasting}
use Rattle.path_rule.specs.declared.slot.Slot.{Slot}
use Rattle.path_rule.specs.declared.view.Hands.{Hands}
use Rattle.path_rule.specs.declared.view.OwnStep.{OwnStep}
use Rattle.path_rule.specs.declared.view.PathSize.{PathSize}
use Rattle.path_rule.specs.declared.view.Returned.{Returned}
use Rattle.path_rule.specs.declared.view.Role.{Role}
use Rattle.path_rule.specs.declared.view.Role.TheVariants.{Opener, Steps, Spent}
use Rattle.path_rule.specs.declared.view.View.{View}
use Rattle.path_rule.specs.Boxed.{Boxed}
use Rattle.path_rule.specs.Boxes.{all_boxes}
use Rattle.path_rule.specs.Filing.{HasFiled}
use Rattle.path_rule.specs.Issued.{issues_of, most_issued, opens_of}
use Rattle.path_rule.specs.Limits.{made_below, most_memtables}
use Rattle.path_rule.specs.Kept.{MayBeKept}
use Rattle.path_rule.specs.Lasts.{none_filed, none_lasting, shown}
use Rattle.path_rule.specs.Memtables.{HasMemtables}
use Rattle.path_rule.specs.Reads.{ReadsAs}
use Rattle.path_rule.specs.Trails.{TrailTells, ViewTells}
use Rattle.path_rule.specs.Layout.{word_at, IsShown, word_for, reading_at, word_rows, numbers_end}

-- the machine's opening
abbrev pub start_of : PathSize → PathState
start_of size = opening size.tables size.seats size.capacity size.ordinals size.base

-- the sizes are within the limits
abbrev pub IsFit : PathSize → Type 0
IsFit size = IsWithinLimits size.tables size.seats size.capacity size.ordinals

-- What a seat knows.

abbrev pub event_of : OwnStep → Event
event_of t = t.event

-- the steps of seat w among these
abbrev pub steps_by : ℕ → List Event → List Event
steps_by w [] = []
steps_by w (e ∷ es) = cond (by_of e == w) (e ∷ steps_by w es) (steps_by w es)

-- of a keeper that is not known
abbrev pub no_beside : Beside
no_beside = record {
  tables = 0;
  writers = 0;
  archives = false;
  disk = gnil;
}

-- of one that has no box
abbrev pub no_hands : Hands
no_hands = record {
  notes = [];
  box_taken = None;
  taken = [];
  pending = [];
  lasting = none_lasting no_beside (record {
    tables = 0;
    seats = 0;
    capacity = 0;
    ordinals = 0;
    base = 0;
    at_open = 0;
    files = false;
  });
  swept = 0;
  progress = record { gathered = false; marker = None };
  memtable_box = None;
  held = [];
  applied = [];
  reading = None;
}

-- before the first step
abbrev pub fresh_view : Role → PathSize → View
fresh_view role size = record {
  role = role;
  part = fresh_seat;
  trail = [];
  returned = [];
  hands = no_hands;
  size = size;
}

-- the seat that hands out the others, and has handed out so many
abbrev pub opener : ℕ → PathSize → View
opener made size = fresh_view (Opener made) size

-- the seat with this number
abbrev pub new_seat : ℕ → PathSize → View
new_seat w size = fresh_view (Steps w) size

-- What a step tells the seat: whether it gave a table file, which begins above a key, and the last
-- marker as the desk tells it.
abbrev pub told_by : Option ℕ → Hands → Told
told_by filed h = record { files = is_some filed; marker = h.progress.marker }

-- The view after the step e, at which n was found or stored, and which gave a table file that
-- begins above a key, or gave none.
abbrev pub view_with : View → Event → ℕ → Option ℕ → View
view_with v e n filed = record v {
  part = seat_after v.part e (reading_at (place_of e) n) (told_by filed v.hands);
  trail = record { event = e; found = n; filed = filed } ∷ v.trail;
}

-- where it gave none
abbrev pub view_after : View → Event → ℕ → View
view_after v e n = view_with v e n None

-- where it gave one that begins above this key
abbrev pub view_filed : View → Event → ℕ → ℕ → View
view_filed v e n lower = view_with v e n (Some lower)

abbrev pub with_hands : Hands → View → View
with_hands h v = record v { hands = h }

-- What the seat j of the table knows of the machine. A seat that makes steps has exactly the part
-- of its number, and its trail is exactly the steps that this number made in the run.
module _ (core : PathState) (events : List Event) (owner : ℕ → ℕ) (made boss j : ℕ) where
  abbrev pub IsSeat : ℕ → Seat → List OwnStep → Type 0
  IsSeat w p t = (w < made) × (owner w ≡ j) × (p ≡ seat_of core w)
      × (map event_of t ≡ steps_by w events)

  abbrev pub Knows : Role → Seat → List OwnStep → List Returned → Type 0
  Knows (Opener k) p t bs = (k ≡ made) × (j ≡ boss)
      × ((n : ℕ) (b : Returned) → get_elem? bs n ≡ some b → IsSeat b.number b.part b.trail)
  Knows (Steps w) p t bs = IsSeat w p t
      × ((n : ℕ) (b : Returned) → get_elem? bs n ≡ some b
      → IsSeat b.number b.part b.trail × (b.number ≢ w))
  Knows Spent p t bs = Unit {0}

-- A view tells the sizes, but for a spent one.
abbrev pub SizedAs : PathSize → Role → PathSize → Type 0
SizedAs size Spent z = Unit {0}
SizedAs size (Steps w) z = z ≡ size
SizedAs size (Opener k) z = z ≡ size

abbrev pub IsSized : PathSize → View → Type 0
IsSized size v = SizedAs size v.role v.size

-- A step of a kind that is built: the log is stopped only with a count of faults that has risen, a
-- marker is claimed only while the log runs, and so is a group of the append order made, where a
-- marker of the seat wants a barrier. One of the write order is made where a final memtable of a
-- table whose turn the seat holds has no barrier.
abbrev pub IsBuilt : ℕ → PathState → Event → Type 0
IsBuilt opened x (Put by Synced value) = Unit {0}
IsBuilt opened x (Put by Stopped value) = HasRisen opened value
IsBuilt opened x (OpenGroup by Append group) = WantsBarrier Append x by × (x.stopped ≡ 0)
IsBuilt opened x (OpenGroup by Write group) = WantsBarrier Write x by
IsBuilt opened x (Claim by from to Marker) = x.stopped ≡ 0
IsBuilt opened x _ = Unit {0}

-- each of these steps was
abbrev pub AreBuilt : (opened : ℕ) (x : PathState) (events : List Event) (y : PathState)
    → Past x events y → Type 0
AreBuilt opened x [] y run = Unit {0}
AreBuilt opened x (e ∷ es) y run =
    IsBuilt opened run.0 e × AreBuilt opened x es run.0 run.1

-- The numbers of all groups and memtables that were made fit their words.
pub record HasRows (x : PathState) : Type 0 where
  pub groups : (o : Order) → length (groups_of x o).tallies ≤ numbers_end
  pub memtables : (t : ℕ) → length (table_of x t).memtables ≤ numbers_end
  pub all : made_below 16 x ≤ most_memtables

-- The rule. It has no law of its own: the law of the machine holds in each state that a run leads
-- to.
pub record Ruled {K : Type 0} (shows : K → Lasting) (o : Beside) (size : PathSize)
    (s : State (Slot K) View) : Type 0 where
  -- the state of the machine, and the steps that led to it, the newest first
  pub core : PathState
  pub events : List Event
  -- which seat of the table makes the steps of which seat of the machine
  pub owner : ℕ → ℕ
  -- how many seats were handed out, and which seat of the table hands them out
  pub made : ℕ
  pub boss : ℕ
  pub run : Past (start_of size) events core
  pub built : AreBuilt size.at_open (start_of size) events core run
  pub fit : IsFit size
  pub wide : length s.words ≡ word_rows
  pub rows : HasRows core
  -- no seat has issued more barriers than it may
  pub few : (w : ℕ) → issues_of (steps_by w events) ≤ most_issued
  -- and it has issued one for each memtable that it made, but for the last
  pub paid : (w : ℕ) → opens_of (steps_by w events) ≤ issues_of (steps_by w events) + 1
  pub long : length core.seats ≡ size.seats
  pub enough : made ≤ size.seats
  -- each word shows what the machine reads at the place that it is of
  pub words : (at : Place) → IsShown core at
      → slice_index s.words (word_at at) ≡ word_for at (reading core at)
  -- seats that were not handed out have made no step
  pub fresh : (w : ℕ) → made ≤ w → (steps_by w events ≡ []) × (seat_of core w ≡ fresh_seat)
  pub deep : length s.homes ≡ all_boxes size.seats
  -- up to which key a refused sync may have kept entries
  pub kept_to : ℕ
  pub may_be_kept : MayBeKept core kept_to
  -- what the keeper has filed and dropped
  pub filed : Filed
  pub dropped : List ℕ
  pub filing : HasFiled o size core filed dropped
  -- and nothing before the first step
  pub unstepped : events ≡ [] → (filed ≡ none_filed) × (dropped ≡ [])
  -- it has as many tables
  pub tabled : o.tables ≡ size.tables
  -- the boxes show the notes that are not yet lasting, and the keeper what is
  pub boxed : Boxed shows size.seats core.notes (shown o size.at_open kept_to filed dropped core)
      core.claims core.append s.homes s.views
  -- those of memtables hold what was placed
  pub memtables : HasMemtables size.seats core.notes core.placed core.tables s.homes s.views
  -- what holders of Flush turns have read of them was placed there
  pub reads : (j : ℕ) (v : View) → get_elem? s.views j ≡ some v
      → ReadsAs size.seats core v.part v.hands v.role
  -- a stopped log tells a count of faults that has risen since the keeper was opened
  pub risen : 0 < core.stopped → HasRisen size.at_open core.stopped
  -- each view shows its seat's part and steps
  pub each_seat : (j : ℕ) (v : View) → get_elem? s.views j ≡ some v
      → IsSized size v × Knows core events owner made boss j v.role v.part v.trail v.returned
  -- and tells what is so of the state
  pub tells : (j : ℕ) (v : View) → get_elem? s.views j ≡ some v → ViewTells size.capacity core v

-- There is a lawful state that the seat's steps fit: a run leads there in which its own steps are
-- those of its trail, and the step e is allowed there. Others may fit them too, and which one the
-- seat stepped in is not said.
pub record Was (v : View) (w : ℕ) (e : Event) : Type 0 where
  pub core : PathState
  pub events : List Event
  pub fit : IsFit v.size
  pub run : Past (start_of v.size) events core
  pub lawful : IsLawfulPath core
  pub allowed : IsStep core e
  pub whole : CarriesWhole e
  pub mine : map event_of v.trail ≡ steps_by w events
  pub part : v.part ≡ seat_of core w
  pub rows : HasRows core
  pub risen : 0 < core.stopped → HasRisen v.size.at_open core.stopped
  -- its steps tell the state
  pub tells : TrailTells v.size.capacity core v.trail
