-- How far the holder of a table's turn has got with a switch, and what it has marked: which steps
-- change them.
use Rattle.std.proofs.Common.{◌≡◌, ℕ, ◌==◌, ◌&&◌, ◌||◌, Option, Some, None, refl, sym, ap, ◌∙◌}
use Rattle.std.specs.Option.{option_map, option_and_then}
use Rattle.std.proofs.lemmas.Option.{none-some, same_Some}
use Rattle.std.proofs.Math.ListN.{get_or-map as get_or-map_default}
use Rattle.op_core.specs.declared.count.Order.TheVariants.{Write}
use Rattle.path_core.specs.declared.event.Event.{Event}
use Rattle.path_core.specs.declared.event.Event.TheVariants.{
  Look,
  MoveCurrent,
  Switch,
  Raise,
  Finalise,
  TakeTurn,
  GiveTurn,
}
use Rattle.path_core.specs.declared.event.Place.TheVariants.{Log}
use Rattle.path_core.specs.declared.event.Reading.{Reading}
use Rattle.path_core.specs.declared.event.SwitchPart.TheVariants.{Open, Mark}
use Rattle.path_core.specs.declared.event.Turn.TheVariants.{Flush}
use Rattle.path_core.specs.declared.seat.FlushTurn.{FlushTurn}
use Rattle.path_core.specs.declared.seat.Seat.{Seat}
use Rattle.path_core.specs.declared.seat.SeatTable.{SeatTable}
use Rattle.path_core.specs.declared.seat.Switching.{Switching}
use Rattle.path_core.specs.declared.seat.Switching.TheVariants.{
  Settled,
  Begun,
  Marked as MarkedStage,
  Waiting,
  WithBarrier,
}
use Rattle.path_core.specs.Parts.{untouched, seat_table, is_at, marked_in, marked_of, stage_of}
use Rattle.path_core.specs.SeatAfter.{Told, seat_after, number_read, raised_stage}
use Rattle.path_core.specs.SeatParts.{key_found, with_barrier, barrier_issued}
use Rattle.path_core.specs.declared.seat.Marked.{Marked}
use Rattle.path_core.proofs.tables.StageLeft.{ChangesStage, stages_left}

abbrev pub marked_at : SeatTable → Option Marked
marked_at st = option_and_then (λ (turn : FlushTurn). marked_in turn.stage) st.flush

-- a change of the turn that leaves what is marked
pub marked_same : (o : Option FlushTurn) (f : FlushTurn → FlushTurn)
    → ((turn : FlushTurn) → marked_in (f turn).stage ≡ marked_in turn.stage)
    → option_and_then (λ (turn : FlushTurn). marked_in turn.stage) (option_map f o)
    ≡ option_and_then (λ (turn : FlushTurn). marked_in turn.stage) o
marked_same None f same = refl
marked_same (Some turn) f same = same turn

-- a change of the turn that changes what is marked
pub marked_changed : (o : Option FlushTurn) (f : FlushTurn → FlushTurn) (g : Marked → Marked)
    → ((turn : FlushTurn) → marked_in (f turn).stage ≡ option_map g (marked_in turn.stage))
    → option_and_then (λ (turn : FlushTurn). marked_in turn.stage) (option_map f o)
    ≡ option_map g (option_and_then (λ (turn : FlushTurn). marked_in turn.stage) o)
marked_changed None f g same = refl
marked_changed (Some turn) f g same = same turn

pub mapped_some : {A : Type 0} (o : Option A) (g : A → A) (b : A) → option_map g o ≡ Some b
    → (a : A) × (o ≡ Some a) × (b ≡ g a)
mapped_some None g b e = absurd (none-some b e)
mapped_some (Some a) g b e = (a, refl, sym (same_Some (g a) b e))

-- What is marked at a stage, after a log key was found, a raise, and an issue of barriers.

pub key_found_marked : (n : ℕ) (stage : Switching) → marked_in (key_found n stage)
    ≡ option_map (λ (k : Marked). record k { key = Some n }) (marked_in stage)
key_found_marked n Settled = refl
key_found_marked n (Begun m) = refl
key_found_marked n (MarkedStage k) = refl
key_found_marked n (Waiting m) = refl
key_found_marked n (WithBarrier m group) = refl

pub raised_marked_stage : (m to : ℕ) (stage : Switching) → marked_in (raised_stage m to stage)
    ≡ option_map (λ (k : Marked). record k {
      raised = k.raised || ((k.memtable == m) && is_at k.key to);
    }) (marked_in stage)
raised_marked_stage m to Settled = refl
raised_marked_stage m to (Begun n) = refl
raised_marked_stage m to (MarkedStage k) = refl
raised_marked_stage m to (Waiting n) = refl
raised_marked_stage m to (WithBarrier n group) = refl

barrier_marked : (group : ℕ) (stage : Switching) → marked_in (with_barrier group stage)
    ≡ marked_in stage
barrier_marked group Settled = refl
barrier_marked group (Begun m) = refl
barrier_marked group (MarkedStage k) = refl
barrier_marked group (Waiting m) = refl
barrier_marked group (WithBarrier m g) = refl

-- What is marked is told by the stage.
pub mark_of_stage : (s : Seat) (t : ℕ) → marked_of s t ≡ option_and_then marked_in (stage_of s t)
mark_of_stage s t = by (seat_table s t).flush
  where
    by : (o : Option FlushTurn) → option_and_then (λ (turn : FlushTurn). marked_in turn.stage) o
        ≡ option_and_then marked_in (option_map (λ (turn : FlushTurn). turn.stage) o)
    by None = refl
    by (Some turn) = refl

-- Steps that may change what is marked.
abbrev pub ChangesMark : Event → Type 0
ChangesMark (Look by Log) = Unit {0}
ChangesMark (Switch by table memtable Open) = Unit {0}
ChangesMark (Switch by table memtable Mark) = Unit {0}
ChangesMark (Raise by table memtable to) = Unit {0}
ChangesMark (Finalise by table memtable) = Unit {0}
ChangesMark (TakeTurn by (Flush table)) = Unit {0}
ChangesMark (GiveTurn by (Flush table)) = Unit {0}
ChangesMark _ = ⊥

-- where the stage stays, so does what is marked
kept : (e : Event) (s : Seat) (found : Reading) (told : Told) (u : ℕ) → (ChangesStage e → ⊥)
    → marked_of (seat_after s e found told) u ≡ marked_of s u
kept e s found told u other = mark_of_stage (seat_after s e found told) u
    ∙ (ap (option_and_then marked_in) (stages_left e s found told u other)
    ∙ sym (mark_of_stage s u))

-- what is marked stays
pub marks_left : (e : Event) (s : Seat) (found : Reading) (told : Told) (u : ℕ)
    → (ChangesMark e → ⊥) → marked_of (seat_after s e found told) u ≡ marked_of s u
marks_left (MoveCurrent by Write group) s found told u other =
    ap marked_at (get_or-map_default (barrier_issued (number_read found)) s.tables u untouched)
    ∙ marked_same (seat_table s u).flush _ (λ turn. barrier_marked (number_read found) turn.stage)
marks_left (Look by Log) s found told u other = absurd (other tt)
marks_left e s found told u other = kept e s found told u other
