-- What a step leaves of a table for the stage of its switch.
use Rattle.std.proofs.Common.{◌≡◌, ℕ, ◌⊎◌, Option, Some, None, IsSome, refl, sym, ◌∙◌, subst}
use Rattle.std.specs.Option.{option_map}
use Rattle.std.proofs.lemmas.Option.{none-some, same_Some}
use mathlib.Core.Logic.{inl, inr}
use Rattle.op_core.specs.declared.count.Order.TheVariants.{Write, Append}
use Rattle.path_core.specs.declared.event.Cursor.TheVariants.{Synced, OldestLive, Stopped}
use Rattle.path_core.specs.declared.event.Event.{Event}
use Rattle.path_core.specs.declared.event.Event.TheVariants.{
  MoveCurrent,
  Switch,
  Raise,
  Finalise,
  Put,
}
use Rattle.path_core.specs.declared.event.SwitchPart.TheVariants.{Clear, Open, Mark}
use Rattle.path_core.specs.declared.seat.FlushTurn.{FlushTurn}
use Rattle.path_core.specs.declared.seat.Switching.{Switching}
use Rattle.path_core.specs.declared.seat.Switching.TheVariants.{
  Settled,
  Begun,
  Marked as MarkedStage,
  Waiting,
  WithBarrier,
}
use Rattle.path_core.specs.declared.state.PathState.{PathState}
use Rattle.path_core.specs.Parts.{fresh_table, seat_of, seat_table, table_of}
use Rattle.path_core.specs.Words.{by_of}
use Rattle.path_core.specs.Allowed.{IsStep, IsSettled}
use Rattle.path_core.specs.SeatAfter.{raised_stage}
use Rattle.path_core.specs.SeatParts.{key_found}
use Rattle.path_core.specs.Next.{next_of}
use Rattle.path_core.specs.Lawful.{IsLawfulCore}
use Rattle.path_core.specs.LawfulSeats.{IsBegun, IsWaiting, HasBarrier}
use Rattle.path_core.proofs.lists.Replaced.{put_at}
use Rattle.path_core.proofs.tables.StageLeft.{ChangesStage}
use Rattle.path_core.proofs.orders.KeepsSwitchHolders.{settled_stays}
use Rattle.path_core.proofs.seats.KnownMoves.{marked_held}
use Rattle.path_core.proofs.tables.SwitchLeft.{
  barred_unless_held,
  TableStands,
  stands_itself,
  raised_stands,
}

-- The stage but for what is marked, which is kept with the switches.
abbrev pub Stands : PathState → ℕ → Switching → Type 0
Stands x t Settled = IsSettled x t
Stands x t (Begun m) = IsBegun (table_of x t) m
Stands x t (MarkedStage k) = Unit {0}
Stands x t (Waiting m) = IsWaiting (table_of x t) m
Stands x t (WithBarrier m group) = HasBarrier (table_of x t) m group

abbrev pub Staged : PathState → ℕ → Option Switching → Type 0
Staged x t o = (stage : Switching) → o ≡ Some stage → Stands x t stage

-- a log key that is found, and a raise, change nothing of it
pub key_stands : (x : PathState) (t n : ℕ) (stage : Switching) → Stands x t stage
    → Stands x t (key_found n stage)
key_stands x t n Settled S = S
key_stands x t n (Begun m) S = S
key_stands x t n (MarkedStage k) S = tt
key_stands x t n (Waiting m) S = S
key_stands x t n (WithBarrier m group) S = S

pub raise_stands : (x : PathState) (t m to : ℕ) (stage : Switching) → Stands x t stage
    → Stands x t (raised_stage m to stage)
raise_stands x t m to Settled S = S
raise_stands x t m to (Begun n) S = S
raise_stands x t m to (MarkedStage k) S = tt
raise_stands x t m to (Waiting n) S = S
raise_stands x t m to (WithBarrier n group) S = S

-- the stage of a turn that changes
pub staged_mapped : (x : PathState) (t : ℕ) (o : Option FlushTurn) (f : FlushTurn → FlushTurn)
    (g : Switching → Switching) → ((turn : FlushTurn) → (f turn).stage ≡ g turn.stage)
    → ((stage : Switching) → option_map (λ (turn : FlushTurn). turn.stage) o ≡ Some stage
    → Stands x t (g stage)) → Staged x t (option_map (λ (turn : FlushTurn). turn.stage)
    (option_map f o))
staged_mapped x t None f g is known stage e = absurd (none-some stage e)
staged_mapped x t (Some turn) f g is known stage e =
    subst (Stands x t) (sym (is turn) ∙ same_Some _ stage e) (known turn.stage refl)

-- a turn whose stage is known is held
pub staged_held : (o : Option FlushTurn) (stage : Switching)
    → option_map (λ (turn : FlushTurn). turn.stage) o ≡ Some stage → IsSome o
staged_held None stage e = absurd (none-some stage e)
staged_held (Some turn) stage e = refl

module _ (x : PathState) (C : IsLawfulCore x) where
  -- where a table stands, so does the stage of its switch
  pub stage_stands : (e : Event) → IsStep x e → (t : ℕ)
      → TableStands (table_of x t) (table_of (next_of x e) t) → (stage : Switching)
      → Stands x t stage → Stands (next_of x e) t stage
  stage_stands e a t T Settled S = settled_stays x C.log.sized C.log.orders e a t T.newest S
  stage_stands e a t T (Begun m) S = record {
    newest = S.newest ∙ sym T.newest;
    below = S.below;
    before = S.before;
    live = T.live S.below S.live;
  }
  stage_stands e a t T (MarkedStage k) S = tt
  stage_stands e a t T (Waiting m) S = record {
    below_newest = S.below_newest ∙ sym T.newest;
    final = T.final m S.final;
    no_barrier = T.barrier m ∙ S.no_barrier;
  }
  stage_stands e a t T (WithBarrier m group) S = record {
    below_newest = S.below_newest ∙ sym T.newest;
    issued = T.barrier m ∙ S.issued;
  }

  -- a step of no switch leaves each table
  pub quiet_stands : (e : Event) → IsStep x e → (ChangesStage e → ⊥) → (t : ℕ)
      → TableStands (table_of x t) (table_of (next_of x e) t)
  quiet_stands (Put by (OldestLive table) value) a other t =
      put_at x.tables table.0 _ fresh_table a.is_there (λ u tb. TableStands (table_of x u) tb)
      (record {
        newest = refl;
        live = λ m h. h;
        final = λ m h. h;
        barrier = λ m. refl;
      }) (λ u _. stands_itself (table_of x u)) t
  quiet_stands (Put by Synced value) a other t = stands_itself (table_of x t)
  quiet_stands (Put by Stopped value) a other t = stands_itself (table_of x t)
  quiet_stands (MoveCurrent by Write group) a other t = absurd (other tt)
  quiet_stands (MoveCurrent by Append group) a other t = stands_itself (table_of x t)
  quiet_stands (Switch by table m Clear) a other t = stands_itself (table_of x t)
  quiet_stands (Switch by table m Open) a other t = absurd (other tt)
  quiet_stands (Switch by table m Mark) a other t = absurd (other tt)
  quiet_stands (Raise by table m to) a other t = absurd (other tt)
  quiet_stands (Finalise by table m) a other t = absurd (other tt)
  quiet_stands e a other t = stands_itself (table_of x t)

  -- each table stands, or the holder of its turn acts
  pub table_stands : (e : Event) → IsStep x e → (t : ℕ)
      → TableStands (table_of x t) (table_of (next_of x e) t)
      ⊎ IsSome (seat_table (seat_of x (by_of e)) t).flush
  table_stands (MoveCurrent by Write group) a t = barred_unless_held x.write.current
      (seat_of x by).tables x.tables (TableStands (table_of x t)) t (stands_itself (table_of x t))
  table_stands (Switch by table m Clear) a t = inl (stands_itself (table_of x t))
  table_stands (Switch by table m Open) a t = put_at x.tables table.0 _ fresh_table a.is_there
      (λ u tb. TableStands (table_of x u) tb ⊎ IsSome (seat_table (seat_of x by) u).flush)
      (inr a.row.0) (λ u _. inl (stands_itself (table_of x u))) t
  table_stands (Switch by table m Mark) a t = put_at x.tables table.0 _ fresh_table a.is_there.0
      (λ u tb. TableStands (table_of x u) tb ⊎ IsSome (seat_table (seat_of x by) u).flush)
      (inr a.row.0) (λ u _. inl (stands_itself (table_of x u))) t
  table_stands (Raise by table m to) a t = inl
      (put_at x.tables table.0 _ fresh_table a.is_there.0 (λ u tb. TableStands (table_of x u) tb)
      (raised_stands (table_of x table.0) m to.0 a.is_there.1)
      (λ u _. stands_itself (table_of x u)) t)
  table_stands (Finalise by table m) a t = put_at x.tables table.0 _ fresh_table a.is_there.0
      (λ u tb. TableStands (table_of x u) tb ⊎ IsSome (seat_table (seat_of x by) u).flush)
      (inr (marked_held (seat_table (seat_of x by) table.0).flush _ a.row.marked))
      (λ u _. inl (stands_itself (table_of x u))) t
  table_stands (Put by cursor value) a t = inl (quiet_stands (Put by cursor value) a (λ b. b) t)
  table_stands (MoveCurrent by Append group) a t = inl (stands_itself (table_of x t))
  table_stands e a t = inl (stands_itself (table_of x t))
