-- The numbers of tables and of seats stay.
use Rattle.std.proofs.Common.{
  ◌≡◌,
  ℕ,
  suc,
  List,
  [],
  ◌∷◌,
  length,
  refl,
  sym,
  ap,
  ◌∙◌,
  subst,
  length-set,
}
use Rattle.clog_base.specs.Sizes.{IsWithinLimits}
use Rattle.op_core.specs.declared.count.Order.TheVariants.{Write, Append}
use Rattle.path_core.specs.declared.event.Event.{Event}
use Rattle.path_core.specs.declared.event.Event.TheVariants.{
  MoveCurrent,
  Switch,
  Raise,
  Finalise,
  Put,
}
use Rattle.path_core.specs.declared.event.Cursor.TheVariants.{Synced, OldestLive, Stopped}
use Rattle.path_core.specs.declared.event.SwitchPart.TheVariants.{Clear, Open, Mark}
use Rattle.path_core.specs.declared.seat.SeatTable.{SeatTable}
use Rattle.path_core.specs.declared.state.PathState.{PathState}
use Rattle.path_core.specs.declared.state.TableState.{TableState}
use Rattle.path_core.specs.Parts.{seat_of}
use Rattle.path_core.specs.Words.{by_of}
use Rattle.path_core.specs.Allowed.{IsStep}
use Rattle.path_core.specs.Next.{next_of, barred_tables}
use Rattle.path_core.specs.Lawful.{IsSized}
use Rattle.path_core.specs.LawfulOrders.{IsOrderly}
use Rattle.path_core.proofs.seats.Columns.{each_seat, own_after}
use Rattle.path_core.proofs.orders.OtherSteps.{columns_of}

-- the number of tables stays

as_many_barred : (group : ℕ) (ss : List SeatTable) (ts : List TableState)
    → length (barred_tables group ss ts) ≡ length ts
as_many_barred group [] ts = refl
as_many_barred group (s ∷ ss) [] = refl
as_many_barred group (s ∷ ss) (t ∷ ts) = ap suc (as_many_barred group ss ts)

pub as_many_tables : (x : PathState) (e : Event) → length (next_of x e).tables ≡ length x.tables
as_many_tables x (MoveCurrent by Write group) =
    as_many_barred x.write.current (seat_of x by).tables x.tables
as_many_tables x (MoveCurrent by Append group) = refl
as_many_tables x (Switch by table memtable Clear) = refl
as_many_tables x (Switch by table memtable Open) = length-set x.tables table.0 _
as_many_tables x (Switch by table memtable Mark) = length-set x.tables table.0 _
as_many_tables x (Raise by table memtable to) = length-set x.tables table.0 _
as_many_tables x (Finalise by table memtable) = length-set x.tables table.0 _
as_many_tables x (Put by Synced value) = refl
as_many_tables x (Put by (OldestLive table) value) = length-set x.tables table.0 _
as_many_tables x (Put by Stopped value) = refl
as_many_tables x e = refl

pub as_many_seats : (x : PathState) (e : Event) → length (next_of x e).seats ≡ length x.seats
as_many_seats x e = length-set x.seats (by_of e) (own_after x e)

pub keeps_sizes : (x : PathState) → IsSized x → IsOrderly x → (e : Event) → IsStep x e
    → IsSized (next_of x e)
keeps_sizes x sized O e a = record {
  limits = subst (λ n. IsWithinLimits n (length (next_of x e).seats) x.capacity x.ordinals)
      (sym (as_many_tables x e)) (subst (λ n. IsWithinLimits
      (length x.tables) n x.capacity x.ordinals)
      (sym (as_many_seats x e)) sized.limits);
  seats = each_seat x e a.seat (λ _ s. length s.tables ≡ 16)
      ((columns_of x sized O e a.is_there).tables ∙ sized.seats (by_of e))
      (λ w _. sized.seats w);
}
