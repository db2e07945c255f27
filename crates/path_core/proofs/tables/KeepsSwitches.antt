-- Memtables and what holders of turns have marked: each allowed step keeps it.
use Rattle.std.proofs.Common.{◌≡◌, ℕ, Some, sym, ap, ◌∙◌, subst, arith}
use Rattle.std.specs.Option.{option_map}
use Rattle.std.proofs.lemmas.Option.{same_Some}
use Rattle.std.proofs.Math.ListN.{get_or-map as get_or-map_default}
use Rattle.op_core.specs.declared.count.Order.TheVariants.{Write, Append}
use Rattle.path_core.specs.declared.event.ClaimKind.TheVariants.{Entry, Marker}
use Rattle.path_core.specs.declared.event.Cursor.TheVariants.{Synced, OldestLive, Stopped}
use Rattle.path_core.specs.declared.event.Event.{Event}
use Rattle.path_core.specs.declared.event.Event.TheVariants.{
  Look,
  MoveCurrent,
  Claim,
  Switch,
  Raise,
  Finalise,
  TakeTurn,
  GiveTurn,
  Put,
}
use Rattle.path_core.specs.declared.event.Place.TheVariants.{Log}
use Rattle.path_core.specs.declared.event.SwitchPart.TheVariants.{Clear, Open, Mark}
use Rattle.path_core.specs.declared.event.Turn.TheVariants.{Flush}
use Rattle.path_core.specs.declared.state.PathState.{PathState}
use Rattle.path_core.specs.Parts.{untouched, seat_of, seat_table, marked_of, table_of}
use Rattle.path_core.specs.SeatParts.{log_found}
use Rattle.path_core.specs.Next.{next_of}
use Rattle.path_core.specs.declared.seat.Marked.{Marked}
use Rattle.path_core.specs.Allowed.{IsStep}
use Rattle.path_core.specs.Lawful.{IsSized}
use Rattle.path_core.specs.LawfulLog.{ClaimsTile, OwnClaims}
use Rattle.path_core.specs.LawfulOrders.{IsOrderly}
use Rattle.path_core.specs.LawfulTables.{MarkedIsRaising, SwitchesAre}
use Rattle.path_core.proofs.seats.Columns.{each_seat, own_after}
use Rattle.path_core.proofs.log.LogGrows.{log_grows}
use Rattle.path_core.proofs.tables.WithBarriers.{barred_at}
use Rattle.path_core.proofs.tables.Marks.{marked_at, marked_changed, mapped_some, key_found_marked}
use Rattle.path_core.proofs.tables.Marked.{grown, retired_marked, barred_marked}
use Rattle.path_core.proofs.tables.KeepsMemtables.{keeps_tables}
use Rattle.path_core.proofs.tables.MarkStays.{Marks, marks_stay, at_table_set}
use Rattle.path_core.proofs.tables.MarkSteps.{marks, raises, opens, finalises, takes_flush, gives}

module _ (x : PathState) (sized : IsSized x) (T : ClaimsTile x) (O : IsOrderly x)
    (owned : OwnClaims x) (W : SwitchesAre x) where
  keeps_marks : (e : Event) → IsStep x e → (t w : ℕ) → Marks x e t (seat_of (next_of x e) w)
  keeps_marks (Claim by from to Entry) a t = marks_stay x W (Claim by from to Entry) a (λ b. b) t
      (λ w k h M. grown x.log to.0 (table_of x t) k
      (log_grows x sized T (Claim by from to Entry) a) M)
  keeps_marks (Claim by from to Marker) a t = marks_stay x W (Claim by from to Marker) a (λ b. b) t
      (λ w k h M. grown x.log to.0 (table_of x t) k
      (log_grows x sized T (Claim by from to Marker) a) M)
  keeps_marks (MoveCurrent by Write group) a t = marks_stay x W (MoveCurrent by Write group) a
      (λ b. b) t
      (λ w k h M. barred_at x.write.current (seat_of x by).tables x.tables
      (λ tb. MarkedIsRaising x.log tb k) t M (barred_marked x.log x.write.current
      (table_of x t) k M))
  keeps_marks (MoveCurrent by Append group) a t =
      marks_stay x W (MoveCurrent by Append group) a (λ b. b) t (λ w k h M. M)
  keeps_marks (Switch by table m Clear) a t = marks_stay x W (Switch by table m Clear) a (λ b. b) t
      (λ w k h M. M)
  keeps_marks (Switch by table m Open) a t = opens x sized O W by table m a t
  keeps_marks (Put by Synced value) a t = marks_stay x W (Put by Synced value) a (λ b. b) t
      (λ w k h M. M)
  keeps_marks (Put by (OldestLive table) value) a t =
      marks_stay x W (Put by (OldestLive table) value) a (λ b. b) t
      (λ w k h M. at_table_set x table.0 _ a.is_there t (λ tb. MarkedIsRaising x.log tb k)
      (λ e. retired_marked x.log value (table_of x table.0) k
      (subst (λ u. MarkedIsRaising x.log (table_of x u) k) e M)) (λ _. M))
  keeps_marks (Put by Stopped value) a t = marks_stay x W (Put by Stopped value) a (λ b. b) t
      (λ w k h M. M)
  keeps_marks (Look by Log) a t = each_seat x (Look by Log) a.seat
      (λ _ s. Marks x (Look by Log) t s)
      (λ k h. let r = mapped_some (marked_of (seat_of x by) t) (λ
      (j : Marked). record j { key = Some x.log })
      k (sym found ∙ h) in
      subst (λ j. MarkedIsRaising x.log (table_of x t) j) (sym r.2)
      (finds (W.marked by t r.0 r.1)))
      (λ w _ k h. W.marked w t k h)
    where
      found : marked_of (own_after x (Look by Log)) t
          ≡ option_map (λ (j : Marked). record j { key = Some x.log }) (marked_of (seat_of x by) t)
      found = ap marked_at (get_or-map_default (log_found x.log) (seat_of x by).tables t untouched)
          ∙ marked_changed (seat_table (seat_of x by) t).flush _ _
          (λ turn. key_found_marked x.log turn.stage)

      finds : {k : Marked} → MarkedIsRaising x.log (table_of x t) k
          → MarkedIsRaising x.log (table_of x t) (record k { key = Some x.log })
      finds M = record {
        below_newest = M.below_newest;
        bound = M.bound;
        raising = M.raising;
        mark = M.mark;
        marked = M.marked;
        fresh = λ key e. let same : x.log ≡ key = same_Some x.log key e in
            let V = (W.tables t).mark_key_in_range _ M.bound M.raising in
            let k : V.key ≡ M.mark = same_Some V.key M.mark (sym V.mark ∙ M.marked) in
            let l = V.below_log in (omega arith, omega arith);
        raised = M.raised;
      }
  keeps_marks (Switch by table m Mark) a t = marks x sized O W by table m a t
  keeps_marks (Raise by table m to) a t = raises x sized O W by table m to a t
  keeps_marks (Finalise by table m) a t = finalises x sized O W by table m a t
  keeps_marks (TakeTurn by (Flush table)) a t = takes_flush x sized O W by table a t
  keeps_marks (GiveTurn by (Flush table)) a t = gives x sized O W by table a t
  keeps_marks e a t = marks_stay x W e a (λ b. b) t (λ w k h M. M)

  pub keeps_switches : (e : Event) → IsStep x e → SwitchesAre (next_of x e)
  keeps_switches e a = record {
    tables = keeps_tables x sized T O owned W e a;
    marked = λ w t k h. keeps_marks e a t w k h;
  }
