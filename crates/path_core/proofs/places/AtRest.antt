-- What rests once a barrier is passed, and which groups and memtables a step makes anew.
use Rattle.std.proofs.Common.{◌≡◌, ℕ, suc, length, Some, sym, ◌∙◌, arith}
use mathlib.Core.Logic.{dite, inl, inr}
use native.Mathlib.Decide.{ℕ_discrete}
use Rattle.clog_base.specs.declared.cell.Table.{Table}
use Rattle.op_core.specs.declared.count.Order.{Order}
use Rattle.op_core.specs.Tallies.{IsPassed}
use Rattle.path_core.specs.declared.event.Event.{Event}
use Rattle.path_core.specs.declared.event.Event.TheVariants.{OpenGroup, Switch}
use Rattle.path_core.specs.declared.event.SwitchPart.TheVariants.{Open}
use Rattle.path_core.specs.declared.seat.Issue.TheVariants.{Rest}
use Rattle.path_core.specs.declared.state.PathState.{PathState}
use Rattle.path_core.specs.Parts.{groups_of, seat_of, table_of, group_in, HasPassedBarrier}
use Rattle.path_core.specs.Words.{by_of}
use Rattle.path_core.specs.Allowed.{IsStep}
use Rattle.path_core.specs.Lawful.{IsSized, IsLawfulPlacing}
use Rattle.path_core.specs.LawfulOrders.{IsOrderly}
use Rattle.path_core.specs.LawfulTables.{SwitchesAre}
use Rattle.path_core.specs.Promises.{NoneRuns, LeavesPlaced}
use Rattle.path_core.proofs.orders.NobodyAbove.{inhabited, nobody_above}
use Rattle.path_core.proofs.tables.TableBounds.{final_at}
use Rattle.path_core.proofs.orders.HeldTurns.{issue_is_held, issue_known}
use Rattle.path_core.proofs.orders.OtherSteps.{made_at_rest}
use Rattle.path_core.proofs.places.KeepsLater.{passed_above}
use Rattle.path_core.proofs.places.KeepsPlaces.{placed_stays}
use Rattle.path_core.proofs.places.Closing.{placed_was, own_at, own_place}

module _ (x : PathState) (Z : IsLawfulPlacing x) (t m : ℕ) (B : HasPassedBarrier x t m) where
  -- No running write has its place in a memtable whose barrier is passed.
  pub none_runs : NoneRuns x t m
  none_runs w place =
      let f = final_at _ ((Z.core.switches.tables t).barrier_means_final m B.group B.issued) in
      let O = own_at x Z w t m place in
      let above = passed_above x Z.core Z.places t m f.0 f.1 B w O.range O.claim O.touched in
      let A = (Z.places.tries w t).accepted m O.range place O.claim in
      let low = A.lets_in.final f.0 f.1 in
      absurd (omega arith)

  -- So no step changes what is placed there.
  pub leaves_placed : (e : Event) → LeavesPlaced x e t m
  leaves_placed e entry = (
    (λ h. elim (placed_was x e _ h) [
      | inl old ↦ old
      | inr now ↦ absurd (none_runs (by_of e) (own_place x Z (by_of e) _ now).place)
    ]),
    (λ h. placed_stays x Z.core Z.places e _ h),
  )

module _ (x : PathState) (sized : IsSized x) (O : IsOrderly x) where
  -- Once the barrier of the group before the current one is passed, each running operation is in
  -- the current one.
  pub in_current : (o : Order) (g w h : ℕ) → IsPassed (groups_of x o).tallies g
      → suc g ≡ (groups_of x o).current → group_in o (seat_of x w) ≡ Some h
      → h ≡ (groups_of x o).current
  in_current o g w h passed next is = dite (ℕ_discrete h (groups_of x o).current) (λ e. e)
      (λ n. absurd (inhabited x O o w h is (passed.finished h
      (let up = nobody_above x O o w h is in omega arith))))

  -- A group that is opened was not made.
  pub opens_new : (by : ℕ) (o : Order) (g : ℕ) → IsStep x (OpenGroup by o g)
      → g ≡ length (groups_of x o).tallies
  opens_new by o g a =
      let held = issue_is_held (seat_of x by) Rest a.row.1 a.row.0 in
      let rest = sym (issue_known O.issue x.seats O.one_holder_a_turn by Rest held) in
      a.row.2 ∙ sym (made_at_rest x sized O o rest)

-- So was a memtable.
pub opens_new_memtable : (x : PathState) → SwitchesAre x → (by : ℕ) (table : Table) (m : ℕ)
    → IsStep x (Switch by table m Open) → m ≡ length (table_of x table.0).memtables
opens_new_memtable x W by table m a = a.row.2 ∙ sym (W.tables table.0).bounds_rise.made
