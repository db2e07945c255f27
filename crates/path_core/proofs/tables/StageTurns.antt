-- The stage of a switch where its table's turn is taken, or given back.
use Rattle.std.proofs.Common.{ℕ, Some, None, refl, sym, ◌∙◌, subst}
use Rattle.std.proofs.lemmas.Bool.{false≢true}
use Rattle.std.proofs.lemmas.Option.{none-some, same_Some}
use mathlib.Core.Logic.{inl, inr}
use Rattle.clog_base.specs.declared.cell.Table.{Table}
use Rattle.path_core.specs.declared.event.Event.{Event}
use Rattle.path_core.specs.declared.event.Event.TheVariants.{TakeTurn, GiveTurn}
use Rattle.path_core.specs.declared.event.Turn.TheVariants.{Flush}
use Rattle.path_core.specs.declared.seat.SeatTable.{SeatTable}
use Rattle.path_core.specs.declared.seat.Switching.TheVariants.{Settled}
use Rattle.path_core.specs.declared.state.PathState.{PathState}
use Rattle.path_core.specs.Parts.{stage_of}
use Rattle.path_core.specs.Allowed.{IsStep, IsSettled}
use Rattle.path_core.specs.SeatAfter.{new_flush}
use Rattle.path_core.specs.Next.{next_of}
use Rattle.path_core.specs.Lawful.{IsLawfulCore}
use Rattle.path_core.specs.LawfulOrders.{SwitchesHeld}
use Rattle.path_core.proofs.seats.Columns.{own_after}
use Rattle.path_core.proofs.orders.KeepsSwitchHolders.{settled_stays}
use Rattle.path_core.proofs.tables.StageStands.{Stands, Staged}
use Rattle.path_core.proofs.tables.StageOwn.{Own, at_one}

module _ (x : PathState) (C : IsLawfulCore x) where
  -- The turn is taken: nobody held it, so the newest switch is through.
  pub takes : SwitchesHeld x → (by : ℕ) (table : Table) (a : IsStep x (TakeTurn by (Flush table)))
      → Own x C (TakeTurn by (Flush table)) → (t : ℕ)
      → Staged (next_of x (TakeTurn by (Flush table))) t
      (stage_of (own_after x (TakeTurn by (Flush table))) t)
  takes S by table a K = at_one x C e a table.0 a.is_there
      (λ (st : SeatTable). record st { flush = Some new_flush }) (λ t. refl) (λ t n. refl)
      (λ stage h. subst (Stands (next_of x e) table.0) (same_Some Settled stage h)
      (settled_stays x C.log.sized C.log.orders e a table.0 refl settled)) K
    where
      e : Event
      e = TakeTurn by (Flush table)

      settled : IsSettled x table.0
      settled = elim (S table.0 a.is_there) [
        | inl through ↦ through
        | inr held ↦ absurd (false≢true (sym (a.row.1 held.0) ∙ held.1))
      ]

  -- The turn is given back.
  pub gives : (by : ℕ) (table : Table) (a : IsStep x (GiveTurn by (Flush table)))
      → Own x C (GiveTurn by (Flush table)) → (t : ℕ)
      → Staged (next_of x (GiveTurn by (Flush table))) t
      (stage_of (own_after x (GiveTurn by (Flush table))) t)
  gives by table a K = at_one x C e a table.0 a.is_there
      (λ (st : SeatTable). record st { flush = None }) (λ t. refl) (λ t n. refl)
      (λ stage h. absurd (none-some stage h)) K
    where
      e : Event
      e = GiveTurn by (Flush table)
