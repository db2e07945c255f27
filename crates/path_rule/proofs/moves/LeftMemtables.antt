-- What the holder of a table's Flush turn knows of a memtable below the newest: it is final, and
-- its barrier is passed, also where an earlier holder left it.
use Rattle.std.proofs.Common.{◌≡◌, ℕ, Some, ⊎_elim, subst, arith}
use mathlib.Core.Option.{some}
use lib.ListN.{get_elem?}
use Rattle.atomic_table.specs.Table.{State, Me}
use Rattle.path_core.specs.declared.seat.Seat.{Seat}
use Rattle.path_core.specs.declared.seat.Switching.TheVariants.{Settled, WithBarrier}
use Rattle.path_core.specs.declared.state.PathState.{PathState}
use Rattle.path_core.specs.Allowed.{IsSettled}
use Rattle.path_core.specs.Lawful.{IsLawfulPath}
use Rattle.path_core.specs.Parts.{seat_of, stage_of, table_of, HasPassedBarrier}
use Rattle.path_core.proofs.tables.StageTells.{settled_at, stage_exact, through_by_stage}
use Rattle.path_rule.specs.declared.lasting.Beside.{Beside}
use Rattle.path_rule.specs.declared.lasting.Lasting.{Lasting}
use Rattle.path_rule.specs.declared.slot.Slot.{Slot}
use Rattle.path_rule.specs.declared.view.PathSize.{PathSize}
use Rattle.path_rule.specs.declared.view.Role.TheVariants.{Steps}
use Rattle.path_rule.specs.declared.view.View.{View}
use Rattle.path_rule.specs.Rule.{Ruled}
use Rattle.path_rule.specs.Switches.{FlushOldest, IsLeft, MayBeginRead}
use Rattle.path_rule.specs.Turns.{FoundPast}
use Rattle.path_rule.proofs.moves.Looks.{as_part}
use Rattle.path_rule.proofs.moves.Moving.{core_lawful}
use Rattle.path_rule.proofs.moves.SwitchSteps.{oldest_is, stage_now}
use Rattle.path_rule.proofs.moves.TableTurns.{past_is_passed}

module _ (x : PathState) (L : IsLawfulPath x) (w : ℕ) where
  -- the newest memtable, as the holder found it
  left_newest : (t m : ℕ) (left : IsLeft t (seat_of x w) m) → left.0 ≡ (table_of x t).newest
  left_newest t m left = let F = left.2 in
      ((L.seats_know w).flush t F.0 F.1).newest left.0 F.2

  left_settled : (t m : ℕ) → IsLeft t (seat_of x w) m → IsSettled x t
  left_settled t m left = (through_by_stage x L w t Settled left.1).1 tt

  -- the barrier of the least that is not retired is passed
  pub left_passed : (t m : ℕ) → IsLeft t (seat_of x w) m → m ≡ (table_of x t).oldest_live
      → HasPassedBarrier x t m
  left_passed t m left live = let top = left_newest t m left in let low = left.3 in
      let near = (L.switches.tables t).bounds_rise.one_behind in
      settled_at x L t m (omega arith) (left_settled t m left)

module _ {K : Type 0} (shows : K → Lasting) (o : Beside) (size : PathSize) (slots id : ℕ)
    (m : Me (Slot K) View) (w : ℕ) (mine : m.0.role ≡ Steps w) (s : State (Slot K) View)
    (r : Ruled shows o size s) (there : get_elem? s.views id ≡ some m.0) where
  -- no write is placed in what may be read
  pub begins_passed : (t k : ℕ) → MayBeginRead t m.0 k → FlushOldest t m.0.part k
      → HasPassedBarrier r.core t k
  begins_passed t k may oldest = let law = core_lawful shows o size s r in
      let is = as_part shows o size slots id m w mine s r there in ⊎_elim
      (λ (B : (g : ℕ) × (stage_of m.0.part t ≡ Some (WithBarrier k g))
      × FoundPast m.0.part g). record {
        group = B.0;
        issued = (stage_exact r.core law w t (WithBarrier k B.0)
            (stage_now shows o size slots id m w mine s r there t (WithBarrier k B.0) B.1)).issued;
        passed = past_is_passed r.core law w B.0 (subst (λ (p : Seat). FoundPast p B.0) is B.2);
      })
      (λ (left : IsLeft t m.0.part k). left_passed r.core law w t k
      (subst (λ (p : Seat). IsLeft t p k) is left)
      (oldest_is shows o size slots id m w mine s r there t k oldest)) may
