-- Seats with equal parts get equal answers.
use Rattle.std.proofs.Common.{◌≡◌, ℕ, suc, Some, IsSome, sym, ap, ◌∙◌, subst}
use Rattle.std.specs.Prelude.{◌↔◌}
use Rattle.op_core.specs.declared.count.Order.TheVariants.{Write}
use Rattle.path_core.specs.declared.seat.Seat.{Seat}
use Rattle.path_core.specs.declared.state.PathState.{PathState}
use Rattle.path_core.specs.Parts.{seat_of, seat_table, table_of, stage_of, HasPassedBarrier}
use Rattle.path_core.specs.Allowed.{IsSettled, WantsBarrier}
use Rattle.path_core.specs.Lawful.{IsLawfulPath}
use Rattle.path_core.specs.Holders.{IsThrough, HasWaiting}
use Rattle.path_core.proofs.tables.StageTells.{held_stage, through_by_stage, retires_by_stage}
use Rattle.path_core.proofs.tables.BarrierTells.{wanted_by_stage}

pub equal_wanted : (x y : PathState) (v w : ℕ) → IsLawfulPath x → IsLawfulPath y
    → seat_of x v ≡ seat_of y w → WantsBarrier Write x v ↔ WantsBarrier Write y w
equal_wanted x y v w L M same =
    let here = wanted_by_stage x L v in
    let there = wanted_by_stage y M w in (
      (λ h. there.1 (subst HasWaiting same (here.0 h))),
      (λ h. here.1 (subst HasWaiting (sym same) (there.0 h))),
    )

pub equal_through : (x y : PathState) (v w t : ℕ) → IsLawfulPath x → IsLawfulPath y
    → seat_of x v ≡ seat_of y w → x.write.tallies ≡ y.write.tallies
    → IsSome (seat_table (seat_of x v) t).flush → IsSettled x t ↔ IsSettled y t
equal_through x y v w t L M same tallies held =
    let stage = held_stage (seat_table (seat_of x v) t).flush held in
    let here = through_by_stage x L v t stage.0 stage.1 in
    let there = through_by_stage y M w t stage.0
    (subst (λ (s : Seat). stage_of s t ≡ Some stage.0) same stage.1) in (
      (λ h. there.1 (subst (λ ts. IsThrough ts stage.0) tallies (here.0 h))),
      (λ h. here.1 (subst (λ ts. IsThrough ts stage.0) (sym tallies) (there.0 h))),
    )

pub equal_retires : (x y : PathState) (v w t : ℕ) → IsLawfulPath x → IsLawfulPath y
    → seat_of x v ≡ seat_of y w → x.write.tallies ≡ y.write.tallies
    → (table_of x t).newest ≡ (table_of y t).newest
    → (table_of x t).oldest_live ≡ (table_of y t).oldest_live
    → IsSome (seat_table (seat_of x v) t).flush
    → HasPassedBarrier x t (table_of x t).oldest_live
    ↔ HasPassedBarrier y t (table_of y t).oldest_live
equal_retires x y v w t L M same tallies newest oldest held =
    let stage = held_stage (seat_table (seat_of x v) t).flush held in
    let here = retires_by_stage x L v t stage.0 stage.1 in
    let there = retires_by_stage y M w t stage.0
    (subst (λ (s : Seat). stage_of s t ≡ Some stage.0) same stage.1) in (
      (λ h. there.1 (let may = here.0 h in record {
        below_newest = sym (ap suc oldest) ∙ (may.below_newest ∙ newest);
        through = subst (λ ts. IsThrough ts stage.0) tallies may.through;
      })),
      (λ h. here.1 (let may = there.0 h in record {
        below_newest = ap suc oldest ∙ (may.below_newest ∙ sym newest);
        through = subst (λ ts. IsThrough ts stage.0) (sym tallies) may.through;
      })),
    )
