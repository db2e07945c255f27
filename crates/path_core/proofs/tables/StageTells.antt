-- What the stage of a switch tells its holder: when the turn may be given back, when the oldest
-- live memtable may be retired, and when a barrier is wanted.
use Rattle.std.proofs.Common.{
  ◌≡◌,
  ℕ,
  suc,
  ◌-◌,
  true,
  Option,
  Some,
  None,
  IsSome,
  refl,
  sym,
  ◌∙◌,
  subst,
  arith,
}
use Rattle.std.specs.Prelude.{◌↔◌}
use Rattle.std.specs.Option.{option_map}
use Rattle.std.proofs.lemmas.Bool.{false≢true}
use Rattle.std.proofs.lemmas.Option.{none-some, same_Some}
use mathlib.Core.Logic.{dite}
use native.Mathlib.Decide.{ℕ_discrete}
use Rattle.op_core.specs.Tallies.{IsPassed}
use Rattle.path_core.specs.declared.seat.FlushTurn.{FlushTurn}
use Rattle.path_core.specs.declared.seat.Switching.{Switching}
use Rattle.path_core.specs.declared.seat.Switching.TheVariants.{
  Settled,
  Begun,
  Marked as MarkedStage,
  Waiting,
  WithBarrier,
}
use Rattle.path_core.specs.declared.state.Bound.{Bound}
use Rattle.path_core.specs.declared.state.Bound.TheVariants.{Live, Raising, Final}
use Rattle.path_core.specs.declared.state.PathState.{PathState}
use Rattle.path_core.specs.Parts.{
  seat_of,
  seat_table,
  table_of,
  memtable_of,
  stage_of,
  is_final,
  IsFinal,
  HasPassedBarrier,
}
use Rattle.path_core.specs.Allowed.{IsSettled}
use Rattle.path_core.specs.Lawful.{IsLawfulPath}
use Rattle.path_core.specs.LawfulSeats.{StageIs}
use Rattle.path_core.specs.Holders.{IsThrough, MayRetire}

-- the turn of a stage
turn_of : (o : Option FlushTurn) (stage : Switching)
    → option_map (λ (turn : FlushTurn). turn.stage) o ≡ Some stage
    → (turn : FlushTurn) × (o ≡ Some turn) × (turn.stage ≡ stage)
turn_of None stage h = absurd (none-some stage h)
turn_of (Some turn) stage h = (turn, refl, same_Some turn.stage stage h)

-- a bound that passes the test is final, and the other way round
pub final_from : (b : Bound) → is_final b ≡ true → IsFinal b
final_from Live t = absurd (false≢true t)
final_from (Raising k) t = absurd (false≢true t)
final_from (Final k) t = tt

pub final_to : (b : Bound) → IsFinal b → is_final b ≡ true
final_to Live f = absurd f
final_to (Raising k) f = absurd f
final_to (Final k) f = refl

-- a turn that is held is at some stage
pub held_stage : (o : Option FlushTurn) → IsSome o
    → (stage : Switching) × (option_map (λ (turn : FlushTurn). turn.stage) o ≡ Some stage)
held_stage None h = absurd (false≢true h)
held_stage (Some turn) h = (turn.stage, refl)

module _ (x : PathState) (L : IsLawfulPath x) where
  -- A barrier means final.
  barred_final : (t m : ℕ) → HasPassedBarrier x t m → IsFinal (memtable_of x t m).bound
  barred_final t m B = (L.switches.tables t).barrier_means_final m B.group B.issued

  -- the memtable below the newest
  pub before : (t m : ℕ) → suc m ≡ (table_of x t).newest → (table_of x t).newest - 1 ≡ m
  before t m is = omega arith

  -- it has a passed barrier, where the newest switch is through
  pub settled_at : (t m : ℕ) → suc m ≡ (table_of x t).newest → IsSettled x t
      → HasPassedBarrier x t m
  settled_at t m is S = subst (HasPassedBarrier x t) (before t m is) (S (omega arith))

  -- and the other way round
  at_settled : (t m : ℕ) → suc m ≡ (table_of x t).newest → HasPassedBarrier x t m → IsSettled x t
  at_settled t m is B = λ _. subst (HasPassedBarrier x t) (sym (before t m is)) B

  pub stage_exact : (w t : ℕ) (stage : Switching) → stage_of (seat_of x w) t ≡ Some stage
      → StageIs x t stage
  stage_exact w t stage h =
      let turn = turn_of (seat_table (seat_of x w) t).flush stage h in
      subst (StageIs x t) turn.2 ((L.seats_know w).flush t turn.0 turn.1).stage

  -- The newest switch is through exactly where the stage says so.
  pub through : (t : ℕ) (stage : Switching) → StageIs x t stage
      → IsSettled x t ↔ IsThrough x.write.tallies stage
  through t Settled S = ((λ _. tt), (λ _. S))
  through t (Begun m) B = (
    (λ S. subst IsFinal B.live (barred_final t B.below
        (settled_at t B.below (sym B.before ∙ B.newest) S))),
    (λ b. absurd b),
  )
  through t (MarkedStage k) M = (
    (λ S. subst IsFinal M.raising (barred_final t k.memtable
        (settled_at t k.memtable M.below_newest S))),
    (λ b. absurd b),
  )
  through t (Waiting m) W = (
    (λ S. none-some _ (sym W.no_barrier ∙ (settled_at t m W.below_newest S).issued)),
    (λ b. absurd b),
  )
  through t (WithBarrier m group) H = (
    (λ S. let B = settled_at t m H.below_newest S in
        subst (IsPassed x.write.tallies) (same_Some B.group group (sym B.issued ∙ H.issued))
        B.passed),
    (λ passed. at_settled t m H.below_newest
        (record { group = group; issued = H.issued; passed = passed })),
  )

  pub through_by_stage : (w t : ℕ) (stage : Switching) → stage_of (seat_of x w) t ≡ Some stage
      → IsSettled x t ↔ IsThrough x.write.tallies stage
  through_by_stage w t stage h = through t stage (stage_exact w t stage h)

  -- The oldest live memtable has a passed barrier exactly where it is below the newest and its
  -- switch is through.
  pub retires_by_stage : (w t : ℕ) (stage : Switching) → stage_of (seat_of x w) t ≡ Some stage
      → HasPassedBarrier x t (table_of x t).oldest_live
      ↔ MayRetire x.write.tallies (table_of x t) stage
  retires_by_stage w t stage h = (
    (λ B. let last = below B in record {
      below_newest = last;
      through = (through_by_stage w t stage h).0 (at_settled t (table_of x t).oldest_live last B);
    }),
    (λ M. settled_at t (table_of x t).oldest_live M.below_newest
        ((through_by_stage w t stage h).1 M.through)),
  )
    where
      -- the newest is live
      below : HasPassedBarrier x t (table_of x t).oldest_live
          → suc (table_of x t).oldest_live ≡ (table_of x t).newest
      below B = let R = (L.switches.tables t).bounds_rise in dite
          (ℕ_discrete (table_of x t).oldest_live (table_of x t).newest)
          (λ e. absurd (subst IsFinal R.newest_is_live (subst
          (λ n. IsFinal (memtable_of x t n).bound) e
          (barred_final t (table_of x t).oldest_live B))))
          (λ n. let low = R.oldest_is_made in let near = R.one_behind in omega arith)
