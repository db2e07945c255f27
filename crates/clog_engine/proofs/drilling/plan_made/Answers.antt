use Rattle.std.proofs.Common.{ℕ, List, ap, sym, subst, arith, length}
use Rattle.std.specs.List.{AllByRecursion}
use Rattle.clog_mutation.specs.Limits.{IsWithinLimits}
use Rattle.clog_mutation.specs.declared.mutation.Mutation.{Mutation}
use Rattle.clog_shares.specs.Fitting.{HasFittingEntry}
use Rattle.clog_engine.proofs.Drilled.{memory_alone}
use Rattle.clog_engine.proofs.MadeLines.{made_fit, made_many, made_within}
use Rattle.clog_engine.proofs.drilling.plan_made.Goals as goal

pub plan_lines-requires-clause-within : goal.plan_lines-requires-clause-within
plan_lines-requires-clause-within g c = λ _ _.
    subst (AllByRecursion IsWithinLimits) (sym c.in_ok-mutations.ensures)
    (made_within c.args.seed c.args.count (omega (arith, c.ranges.seed.fits)))

pub plan_lines-requires-clause-few : goal.plan_lines-requires-clause-few
plan_lines-requires-clause-few g c = λ _ _.
    omega (
      arith,
      ap (λ (ms : List Mutation). length ms) c.in_ok-mutations.ensures,
      made_many c.args.seed c.args.count,
      c.requires.count,
    )

pub returns-in-Err : goal.returns-in-Err
returns-in-Err g c =
    memory_alone c.in_ok-mutations.mutations c.args.sizes.capacity c.in-Err.status
    (subst (λ (n : ℕ). AllByRecursion (HasFittingEntry n) c.in_ok-mutations.mutations)
    (sym c.requires.capacity)
    (subst (AllByRecursion (HasFittingEntry 1048576)) (sym c.in_ok-mutations.ensures)
    (made_fit c.args.seed c.args.count (omega (arith, c.ranges.seed.fits))))) c.in-Err.ensures
