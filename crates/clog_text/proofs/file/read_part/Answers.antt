use Rattle.std.proofs.Common.{◌≡◌, ◌+◌, List, ap, sym, subst, ◌∙◌, Ok, arith}
use Rattle.std.specs.List.{AllByRecursion}
use Rattle.clog_mutation.specs.declared.mutation.Mutation.{Mutation}
use Rattle.clog_text.specs.FileMutations.{part_from}
use Rattle.clog_mutation.specs.Limits.{IsWithinLimits}
use Rattle.clog_text.proofs.FileReading.{with_read, with_none, left_from, line_read, line_refused}
use Rattle.clog_text.proofs.FileReading.{all_read, within_none, within_push}
use Rattle.clog_text.proofs.file.read_part.Goals as goal

pub loop-range-init : goal.loop-range-init
loop-range-init c = record {
  read = ap (λ (l : List Mutation). with_read l
      (left_from c.args.bytes.now c.args.before c.args.ranges.now 0))
      c.new-mutations.ensures.items
      ∙ with_none (left_from c.args.bytes.now c.args.before c.args.ranges.now 0)
      ∙ ap (λ n. part_from c.args.bytes.now n c.args.ranges.now)
      (let none : c.args.before + 0 ≡ c.args.before = omega arith in none);
  within = within_none c.new-mutations.result.items c.new-mutations.ensures.items;
  number = omega arith;
}

pub returns-in-Err-clause-reads : goal.returns-in-Err-clause-reads
returns-in-Err-clause-reads c =
    line_refused c.args.bytes.now c.args.before c.args.ranges.now c.loop-range.range-index
    c.loop-range.number c.loop-range.mutations.items c.in-Err.cause
    (part_from c.args.bytes.now c.args.before c.args.ranges.now)
    c.loop-range-test.true c.loop-range.invariant.number c.in-Err.ensures.mutation
    c.loop-range.invariant.read

pub loop-range-preserved : goal.loop-range-preserved
loop-range-preserved c = record {
  read =
      ap (λ (l : List Mutation). with_read l
      (left_from c.args.bytes.now c.args.before c.args.ranges.now (c.loop-range.range-index + 1)))
      c.in-Ok-push.ensures.items
      ∙ line_read c.args.bytes.now c.args.before c.args.ranges.now c.loop-range.range-index
      c.loop-range.mutations.items c.in-Ok.mutation c.loop-range-test.true
      c.in-Ok.ensures.mutation
      ∙ c.loop-range.invariant.read;
  within = subst (λ (l : List Mutation). AllByRecursion IsWithinLimits l)
      (sym c.in-Ok-push.ensures.items)
      (within_push c.loop-range.mutations.items c.in-Ok.mutation c.loop-range.invariant.within
      c.in-Ok.ensures.within);
  number = let is = c.loop-range.invariant.number in omega arith;
}

pub returns-clause-reads : goal.returns-clause-reads
returns-clause-reads c =
    sym c.loop-range.invariant.read
    ∙ all_read c.args.bytes.now c.args.before c.args.ranges.now c.loop-range.range-index
    c.loop-range.mutations.items c.loop-range-test.false
    ∙ ap Ok (sym c.new.ensures)
