use Rattle.std.proofs.Common.{◌+◌, ◌-◌, sym, arith}
use mathlib.Core.Logic.{dite}
use native.Mathlib.Decide.{dec_lt}
use Rattle.path_core.specs.Droppable.{is_filed}
use Rattle.path_core.proofs.lists.Ranges.{range_fails}
use Rattle.path_machine.proofs.steps.Filed.{are_filed_from}
use Rattle.path_machine.proofs.table_files.are_filed.Goals as goal

pub returns-in_default : goal.returns-in_default
returns-in_default c =
    let from = c.args.from in
    let to = c.args.to in
    let within = c.loop-key-test.true in
    sym (range_fails (is_filed c.args.files.now c.args.table) from (to + 1 - from) c.loop-key.key
    c.loop-key.invariant.ahead (omega arith) c.in_default.ensures)

pub returns-then-end-to : goal.returns-then-end-to
returns-then-end-to c =
    let past = c.if-end-to.true in
    sym (are_filed_from c.args.files.now c.args.table c.args.from c.args.to (λ k above below.
    dite (dec_lt k c.loop-key.key) (λ l. c.loop-key.invariant.each k above l)
    (λ n. c.in-Some.ensures.each k (omega arith) (omega arith))))

pub returns : goal.returns
returns c =
    let past = c.loop-key-test.false in
    sym (are_filed_from c.args.files.now c.args.table c.args.from c.args.to (λ k above below.
    c.loop-key.invariant.each k above (omega arith)))
