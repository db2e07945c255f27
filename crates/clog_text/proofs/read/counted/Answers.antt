use Rattle.std.proofs.Common.{◌<◌, ◌≤◌, length, Ok, Result, List, ap, sym, ◌∙◌, subst, arith}
use Rattle.clog_spec.specs.Sizes.{most_updates}
use Rattle.clog_mutation.specs.declared.mutation.Update.{Update}
use Rattle.clog_text.specs.declared.refusal.BadLine.{BadLine}
use Rattle.clog_text.specs.Refusals.{Fails}
use Rattle.clog_text.proofs.Objects.{counted_some, counted_many}
use Rattle.clog_text.proofs.read.counted.Goals as goal

pub returns-in-Ok-clause-updates : goal.returns-in-Ok-clause-updates
returns-in-Ok-clause-updates c =
    let some : 1 ≤ length c.args.items.now = omega arith in
    let few : length c.args.items.now ≤ most_updates = omega arith in
    counted_some c.args.items.now some few ∙ c.in-Ok.ensures.updates ∙ ap Ok (sym c.new.ensures)

pub returns-in-Err-clause-updates : goal.returns-in-Err-clause-updates
returns-in-Err-clause-updates c =
    let some : 1 ≤ length c.args.items.now = omega arith in
    let few : length c.args.items.now ≤ most_updates = omega arith in
    subst (λ (r : Result (List Update) BadLine). Fails c.in-Err.e r)
    (sym (counted_some c.args.items.now some few)) c.in-Err.ensures.updates

pub returns-in_default-clause-updates : goal.returns-in_default-clause-updates
returns-in_default-clause-updates c =
    let many : most_updates < length c.args.items.now = omega arith in
    counted_many c.args.items.now many
