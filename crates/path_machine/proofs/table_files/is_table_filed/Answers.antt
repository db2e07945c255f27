use Rattle.std.proofs.Common.{None, sym, subst, ap, ◌∙◌}
use Rattle.path_core.specs.Droppable.{are_filed}
use Rattle.path_machine.specs.Spans.{Spans, IsSpan}
use Rattle.path_machine.proofs.steps.Filed.{none_are_filed, span_decides}
use Rattle.path_machine.proofs.table_files.is_table_filed.Goals as goal

pub returns-in-Some : goal.returns-in-Some
returns-in-Some c =
    let x = c.args.state.now in
    let o = c.args.segment in
    let t = c.args.table in
    let span = c.in-Some.span in
    let spans = subst (λ l. Spans o t l span) c.as_slice.ensures c.in-Some.ensures in
    c.are_filed.ensures
    ∙ (ap (λ l. are_filed l c.from.result span.least span.greatest) c.as_slice-files.ensures
    ∙ (ap (λ n. are_filed x.files n span.least span.greatest) c.from.ensures
    ∙ span_decides x o t span spans))

pub returns-in-None : goal.returns-in-None
returns-in-None c =
    let x = c.args.state.now in
    let o = c.args.segment in
    let t = c.args.table in
    sym (none_are_filed x o t (subst (λ l. IsSpan o t l None) c.as_slice.ensures
    c.in-None.ensures))
