use Rattle.std.proofs.Common.{◌∙◌, ap₂}
use Rattle.std.proofs.lemmas.Result.{IfOk-weaker}
use Rattle.clap.specs.Simple.{with_rule}
use Rattle.clog_words.proofs.options.apply_command.Goals as goal

-- each option in turn
pub returns : goal.returns
returns c =
    let writers =
    c.in_ok-arg.ensures.shape c.value.ensures.local
    ∙ ap₂ with_rule c.command.ensures c.value.ensures.rule in
    let sync =
    c.in_ok-arg-2.ensures.shape c.value-2.ensures.local
    ∙ ap₂ with_rule writers c.value-2.ensures.rule in
    let period =
    c.in_ok-arg-3.ensures.shape c.value-3.ensures.local
    ∙ ap₂ with_rule sync c.value-3.ensures.rule in
    let segment_kib =
    c.in_ok-arg-4.ensures.shape c.value-4.ensures.local
    ∙ ap₂ with_rule period c.value-4.ensures.rule in
    let flush_at =
    c.in_ok-arg-5.ensures.shape c.value-5.ensures.local
    ∙ ap₂ with_rule segment_kib c.value-5.ensures.rule in
    let archive =
    c.in_ok-arg-6.ensures.shape c.mark.ensures.local
    ∙ ap₂ with_rule flush_at c.mark.ensures.rule in
    let receipts =
    c.in_ok-arg-7.ensures.shape c.mark-2.ensures.local
    ∙ ap₂ with_rule archive c.mark-2.ensures.rule in
    let drain =
    c.in_ok-arg-8.ensures.shape c.mark-3.ensures.local
    ∙ ap₂ with_rule receipts c.mark-3.ensures.rule in
    IfOk-weaker c.arg-9.result _ _
    (λ command adds.
    adds.shape c.mark-4.ensures.local ∙ ap₂ with_rule drain c.mark-4.ensures.rule)
    c.arg-9.ensures
