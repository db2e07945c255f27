use Rattle.std.proofs.Common.{sym, ◌∙◌}
use Rattle.std.proofs.lemmas.Bool.{false≢true}
use Rattle.clog_due.proofs.droppable.lets_go.Goals as goal

pub returns-then-has : goal.returns-then-has
returns-then-has c =
    (λ e. absurd (false≢true e), λ go. absurd (go.not_kept (c.has.ensures.0 c.if-has.true)))

pub returns : goal.returns
returns c = (
  λ filed. record {
    not_kept = λ there. false≢true (sym c.if-has.false ∙ c.has.ensures.1 there);
    filed = c.are_filed.ensures.0 filed;
  },
  λ go. c.are_filed.ensures.1 go.filed,
)
