use Rattle.std.proofs.Common.{◌≡◌, ap, ◌∙◌, sym}
use Rattle.json.specs.Lex.{tokens}
use Rattle.clog_text.specs.UsualLines.{line_tokens}
use Rattle.clog_text.proofs.UsualLines.{line_said}
use Rattle.clog_text.proofs.usual.usual_line.Goals as goal

pub returns-clause-mutation : goal.returns-clause-mutation
returns-clause-mutation c =
    let m = c.in_ok-mutation.mutation in
    let said = c.in_ok-mutation.ensures.mutation in
    let within = c.in_ok-mutation.ensures.within in
    let text = c.in_ok-text.ensures in
    let read : tokens c.args.line.now ≡ line_tokens m.key said.0 =
    ap tokens (sym text.0) ∙ sym c.in-Ok.ensures.ok ∙ said.1 in
    line_said c.args.line.now m.key said.0 m.updates text.1 read said.2 within.key.some
    within.key.few within.some within.few
