use Rattle.std.proofs.Common.{subst}
use Rattle.clog_words.proofs.OneRequest.{one_request}
use Rattle.clog_words.specs.Built.{IsBuilt}
use Rattle.clog_words.specs.Given.{texts}
use Rattle.clog_words.specs.declared.request.Request.{Request}
use Rattle.clog_words.proofs.built.parse_built.Goals as goal

pub returns-in-None : goal.returns-in-None
returns-in-None c built asked =
    let same =
    one_request (texts c.args.words.now) asked.request c.in_ok-parse.field-0 asked.asks
    c.in_ok-parse.ensures in
    c.in-None.ensures built
    (subst (λ (request : Request). IsBuilt request built) same asked.is_built)
