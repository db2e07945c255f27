use Rattle.std.proofs.Common.{rules, ◌≡◌, List, Err, codes, subst}
use Rattle.clog_words.specs.Asks.{AsksReplay, SaysReplay}
use Rattle.clog_words.specs.Given.{Setting, texts}
use Rattle.clog_words.specs.Options.{GivesFit, replay_options}
use Rattle.clog_words.specs.declared.request.ReplayOptions.{ReplayOptions}
use Rattle.clog_words.proofs.Refusals.{on_usage}
use Rattle.clog_words.proofs.Told.{replay_kinds, replay_readable}
use Rattle.clog_words.proofs.commands.replay.Goals as goal

pub returns-in_err-matches : goal.returns-in_err-matches
returns-in_err-matches c =
    let words = texts c.args.words.now in
    let is : c.from_residual.result ≡ Err c.in_err-matches.field-0.0 = search rules in
    rw (is)
    (on_usage c.in_err-matches.field-0.0
    ((settings : List Setting) → ¬ GivesFit replay_options settings words)
    ((options : ReplayOptions) → ¬ AsksReplay words options)
    (λ none options asks.
    none asks.settings
    (record { given = asks.given; kinds = replay_kinds asks.settings options asks.says }))
    (c.in_err-matches.ensures (codes "replay") replay_options c.in-Ok.ensures replay_readable))

pub returns-in-Some : goal.returns-in-Some
returns-in-Some c =
    let read =
    c.in_ok-matches.ensures (codes "replay") replay_options c.in-Ok.ensures replay_readable in
    record {
      settings = read.settings;
      given = read.given.given;
      says = c.in-Some.ensures read.settings read.tells;
    }

pub returns : goal.returns
returns c options asks =
    let read =
    c.in_ok-matches.ensures (codes "replay") replay_options c.in-Ok.ensures replay_readable in
    c.in-None.ensures read.settings read.tells options
    (subst (λ (settings : List Setting). SaysReplay settings options)
    (read.given.only asks.settings asks.given.given) asks.says)
