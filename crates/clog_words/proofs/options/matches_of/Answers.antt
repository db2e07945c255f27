use Rattle.std.proofs.Common.{◌≡◌, ◌≢◌, List, ap, true, false, sym, ◌∙◌}
use Rattle.std.specs.List.{list_all}
use Rattle.clap.specs.Faults.{fault_of, is_simple_and_free}
use Rattle.clap.specs.Matches.{found_of}
use Rattle.clap.specs.Simple.{App, app_of, matches_of}
use Rattle.clap.specs.Values.{kind_of}
use Rattle.clap.specs.declared.error.kind.ErrorKind.TheVariants.{OutOfMemory}
use Rattle.clog_words.specs.Given.{Setting, texts}
use Rattle.clog_words.specs.Options.{GivesFit, is_own}
use Rattle.clog_words.proofs.Levels.{
  memory_alone,
  own,
  own_words,
  read_as,
  simple_of,
  taken,
  words_own,
}
use Rattle.clog_words.proofs.Refusals.{on_usage}
use Rattle.clog_words.proofs.options.matches_of.Goals as goal

pub returns-then-not-are_ours : goal.returns-then-not-are_ours
returns-then-not-are_ours c name options is readable settings fit =
    let words = texts c.args.words.now in
    let ours : list_all is_own words ≡ true =
    words_own words (own name options readable settings words fit) in
    let bad : false ≡ true = sym c.if-not-are_ours.true ∙ c.are_ours.ensures ∙ ours in absurd (cc)

pub returns-in-Ok : goal.returns-in-Ok
returns-in-Ok c name options is readable =
    let words = texts c.args.words.now in
    let simple = ap is_simple_and_free is ∙ readable.simple in
    read_as name options words (found_of c.in-Ok.matches) readable
    (own_words words (sym c.are_ours.ensures ∙ c.if-not-are_ours.false))
    (sym (ap (λ (app : App). fault_of app words) is) ∙ c.in-Ok.ensures.kinds simple)
    ((c.in-Ok.ensures.matches (simple_of (app_of c.args.command) simple)).0
    ∙ ap (λ (app : App). matches_of app words) is)

pub returns-in-Err : goal.returns-in-Err
returns-in-Err c name options is readable =
    let words = texts c.args.words.now in
    let simple = ap is_simple_and_free is ∙ readable.simple in
    on_usage c.words_fault.result (kind_of c.in-Err.error ≢ OutOfMemory)
    ((settings : List Setting) → ¬ GivesFit options settings words)
    (λ other settings fit.
    other (memory_alone _ c.in-Err.error
    (ap (λ (app : App). fault_of app words) is
    ∙ taken name options readable settings words fit) (c.in-Err.ensures.kinds simple)))
    c.words_fault.ensures
