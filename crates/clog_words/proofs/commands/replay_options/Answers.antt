use Rattle.std.proofs.Common.{rules, ◌≡◌, Option, None, codes, refl, subst, sym}
use Rattle.clap.specs.Matches.{found_of}
use Rattle.clog_words.specs.Asks.{IsNumberOr}
use Rattle.clog_words.specs.Given.{Setting, said}
use Rattle.clog_words.specs.Options.{mark_named, value_named}
use Rattle.clog_words.proofs.Told.{mark_said}
use Rattle.clog_words.proofs.commands.replay_options.Goals as goal

pub returns-in_err-number_or : goal.returns-in_err-number_or
returns-in_err-number_or c settings tells =
    let is = tells (codes "workers") (value_named (codes "workers")) refl in
    let none : c.from_residual.result ≡ None = search rules in
    rw (none) (λ options says.
    c.in_err-number_or.ensures options.workers
    (subst (λ (o : Option Setting). IsNumberOr 1 1 64 o options.workers) is says.workers))

pub returns : goal.returns
returns c settings tells =
    let found = found_of c.args.matches.now in
    let is = tells (codes "workers") (value_named (codes "workers")) refl in
    record {
      workers = subst (λ (o : Option Setting). IsNumberOr 1 1 64 o c.in_ok-number_or.field-0)
          (sym is) c.in_ok-number_or.ensures;
      ignore_errors = mark_said (codes "ignore-errors") (said (codes "ignore-errors") settings)
          found (tells (codes "ignore-errors") (mark_named (codes "ignore-errors")) refl)
          c.get_flag.result c.get_flag.ensures.value c.get_flag.ensures.other;
    }
