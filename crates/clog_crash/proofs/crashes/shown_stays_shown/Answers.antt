use Rattle.clog_crash.proofs.life.Shown.{shown_longer, shown_rolled}
use Rattle.clog_crash.proofs.crashes.shown_stays_shown.Goals as goal

pub returns-clause-behind : goal.returns-clause-behind
returns-clause-behind c = shown_longer

pub returns-clause-rolled : goal.returns-clause-rolled
returns-clause-rolled c = shown_rolled
