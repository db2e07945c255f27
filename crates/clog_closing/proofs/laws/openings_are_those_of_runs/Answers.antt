use Rattle.clog_closing.proofs.Openings.{is_opening, recovery_changes}
use Rattle.clog_closing.proofs.laws.openings_are_those_of_runs.Goals as goal

pub returns-clause-changes : goal.returns-clause-changes
returns-clause-changes c = recovery_changes

pub returns-clause-opening : goal.returns-clause-opening
returns-clause-opening c = is_opening
