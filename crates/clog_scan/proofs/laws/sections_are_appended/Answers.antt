use Rattle.clog_scan.proofs.Appended.{sections_behind, section_behind}
use Rattle.clog_scan.proofs.laws.sections_are_appended.Goals as goal

pub returns-clause-sections : goal.returns-clause-sections
returns-clause-sections c = sections_behind

pub returns-clause-one : goal.returns-clause-one
returns-clause-one c = section_behind
