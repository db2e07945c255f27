use Rattle.clog_text.proofs.Splitting.{lines_unbroken, lines_whole, lines_alone}
use Rattle.clog_text.proofs.split.line_laws.Goals as goal

pub returns-clause-split : goal.returns-clause-split
returns-clause-split c file = record {
  unbroken = lines_unbroken file;
  whole = lines_whole file;
}

pub returns-clause-alone : goal.returns-clause-alone
returns-clause-alone c = lines_alone
