use Rattle.clog_cells.proofs.Parted.{below_next, from_next, from_first}
use Rattle.clog_cells.proofs.laws.parting_laws.Goals as goal

pub returns : goal.returns
returns c = record {
  below_next = below_next;
  from_next = from_next;
  from_first = from_first;
}
