use Rattle.write_path.proofs.RetirePromises.{
  row_bare,
  row_beyond,
  row_entry,
  row_filled,
  row_given,
  row_later,
  row_other,
  row_other_end,
}
use Rattle.write_path.proofs.closed_laws.what_a_retired_memtable_leaves.Goals as goal

pub returns-clause-given : goal.returns-clause-given
returns-clause-given c = row_given

pub returns-clause-later : goal.returns-clause-later
returns-clause-later c = row_later

pub returns-clause-other_end : goal.returns-clause-other_end
returns-clause-other_end c = row_other_end

pub returns-clause-bare : goal.returns-clause-bare
returns-clause-bare c = row_bare

pub returns-clause-filled : goal.returns-clause-filled
returns-clause-filled c = row_filled

pub returns-clause-entry : goal.returns-clause-entry
returns-clause-entry c = row_entry

pub returns-clause-beyond : goal.returns-clause-beyond
returns-clause-beyond c = row_beyond

pub returns-clause-other : goal.returns-clause-other
returns-clause-other c = row_other
