use Rattle.write_path.proofs.FlushPromises.{
  row_bare,
  row_filed,
  row_flushed,
  row_no_other,
  row_short,
  row_switched,
  still_flushed,
}
use Rattle.write_path.proofs.closed_laws.what_a_flush_covers.Goals as goal

pub returns-clause-flushed : goal.returns-clause-flushed
returns-clause-flushed c = row_flushed

pub returns-clause-no_other : goal.returns-clause-no_other
returns-clause-no_other c = row_no_other

pub returns-clause-switched : goal.returns-clause-switched
returns-clause-switched c = row_switched

pub returns-clause-stays : goal.returns-clause-stays
returns-clause-stays c = still_flushed

pub returns-clause-filed : goal.returns-clause-filed
returns-clause-filed c = row_filed

pub returns-clause-bare : goal.returns-clause-bare
returns-clause-bare c = row_bare

pub returns-clause-short : goal.returns-clause-short
returns-clause-short c = λ key upper n. row_short key n upper
