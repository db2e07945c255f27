use Rattle.clog_closing.proofs.Tables.{is_true}
use Rattle.clog_closing.proofs.laws.put_files_are_true.Goals as goal

pub returns : goal.returns
returns c h history put is are whole merge =
    is_true h history h.sizes.within.greatest_capacity is are whole put merge
