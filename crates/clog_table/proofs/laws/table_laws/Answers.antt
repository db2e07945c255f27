use Rattle.std.proofs.Common.{sym}
use Rattle.clog_table.proofs.Again.{one_file, not_refused}
use Rattle.clog_table.proofs.OneFault.{one_refusal}
use Rattle.clog_table.proofs.OneOfBoth.{one_of_both}
use Rattle.clog_table.proofs.laws.table_laws.Goals as goal

pub returns : goal.returns
returns c = record {
  one_file = λ table bytes file other f g. sym (one_file table bytes file f other g);
  one_refusal = one_refusal;
  never_both = λ table bytes file fault f h. not_refused table bytes file f fault h;
  one_of_both = one_of_both;
}
