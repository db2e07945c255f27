use Rattle.clog_base.proofs.NameLaws.{one_segment, one_archive, one_table}
use Rattle.clog_base.proofs.parsed_name.name_laws.Goals as goal

pub returns-clause-one_segment : goal.returns-clause-one_segment
returns-clause-one_segment c = one_segment

pub returns-clause-one_archive : goal.returns-clause-one_archive
returns-clause-one_archive c = one_archive

pub returns-clause-one_table : goal.returns-clause-one_table
returns-clause-one_table c = one_table
