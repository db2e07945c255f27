use Rattle.clog_scan.proofs.Tears.{tear, soft_behind_header, soft_is_not_of_header}
use Rattle.clog_scan.proofs.laws.tears_are_soft_behind_the_header.Goals as goal

pub returns-clause-tear : goal.returns-clause-tear
returns-clause-tear c = tear

pub returns-clause-soft : goal.returns-clause-soft
returns-clause-soft c = soft_behind_header

pub returns-clause-header : goal.returns-clause-header
returns-clause-header c = soft_is_not_of_header

pub returns-clause-payload : goal.returns-clause-payload
returns-clause-payload c fault soft = soft
