use Rattle.clog_scan.proofs.Fed.{given_so_far}
use Rattle.clog_scan.proofs.piece_laws.given_up_to.Goals as goal

pub returns : goal.returns
returns c = given_so_far
