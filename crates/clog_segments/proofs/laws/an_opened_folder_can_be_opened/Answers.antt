use Rattle.clog_segments.proofs.OpenedAgain.{opens_again}
use Rattle.clog_segments.proofs.laws.an_opened_folder_can_be_opened.Goals as goal

pub returns : goal.returns
returns c = opens_again
