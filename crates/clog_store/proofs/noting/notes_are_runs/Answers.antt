use Rattle.clog_segments.proofs.Noted.{runs_of}
use Rattle.clog_store.proofs.noting.notes_are_runs.Goals as goal

pub returns : goal.returns
returns c h upto id until n ns may begins = runs_of h upto id until n ns may begins
