use Rattle.clog_segments.proofs.Noted.{tells_its_place}
use Rattle.clog_store.proofs.noting.a_note_tells_its_place.Goals as goal

pub returns : goal.returns
returns c h n may = tells_its_place h n may
