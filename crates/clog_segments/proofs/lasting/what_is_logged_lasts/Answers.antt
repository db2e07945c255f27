use Rattle.clog_segments.proofs.ShownNotes.{leaves_logged}
use Rattle.clog_segments.proofs.lasting.what_is_logged_lasts.Goals as goal

pub returns : goal.returns
returns g c s noted lives =
    let D = g.D.Disk in
    leaves_logged D.files D.moment D.since D.leaves D.read_at D.lasted_at s noted lives
