use Rattle.clog_segments.proofs.ShownNotes.{leaves_since}
use Rattle.clog_segments.proofs.lasting.what_was_logged_stays.Goals as goal

pub returns : goal.returns
returns g c before now more noted noted_now is lived =
    let D = g.D.Disk in
    leaves_since D.files D.moment D.since D.leaves D.read_at D.lasted_at before now more noted
    noted_now is lived
