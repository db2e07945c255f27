use Rattle.clog_segments.proofs.Lived.{outlives_on}
use Rattle.clog_segments.proofs.lasting.what_lasts_stays.Goals as goal

pub returns : goal.returns
returns g c s t u began first next =
    let D = g.D.Disk in
    outlives_on D.files D.moment D.since D.leaves D.read_at D.lasted_at s t u began first next
