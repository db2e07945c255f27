use Rattle.clog_crash.proofs.laws.a_segment_of_another_version_is_damage.Goals as goal

pub returns : goal.returns
returns c files name version id undamaged named held =
    (undamaged.segments name version id named held).0
