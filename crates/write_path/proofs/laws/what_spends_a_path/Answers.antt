use Rattle.write_path.proofs.Spending.{never_spent, segments_spent}
use Rattle.write_path.proofs.laws.what_spends_a_path.Goals as goal

pub returns-clause-segments : goal.returns-clause-segments
returns-clause-segments g c = segments_spent

pub returns-clause-never : goal.returns-clause-never
returns-clause-never g c = never_spent
