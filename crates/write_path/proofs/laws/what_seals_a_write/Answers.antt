use Rattle.write_path.proofs.SealedRows.{not_before, not_behind_a_claim, seals_it}
use Rattle.write_path.proofs.Sealing.{still_sealed}
use Rattle.write_path.proofs.laws.what_seals_a_write.Goals as goal

pub returns-clause-behind : goal.returns-clause-behind
returns-clause-behind g = seals_it

pub returns-clause-before : goal.returns-clause-before
returns-clause-before g = not_before

pub returns-clause-claimed : goal.returns-clause-claimed
returns-clause-claimed g = not_behind_a_claim

pub returns-clause-stays : goal.returns-clause-stays
returns-clause-stays g = still_sealed
