use Rattle.clog_engine.proofs.drilling.disks_tell_both.Goals as goal

pub returns : goal.returns
returns g c = λ d. g.met.D.Disk.tells_both d
