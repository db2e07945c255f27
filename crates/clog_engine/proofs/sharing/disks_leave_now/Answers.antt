use Rattle.clog_engine.proofs.sharing.disks_leave_now.Goals as goal

pub returns : goal.returns
returns g c = λ d. g.met.D.Disk.only_now d
