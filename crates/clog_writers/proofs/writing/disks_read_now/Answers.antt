use Rattle.clog_writers.proofs.writing.disks_read_now.Goals as goal

pub returns : goal.returns
returns g c = λ d. g.met.D.Disk.reads_now d
