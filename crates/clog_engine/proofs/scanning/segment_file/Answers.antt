use Rattle.std.proofs.Common.{List, ℕ, subst}
use Rattle.clog_folder.proofs.Passing.{told_on}
use Rattle.clog_engine.specs.Scanning.{ReadRefused}
use Rattle.clog_engine.proofs.Quiet.{told_folder}
use Rattle.clog_engine.proofs.SegmentFiles.{segment_refused}
use Rattle.clog_engine.proofs.scanning.segment_file.Goals as goal

pub returns-in-Err-clause-gives : goal.returns-in-Err-clause-gives
returns-in-Err-clause-gives g c =
    let files = g.D.Disk.files c.args.disk.now in
    let f = g.D.Disk.faults c.args.disk.now in
    let k = g.D.Disk.faults c.segment_bytes.new.disk in
    subst (λ (n : List ℕ). ReadRefused files f k n c.folder_status.result)
    c.segment_name-name.ensures
    (segment_refused files (g.D.Disk.files c.find_file.new.disk) f
    (g.D.Disk.faults c.find_file.new.disk) k c.segment_name-name.result c.in-Err.refusal
    c.folder_status.result c.folder_status.ensures c.in_ok-find_file.ensures.keeps.same.files
    c.in_ok-find_file.ensures.keeps.later c.in-Err.ensures.gives)

pub returns-in-Err-clause-quiet : goal.returns-in-Err-clause-quiet
returns-in-Err-clause-quiet g c =
    told_folder c.in-Err.refusal c.folder_status.result (g.D.Disk.faults c.args.disk.now)
    (g.D.Disk.faults c.segment_bytes.new.disk) c.folder_status.ensures
    (told_on c.in-Err.refusal (g.D.Disk.faults c.args.disk.now)
    (g.D.Disk.faults c.find_file.new.disk) (g.D.Disk.faults c.segment_bytes.new.disk)
    c.in_ok-find_file.ensures.quiet c.in-Err.ensures.quiet)
