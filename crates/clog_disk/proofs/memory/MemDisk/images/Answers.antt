use Rattle.std.proofs.Common.{◌∙◌, drop, Some, ap, arith}
use Rattle.clog_disk.specs.declared.memory.MemDisk.{MemDisk}
use Rattle.clog_disk.specs.Images.{IsRestarted}
use Rattle.clog_disk.specs.InMemory.{files_of, state_of, back, Since}
use Rattle.clog_disk.specs.Sample.{IsMadeFrom, sample_of}
use Rattle.clog_disk.specs.Stored.{may_leave}
use Rattle.clog_disk.proofs.Samples.{all_zipped, is_restarted}
use Rattle.clog_disk.proofs.memory.MemDisk.images.Goals as goal

pub returns-clause-left : goal.returns-clause-left
returns-clause-left c =
    let state = state_of c.args.self.now.files.entries in
    let undos = c.args.self.now.undos.items in
    let past = c.in_ok-past.past.entries in
    all_zipped (IsMadeFrom past) (λ (image : MemDisk).
    IsRestarted (Since state undos c.args.moment) (Some (files_of image.files.entries))
    (λ name left. may_leave (state_of image.files.entries name) left)
    ) (sample_of past) c.in_ok-images.images.items (λ left image made.
    is_restarted past left image made state undos c.args.moment
    (c.in_ok-past.ensures
    ∙ ap (λ us. back (drop c.args.moment us) state) c.as_slice.ensures.value)
    (omega (arith, c.if-moment-len.false, c.len.ensures))
    ) c.in_ok-images.ensures.each
