use Rattle.std.proofs.Common.{subst}
use Rattle.clog_disk.specs.InMemory.{state_of}
use Rattle.clog_disk.proofs.Samples.{IsMaking, is_free, making_goes_on}
use Rattle.clog_disk.proofs.stored.sample.image_of.Goals as goal

pub put_left-requires : goal.put_left-requires
put_left-requires c =
    let image = state_of c.loop-name.image.entries in
    is_free c.args.left.now c.args.files.now.entries c.next.new.self image c.in-Some.name.now
    c.in-Some.file.now
    (subst (λ es. IsMaking c.args.left.now c.args.files.now.entries es image)
    c.in-Some.ensures.steps c.loop-name.invariant)

pub loop-name-preserved : goal.loop-name-preserved
loop-name-preserved c =
    let image = state_of c.loop-name.image.entries in
    making_goes_on c.args.left.now c.args.files.now.entries c.next.new.self image
    (state_of c.put_left.new.image.entries) c.in-Some.name.now c.in-Some.file.now
    (subst (λ es. IsMaking c.args.left.now c.args.files.now.entries es image)
    c.in-Some.ensures.steps c.loop-name.invariant)
    c.in_ok-put_left.ensures
