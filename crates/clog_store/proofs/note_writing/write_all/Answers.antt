use Rattle.std.proofs.Common.{◌∙◌}
use Rattle.clog_store.proofs.NoteGoes.{goes_then, settled_opened}
use Rattle.clog_store.proofs.NoteLeaves.{leaves_settled, leaves_then}
use Rattle.clog_store.proofs.NoteSettled.{held_after, ready_after}
use Rattle.clog_store.proofs.NoteStands.{stands_by}
use Rattle.clog_store.proofs.NoteTakes.{settled_id}
use Rattle.clog_store.proofs.note_writing.write_all.Goals as goal

pub returns-in-Ok-clause-held : goal.returns-in-Ok-clause-held
returns-in-Ok-clause-held g c sizes synced logged upto ready runs =
    held_after c.args.base c.args.notes.now c.write_rest.new.log c.settle.new.self
    c.write_rest.new.written sizes synced logged c.settle.result c.settle.ensures.settles
    (c.in-Ok.ensures.ready sizes synced logged upto ready).held

pub returns-in-Ok-clause-ready : goal.returns-in-Ok-clause-ready
returns-in-Ok-clause-ready g c =
    ready_after c.args.base c.args.notes.now c.write_rest.new.log c.settle.new.self
    c.write_rest.new.written c.args.log.now c.args.written.now c.settle.result
    c.settle.ensures.settles c.in-Ok.ensures.ready

pub returns-in-Ok-clause-goes : goal.returns-in-Ok-clause-goes
returns-in-Ok-clause-goes g c =
    let D = g.D.Disk in
    let of_one = settled_opened c.write_rest.new.log c.settle.new.self c.settle.result
    c.settle.ensures.settles in
    goes_then D.files D.moment D.since D.leaves D.read_at D.lasted_at c.args.log.now
    c.write_rest.new.log c.settle.new.self c.write_rest.ensures.goes (record {
      opened = of_one.0;
      first = of_one.1;
      later = c.settle.ensures.later;
      lives = c.settle.ensures.lives;
      names = c.settle.ensures.names_last;
    })

pub returns-in-Ok-clause-leaves : goal.returns-in-Ok-clause-leaves
returns-in-Ok-clause-leaves g c =
    let mid = c.write_rest.new.log in
    leaves_then g.D.Disk.files g.D.Disk.changes c.args.log.now mid c.settle.new.self
    c.in-Ok.ensures.runs c.write_rest.ensures.leaves
    (leaves_settled g.D.Disk.files g.D.Disk.changes mid c.settle.new.self c.settle.result
    c.settle.ensures.settles
    c.settle.ensures.same c.settle.ensures.quiet)

-- ---- whatever the disk has done

pub returns-in-Ok-clause-stands : goal.returns-in-Ok-clause-stands
returns-in-Ok-clause-stands g c sizes synced logged upto ready =
    let then_ = c.in-Ok.ensures.ready sizes synced logged upto ready in
    let w = c.write_rest.new.written in
    stands_by c.args.base c.args.notes.now sizes synced logged c.settle.new.self w w then_.few
    (held_after c.args.base c.args.notes.now c.write_rest.new.log c.settle.new.self w sizes synced
    logged c.settle.result c.settle.ensures.settles then_.held)

pub returns-in-Ok-clause-still : goal.returns-in-Ok-clause-still
returns-in-Ok-clause-still g c all =
    settled_id c.write_rest.new.log c.settle.new.self c.settle.result c.settle.ensures.settles
    ∙ c.write_rest.ensures.still all
