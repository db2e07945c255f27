use Rattle.std.proofs.Common.{◌<◌, ◌∙◌, length, refl, sym, ap, arith}
use Rattle.std.proofs.lemmas.Bool.Decides.{nat_tests}
use Rattle.clog_store.proofs.NoteGoes.{goes_rolled, goes_still, goes_then, settled_opened}
use Rattle.clog_store.proofs.NoteLeaves.{leaves_entered, leaves_settled, leaves_still}
use Rattle.clog_store.proofs.note_steps.enter.Goals as goal

pub returns-clause-goes : goal.returns-clause-goes
returns-clause-goes g c =
    let D = g.D.Disk in
    let mid = c.settle.new.self in
    let settled = c.in_ok-settle.ensures.settles in
    let of_one = settled_opened c.args.log.now mid c.settle.result c.settle.ensures.settles in
    goes_then D.files D.moment D.since D.leaves D.read_at D.lasted_at c.args.log.now mid
    c.roll.new.self (record {
      opened = of_one.0;
      first = of_one.1;
      later = c.settle.ensures.later;
      lives = c.settle.ensures.lives;
      names = c.settle.ensures.names_last;
    })
    (goes_rolled D.files D.moment D.since D.leaves D.read_at D.lasted_at mid c.roll.new.self _
    c.roll.result (g.met.D.Disk.only_now mid.disk) refl refl refl refl
    (ap (λ s. s.synced) settled ∙ ap (λ s. length s.sections) (sym settled))
    c.roll.ensures.rolls c.roll.ensures.refused c.roll.ensures.lives)

pub returns-then-id-clause-goes : goal.returns-then-id-clause-goes
returns-then-id-clause-goes g c =
    let D = g.D.Disk in
    goes_still D.files D.moment D.since D.leaves D.read_at D.lasted_at c.args.log.now
    (g.met.D.Disk.only_now c.args.log.now.disk)

pub returns-then-id-clause-leaves : goal.returns-then-id-clause-leaves
returns-then-id-clause-leaves g c =
    leaves_still g.D.Disk.files g.D.Disk.changes c.args.log.now

pub returns-clause-leaves : goal.returns-clause-leaves
returns-clause-leaves g c =
    let a = c.args.log.now in
    let mid = c.settle.new.self in
    let settled = c.in_ok-settle.ensures.settles in
    let above : mid.id < c.args.id =
    let same = ap (λ s. s.id) settled in
    let here = c.id.ensures.id in
    let apart = c.if-id.false in
    let on = c.requires.on in
    grind (arith, nat_tests) in
    leaves_entered g.D.Disk.files g.D.Disk.changes a mid c.roll.new.self _ c.roll.result
    (ap (λ s. s.is_stopped) settled) c.settle.ensures.same c.settle.ensures.quiet
    (ap (λ s. s.past) settled)
    (ap (λ s. s.id) settled) (ap (λ s. s.sections) settled)
    (c.id.ensures.reads c.requires.runs) refl refl above refl c.requires.fits c.id.ensures.below
    c.roll.ensures.rolls c.roll.ensures.refused

pub returns-in_err-settle-clause-leaves : goal.returns-in_err-settle-clause-leaves
returns-in_err-settle-clause-leaves g c =
    leaves_settled g.D.Disk.files g.D.Disk.changes c.args.log.now c.settle.new.self c.settle.result
    c.settle.ensures.settles c.settle.ensures.same c.settle.ensures.quiet
