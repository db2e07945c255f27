use Rattle.std.proofs.Common.{◌∙◌, refl, arith}
use Rattle.std.proofs.lemmas.Bool.Decides.{nat_tests}
use Rattle.std.specs.Prelude.{Err}
use Rattle.clog_store.proofs.NoteGoes.{cause_then, goes_still, goes_then}
use Rattle.clog_store.proofs.NoteLeaves.{leaves_still, leaves_then}
use Rattle.clog_store.proofs.NoteStands.{stands_by}
use Rattle.clog_store.proofs.note_writing.write_rest.Goals as goal

pub loop-written-init : goal.loop-written-init
loop-written-init g c =
    let D = g.D.Disk in
    let log = c.args.log.now in
    record {
      few = c.requires.ready.at.few;
      runs = c.requires.runs;
      ready = λ sizes synced logged upto ready. ready;
      goes = goes_still D.files D.moment D.since D.leaves D.read_at D.lasted_at log
          (g.met.D.Disk.only_now log.disk);
      leaves = leaves_still D.files D.changes log;
      faults = refl;
      up = omega arith;
      still = λ all. refl;
    }

pub write_next-requires-clause-ready : goal.write_next-requires-clause-ready
write_next-requires-clause-ready g c =
    let r = c.requires.ready in
    record {
      sizes = r.sizes;
      synced = r.synced;
      logged = r.logged;
      upto = r.upto;
      at = c.loop-written.invariant.ready r.sizes r.synced r.logged r.upto r.at;
    }

pub loop-written-preserved : goal.loop-written-preserved
loop-written-preserved g c =
    let D = g.D.Disk in
    let inv = c.loop-written.invariant in
    record {
      few = c.write_next.ensures.few;
      runs = c.in-Ok.ensures.runs;
      ready = λ sizes synced logged upto ready.
          c.in-Ok.ensures.ready sizes synced logged upto
          (inv.ready sizes synced logged upto ready);
      goes = goes_then D.files D.moment D.since D.leaves D.read_at D.lasted_at c.args.log.now
          c.loop-written.log c.write_next.new.log inv.goes c.write_next.ensures.goes;
      leaves = leaves_then D.files D.changes c.args.log.now c.loop-written.log c.write_next.new.log
          inv.runs inv.leaves c.write_next.ensures.leaves;
      faults = c.in-Ok.ensures.cause.1 ∙ inv.faults;
      up = omega (arith, inv.up, c.in-Ok.ensures.more);
      still = λ all.
          let more = c.loop-written-test.true in absurd (grind (arith, nat_tests));
    }

pub returns-in-Err-clause-held : goal.returns-in-Err-clause-held
returns-in-Err-clause-held g c sizes synced logged upto ready runs =
    c.write_next.ensures.held sizes synced logged upto
    (c.loop-written.invariant.ready sizes synced logged upto ready) runs

pub returns-in-Err-clause-goes : goal.returns-in-Err-clause-goes
returns-in-Err-clause-goes g c =
    let D = g.D.Disk in
    goes_then D.files D.moment D.since D.leaves D.read_at D.lasted_at c.args.log.now
    c.loop-written.log c.write_next.new.log c.loop-written.invariant.goes c.write_next.ensures.goes

pub returns-in-Err-clause-cause : goal.returns-in-Err-clause-cause
returns-in-Err-clause-cause g c =
    let D = g.D.Disk in
    let inv = c.loop-written.invariant in
    cause_then {T = Unit {0}} c.args.log.now.is_stopped c.loop-written.log.is_stopped
    (D.faults c.args.log.now.disk) (D.faults c.loop-written.log.disk)
    (D.faults c.write_next.new.log.disk) (Err c.in-Err.fault) c.requires.runs inv.runs inv.faults
    c.in-Err.ensures.cause

pub returns-clause-held : goal.returns-clause-held
returns-clause-held g c sizes synced logged upto ready runs =
    (c.loop-written.invariant.ready sizes synced logged upto ready).held

pub returns-in-Err-clause-leaves : goal.returns-in-Err-clause-leaves
returns-in-Err-clause-leaves g c =
    leaves_then g.D.Disk.files g.D.Disk.changes c.args.log.now c.loop-written.log
    c.write_next.new.log c.loop-written.invariant.runs c.loop-written.invariant.leaves
    c.write_next.ensures.leaves

-- ---- whatever the disk has done

pub returns-in-Err-clause-stands : goal.returns-in-Err-clause-stands
returns-in-Err-clause-stands g c sizes synced logged upto ready =
    c.write_next.ensures.stands sizes synced logged upto
    (c.loop-written.invariant.ready sizes synced logged upto ready)

pub returns-clause-stands : goal.returns-clause-stands
returns-clause-stands g c sizes synced logged upto ready =
    let then_ = c.loop-written.invariant.ready sizes synced logged upto ready in
    stands_by c.args.base c.args.notes.now sizes synced logged c.loop-written.log
    c.loop-written.written c.loop-written.written then_.few then_.held

-- ---- where there was none to come

pub returns-in-Err-clause-still : goal.returns-in-Err-clause-still
returns-in-Err-clause-still g c all =
    let up = c.loop-written.invariant.up in
    let more = c.loop-written-test.true in
    absurd (grind (arith, nat_tests))
