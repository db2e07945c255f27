use Rattle.std.proofs.Common.{List, Option, subst, sym, ◌∙◌}
use Rattle.clog_disk.specs.declared.change.Change.{Change}
use Rattle.clog_disk.specs.Files.{Files, Told}
use Rattle.clog_crash.specs.Flush.{IsSameFolder}
use Rattle.clog_segments.specs.Filing.{ComesFrom}
use Rattle.clog_segments.specs.Opened.{KeepsFolder, RecoversAll}
use Rattle.clog_segments.proofs.Changed.{only_puts, put_none}
use Rattle.clog_segments.proofs.ComesFrom.{lasts_from}
use Rattle.clog_segments.proofs.OpenedWhole.{keeps_same}
use Rattle.clog_segments.proofs.Recovery.{same_told, undamaged_first}
use Rattle.clog_segments.proofs.WasLeft.{lasting_told, left_or}
use Rattle.clog_segments.proofs.opening.recover_folder.Goals as goal

-- ---- not all is made to last

pub returns-in-Err-clause-changes : goal.returns-in-Err-clause-changes
returns-in-Err-clause-changes g c first is =
    let old = g.D.Disk.changes c.args.disk.now in
    let mid = g.D.Disk.changes c.settle.new.self in
    only_puts first old mid (put_none first old mid c.settle.ensures.quiet)

pub returns-in-Err-clause-same : goal.returns-in-Err-clause-same
returns-in-Err-clause-same g c first is =
    subst (λ (o : Option Files). Told o (IsSameFolder first)) (sym c.settle.ensures.same)
    (same_told first (g.D.Disk.files c.args.disk.now) is c.requires.log.1)

-- ---- all is, and is recovered

pub returns-in-Ok-recover_settled-clause-recovers :
    goal.returns-in-Ok-recover_settled-clause-recovers
returns-in-Ok-recover_settled-clause-recovers g c first is =
    let new = g.D.Disk.changes c.recover_settled.new.disk in
    subst (λ (before : Option (List Change)). RecoversAll first before new)
    c.settle.ensures.quiet
    (c.in-Ok-recover_settled.ensures.recovers first (c.settle.ensures.same ∙ is))

pub returns-in-Ok-recover_settled-clause-any_moment :
    goal.returns-in-Ok-recover_settled-clause-any_moment
returns-in-Ok-recover_settled-clause-any_moment g c first is =
    let D = g.D.Disk in
    let old = c.args.disk.now in
    left_or D.moment D.since D.leaves D.read_at D.lasted_at old c.settle.new.self
    (g.met.D.Disk.only_now old) c.settle.ensures.crash c.settle.ensures.time
    c.recover_settled.new.disk (IsSameFolder first) (KeepsFolder first)
    (c.recover_settled.ensures.any_moment first (c.settle.ensures.same ∙ is) (record {
      exact = lasting_told (D.files old) (D.leaves c.settle.new.self) first is
          c.in-Ok.ensures.lasts;
      undamaged = undamaged_first first (D.files old) is c.requires.log.1;
    })) (keeps_same first)

pub returns-in-Ok-recover_settled-clause-from : goal.returns-in-Ok-recover_settled-clause-from
returns-in-Ok-recover_settled-clause-from g c first is =
    let D = g.D.Disk in
    let old = c.args.disk.now in
    let mid = D.leaves c.settle.new.self in
    left_or D.moment D.since D.leaves D.read_at D.lasted_at old c.settle.new.self
    (g.met.D.Disk.only_now old) c.settle.ensures.crash c.settle.ensures.time
    c.recover_settled.new.disk (ComesFrom first) (ComesFrom first)
    (c.recover_settled.ensures.from first (c.settle.ensures.same ∙ is) (lasts_from first mid
    (lasting_told (D.files old) mid first is c.in-Ok.ensures.lasts))).meanwhile
    (λ image comes. comes)

-- ---- its recovery is refused

pub returns-in-Err-recover_settled-clause-any_moment :
    goal.returns-in-Err-recover_settled-clause-any_moment
returns-in-Err-recover_settled-clause-any_moment g c first is =
    let D = g.D.Disk in
    let old = c.args.disk.now in
    left_or D.moment D.since D.leaves D.read_at D.lasted_at old c.settle.new.self
    (g.met.D.Disk.only_now old) c.settle.ensures.crash c.settle.ensures.time
    c.recover_settled.new.disk (IsSameFolder first) (KeepsFolder first)
    (c.recover_settled.ensures.any_moment first (c.settle.ensures.same ∙ is) (record {
      exact = lasting_told (D.files old) (D.leaves c.settle.new.self) first is
          c.in-Ok.ensures.lasts;
      undamaged = undamaged_first first (D.files old) is c.requires.log.1;
    })) (keeps_same first)

pub returns-in-Err-recover_settled-clause-from : goal.returns-in-Err-recover_settled-clause-from
returns-in-Err-recover_settled-clause-from g c first is =
    let D = g.D.Disk in
    let old = c.args.disk.now in
    let mid = D.leaves c.settle.new.self in
    left_or D.moment D.since D.leaves D.read_at D.lasted_at old c.settle.new.self
    (g.met.D.Disk.only_now old) c.settle.ensures.crash c.settle.ensures.time
    c.recover_settled.new.disk (ComesFrom first) (ComesFrom first)
    (c.recover_settled.ensures.from first (c.settle.ensures.same ∙ is) (lasts_from first mid
    (lasting_told (D.files old) mid first is c.in-Ok.ensures.lasts))).meanwhile
    (λ image comes. comes)
