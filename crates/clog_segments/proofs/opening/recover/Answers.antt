use Rattle.std.proofs.Common.{List, Option, sym, subst, ◌∙◌, arith}
use Rattle.clog_disk.specs.declared.change.Change.{Change}
use Rattle.clog_disk.specs.Files.{Files, SameTold}
use Rattle.clog_disk.proofs.Moments.{later_still}
use Rattle.clog_disk.proofs.Telling.{same_told_self}
use Rattle.clog_segments.specs.Live.{IsLogOf}
use Rattle.clog_segments.specs.Filing.{ComesFrom}
use Rattle.clog_segments.specs.Opened.{KeepsFolder, RecoversAll, RecoversFirst}
use Rattle.clog_segments.proofs.Changed.{only_puts, put_none}
use Rattle.clog_segments.proofs.Kept.{if_told}
use Rattle.clog_segments.proofs.LooksFirst.{left_on, looks_left, told_on}
use Rattle.clog_segments.proofs.OpenedWhole.{
  alone_of,
  at_rest,
  base_fits,
  base_low,
  exact_told,
  has_rows,
  is_opened,
  known_above,
  step_alone,
  step_refused,
  still_keeps,
  told_keeps,
}
use Rattle.clog_segments.proofs.Recovery.{came_of, only_yet, others_of}
use Rattle.clog_segments.proofs.opening.recover.Goals as goal

-- ---- it is not opened

pub returns-in-Err-clause-told : goal.returns-in-Err-clause-told
returns-in-Err-clause-told g c =
    subst (λ (o : Option Files). SameTold (g.D.Disk.files c.args.disk.now) o)
    (sym c.look.ensures.keeps.same.files) (same_told_self (g.D.Disk.files c.args.disk.now))

pub returns-in-Err-clause-alone : goal.returns-in-Err-clause-alone
returns-in-Err-clause-alone g c = alone_of c.in-Err.fault _ c.look.ensures.keeps

pub returns-in-Err-clause-keeps : goal.returns-in-Err-clause-keeps
returns-in-Err-clause-keeps g c first is =
    still_keeps first (g.D.Disk.files c.args.disk.now) (g.D.Disk.files c.look.new.disk) is
    c.look.ensures.keeps.same.files

pub returns-in-Err-clause-any_moment : goal.returns-in-Err-clause-any_moment
returns-in-Err-clause-any_moment g c first is =
    looks_left c.look.ensures.keeps g.met.D.Disk.only_now (KeepsFolder first)

-- ---- it is

pub recover_folder-requires-clause-log : goal.recover_folder-requires-clause-log
recover_folder-requires-clause-log g c =
    let known = c.in-Ok.known in
    let looks = c.in-Ok.ensures.looks in (
      looks.tables,
      subst (λ (o : Option Files). IsLogOf o looks.tables known.cells known.top)
          (sym c.look.ensures.keeps.same.files) looks.log,
    )

pub returns-in-Ok-recover_folder-clause-told : goal.returns-in-Ok-recover_folder-clause-told
returns-in-Ok-recover_folder-clause-told g c =
    told_on c.look.ensures.keeps c.recover_folder.new.disk c.recover_folder.ensures.told

pub returns-in-Ok-recover_folder-clause-later : goal.returns-in-Ok-recover_folder-clause-later
returns-in-Ok-recover_folder-clause-later g c =
    let D = g.D.Disk in
    later_still D.moment D.read_at D.lasted_at c.args.disk.now c.look.new.disk
    c.recover_folder.new.disk
    c.look.ensures.keeps.time.later c.recover_folder.ensures.later

pub returns-in-Ok-recover_folder-clause-no_fewer : goal.returns-in-Ok-recover_folder-clause-no_fewer
returns-in-Ok-recover_folder-clause-no_fewer g c =
    omega (arith, c.look.ensures.keeps.later, c.recover_folder.ensures.no_fewer)

pub returns-in-Ok-recover_folder-clause-keeps : goal.returns-in-Ok-recover_folder-clause-keeps
returns-in-Ok-recover_folder-clause-keeps g c first is =
    told_keeps first (g.D.Disk.files c.recover_folder.new.disk)
    (c.recover_folder.ensures.same first (c.look.ensures.keeps.same.files ∙ is))

pub returns-in-Ok-recover_folder-clause-any_moment :
    goal.returns-in-Ok-recover_folder-clause-any_moment
returns-in-Ok-recover_folder-clause-any_moment g c first is =
    left_on c.look.ensures.keeps g.met.D.Disk.only_now
    (c.recover_folder.ensures.any_moment first (c.look.ensures.keeps.same.files ∙ is))

-- ---- its recovery is refused

pub returns-clause-told : goal.returns-clause-told
returns-clause-told g c =
    told_on c.look.ensures.keeps c.recover_folder.new.disk c.recover_folder.ensures.told

pub returns-clause-later : goal.returns-clause-later
returns-clause-later g c =
    let D = g.D.Disk in
    later_still D.moment D.read_at D.lasted_at c.args.disk.now c.look.new.disk
    c.recover_folder.new.disk
    c.look.ensures.keeps.time.later c.recover_folder.ensures.later

pub returns-clause-no_fewer : goal.returns-clause-no_fewer
returns-clause-no_fewer g c =
    omega (arith, c.look.ensures.keeps.later, c.recover_folder.ensures.no_fewer)

pub returns-clause-keeps : goal.returns-clause-keeps
returns-clause-keeps g c first is =
    told_keeps first (g.D.Disk.files c.recover_folder.new.disk)
    (c.recover_folder.ensures.same first (c.look.ensures.keeps.same.files ∙ is))

pub returns-clause-any_moment : goal.returns-clause-any_moment
returns-clause-any_moment g c first is =
    left_on c.look.ensures.keeps g.met.D.Disk.only_now
    (c.recover_folder.ensures.any_moment first (c.look.ensures.keeps.same.files ∙ is))

pub returns-in-Ok-recover_folder-clause-opens : goal.returns-in-Ok-recover_folder-clause-opens
returns-in-Ok-recover_folder-clause-opens g c =
    let D = g.D.Disk in
    let old = c.args.disk.now in
    if_told (D.files old) _ (λ first is.
    is_opened first (D.files old) is c.args.moment c.in-Ok.known c.in-Ok.ensures.looks
    (D.files c.recover_folder.new.disk)
    (c.in-Ok-recover_folder.ensures.files first (c.look.ensures.keeps.same.files ∙ is)
    c.in-Ok.known.base
    (known_above first (D.files old) is c.args.moment c.in-Ok.known c.in-Ok.ensures.looks)))

pub returns-in-Ok-recover_folder-clause-fits : goal.returns-in-Ok-recover_folder-clause-fits
returns-in-Ok-recover_folder-clause-fits g c =
    base_fits _ c.args.moment c.in-Ok.known.base c.in-Ok.ensures.looks.base_is c.requires.moment

pub returns-in-Ok-recover_folder-clause-low : goal.returns-in-Ok-recover_folder-clause-low
returns-in-Ok-recover_folder-clause-low g c =
    base_low _ c.args.moment c.in-Ok.known.base c.in-Ok.ensures.looks.base_is c.requires.moment

pub returns-in-Ok-recover_folder-clause-rests : goal.returns-in-Ok-recover_folder-clause-rests
returns-in-Ok-recover_folder-clause-rests g c first is =
    let D = g.D.Disk in
    let is_mid = c.look.ensures.keeps.same.files ∙ is in
    at_rest first (D.files c.args.disk.now) c.args.moment c.in-Ok.known c.in-Ok.ensures.looks
    c.requires.moment (D.files c.recover_folder.new.disk) (D.leaves c.recover_folder.new.disk)
    (c.in-Ok-recover_folder.ensures.files first is_mid c.in-Ok.known.base
    (known_above first (D.files c.args.disk.now) is c.args.moment c.in-Ok.known
    c.in-Ok.ensures.looks))
    (c.in-Ok-recover_folder.ensures.settles first is_mid)

pub returns-in-Ok-recover_folder-clause-lasts : goal.returns-in-Ok-recover_folder-clause-lasts
returns-in-Ok-recover_folder-clause-lasts g c first is =
    let D = g.D.Disk in
    exact_told (D.files c.recover_folder.new.disk) (D.leaves c.recover_folder.new.disk)
    (c.in-Ok-recover_folder.ensures.settles first (c.look.ensures.keeps.same.files ∙ is))

pub returns-in-Ok-recover_folder-clause-restored : goal.returns-in-Ok-recover_folder-clause-restored
returns-in-Ok-recover_folder-clause-restored g c first is =
    has_rows first is c.in-Ok.ensures.looks.log

pub returns-clause-opens : goal.returns-clause-opens
returns-clause-opens g c =
    let D = g.D.Disk in
    step_refused (D.files c.args.disk.now) (D.faults c.args.disk.now) (D.faults c.look.new.disk)
    (D.faults c.recover_folder.new.disk) c.in-Err-recover_folder.fault
    c.look.ensures.keeps.later c.in-Err-recover_folder.ensures.cause

pub returns-clause-alone : goal.returns-clause-alone
returns-clause-alone g c =
    step_alone (g.D.Disk.faults c.look.new.disk) (g.D.Disk.faults c.recover_folder.new.disk)
    c.in-Err-recover_folder.fault _ c.in-Err-recover_folder.ensures.cause

-- ---- what it changes

pub returns-in-Err-clause-changes : goal.returns-in-Err-clause-changes
returns-in-Err-clause-changes g c first is =
    let old = g.D.Disk.changes c.args.disk.now in
    let mid = g.D.Disk.changes c.look.new.disk in
    only_puts first old mid (put_none first old mid c.look.ensures.keeps.changes_are)

pub returns-in-Ok-recover_folder-clause-changes : goal.returns-in-Ok-recover_folder-clause-changes
returns-in-Ok-recover_folder-clause-changes g c first is =
    let new = g.D.Disk.changes c.recover_folder.new.disk in
    subst (λ (before : Option (List Change)). RecoversFirst first before new)
    c.look.ensures.keeps.changes_are
    (c.recover_folder.ensures.changes first (c.look.ensures.keeps.same.files ∙ is))

pub returns-in-Ok-recover_folder-clause-recovers : goal.returns-in-Ok-recover_folder-clause-recovers
returns-in-Ok-recover_folder-clause-recovers g c first is =
    let new = g.D.Disk.changes c.recover_folder.new.disk in
    subst (λ (before : Option (List Change)). RecoversAll first before new)
    c.look.ensures.keeps.changes_are
    (c.in-Ok-recover_folder.ensures.recovers first (c.look.ensures.keeps.same.files ∙ is))

pub returns-clause-changes : goal.returns-clause-changes
returns-clause-changes g c first is =
    let new = g.D.Disk.changes c.recover_folder.new.disk in
    subst (λ (before : Option (List Change)). RecoversFirst first before new)
    c.look.ensures.keeps.changes_are
    (c.recover_folder.ensures.changes first (c.look.ensures.keeps.same.files ∙ is))

-- ---- what is no segment stands

pub returns-in-Err-clause-others : goal.returns-in-Err-clause-others
returns-in-Err-clause-others g c first is =
    let told = g.D.Disk.files c.look.new.disk in
    others_of first told (only_yet first told (c.look.ensures.keeps.same.files ∙ is))

pub returns-in-Ok-recover_folder-clause-others : goal.returns-in-Ok-recover_folder-clause-others
returns-in-Ok-recover_folder-clause-others g c first is =
    others_of first (g.D.Disk.files c.recover_folder.new.disk)
    (c.recover_folder.ensures.others first (c.look.ensures.keeps.same.files ∙ is))

pub returns-clause-others : goal.returns-clause-others
returns-clause-others g c first is =
    others_of first (g.D.Disk.files c.recover_folder.new.disk)
    (c.recover_folder.ensures.others first (c.look.ensures.keeps.same.files ∙ is))

pub returns-in-Err-clause-came : goal.returns-in-Err-clause-came
returns-in-Err-clause-came g c first is =
    let told = g.D.Disk.files c.look.new.disk in
    came_of first told (only_yet first told (c.look.ensures.keeps.same.files ∙ is))

pub returns-in-Ok-recover_folder-clause-came : goal.returns-in-Ok-recover_folder-clause-came
returns-in-Ok-recover_folder-clause-came g c first is =
    came_of first (g.D.Disk.files c.recover_folder.new.disk)
    (c.recover_folder.ensures.others first (c.look.ensures.keeps.same.files ∙ is))

pub returns-clause-came : goal.returns-clause-came
returns-clause-came g c first is =
    came_of first (g.D.Disk.files c.recover_folder.new.disk)
    (c.recover_folder.ensures.others first (c.look.ensures.keeps.same.files ∙ is))

-- ---- what an image holds

pub returns-in-Err-clause-images : goal.returns-in-Err-clause-images
returns-in-Err-clause-images g c first is =
    looks_left c.look.ensures.keeps g.met.D.Disk.only_now (ComesFrom first)

pub returns-in-Ok-recover_folder-clause-images : goal.returns-in-Ok-recover_folder-clause-images
returns-in-Ok-recover_folder-clause-images g c first is =
    left_on c.look.ensures.keeps g.met.D.Disk.only_now
    (c.recover_folder.ensures.from first (c.look.ensures.keeps.same.files ∙ is))

pub returns-clause-images : goal.returns-clause-images
returns-clause-images g c first is =
    left_on c.look.ensures.keeps g.met.D.Disk.only_now
    (c.recover_folder.ensures.from first (c.look.ensures.keeps.same.files ∙ is))
