use Rattle.std.proofs.Common.{refl}
use Rattle.clog_disk.proofs.Moments.{started, goes_on_by}
use Rattle.clog_crash.specs.Flush.{IsSameFolder}
use Rattle.clog_segments.specs.Coming.{AreThere}
use Rattle.clog_segments.proofs.Changed.{first_of_all, only_puts, put_none}
use Rattle.clog_segments.proofs.ComesFrom.{still_from, then_from}
use Rattle.clog_segments.proofs.Filed.{settled_show}
use Rattle.clog_segments.proofs.Live.{sized}
use Rattle.clog_segments.proofs.PutTables.{then_gone, then_some_gone}
use Rattle.clog_segments.proofs.Recovery.{
  begins_settled,
  full_only,
  full_same,
  ids_are,
  if_told_first,
  is_read,
  only_told,
  only_yet,
  recovered_told,
  recovering_told,
  recovers_told,
  same_told,
  settled_end,
  there_told,
}
use Rattle.clog_segments.proofs.opening.recover_settled.Goals as goal

pub put_tables-requires-clause-sized : goal.put_tables-requires-clause-sized
put_tables-requires-clause-sized g c =
    let log = c.requires.log.1 in
    sized c.requires.log.0 log.ps c.args.cells log.live

pub take_all_recovered-requires : goal.take_all_recovered-requires
take_all_recovered-requires g c = record {
  there =
      let D = g.D.Disk in
      if_told_first (D.files c.args.disk.now) (D.files c.put_tables.new.disk)
      (λ f. AreThere f c.deref.result.now) c.put_tables.ensures.told (λ first is.
      let r = is_read first is c.requires.log.1 c.requires.lists in
      there_told first _ _ _ r.ready _ (ids_are c.deref.ensures.value c.in_ok-ids.ensures) _
      (c.in-Ok.ensures.files first r.ready r.begun));
}

-- ---- the same folder

pub returns-in_err-ids-clause-same : goal.returns-in_err-ids-clause-same
returns-in_err-ids-clause-same g c first is =
    same_told first (g.D.Disk.files c.args.disk.now) is c.requires.log.1

pub returns-in-Err-clause-same : goal.returns-in-Err-clause-same
returns-in-Err-clause-same g c first is =
    let r = is_read first is c.requires.log.1 c.requires.lists in
    full_same first _ (c.in-Err.ensures.files first r.ready r.begun)

pub returns-clause-same : goal.returns-clause-same
returns-clause-same g c first is =
    let r = is_read first is c.requires.log.1 c.requires.lists in
    c.take_all_recovered.ensures.files first
    (recovers_told first _ _ _ r.ready _ (ids_are c.deref.ensures.value c.in_ok-ids.ensures) _
    (c.in-Ok.ensures.files first r.ready r.begun))

pub returns-in-Ok-take_all_recovered-clause-same : goal.returns-in-Ok-take_all_recovered-clause-same
returns-in-Ok-take_all_recovered-clause-same g c first is =
    let r = is_read first is c.requires.log.1 c.requires.lists in
    c.take_all_recovered.ensures.files first
    (recovers_told first _ _ _ r.ready _ (ids_are c.deref.ensures.value c.in_ok-ids.ensures) _
    (c.in-Ok.ensures.files first r.ready r.begun))

-- ---- and in each image

pub returns-in_err-ids-clause-any_moment : goal.returns-in_err-ids-clause-any_moment
returns-in_err-ids-clause-any_moment g c first is settled =
    let D = g.D.Disk in
    let old = c.args.disk.now in
    started D.moment D.since old (IsSameFolder first) (λ image left.
    settled_show first c.args.cells 0 (D.files old) (D.leaves old)
    (begins_settled first (D.files old) is c.requires.log.1 (D.leaves old) settled) image
    (g.met.D.Disk.only_now old image left))

pub returns-in-Err-clause-any_moment : goal.returns-in-Err-clause-any_moment
returns-in-Err-clause-any_moment g c first is settled =
    let r = is_read first is c.requires.log.1 c.requires.lists in
    c.put_tables.ensures.any_moment first r.ready (r.settled _ settled)

pub returns-in-Ok-take_all_recovered-clause-any_moment :
    goal.returns-in-Ok-take_all_recovered-clause-any_moment
returns-in-Ok-take_all_recovered-clause-any_moment g c first is settled =
    let D = g.D.Disk in
    let r = is_read first is c.requires.log.1 c.requires.lists in
    let begun = r.settled _ settled in
    goes_on_by D.moment D.since c.args.disk.now c.put_tables.new.disk c.take_all_recovered.new.disk
    (IsSameFolder first) (c.put_tables.ensures.any_moment first r.ready begun)
    (c.take_all_recovered.ensures.any_moment first
    (recovering_told first _ _ _ r.ready _ (ids_are c.deref.ensures.value c.in_ok-ids.ensures) _ _
    (c.in-Ok.ensures.settles first r.ready begun)))

pub returns-clause-any_moment : goal.returns-clause-any_moment
returns-clause-any_moment g c first is settled =
    let D = g.D.Disk in
    let r = is_read first is c.requires.log.1 c.requires.lists in
    let begun = r.settled _ settled in
    goes_on_by D.moment D.since c.args.disk.now c.put_tables.new.disk c.take_all_recovered.new.disk
    (IsSameFolder first) (c.put_tables.ensures.any_moment first r.ready begun)
    (c.take_all_recovered.ensures.any_moment first
    (recovering_told first _ _ _ r.ready _ (ids_are c.deref.ensures.value c.in_ok-ids.ensures) _ _
    (c.in-Ok.ensures.settles first r.ready begun)))

-- ---- where all went well

pub returns-in-Ok-take_all_recovered-clause-files :
    goal.returns-in-Ok-take_all_recovered-clause-files
returns-in-Ok-take_all_recovered-clause-files g c first is base above =
    let r = is_read first is c.requires.log.1 c.requires.lists in
    recovered_told first _ _ _ r.ready _ (ids_are c.deref.ensures.value c.in_ok-ids.ensures) _ _
    (c.in-Ok.ensures.files first r.ready r.begun) c.in-Ok-take_all_recovered.ensures.gone base above

pub returns-in-Ok-take_all_recovered-clause-settles :
    goal.returns-in-Ok-take_all_recovered-clause-settles
returns-in-Ok-take_all_recovered-clause-settles g c first is settled =
    let r = is_read first is c.requires.log.1 c.requires.lists in
    settled_end first _ _ (c.in-Ok-take_all_recovered.ensures.go first
    (recovering_told first _ _ _ r.ready _ (ids_are c.deref.ensures.value c.in_ok-ids.ensures) _ _
    (c.in-Ok.ensures.settles first r.ready (r.settled _ settled))))

-- ---- what it changes

pub returns-in_err-ids-clause-changes : goal.returns-in_err-ids-clause-changes
returns-in_err-ids-clause-changes g c first is =
    let old = g.D.Disk.changes c.args.disk.now in
    only_puts first old old (put_none first old old refl)

pub returns-in-Err-clause-changes : goal.returns-in-Err-clause-changes
returns-in-Err-clause-changes g c first is =
    let r = is_read first is c.requires.log.1 c.requires.lists in
    only_puts first _ _ (c.in-Err.ensures.puts first r.ready r.begun)

pub returns-in-Ok-take_all_recovered-clause-recovers :
    goal.returns-in-Ok-take_all_recovered-clause-recovers
returns-in-Ok-take_all_recovered-clause-recovers g c first is =
    let r = is_read first is c.requires.log.1 c.requires.lists in
    then_gone r.ready (ids_are c.deref.ensures.value c.in_ok-ids.ensures)
    (c.in-Ok.ensures.puts first r.ready r.begun) c.in-Ok-take_all_recovered.ensures.removes

pub returns-in-Ok-take_all_recovered-clause-changes :
    goal.returns-in-Ok-take_all_recovered-clause-changes
returns-in-Ok-take_all_recovered-clause-changes g c first is =
    let r = is_read first is c.requires.log.1 c.requires.lists in
    first_of_all first _ _ (then_gone r.ready
    (ids_are c.deref.ensures.value c.in_ok-ids.ensures)
    (c.in-Ok.ensures.puts first r.ready r.begun) c.in-Ok-take_all_recovered.ensures.removes)

pub returns-clause-changes : goal.returns-clause-changes
returns-clause-changes g c first is =
    let r = is_read first is c.requires.log.1 c.requires.lists in
    let removes = c.in-Err-take_all_recovered.ensures.removes in
    then_some_gone r.ready (ids_are c.deref.ensures.value c.in_ok-ids.ensures)
    (c.in-Ok.ensures.puts first r.ready r.begun) removes.0 removes.1

-- ---- what is no segment stands

pub returns-in_err-ids-clause-others : goal.returns-in_err-ids-clause-others
returns-in_err-ids-clause-others g c first is =
    only_yet first (g.D.Disk.files c.args.disk.now) is

pub returns-in-Err-clause-others : goal.returns-in-Err-clause-others
returns-in-Err-clause-others g c first is =
    let r = is_read first is c.requires.log.1 c.requires.lists in
    full_only first _ (c.in-Err.ensures.files first r.ready r.begun)

pub returns-in-Ok-take_all_recovered-clause-others :
    goal.returns-in-Ok-take_all_recovered-clause-others
returns-in-Ok-take_all_recovered-clause-others g c first is =
    let r = is_read first is c.requires.log.1 c.requires.lists in
    only_told first _ _ _ r.ready _ (ids_are c.deref.ensures.value c.in_ok-ids.ensures) _ _
    (c.in-Ok.ensures.files first r.ready r.begun) c.take_all_recovered.ensures.others

pub returns-clause-others : goal.returns-clause-others
returns-clause-others g c first is =
    let r = is_read first is c.requires.log.1 c.requires.lists in
    only_told first _ _ _ r.ready _ (ids_are c.deref.ensures.value c.in_ok-ids.ensures) _ _
    (c.in-Ok.ensures.files first r.ready r.begun) c.take_all_recovered.ensures.others

-- ---- what an image holds

pub returns-in_err-ids-clause-from : goal.returns-in_err-ids-clause-from
returns-in_err-ids-clause-from g c first is from =
    let D = g.D.Disk in
    still_from D.moment D.since D.leaves first c.args.disk.now
    (g.met.D.Disk.only_now c.args.disk.now) from

pub returns-in-Err-clause-from : goal.returns-in-Err-clause-from
returns-in-Err-clause-from g c first is from =
    let r = is_read first is c.requires.log.1 c.requires.lists in
    c.put_tables.ensures.from first r.ready r.begun from

pub returns-in-Ok-take_all_recovered-clause-from :
    goal.returns-in-Ok-take_all_recovered-clause-from
returns-in-Ok-take_all_recovered-clause-from g c first is from =
    let D = g.D.Disk in
    let r = is_read first is c.requires.log.1 c.requires.lists in
    then_from D.moment D.since D.leaves first c.args.disk.now c.put_tables.new.disk
    c.take_all_recovered.new.disk (c.put_tables.ensures.from first r.ready r.begun from)
    (c.take_all_recovered.ensures.from first)

pub returns-clause-from : goal.returns-clause-from
returns-clause-from g c first is from =
    let D = g.D.Disk in
    let r = is_read first is c.requires.log.1 c.requires.lists in
    then_from D.moment D.since D.leaves first c.args.disk.now c.put_tables.new.disk
    c.take_all_recovered.new.disk (c.put_tables.ensures.from first r.ready r.begun from)
    (c.take_all_recovered.ensures.from first)
