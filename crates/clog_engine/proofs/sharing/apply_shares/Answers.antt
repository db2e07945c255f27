use Rattle.std.proofs.Common.{◌≡◌, ℕ, Bool, Option, arith, inl, length, sym, subst, ap, ◌∙◌}
use Rattle.clog_disk.specs.Files.{Files, SameTold, bytes_at}
use Rattle.std.specs.Prelude.{is_some}
use Rattle.clog_writers.specs.Left.{LeavesShares, WritesShares, least_of}
use Rattle.clog_writers.specs.Written.{HasShareCause}
use Rattle.clog_base.proofs.Follows.{if_ok}
use Rattle.clog_engine.specs.declared.status.Status.{Status}
use Rattle.clog_engine.specs.Logged.{LinesRefuse}
use Rattle.clog_engine.specs.Outside.{outside_with}
use Rattle.clog_engine.specs.Refusal.{HasRoomFor, folder_status}
use Rattle.clog_engine.specs.Report.{IsReport, head_with}
use Rattle.clog_engine.specs.Request.{AreSizesOf}
use Rattle.clog_engine.proofs.Applied.{folder_refuses, left_closed, not_opened}
use Rattle.clog_engine.proofs.Opened.{could_open, keeps_all, lasts_first, left_alone, looked_alone}
use Rattle.clog_engine.proofs.Opened.{others, told_then, turns_shares, wrote}
use Rattle.clog_engine.proofs.SharesApplied.{is_asked, is_report, ok_at, shares_applied}
use Rattle.clog_engine.proofs.SharesApplied.{shares_call}
use Rattle.clog_engine.proofs.sharing.apply_shares.Goals as goal

pub returns-in-Err-pending-clause-applies : goal.returns-in-Err-pending-clause-applies
returns-in-Err-pending-clause-applies g c left left_now f h ms planned =
    inl (looked_alone g.D.Disk g.C.Clock left left_now f h c.args.disk c.cells_before.new.disk
    c.args.clock.now (c.disks_leave_now.ensures c.args.disk) c.in-Ok.ensures.keeps)

pub returns-in-Err-open-clause-applies : goal.returns-in-Err-open-clause-applies
returns-in-Err-open-clause-applies g c left left_now f h ms planned =
    let start = c.args.disk in
    let looked = c.cells_before.new.disk in
    let now = c.in-Err-open.disk in
    let still = c.in-Ok.ensures.keeps in
    let refusal = c.in-Err-open.refusal in
    let options = c.args.options in
    let o = outside_with left left_now f h g.D.Disk g.C.Clock start now c.args.clock.now in
    let kept = keeps_all g.D.Disk g.C.Clock left left_now f h start looked c.args.clock.now
    (c.disks_leave_now.ensures start) still now c.in-Err-open.ensures.told
    c.in-Err-open.ensures.keeps
    c.in-Err-open.ensures.others c.in-Err-open.ensures.any_moment c.in-Err-open.ensures.changes in
    subst (λ (s : Status). LinesRefuse options ms s o) (sym c.folder_status.ensures)
    (folder_refuses options ms (folder_status refusal) o
    (not_opened (g.D.Disk.files start) (g.D.Disk.files looked) (g.D.Disk.faults start)
    (g.D.Disk.faults looked) (g.D.Disk.faults now) refusal still.same.files still.later
    c.in-Err-open.ensures.refused)
    (left_closed options ms refusal o _ c.in-Err-open.ensures.alone
    (left_alone g.D.Disk g.C.Clock left left_now f h start looked c.args.clock.now
    (c.disks_leave_now.ensures start) still now) kept))

pub returns-clause-applies : goal.returns-clause-applies
returns-clause-applies g c left left_now f h ms planned =
    let start = c.args.disk in
    let looked = c.cells_before.new.disk in
    let store = c.in-Ok-open.store in
    let opened = store.notes.log.disk in
    let now = c.write_plan-disk.result.0 in
    let outcome = c.write_plan-disk.result.1 in
    let done = c.write_plan-disk.ensures in
    let still = c.in-Ok.ensures.keeps in
    let before = c.in-Ok.cells in
    let opening = c.in-Ok-open.ensures in
    let options = c.args.options in
    let flushing = is_some options.flush_at in
    let sizes = c.args.sizes in
    let base = store.notes.base in
    let pending = c.in-Ok-pending.pending in
    let only = c.disks_leave_now.ensures start in
    let at = c.args.clock.now in
    let o = outside_with left left_now f h g.D.Disk g.C.Clock start now at in
    let archives : store.archives ≡ options.archive = ap (λ s. s.archives) opening.over in
    let its_sizes : store.notes.sizes ≡ sizes = ap (λ s. s.notes.sizes) opening.over in
    let writers = c.requires.sizes.writers in
    let asked = is_asked options store.notes.sizes store.archives
    (subst (AreSizesOf options) (sym its_sizes) c.requires.sizes) archives in
    let lasts = lasts_first g.D.Disk g.C.Clock left left_now f h start looked at only still opened
    c.now_ms-opened_ms.result base opening.opens opening.any_moment opening.recovers now options ms
    (least_of outcome ms)
    (λ then files_are first is_first.
    subst (λ (x : Bool). LeavesShares g.D.Disk.files g.D.Disk.changes g.D.Disk.moment
    g.D.Disk.since g.D.Disk.leaves opened now (bytes_at then) base flushing x options.drain
    options.writers ms (least_of outcome ms)) archives
    (subst (λ (n : ℕ). LeavesShares g.D.Disk.files g.D.Disk.changes g.D.Disk.moment
    g.D.Disk.since g.D.Disk.leaves opened now (bytes_at then) base flushing store.archives
    options.drain n ms (least_of outcome ms)) writers
    (done.shown ms then planned.plan files_are
    (subst (g.D.Disk.lasted_at opened) opening.began (opening.lasted first is_first))))) in
    let has_written = wrote g.D.Disk g.C.Clock left left_now f h start looked at only still opened
    c.now_ms-opened_ms.result base opening.opens opening.any_moment opening.recovers now options ms
    (subst (λ (x : Bool). WritesShares g.D.Disk.files g.D.Disk.changes opened now base flushing x
    options.drain options.writers ms) archives
    (subst (λ (n : ℕ). WritesShares g.D.Disk.files g.D.Disk.changes opened now base flushing
    store.archives options.drain n ms) writers (done.wrote ms planned.plan)))
    done.told in
    let stays = others g.D.Disk g.C.Clock left left_now f h start looked at only still opened
    c.now_ms-opened_ms.result base opening.opens opening.any_moment opening.recovers now done.told
    done.stay in
    let could = could_open g.D.Disk g.C.Clock left left_now f h start looked at only still opened
    c.now_ms-opened_ms.result base opening.opens opening.any_moment opening.recovers now in
    shares_applied options o ms
    (told_then (g.D.Disk.files start) (g.D.Disk.files opened) (g.D.Disk.files now)
    (subst (λ (files : Option Files). SameTold files (g.D.Disk.files opened)) still.same.files
    opening.told) done.told) has_written stays could pending outcome c.told.result
    c.told.ensures lasts
    (subst (λ (n : ℕ). HasShareCause n (g.D.Disk.faults now) outcome)
    (opening.quiet ∙ c.in-Ok.ensures.quiet) done.cause)
    (λ receipts report is_ok text.
    let logged = ok_at outcome receipts _ is_ok (done.receipts ms planned.plan) in
    let is : IsReport options.dump (head_with options.receipts receipts.items) before ms report =
    is_report options.dump (head_with options.receipts receipts.items) pending.rows.items report
    before c.args.lines.cells ms c.in-Ok.ensures.gives.ordered planned.cells
    c.in-Ok-pending.ensures.rows text in (
      record {
        sizes = sizes;
        sizes_are = c.requires.sizes;
        base = base;
        receipts = receipts.items;
        logged = logged;
        cells = before;
        text = is;
      },
      turns_shares g.D.Disk g.C.Clock left left_now f h start looked at only still opened
          c.now_ms-opened_ms.result base opening.opens opening.any_moment opening.recovers now
          options ms receipts.items before report c.now_ms-opened_ms.ensures.told
          logged.long c.in-Ok.ensures.gives.restored is
          (λ then made files_are changes_are.
          ok_at outcome receipts _ is_ok
          (done.written ms options then made planned.plan asked files_are changes_are)),
    ))

pub told-requires-clause-room : goal.told-requires-clause-room
told-requires-clause-room g c =
    let pending = c.in-Ok-pending.pending in
    let planned = c.requires.planned in
    if_ok c.write_plan-disk.result.1 _ (λ told. HasRoomFor (length told.items) pending)
    (c.write_plan-disk.ensures.receipts planned.0 planned.1.plan) (λ told so.
    let long = so.long in
    let many = planned.1.plan.receipts in
    let room = c.in-Ok-pending.ensures.room in
    omega (arith, long, many, room, c.args.lines.plan.receipts.ok, c.len.ensures))

pub returns-clause-called : goal.returns-clause-called
returns-clause-called g c =
    shares_call c.args.options.receipts c.in-Ok-pending.pending c.write_plan-disk.result.1
    c.told.result c.told.ensures

pub write_plan-disk-requires-clause-some : goal.write_plan-disk-requires-clause-some
write_plan-disk-requires-clause-some g c = λ _ _. c.requires.doable.some_updates
