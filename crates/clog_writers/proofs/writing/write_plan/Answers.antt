use Rattle.std.proofs.Common.{◌≡◌, ℕ, ◌≤◌, inl, inr, Bool, List, length, sym, ◌∙◌, ap, subst}
use Rattle.std.specs.Prelude.{IfOk, is_some}
use Rattle.std.specs.Global.{Vec}
use Rattle.clog_base.specs.declared.sizes.Sizes.{Sizes}
use Rattle.clog_disk.specs.Files.{SameTold}
use Rattle.clog_disk.specs.Images.{IsLater}
use Rattle.clog_io.specs.Causes.{Rose}
use Rattle.path_core.specs.declared.note.EntryNote.{EntryNote}
use Rattle.path_core.specs.Keeper.{Holding, IsFresh}
use Rattle.clog_closing.specs.Gaps.{StandApart}
use Rattle.clog_segments.specs.Life.{lasting_in}
use Rattle.clog_segments.specs.StoreState.{holding_of}
use Rattle.clog_closing.proofs.Fresh.{is_fresh}
use Rattle.write_path.specs.declared.commit.Receipt.{Receipt}
use Rattle.clog_writers.specs.Left.{WritesShares, least_of}
use Rattle.clog_writers.specs.Placed.{AreAtTheirLines}
use Rattle.clog_writers.specs.Written.{HasReceipts, AsksFor, TellsWrittenShares}
use Rattle.clog_writers.proofs.Brought.{all_stand, apart_on, begun_on, brings_only, brings_shares}
use Rattle.clog_writers.proofs.Brought.{first_disk, firsts_on, flushed_on, in_log_on, its_archives}
use Rattle.clog_writers.proofs.Brought.{its_disk, logs_on, still_told}
use Rattle.clog_writers.proofs.Crashing.{history, says}
use Rattle.clog_writers.proofs.Ended.{written}
use Rattle.clog_writers.proofs.LeftBy.{all_last, least_reached, left_by}
use Rattle.clog_shares.proofs.WrittenBack.{written_back}
use Rattle.clog_base.proofs.Follows.{if_ok}
use Rattle.clog_writers.proofs.Told.{no_fewer, none_of, runs_on}
use Rattle.clog_writers.proofs.writing.write_plan.Goals as goal

pub log_shares-store-requires-clause-fresh : goal.log_shares-store-requires-clause-fresh
log_shares-store-requires-clause-fresh g c κs within =
    let D = g.D.Disk in
    let a = c.args.store in
    let h = holding_of D.files D.changes D.moment D.faults g.row.D.coded.code a in
    subst (λ (k : ℕ). IsFresh k c.args.sizes h) (sym c.base-base.ensures.base)
    (subst (λ (z : Sizes). IsFresh a.notes.base z h) (sym c.requires.sizes)
    (is_fresh D.files D.changes D.moment D.faults g.row.D.coded.code a c.requires.fresh
    c.requires.runs))

pub settle_asked-fault-requires-clause-opened : goal.settle_asked-fault-requires-clause-opened
settle_asked-fault-requires-clause-opened g c =
    let D = g.D.Disk in
    c.fault_count-at_open.ensures.count
    ∙ ap D.faults (sym (first_disk D.files D.changes D.moment D.faults g.row.D.coded c.args.store
    c.log_shares-store.result.0 c.args.flush_at c.requires.fresh
    c.log_shares-store.ensures.ends.beside))

pub settle_asked-fault-requires-clause-tables : goal.settle_asked-fault-requires-clause-tables
settle_asked-fault-requires-clause-tables g c =
    c.log_shares-store.ensures.ends.beside.tables_are
    ∙ ap (λ (z : Sizes). z.tables) (sym c.requires.sizes) ∙ c.requires.tables

pub settle_asked-fault-requires-clause-in_log : goal.settle_asked-fault-requires-clause-in_log
settle_asked-fault-requires-clause-in_log g c = λ none.
    let plan = c.requires.plan in
    let logs = c.log_shares-store.ensures.ends.logs plan.0 plan.1.dealt none in
    (c.args.sizes.capacity, logs.notes.lawful)

pub settle_asked-fault-requires-clause-good : goal.settle_asked-fault-requires-clause-good
settle_asked-fault-requires-clause-good g c = c.log_shares-store.ensures.ends.beside.good

pub settle_asked-fault-requires-clause-alone : goal.settle_asked-fault-requires-clause-alone
settle_asked-fault-requires-clause-alone g c = λ plain.
    c.log_shares-store.ensures.ends.beside.alone
    (none_of c.args.flush_at (sym c.is_some-flushing.ensures ∙ plain))

pub settle_asked-fault-requires-clause-few : goal.settle_asked-fault-requires-clause-few
settle_asked-fault-requires-clause-few g c = c.log_shares-store.ensures.ends.beside.few

pub settle_asked-fault-requires-clause-stopped : goal.settle_asked-fault-requires-clause-stopped
settle_asked-fault-requires-clause-stopped g c = λ a n is.
    (c.log_shares-store.ensures.ends.stops a n is).2

pub returns-clause-wrote : goal.returns-clause-wrote
returns-clause-wrote g c = λ ms plan.
    let D = g.D.Disk in
    let a = c.args.store in
    let b = c.log_shares-store.result.0 in
    let e = c.settle_asked-fault.new.store in
    let f = c.args.flush_at in
    let told = c.into_disk.ensures in
    let shares = c.log_shares-store.ensures.ends in
    let settled = c.settle_asked-fault.ensures in
    let sizes = c.args.sizes in
    let base = c.base-base.result in
    let logs = λ (none : _). logs_on D.files D.changes D.moment D.faults g.row.D.coded a b e f
    c.requires.fresh shares.beside settled.keeps settled.first sizes base ms
    (shares.logs ms plan.dealt none) in
    let held = firsts_on D.files D.changes D.moment D.faults g.row.D.coded a b e f c.requires.fresh
    shares.beside settled.keeps settled.first sizes.writers ms (shares.firsts ms plan.dealt) in
    let apart = apart_on D.files D.changes D.moment D.faults g.row.D.coded a b e f
    c.requires.fresh shares.beside settled.keeps settled.first shares.beside.good
    (elim settled.stays [ inl same ↦ inl same | inr none ↦ inr (logs none).none_kept ]) in
    let in_log = in_log_on D.files D.changes D.moment D.faults g.row.D.coded a b e f
    c.requires.fresh shares.beside settled.keeps settled.first sizes.capacity
    (shares.in_log ms plan.dealt) in
    let there = all_stand D.files D.changes D.moment D.faults g.row.D.coded a b e f
    c.requires.fresh shares.beside settled.keeps settled.first told.grown told.left told.sound
    (still_told D.files D.changes D.moment D.faults g.row.D.coded a b e f c.requires.fresh
    shares.beside settled.keeps settled.first told.grown c.disks_tell_both.ensures) in
    let has = brings_shares D.files D.changes D.moment D.faults g.row.D.coded a b e f
    c.requires.fresh shares.beside settled.keeps settled.first told.alone told.ordered told.settled
    told.notes told.sound apart settled.good there c.args.drain sizes base ms (is_some f)
    (λ plain. begun_on D.files D.changes D.moment D.faults g.row.D.coded a b e f c.requires.fresh
    shares.beside settled.keeps settled.first c.args.drain _ _
    (settled.begun (c.is_some-flushing.ensures ∙ plain)) logs) held in_log in
    subst (λ (d : g.row.D.Denot). WritesShares D.files D.changes a.notes.log.disk d a.notes.base
    (is_some f) a.archives c.args.drain sizes.writers ms) (sym told.disk)
    (record {
      log = _;
      history = history e.notes told.notes told.stored sizes.writers ms held;
      wrote = has.0;
      says = says e.notes told.notes told.stored sizes.writers ms held;
      only = brings_only D.files D.changes D.moment D.faults g.row.D.coded a b e f
          c.requires.fresh shares.beside settled.keeps settled.first told.left;
    })

pub returns-clause-receipts : goal.returns-clause-receipts
returns-clause-receipts g c = λ ms plan.
    let b = c.log_shares-store.result.0 in
    let put = c.place_receipts.ensures in
    let xs = c.place_receipts.new.receipts in
    let lent : length xs ≡ length c.args.plan.receipts.items =
    put.long ∙ ap length c.as_mut_slice.ensures.value in
    let back = written_back c.args.plan.receipts.len xs _ (c.args.plan.receipts.ok.0 ∙ sym lent) in
    if_ok c.ended-outcome.result _
    (λ r. HasReceipts c.args.sizes c.args.store.notes.base ms r.items)
    c.ended-outcome.ensures.ok (λ r so.
    subst (λ (l : List Receipt). HasReceipts c.args.sizes c.args.store.notes.base ms l)
    (sym back ∙ ap (λ (v : Vec Receipt). v.items) (sym so.0))
    (record {
      low = c.base-base.ensures.fits;
      notes = b.notes.logged;
      holds = (c.log_shares-store.ensures.ends.logs ms plan.dealt
          (c.settle_asked-fault.ensures.ok so.1).0).notes;
      placed = subst (λ (k : ℕ). AreAtTheirLines k b.notes.logged xs) c.base-base.ensures.base
          (subst (λ (l : List EntryNote). AreAtTheirLines c.base-base.result l xs)
          c.logged.ensures put.placed);
      long = lent ∙ plan.receipts;
    }))

pub returns-clause-shown : goal.returns-clause-shown
returns-clause-shown g c = λ ms opened plan is lasted.
    let D = g.D.Disk in
    let a = c.args.store in
    let b = c.log_shares-store.result.0 in
    let e = c.settle_asked-fault.new.store in
    let f = c.args.flush_at in
    let told = c.into_disk.ensures in
    let shares = c.log_shares-store.ensures.ends in
    let settled = c.settle_asked-fault.ensures in
    let sizes = c.args.sizes in
    let base = c.base-base.result in
    let held = firsts_on D.files D.changes D.moment D.faults g.row.D.coded a b e f c.requires.fresh
    shares.beside settled.keeps settled.first sizes.writers ms (shares.firsts ms plan.dealt) in
    let logs = λ (none : _). logs_on D.files D.changes D.moment D.faults g.row.D.coded a b e f
    c.requires.fresh shares.beside settled.keeps settled.first sizes base ms
    (shares.logs ms plan.dealt none) in
    let apart = apart_on D.files D.changes D.moment D.faults g.row.D.coded a b e f
    c.requires.fresh shares.beside settled.keeps settled.first shares.beside.good
    (elim settled.stays [ inl same ↦ inl same | inr none ↦ inr (logs none).none_kept ]) in
    let in_log = in_log_on D.files D.changes D.moment D.faults g.row.D.coded a b e f
    c.requires.fresh shares.beside settled.keeps settled.first sizes.capacity
    (shares.in_log ms plan.dealt) in
    let there = all_stand D.files D.changes D.moment D.faults g.row.D.coded a b e f
    c.requires.fresh shares.beside settled.keeps settled.first told.grown told.left told.sound
    (still_told D.files D.changes D.moment D.faults g.row.D.coded a b e f c.requires.fresh
    shares.beside settled.keeps settled.first told.grown c.disks_tell_both.ensures) in
    let has = brings_shares D.files D.changes D.moment D.faults g.row.D.coded a b e f
    c.requires.fresh shares.beside settled.keeps settled.first told.alone told.ordered told.settled
    told.notes told.sound apart settled.good there c.args.drain sizes base ms (is_some f)
    (λ plain. begun_on D.files D.changes D.moment D.faults g.row.D.coded a b e f c.requires.fresh
    shares.beside settled.keeps settled.first c.args.drain _ _
    (settled.begun (c.is_some-flushing.ensures ∙ plain)) logs) held in_log in
    left_by D.files D.changes D.moment D.since D.leaves D.read_at D.lasted_at
    c.disks_read_now.ensures a.notes.log.disk e
    (its_disk D.files D.changes D.moment D.faults g.row.D.coded a b e f c.requires.fresh
    shares.beside settled.keeps settled.first) c.into_disk.result
    (record {
      disk = told.disk;
      opened = told.opened;
      later = told.later;
      notes = told.notes;
      stored = told.stored;
      shown = told.shown;
      lasts = told.lasts;
    })
    (still_told D.files D.changes D.moment D.faults g.row.D.coded a b e f c.requires.fresh
    shares.beside settled.keeps settled.first told.grown c.disks_tell_both.ensures) a.notes.base
    (is_some f) a.archives c.args.drain sizes.writers (least_of c.ended-outcome.result ms) ms held
    (least_reached c.ended-outcome.result ms (lasting_in e.notes.log)
    (if_ok c.ended-outcome.result _ (λ receipts. length ms ≤ lasting_in e.notes.log)
    c.ended-outcome.ensures.ok (λ receipts so. all_last e.notes told.notes told.stored sizes ms held
    (logs (settled.ok so.1).0).notes))) has.0
    (λ plain beyond. elim (has.1 plain) [
      | inl appends ↦ absurd (beyond.other (appends beyond.change beyond.listed))
      | inr logged ↦ all_last e.notes told.notes told.stored sizes ms held logged.notes
    ])
    opened is lasted

pub returns-clause-stay : goal.returns-clause-stay
returns-clause-stay g c = λ opened now is is_now.
    let D = g.D.Disk in
    let settled = c.settle_asked-fault.ensures in
    let its = its_disk D.files D.changes D.moment D.faults g.row.D.coded c.args.store
    c.log_shares-store.result.0 c.settle_asked-fault.new.store c.args.flush_at c.requires.fresh
    c.log_shares-store.ensures.ends.beside settled.keeps settled.first in
    c.into_disk.ensures.stay opened now (ap D.files its ∙ is) is_now

pub returns-clause-told : goal.returns-clause-told
returns-clause-told g c =
    let D = g.D.Disk in
    let told = c.into_disk.ensures in
    let settled = c.settle_asked-fault.ensures in
    subst (λ (d : g.row.D.Denot). SameTold (D.files c.args.store.notes.log.disk) (D.files d))
    (sym told.disk)
    (still_told D.files D.changes D.moment D.faults g.row.D.coded c.args.store
    c.log_shares-store.result.0 c.settle_asked-fault.new.store c.args.flush_at c.requires.fresh
    c.log_shares-store.ensures.ends.beside settled.keeps settled.first told.grown
    c.disks_tell_both.ensures)

pub returns-clause-later : goal.returns-clause-later
returns-clause-later g c =
    let D = g.D.Disk in
    let settled = c.settle_asked-fault.ensures in
    subst (λ (d : g.row.D.Denot). IsLater D.moment D.read_at D.lasted_at d c.into_disk.result)
    (its_disk D.files D.changes D.moment D.faults g.row.D.coded c.args.store
    c.log_shares-store.result.0 c.settle_asked-fault.new.store c.args.flush_at c.requires.fresh
    c.log_shares-store.ensures.ends.beside settled.keeps settled.first) c.into_disk.ensures.later

pub ended-outcome-requires-clause-later : goal.ended-outcome-requires-clause-later
ended-outcome-requires-clause-later g c =
    let D = g.D.Disk in
    let e = c.settle_asked-fault.new.store in
    let settled = c.settle_asked-fault.ensures in
    let its = its_disk D.files D.changes D.moment D.faults g.row.D.coded c.args.store
    c.log_shares-store.result.0 e c.args.flush_at c.requires.fresh
    c.log_shares-store.ensures.ends.beside settled.keeps settled.first in
    let first = c.fault_count-at_open.ensures.count in
    let n = c.fault_count.ensures in
    let same = ap D.faults its ∙ sym first in
    no_fewer e.notes.log.is_stopped c.fault_count-at_open.result c.fault_count.result
    c.fault_count-at_open.type_inv (λ runs. n.count ∙ (n.quiet runs ∙ same))
    (λ stopped. subst (λ (p : ℕ × ℕ). Rose p.0 p.1) (λ i. (same i, sym n.count i))
    (n.risen stopped))

pub ended-outcome-requires-clause-stopped : goal.ended-outcome-requires-clause-stopped
ended-outcome-requires-clause-stopped g c = λ x k is.
    let D = g.D.Disk in
    let settled = c.settle_asked-fault.ensures in
    let its = its_disk D.files D.changes D.moment D.faults g.row.D.coded c.args.store
    c.log_shares-store.result.0 c.settle_asked-fault.new.store c.args.flush_at c.requires.fresh
    c.log_shares-store.ensures.ends.beside settled.keeps settled.first in
    let n = c.fault_count.ensures in
    elim (settled.stopped x k is) [
      | inl stopped ↦ subst (λ (p : ℕ × ℕ). Rose p.0 p.1)
          (λ i. ((ap D.faults its ∙ sym c.fault_count-at_open.ensures.count) i, sym n.count i))
          (n.risen stopped)
      | inr rose ↦ subst (λ (k : ℕ). Rose c.fault_count-at_open.result k) (sym n.count) rose
    ]

pub returns-clause-written : goal.returns-clause-written
returns-clause-written g c = λ ms options opened made plan asked is made_is.
    let D = g.D.Disk in
    let a = c.args.store in
    let b = c.log_shares-store.result.0 in
    let e = c.settle_asked-fault.new.store in
    let f = c.args.flush_at in
    let told = c.into_disk.ensures in
    let shares = c.log_shares-store.ensures.ends in
    let settled = c.settle_asked-fault.ensures in
    let its = its_disk D.files D.changes D.moment D.faults g.row.D.coded a b e f c.requires.fresh
    shares.beside settled.keeps settled.first in
    let n = c.fault_count.ensures in
    let base = c.base-base.result in
    let put = c.place_receipts.ensures in
    let xs = c.place_receipts.new.receipts in
    let lent : length xs ≡ length c.args.plan.receipts.items =
    put.long ∙ ap length c.as_mut_slice.ensures.value in
    let back = written_back c.args.plan.receipts.len xs _ (c.args.plan.receipts.ok.0 ∙ sym lent) in
    let placed = subst (λ (l : List EntryNote). AreAtTheirLines base l xs)
    (c.logged.ensures ∙ sym (ap (λ (h : Holding). h.logged) settled.keeps)) put.placed in
    subst (λ (d : g.row.D.Denot). IfOk c.ended-outcome.result (λ receipts.
    TellsWrittenShares options a.notes.base opened made (D.files d) (D.changes d) ms
    receipts.items)) (sym told.disk)
    (if_ok c.ended-outcome.result _ (λ receipts. TellsWrittenShares options a.notes.base opened
    made (D.files e.notes.log.disk) (D.changes e.notes.log.disk) ms receipts.items)
    c.ended-outcome.ensures.ok (λ receipts so.
    let done = settled.ok so.1 in
    let runs = runs_on e.notes.log.is_stopped
    (Rose c.fault_count-at_open.result c.fault_count.result)
    (λ stopped. subst (λ (p : ℕ × ℕ). Rose p.0 p.1)
    (λ i. ((ap D.faults its ∙ sym c.fault_count-at_open.ensures.count) i, sym n.count i))
    (n.risen stopped)) so.2 in
    subst (λ (l : List Receipt). TellsWrittenShares options a.notes.base opened made
    (D.files e.notes.log.disk) (D.changes e.notes.log.disk) ms l)
    (sym back ∙ ap (λ (v : Vec Receipt). v.items) (sym so.0))
    (subst (λ (k : ℕ). TellsWrittenShares options k opened made (D.files e.notes.log.disk)
    (D.changes e.notes.log.disk) ms xs) c.base-base.ensures.base
    (written D.files D.changes D.moment D.faults g.row.D.coded.code c.disks_tell_both.ensures e
    runs told.notes told.sound (told.folder runs) told.ordered c.stores_are_left.ensures
    c.args.sizes base ms
    (logs_on D.files D.changes D.moment D.faults g.row.D.coded a b e f c.requires.fresh
    shares.beside settled.keeps settled.first c.args.sizes base ms
    (shares.logs ms plan.dealt done.0))
    f c.args.drain done.1.finished
    (flushed_on D.files D.changes D.moment D.faults g.row.D.coded a b e f c.requires.fresh
    shares.beside settled.keeps settled.first f c.args.sizes.writers done.1.keeps
    (shares.flushed ms plan.dealt done.0)) _
    (λ plain. begun_on D.files D.changes D.moment D.faults g.row.D.coded a b e f c.requires.fresh
    shares.beside settled.keeps settled.first c.args.drain _ _
    (settled.begun (c.is_some-flushing.ensures ∙ plain)) (λ none. none))
    c.args.syncing.mode
    (λ batch. subst (λ (l : List EntryNote). StandApart c.args.sizes.capacity l)
    (sym (ap (λ (h : Holding). h.logged) settled.keeps))
    (c.log_shares-store.ensures.apart batch)) options
    (subst (λ (x : Bool). AsksFor options c.args.sizes c.args.syncing.mode f x c.args.drain)
    (sym (its_archives D.files D.changes D.moment D.faults g.row.D.coded a b e f c.requires.fresh
    shares.beside settled.keeps settled.first))
    (subst (λ (z : Sizes). AsksFor options z c.args.syncing.mode f a.archives c.args.drain)
    (sym c.requires.sizes) asked)) xs placed (lent ∙ plan.receipts) opened made
    (ap D.files its ∙ is) (ap D.changes its ∙ made_is)))))

pub returns-clause-spent : goal.returns-clause-spent
returns-clause-spent g c = λ ms plan is.
    c.log_shares-store.ensures.ends.spent ms plan.dealt
    (c.settle_asked-fault.ensures.spent (c.ended-outcome.ensures.spent is))
