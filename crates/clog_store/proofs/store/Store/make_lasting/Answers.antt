use Rattle.std.proofs.Common.{refl, sym, subst}
use Rattle.std.specs.Prelude.{OnErr, OnOk}
use Rattle.path_core.specs.Keeper.{MaySync, SyncRefused, Syncs}
use Rattle.clog_segments.specs.StoreState.{StoreState, holding_of}
use Rattle.clog_store.proofs.OrderSyncs.{counted_synced, synced_goes, synced_settled}
use Rattle.clog_store.proofs.StoreFolds.{failed_synced, folder_synced}
use Rattle.clog_store.proofs.StoreKept.{refused_told, store_on, syncs_told}
use Rattle.clog_store.proofs.StorePuts.{all_last, on_told}
use Rattle.clog_store.proofs.StoreSeen.{cause_seen, quiet_seen, stays_seen, takes_seen, told_is}
use Rattle.clog_segments.proofs.NamesKept.{names_on}
use Rattle.clog_store.proofs.States.{state_of}
use Rattle.clog_store.proofs.store.Store.make_lasting.Goals as goal

pub sync-outcome-requires : goal.sync-outcome-requires
sync-outcome-requires g c =
    let D = g.D.Disk in
    let s = state_of c.self.view_is in
    record {
      holding = holding_of D.files D.changes D.moment D.faults g.row.D.coded.code s;
      has = record {
        base_is = refl;
        sizes_are = refl;
        synced_is = refl;
        logged_are = refl;
        kept_are = refl;
      };
      may = subst (λ (x : StoreState g.row.D.Denot). MaySync
          (holding_of D.files D.changes D.moment D.faults g.row.D.coded.code x) c.args.upto.0
          c.args.pending.now.items) (sym c.self.view_is) c.requires;
    }

pub invariant_of-self : goal.invariant_of-self
invariant_of-self g c =
    let D = g.D.Disk in
    let code = g.row.D.coded.code in
    let s = state_of c.self.view_is in
    let kept = c.self.invariant.1 in
    let n = c.sync-outcome.new.self in
    let r = c.sync-outcome.result in
    let is = c.sync-outcome.ensures in
    let told = c.fault_count.ensures in
    let upto = c.args.upto.0 in
    let pending = c.args.pending.now.items in
    let left = c.sync-outcome.new.pending.items in
    let may = subst (λ (x : StoreState g.row.D.Denot). MaySync
    (holding_of D.files D.changes D.moment D.faults code x) upto pending) (sym c.self.view_is)
    c.requires in
    let goes = synced_goes D.files D.changes D.moment D.faults code s n kept.order.settled upto
    pending left may r is.syncs is.refused (D.files s.notes.log.disk) (D.files n.log.disk)
    is.others in (
      c.self.invariant.0,
      store_on D.files D.changes D.moment D.faults D.read_at D.lasted_at s n kept is.opened
          is.first is.later is.writes is.stays r is.cause is.stops told.sound
          (folder_synced D.files D.changes D.moment D.faults D.read_at D.lasted_at code
          g.met.D.Disk.tells_both s n kept is.writes is.others told.sound told.reads told.stands
          upto pending left may r is.cause is.stops is.syncs is.refused)
          (failed_synced D.files D.changes D.moment D.faults D.read_at D.lasted_at code
          g.met.D.Disk.tells_both s n kept is.writes is.others told.sound told.reads told.stands
          upto pending left may r is.stops is.refused)
          (synced_settled D.files D.changes D.moment D.faults code s n kept.order.settled upto
          pending left may r is.syncs is.refused)
          goes,
      names_on D.files D.leaves s.first s.notes.log n.log c.self.invariant.2 is.names_last,
      counted_synced s n c.self.inside.counted goes c.self.invariant.3,
    )

pub returns-clause-syncs : goal.returns-clause-syncs
returns-clause-syncs g c =
    let D = g.D.Disk in
    let code = g.row.D.coded.code in
    let s = state_of c.self.view_is in
    let n = c.sync-outcome.new.self in
    let r = c.sync-outcome.result in
    let is = c.sync-outcome.ensures in
    let held = holding_of D.files D.changes D.moment D.faults code in
    let upto = c.args.upto.0 in
    let pending = c.args.pending.now.items in
    let left = c.sync-outcome.new.pending.items in
    subst (λ (x : StoreState g.row.D.Denot). OnOk c.told.result
    (Syncs (held x) (held (record s { notes = n })) upto pending left)) c.self.view_is
    (syncs_told D.files D.changes D.moment D.faults code s n upto pending left r is.cause is.stops
    c.told.result (told_is r c.told.ensures c.self.invariant.0 c.fault_count.ensures.count)
    is.syncs)

pub returns-clause-refused : goal.returns-clause-refused
returns-clause-refused g c =
    let D = g.D.Disk in
    let code = g.row.D.coded.code in
    let s = state_of c.self.view_is in
    let n = c.sync-outcome.new.self in
    let r = c.sync-outcome.result in
    let is = c.sync-outcome.ensures in
    let held = holding_of D.files D.changes D.moment D.faults code in
    let upto = c.args.upto.0 in
    let pending = c.args.pending.now.items in
    let left = c.sync-outcome.new.pending.items in
    subst (λ (x : StoreState g.row.D.Denot). OnErr c.told.result
    (SyncRefused (held x) (held (record s { notes = n })) upto pending left)) c.self.view_is
    (refused_told D.files D.changes D.moment D.faults code s n upto pending left r is.cause is.stops
    c.told.result (told_is r c.told.ensures c.self.invariant.0 c.fault_count.ensures.count)
    is.refused)

pub returns-clause-cause : goal.returns-clause-cause
returns-clause-cause g c =
    let D = g.D.Disk in
    let is = c.sync-outcome.ensures in
    let told = c.fault_count.ensures in
    cause_seen c.self.view_is c.sync-outcome.new.self D.faults c.sync-outcome.result is.cause
    is.stops D.files D.changes
    D.moment D.read_at D.lasted_at g.row.D.coded.code c.self.invariant.1 told.fits
    (told_is c.sync-outcome.result c.told.ensures c.self.invariant.0 told.count)

pub returns-clause-quiet : goal.returns-clause-quiet
returns-clause-quiet g c still =
    let is = c.sync-outcome.ensures in
    (quiet_seen c.self.view_is c.sync-outcome.new.self g.D.Disk.faults c.sync-outcome.result
    is.cause is.stops still).1

pub returns-clause-lasts : goal.returns-clause-lasts
returns-clause-lasts g c =
    let D = g.D.Disk in
    let n = c.sync-outcome.new.self in
    let r = c.sync-outcome.result in
    let is = c.sync-outcome.ensures in
    let told = c.fault_count.ensures in
    on_told _ (D.faults c.self.inside.first.value) (D.faults n.log.disk) r c.told.result
    (told_is r c.told.ensures c.self.invariant.0 told.count)
    (all_last D.files D.leaves n.log r is.stops is.all told.here)

pub returns-clause-takes : goal.returns-clause-takes
returns-clause-takes g c =
    takes_seen c.self.view_is c.sync-outcome.new.self c.sync-outcome.ensures.takes

pub returns-clause-stays : goal.returns-clause-stays
returns-clause-stays g c =
    stays_seen c.self.view_is c.sync-outcome.new.self c.sync-outcome.ensures.stays
