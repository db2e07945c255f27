use Rattle.std.proofs.Common.{List, sym, subst}
use Rattle.std.specs.List.Sorted.{IsPermutation}
use Rattle.clog_base.proofs.Follows.{on_err, on_ok}
use Rattle.path_core.specs.declared.note.EntryNote.{EntryNote}
use Rattle.path_core.specs.Keeper.{Syncs, SyncRefused}
use Rattle.path_rule.specs.Desks.{pending_on}
use Rattle.path_rule.proofs.boxes.DeskLent.{
  all_lent,
  none_behind,
  may_sync,
  synced_of,
  refused_of,
  tells_faults,
  stops_by,
}
use Rattle.path_table.proofs.lending.lend_pending.Goals as goal

pub sync-requires : goal.sync-requires
sync-requires g c =
    let sorted = c.order_by_end.new.notes.items in
    let same = subst (λ (l : List EntryNote). IsPermutation l sorted)
    (all_lent c.move_all.new.lent.items c.move_all.new.gathered (pending_on c.args.desk.now)
    c.in_ok-move_all.ensures.moved c.in_ok-move_all.ensures.all)
    c.order_by_end.ensures.same in
    may_sync (g.K.Keeper.holds c.args.desk.now.keeper) c.args.upto (pending_on c.args.desk.now)
    sorted same c.order_by_end.ensures.sorted c.requires

pub returns-clause-syncs : goal.returns-clause-syncs
returns-clause-syncs g c =
    let sorted = c.order_by_end.new.notes.items in
    let pending = pending_on c.args.desk.now in
    let holds = g.K.Keeper.holds in
    let same = subst (λ (l : List EntryNote). IsPermutation l sorted)
    (all_lent c.move_all.new.lent.items c.move_all.new.gathered pending
    c.in_ok-move_all.ensures.moved c.in_ok-move_all.ensures.all)
    c.order_by_end.ensures.same in
    let left = c.sync.new.pending.items in
    on_ok c.sync.result _ _ c.sync.ensures.syncs (λ S. subst (λ (l : List EntryNote).
    Syncs (holds c.args.desk.now.keeper) (holds c.sync.new.self) c.args.upto pending l)
    (sym (none_behind left c.move_all.new.gathered c.in_ok-move_all.ensures.moved))
    (synced_of (holds c.args.desk.now.keeper) c.args.upto pending sorted same
    (holds c.sync.new.self) left S))

pub returns-clause-refused : goal.returns-clause-refused
returns-clause-refused g c =
    let sorted = c.order_by_end.new.notes.items in
    let pending = pending_on c.args.desk.now in
    let holds = g.K.Keeper.holds in
    let same = subst (λ (l : List EntryNote). IsPermutation l sorted)
    (all_lent c.move_all.new.lent.items c.move_all.new.gathered pending
    c.in_ok-move_all.ensures.moved c.in_ok-move_all.ensures.all)
    c.order_by_end.ensures.same in
    let left = c.sync.new.pending.items in
    on_err c.sync.result _ _ c.sync.ensures.refused (λ S. subst (λ (l : List EntryNote).
    SyncRefused (holds c.args.desk.now.keeper) (holds c.sync.new.self) c.args.upto pending l)
    (sym (none_behind left c.move_all.new.gathered c.in_ok-move_all.ensures.moved))
    (refused_of (holds c.args.desk.now.keeper) c.args.upto pending sorted same
    (holds c.sync.new.self) left S))

pub returns-clause-counts : goal.returns-clause-counts
returns-clause-counts g c =
    let holds = g.K.Keeper.holds in
    tells_faults (holds c.args.desk.now.keeper) (holds c.sync.new.self) c.sync.result c.args.upto
    c.order_by_end.new.notes.items c.sync.new.pending.items c.sync.ensures.cause
    c.sync.ensures.refused

pub returns-clause-stopped : goal.returns-clause-stopped
returns-clause-stopped g c =
    let holds = g.K.Keeper.holds in
    stops_by (holds c.args.desk.now.keeper) (holds c.sync.new.self) c.sync.result
    c.sync.ensures.cause
