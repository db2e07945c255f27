use Rattle.std.proofs.Common.{◌≡◌, ◌∙◌, sym, ap, subst}
use Rattle.clog_segments.specs.NamesLast.{NamesLast}
use Rattle.clog_segments.specs.StoreState.{IsStore, StoreState, store_over}
use Rattle.clog_segments.proofs.NamesKept.{names_at_first}
use Rattle.clog_store.proofs.StoreKept.{store_begun}
use Rattle.clog_store.proofs.store.Store.begin.Goals as goal

pub invariant_of-result : goal.invariant_of-result
invariant_of-result g c =
    let D = g.D.Disk in
    let log = c.args.log in
    let first = c.disk_now-first.ensures in
    let is : store_over log c.args.sizes c.args.archives ≡ record {
      notes = c.begin.result;
      archives = c.args.archives;
      first = c.disk_now-first.result.value;
      files = c.new.result.items;
      dropped = c.new-2.result.items;
      archived = c.new-3.result.items;
    } =
    λ i. record {
      notes = sym c.begin.ensures i;
      archives = c.args.archives;
      first = sym first i;
      files = sym c.new.ensures.items i;
      dropped = sym c.new-2.ensures.items i;
      archived = sym c.new-3.ensures.items i;
    } in (
      c.fault_count-at_open.ensures.count ∙ ap D.faults (sym first),
      subst (λ (s : StoreState g.row.D.Denot).
          IsStore D.files D.changes D.moment D.faults D.read_at D.lasted_at s) is
          (store_begun D.files D.changes D.moment D.faults D.read_at D.lasted_at log c.args.sizes
          c.args.archives c.requires.no_past c.requires.none c.requires.opened
          c.requires.first c.requires.runs
          c.fault_count-at_open.ensures.sound c.requires.folder),
      subst (λ (s : StoreState g.row.D.Denot). NamesLast D.files D.leaves s.first s.notes.log) is
          (names_at_first D.files D.leaves log),
      tt,
    )
