use Rattle.std.proofs.Common.{List, sym, subst}
use Rattle.std.specs.Prelude.{Contains}
use Rattle.std.proofs.lemmas.List.Elements.{Contains-append_left}
use Rattle.clog_memtable.specs.declared.flushing.Memtable.{Memtable}
use Rattle.clog_memtable.specs.Flushing.{MayFlush, file_of}
use Rattle.clog_segments.specs.StoreState.{holding_of}
use Rattle.clog_layout.specs.Ends.{synced_to}
use Rattle.clog_closing.specs.Beside.{HoldsNote}
use Rattle.clog_closing.specs.Drained.{Drains, ReachTo}
use Rattle.clog_closing.proofs.Begins.{begun_of_none}
use Rattle.clog_writers.specs.Settled.{Settles}
use Rattle.clog_writers.proofs.Settling.{hold_notes, may_put, reach_there, settles}
use Rattle.clog_base.proofs.Follows.{on_ok}
use Rattle.clog_writers.proofs.draining.settle.Goals as goal

pub left_to_put-requires : goal.left_to_put-requires
left_to_put-requires g c =
    let notes = c.args.store.now.notes in
    record {
      whole = λ n among. (c.requires.noted.good n
          (Contains-append_left notes.logged notes.kept n among)).whole;
    }

pub drain-requires-clause-may : goal.drain-requires-clause-may
drain-requires-clause-may g c =
    let D = g.D.Disk in
    let h = holding_of D.files D.changes D.moment D.faults g.row.D.coded.code c.args.store.now in
    let put = c.in-Ok.ensures in
    subst (MayFlush h) (sym c.as_slice.ensures.value)
    (may_put h c.requires.in_log.0 c.requires.in_log.1 c.requires.few c.requires.tables
    c.requires.noted.below c.args.drain c.in-Ok.memtables.items put.none put.all)

pub drain-requires-clause-holds_some : goal.drain-requires-clause-holds_some
drain-requires-clause-holds_some g c =
    let D = g.D.Disk in
    let h = holding_of D.files D.changes D.moment D.faults g.row.D.coded.code c.args.store.now in
    let put = c.in-Ok.ensures in
    subst (λ (ms : List Memtable). (m : Memtable) → Contains ms m → HoldsNote h (file_of m))
    (sym c.as_slice.ensures.value)
    (hold_notes h c.requires.in_log.0 c.requires.in_log.1 c.requires.few c.requires.tables
    c.requires.noted.below c.args.drain c.in-Ok.memtables.items put.none put.all)

pub returns-in-Ok-clause-settles : goal.returns-in-Ok-clause-settles
returns-in-Ok-clause-settles g c =
    let D = g.D.Disk in
    let held = holding_of D.files D.changes D.moment D.faults g.row.D.coded.code in
    let h = held c.args.store.now in
    let now = held c.drain.new.store in
    let put = c.in-Ok.ensures in
    on_ok c.drain.result _ (Settles c.args.drain h now) c.drain.ensures.drains (λ drains.
    settles h c.requires.in_log.0 c.requires.in_log.1 c.requires.few c.requires.tables
    c.requires.noted.below c.args.drain c.in-Ok.memtables.items put.none put.all now
    c.drain.ensures.on.keeps
    (subst (λ (ms : List Memtable). Drains h now ms) c.as_slice.ensures.value drains))

pub returns-in-Ok-clause-begun : goal.returns-in-Ok-clause-begun
returns-in-Ok-clause-begun g c = λ none.
    let D = g.D.Disk in
    let h = holding_of D.files D.changes D.moment D.faults g.row.D.coded.code c.args.store.now in
    let upper = synced_to h.logged in
    let put = c.in-Ok.ensures in
    c.drain.ensures.on.begun upper
    (subst (λ (ms : List Memtable). ReachTo upper ms) (sym c.as_slice.ensures.value)
    (reach_there h c.requires.in_log.0 c.requires.in_log.1 c.requires.few c.requires.tables
    c.requires.noted.below c.args.drain c.in-Ok.memtables.items put.none put.all none))
    (begun_of_none h upper none)

pub returns-in-Err-clause-begun : goal.returns-in-Err-clause-begun
returns-in-Err-clause-begun g c = λ none.
    let D = g.D.Disk in
    let h = holding_of D.files D.changes D.moment D.faults g.row.D.coded.code c.args.store.now in
    begun_of_none h (synced_to h.logged) none

pub returns-in-Ok-clause-good : goal.returns-in-Ok-clause-good
returns-in-Ok-clause-good g c =
    let D = g.D.Disk in
    let h = holding_of D.files D.changes D.moment D.faults g.row.D.coded.code c.args.store.now in
    let put = c.in-Ok.ensures in
    c.drain.ensures.on.good c.requires.good
    (subst (λ (ms : List Memtable). (m : Memtable) → Contains ms m → HoldsNote h (file_of m))
    (sym c.as_slice.ensures.value)
    (hold_notes h c.requires.in_log.0 c.requires.in_log.1 c.requires.few c.requires.tables
    c.requires.noted.below c.args.drain c.in-Ok.memtables.items put.none put.all))
