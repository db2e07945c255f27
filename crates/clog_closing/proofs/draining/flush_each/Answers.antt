use Rattle.std.proofs.Common.{Err, List, Result, refl, sym, ap, ◌∙◌, subst, take, arith}
use Rattle.std.proofs.lemmas.List.{take_all}
use Rattle.path_core.specs.declared.keeper.KeeperFault.{KeeperFault}
use Rattle.path_core.specs.Keeper.{HasKeeperCause, Holding}
use Rattle.clog_memtable.specs.declared.flushing.Memtable.{Memtable}
use Rattle.clog_memtable.specs.Flushing.{HasPutFiles, file_of, files_of}
use Rattle.clog_memtable.proofs.Flushed.{next_may, nothing_put, one_more, refused_behind}
use Rattle.clog_segments.proofs.Lived.{lives_further, lives_still}
use Rattle.clog_closing.specs.Drained.{held_in}
use Rattle.clog_closing.proofs.Begins.{begun_put}
use Rattle.clog_closing.proofs.Going.{ends_by, keeps_put}
use Rattle.clog_closing.proofs.Good.{good_first}
use Rattle.clog_closing.proofs.draining.flush_each.Goals as goal

pub loop-memtable-init : goal.loop-memtable-init
loop-memtable-init g c =
    let D = g.D.Disk in
    record {
      put = nothing_put (held_in D g.row.D.coded.code c.args.store.now);
      runs = c.requires.runs;
      first = refl;
      lives = lives_still D.files D.moment D.since D.leaves D.read_at D.lasted_at
          c.args.store.now.notes.log (g.met.D.Disk.only_now c.args.store.now.notes.log.disk);
    }

pub put_table-requires : goal.put_table-requires
put_table-requires g c =
    let l = c.loop-memtable in
    let held = held_in g.D.Disk g.row.D.coded.code in
    next_may (held c.args.store.now) c.args.memtables.now c.requires.may l.memtable-index
    c.memtable-item.result c.loop-memtable-test.true c.memtable-item.is (held l.store)
    l.invariant.put

pub loop-memtable-preserved : goal.loop-memtable-preserved
loop-memtable-preserved g c =
    let l = c.loop-memtable in
    let D = g.D.Disk in
    let held = held_in D g.row.D.coded.code in
    let a = c.args.store.now in
    let b = c.put_table.new.self in
    record {
      put = one_more (held a) c.args.memtables.now c.requires.may l.memtable-index
          c.memtable-item.result c.loop-memtable-test.true c.memtable-item.is (held l.store)
          l.invariant.put (held b) c.in-Ok.ensures.publishes;
      runs = ap (λ (h : Holding). h.stopped) c.in-Ok.ensures.publishes ∙ l.invariant.runs;
      first = c.put_table.ensures.first ∙ l.invariant.first;
      lives = λ lives.
          let on = l.invariant.lives lives in
          lives_further D.files D.moment D.since D.leaves D.read_at D.lasted_at a.notes.log
          l.store.notes.log b.notes.log lives.began on (c.put_table.ensures.lives on.lives);
    }

pub returns-in-Err-clause-on : goal.returns-in-Err-clause-on
returns-in-Err-clause-on g c =
    let l = c.loop-memtable in
    let D = g.D.Disk in
    let held = held_in D g.row.D.coded.code in
    let a = c.args.store.now in
    let b = c.put_table.new.self in
    let files = files_of (take l.memtable-index c.args.memtables.now) in
    let put = refused_behind (held a) (held l.store) (held b) files (file_of c.memtable-item.result)
    l.invariant.put c.in-Err.ensures.refused in
    record {
      begun = λ upper reach.
          begun_put upper c.args.memtables.now reach (held a) (held b) l.memtable-index put;
      good = λ good holds.
          good_first (held a) (held b) c.args.memtables.now l.memtable-index c.requires.may holds
          good put;
      keeps = keeps_put (held a) (held b) files put;
      ends = ends_by (held l.store) (held b) (Err c.in-Err.fault) l.invariant.runs
          (subst (λ (r : Result (Unit {0}) KeeperFault). HasKeeperCause (held l.store) (held b) r)
          c.in-Err.is c.put_table.ensures.cause);
      first = c.put_table.ensures.first ∙ l.invariant.first;
      lives = λ lives.
          let on = l.invariant.lives lives in
          lives_further D.files D.moment D.since D.leaves D.read_at D.lasted_at a.notes.log
          l.store.notes.log b.notes.log lives.began on (c.put_table.ensures.lives on.lives);
    }

pub returns-clause-flushes : goal.returns-clause-flushes
returns-clause-flushes g c =
    let l = c.loop-memtable in
    let held = held_in g.D.Disk g.row.D.coded.code in
    record {
      runs = l.invariant.runs ∙ sym c.requires.runs;
      put = subst (λ (ms : List Memtable).
          HasPutFiles (held c.args.store.now) (held l.store) (files_of ms))
          (take_all l.memtable-index c.args.memtables.now
          (omega (arith, c.loop-memtable-test.false))) l.invariant.put;
    }

pub returns-clause-on : goal.returns-clause-on
returns-clause-on g c =
    let l = c.loop-memtable in
    let held = held_in g.D.Disk g.row.D.coded.code in
    let before = held c.args.store.now in
    let now = held l.store in
    let put = l.invariant.put in
    record {
      begun = λ upper reach.
          begun_put upper c.args.memtables.now reach before now l.memtable-index put;
      good = λ good holds.
          good_first before now c.args.memtables.now l.memtable-index c.requires.may holds good put;
      keeps = keeps_put before now (files_of (take l.memtable-index c.args.memtables.now)) put;
      ends = record { stopped = l.invariant.runs; counts = tt };
      first = l.invariant.first;
      lives = l.invariant.lives;
    }
