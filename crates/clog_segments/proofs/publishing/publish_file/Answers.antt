use Rattle.std.proofs.Common.{List, ℕ, Some, inl, refl, sym, subst}
use Rattle.clog_spec.specs.Names.{table_name_of}
use Rattle.clog_disk.proofs.Moments.{started, still_now}
use Rattle.clog_table.specs.Refusals.{IsFileOf}
use Rattle.clog_crash.proofs.OneMore.{some_is}
use Rattle.clog_segments.specs.AtMost.{IsFileAt}
use Rattle.clog_segments.specs.Publishes.{file_at}
use Rattle.clog_segments.specs.Resting.{ShowsBehind}
use Rattle.clog_segments.proofs.FilePut.{added, may_come, may_have_come, put_rests, spelled_at}
use Rattle.clog_segments.proofs.AddsOnly.{adds_by, adds_none, tables_but_free, turned_only}
use Rattle.clog_segments.proofs.Kept.{rests_show}
use Rattle.clog_segments.proofs.Outcomes.{ok_both}
use Rattle.clog_segments.proofs.NamesKept.{each_same}
use Rattle.clog_segments.proofs.publishing.publish_file.Goals as goal

pub returns-in_default-clause-any_moment : goal.returns-in_default-clause-any_moment
returns-in_default-clause-any_moment g c r past id old kept may =
    let D = g.D.Disk in
    let disk = c.args.disk.now in
    started D.moment D.since disk (ShowsBehind r past id old kept) (λ image left.
    rests_show (D.files disk) (D.leaves disk) r past id old kept
    (put_rests (D.files disk) (D.leaves disk) r past id old kept
    (file_at c.args.base c.args.file c.args.cells.now) c.args.sequence may) image
    (g.met.D.Disk.only_now disk image left))

pub returns-clause-comes : goal.returns-clause-comes
returns-clause-comes g c =
    let D = g.D.Disk in
    ok_both c.put_table.result c.put_table.ensures.puts
    (added _ (D.changes c.args.disk.now) (D.changes c.put_table.new.disk) c.put_table.result
    c.put_table.ensures.adds) (λ puts adds. record {
      bytes = c.deref.result.now;
      spelled = spelled_at c.args.base c.args.file c.args.cells.now _ _ c.in-Ok.bytes.items
          c.deref.result.now c.in-Ok.ensures c.position-lower.ensures c.position-upper.ensures
          (sym c.deref.ensures.value);
      put = puts;
      adds = adds;
    })

pub returns-clause-rests : goal.returns-clause-rests
returns-clause-rests g c r past id old kept may =
    let D = g.D.Disk in
    let disk = c.args.disk.now in
    let file = file_at c.args.base c.args.file c.args.cells.now in
    c.put_table.ensures.comes r past id old kept file refl
    (may_come c.args.base c.args.sequence c.args.file c.args.cells.now (D.files disk)
    (D.leaves disk) r past id old kept c.deref.result.now c.requires
    (spelled_at c.args.base c.args.file c.args.cells.now _ _ c.in-Ok.bytes.items c.deref.result.now
    c.in-Ok.ensures c.position-lower.ensures c.position-upper.ensures (sym c.deref.ensures.value))
    may)

pub returns-clause-any_moment : goal.returns-clause-any_moment
returns-clause-any_moment g c r past id old kept may =
    let D = g.D.Disk in
    let disk = c.args.disk.now in
    let file = file_at c.args.base c.args.file c.args.cells.now in
    c.put_table.ensures.any_moment r past id old kept file refl
    (may_come c.args.base c.args.sequence c.args.file c.args.cells.now (D.files disk)
    (D.leaves disk) r past id old kept c.deref.result.now c.requires
    (spelled_at c.args.base c.args.file c.args.cells.now _ _ c.in-Ok.bytes.items c.deref.result.now
    c.in-Ok.ensures c.position-lower.ensures c.position-upper.ensures (sym c.deref.ensures.value))
    may)

pub returns-in_default-clause-names_last : goal.returns-in_default-clause-names_last
returns-in_default-clause-names_last g c other =
    let D = g.D.Disk in
    let disk = c.args.disk.now in
    each_same (D.files disk) (D.files disk) (D.leaves disk) (D.leaves disk) refl
    (λ name left is. is)

pub returns-clause-maybe : goal.returns-clause-maybe
returns-clause-maybe g c =
    let D = g.D.Disk in
    may_have_come (file_at c.args.base c.args.file c.args.cells.now) c.args.sequence
    c.deref.result.now
    (spelled_at c.args.base c.args.file c.args.cells.now _ _ c.in-Ok.bytes.items c.deref.result.now
    c.in-Ok.ensures c.position-lower.ensures c.position-upper.ensures (sym c.deref.ensures.value))
    (D.files c.args.disk.now) (D.files c.put_table.new.disk) c.put_table.result
    c.put_table.ensures.maybe

-- ---- what it adds to images

pub returns-in_default-clause-adds_only : goal.returns-in_default-clause-adds_only
returns-in_default-clause-adds_only g c f is free =
    let D = g.D.Disk in
    adds_none D.files D.moment D.since D.leaves c.args.disk.now
    (IsFileAt (table_name_of c.args.file.table.0 c.args.sequence)
    (file_at c.args.base c.args.file c.args.cells.now))

pub returns-clause-adds_only : goal.returns-clause-adds_only
returns-clause-adds_only g c f is free =
    let D = g.D.Disk in
    let before = c.args.disk.now in
    let after = c.put_table.new.disk in
    let file = file_at c.args.base c.args.file c.args.cells.now in
    let own = table_name_of c.args.file.table.0 c.args.sequence in
    let put = c.put_table.ensures in
    adds_by D.files D.moment D.since D.leaves D.read_at D.lasted_at before after
    (IsFileAt own file) put.time
    (tables_but_free (D.files before) (D.files after) own f is free put.others)
    (turned_only (D.leaves before) (D.leaves after) own (Some c.deref.result.now)
    (IsFileAt own file) put.crash (λ bytes same. (
      refl,
      subst (λ (b : List ℕ). IsFileOf file.table b file)
          (some_is c.deref.result.now bytes same)
          (spelled_at c.args.base c.args.file c.args.cells.now _ _ c.in-Ok.bytes.items
          c.deref.result.now c.in-Ok.ensures c.position-lower.ensures c.position-upper.ensures
          (sym c.deref.ensures.value)),
    )))

pub returns-in_default-clause-time : goal.returns-in_default-clause-time
returns-in_default-clause-time g c =
    let D = g.D.Disk in
    record {
      later = still_now D.moment D.read_at D.lasted_at c.args.disk.now;
      nothing_else = λ t image le left. inl left;
      keeps = λ t image le left. left;
    }
