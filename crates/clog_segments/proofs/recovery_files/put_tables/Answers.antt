use Rattle.std.proofs.Common.{List, refl, sym, subst, ◌∙◌, arith}
use Rattle.std.specs.List.{AllByRecursion}
use Rattle.clog_base.specs.declared.cell.Cell.{Cell}
use Rattle.clog_base.specs.declared.cell.CellKey.{CellKey}
use Rattle.clog_base.specs.declared.cell.Table.{Table}
use Rattle.clog_cells.proofs.Parted.{from_first, of_next, rest_next}
use Rattle.clog_disk.proofs.Moments.{started, goes_on_by, later_still}
use Rattle.clog_disk.proofs.Telling.{same_told_self, same_told_then}
use Rattle.clog_crash.specs.Flush.{IsSameFolder}
use Rattle.clog_table.specs.Limits.{IsWithinLimits}
use Rattle.clog_segments.proofs.ComesFrom.{still_from, then_from}
use Rattle.clog_segments.proofs.Filed.{cause_from, settled_show, still_full}
use Rattle.clog_segments.proofs.Live.{within_limits}
use Rattle.clog_segments.proofs.PutTables.{has_put, has_put_on, more_from, none_before}
use Rattle.clog_segments.proofs.recovery_files.put_tables.Goals as goal

pub loop-number-init : goal.loop-number-init
loop-number-init g c =
    let D = g.D.Disk in
    let old = c.args.disk.now in
    record {
      left = sym (from_first c.args.cells);
      told = same_told_self (D.files old);
      later = record {
        no_sooner = omega arith;
        remembers = λ t le. refl;
        lasted_then = λ t le. (λ has. has, λ has. has);
      };
      faults = refl;
      puts = λ first ready filed. none_before first c.args.cells (D.changes old);
      files = λ first ready filed. filed;
      settled = λ first ready settled. settled;
      only = λ first ready settled. started D.moment D.since old (IsSameFolder first)
          (λ image left. settled_show first c.args.cells 0 (D.files old) (D.leaves old)
          settled image (g.met.D.Disk.only_now old image left));
      from = λ first ready filed from. still_from D.moment D.since D.leaves first old
          (g.met.D.Disk.only_now old) from;
    }

pub loop-number-preserved : goal.loop-number-preserved
loop-number-preserved g c =
    let D = g.D.Disk in
    let old = c.args.disk.now in
    let before = c.loop-number.disk in
    let after = c.put_table_of.new.disk in
    let number = c.loop-number.number in
    let i = c.loop-number.invariant in
    let is = of_next (record { 0 = number }) c.args.cells c.loop-number.rest c.in-Ok.part i.left
    c.in-Ok.ensures.taken in
    record {
      left = rest_next number c.args.cells c.loop-number.rest c.take_below.new.self i.left
          c.in-Ok.ensures.rest;
      told = same_told_then (D.files old) (D.files before) (D.files after) i.told
          c.put_table_of.ensures.told;
      later = later_still D.moment D.read_at D.lasted_at old before after i.later
          c.put_table_of.ensures.later;
      faults = c.in-Ok-put_table_of.ensures.cause ∙ i.faults;
      puts = λ first ready filed.
          more_from first c.args.cells number (D.changes old)
          (D.changes before) (D.changes after) (i.puts first ready filed)
          (c.in-Ok-put_table_of.ensures.puts first c.args.cells is ready
          (i.files first ready filed));
      files = λ first ready filed. c.in-Ok-put_table_of.ensures.files first c.args.cells is ready
          (i.files first ready filed);
      settled = λ first ready settled. c.in-Ok-put_table_of.ensures.settles first c.args.cells is
          ready (i.settled first ready settled);
      only = λ first ready settled. goes_on_by D.moment D.since old before after
          (IsSameFolder first) (i.only first ready settled)
          (c.put_table_of.ensures.any_moment first c.args.cells is ready
          (i.settled first ready settled));
      from = λ first ready filed from. then_from D.moment D.since D.leaves first old before after
          (i.from first ready filed from)
          (c.put_table_of.ensures.from first c.args.cells is ready (i.files first ready filed));
    }

pub put_table_of-requires-clause-cells : goal.put_table_of-requires-clause-cells
put_table_of-requires-clause-cells g c =
    let table : Table = record { 0 = c.loop-number.number } in
    subst (λ (l : List (CellKey × Cell)). AllByRecursion (IsWithinLimits table) l)
    (sym (of_next table c.args.cells c.loop-number.rest c.in-Ok.part
    c.loop-number.invariant.left c.in-Ok.ensures.taken))
    (within_limits table c.args.cells c.requires.sized)

-- ---- a file was refused

pub returns-in-Err-put_table_of-clause-told : goal.returns-in-Err-put_table_of-clause-told
returns-in-Err-put_table_of-clause-told g c =
    let D = g.D.Disk in
    same_told_then (D.files c.args.disk.now) (D.files c.loop-number.disk)
    (D.files c.put_table_of.new.disk) c.loop-number.invariant.told c.put_table_of.ensures.told

pub returns-in-Err-put_table_of-clause-later : goal.returns-in-Err-put_table_of-clause-later
returns-in-Err-put_table_of-clause-later g c =
    let D = g.D.Disk in
    later_still D.moment D.read_at D.lasted_at c.args.disk.now c.loop-number.disk
    c.put_table_of.new.disk
    c.loop-number.invariant.later c.put_table_of.ensures.later

pub returns-in-Err-put_table_of-clause-no_fewer : goal.returns-in-Err-put_table_of-clause-no_fewer
returns-in-Err-put_table_of-clause-no_fewer g c =
    omega (arith, c.loop-number.invariant.faults, c.put_table_of.ensures.no_fewer)

pub returns-in-Err-put_table_of-clause-cause : goal.returns-in-Err-put_table_of-clause-cause
returns-in-Err-put_table_of-clause-cause g c =
    cause_from (g.D.Disk.faults c.args.disk.now) (g.D.Disk.faults c.loop-number.disk)
    (g.D.Disk.faults c.put_table_of.new.disk) c.in-Err-put_table_of.fault
    c.loop-number.invariant.faults c.in-Err-put_table_of.ensures.cause

pub returns-in-Err-put_table_of-clause-puts : goal.returns-in-Err-put_table_of-clause-puts
returns-in-Err-put_table_of-clause-puts g c first ready filed =
    let D = g.D.Disk in
    let i = c.loop-number.invariant in
    let is = of_next (record { 0 = c.loop-number.number }) c.args.cells c.loop-number.rest
    c.in-Ok.part i.left c.in-Ok.ensures.taken in
    has_put_on first c.args.cells 0 c.loop-number.number (D.changes c.args.disk.now)
    (D.changes c.loop-number.disk) (D.changes c.put_table_of.new.disk)
    (i.puts first ready filed)
    (c.in-Err-put_table_of.ensures.puts first c.args.cells is ready (i.files first ready filed))

pub returns-in-Err-put_table_of-clause-files : goal.returns-in-Err-put_table_of-clause-files
returns-in-Err-put_table_of-clause-files g c first ready filed =
    let i = c.loop-number.invariant in
    let is = of_next (record { 0 = c.loop-number.number }) c.args.cells c.loop-number.rest
    c.in-Ok.part i.left c.in-Ok.ensures.taken in
    c.in-Err-put_table_of.ensures.files first c.args.cells is ready (i.files first ready filed)

pub returns-in-Err-put_table_of-clause-any_moment :
    goal.returns-in-Err-put_table_of-clause-any_moment
returns-in-Err-put_table_of-clause-any_moment g c first ready settled =
    let D = g.D.Disk in
    let i = c.loop-number.invariant in
    let is = of_next (record { 0 = c.loop-number.number }) c.args.cells c.loop-number.rest
    c.in-Ok.part i.left c.in-Ok.ensures.taken in
    goes_on_by D.moment D.since c.args.disk.now c.loop-number.disk c.put_table_of.new.disk
    (IsSameFolder first) (i.only first ready settled)
    (c.put_table_of.ensures.any_moment first c.args.cells is ready (i.settled first ready settled))

-- ---- there was no memory for a table's cells

pub returns-in-Err-clause-no_fewer : goal.returns-in-Err-clause-no_fewer
returns-in-Err-clause-no_fewer g c = omega (arith, c.loop-number.invariant.faults)

pub returns-in-Err-clause-puts : goal.returns-in-Err-clause-puts
returns-in-Err-clause-puts g c first ready filed =
    has_put first c.args.cells 0 c.loop-number.number (g.D.Disk.changes c.args.disk.now)
    (g.D.Disk.changes c.loop-number.disk) (c.loop-number.invariant.puts first ready filed)

pub returns-in-Err-clause-files : goal.returns-in-Err-clause-files
returns-in-Err-clause-files g c first ready filed =
    still_full first c.args.cells c.loop-number.number (g.D.Disk.files c.loop-number.disk)
    (c.loop-number.invariant.files first ready filed)

pub returns-in-Err-clause-from : goal.returns-in-Err-clause-from
returns-in-Err-clause-from g c first ready filed from =
    c.loop-number.invariant.from first ready filed from

pub returns-in-Err-put_table_of-clause-from : goal.returns-in-Err-put_table_of-clause-from
returns-in-Err-put_table_of-clause-from g c first ready filed from =
    let D = g.D.Disk in
    let i = c.loop-number.invariant in
    let is = of_next (record { 0 = c.loop-number.number }) c.args.cells c.loop-number.rest
    c.in-Ok.part i.left c.in-Ok.ensures.taken in
    then_from D.moment D.since D.leaves first c.args.disk.now c.loop-number.disk
    c.put_table_of.new.disk (i.from first ready filed from)
    (c.put_table_of.ensures.from first c.args.cells is ready (i.files first ready filed))
