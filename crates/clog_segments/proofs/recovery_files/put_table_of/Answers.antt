use Rattle.std.proofs.Common.{◌+◌, refl, arith}
use Rattle.clog_disk.proofs.Moments.{started}
use Rattle.clog_crash.specs.Flush.{IsSameFolder}
use Rattle.clog_segments.proofs.Filed.{
  filed_told,
  is_put_now,
  may_come_here,
  may_come_to,
  named_now,
  next_file,
  none_filed_now,
  none_of,
  none_settled_now,
  put_filed,
  refused_filed,
  settled_show,
  settled_with,
  still_by,
}
use Rattle.replay_merge.proofs.Tops.{from_start}
use Rattle.clog_segments.proofs.ComesFrom.{still_from}
use Rattle.clog_segments.proofs.PutTables.{none_from, one_from}
use Rattle.clog_segments.proofs.recovery_files.put_table_of.Goals as goal

pub encode_parts-requires : goal.encode_parts-requires
encode_parts-requires g c = record {
  table = c.requires.table;
  interval = from_start c.args.top;
  cells = c.requires.cells;
}

pub put_recovered-requires-clause-fits : goal.put_recovered-requires-clause-fits
put_recovered-requires-clause-fits g c = c.next_sequence.ensures.fits c.requires.few

-- ---- nothing was put

pub returns-then-len-eq0-clause-puts : goal.returns-then-len-eq0-clause-puts
returns-then-len-eq0-clause-puts g c first cells is ready filed =
    none_from first cells c.args.table (g.D.Disk.changes c.args.disk.now)
    (none_of c.args.table cells is c.len.ensures.len (omega (arith, c.if-len-eq0.true)))

pub returns-then-len-eq0-clause-files : goal.returns-then-len-eq0-clause-files
returns-then-len-eq0-clause-files g c first cells is ready filed =
    none_filed_now ready c.args.table (g.D.Disk.files c.args.disk.now)
    (none_of c.args.table cells is c.len.ensures.len (omega (arith, c.if-len-eq0.true))) filed

pub returns-then-len-eq0-clause-settles : goal.returns-then-len-eq0-clause-settles
returns-then-len-eq0-clause-settles g c first cells is ready settled =
    none_settled_now ready c.args.table (g.D.Disk.files c.args.disk.now)
    (g.D.Disk.leaves c.args.disk.now)
    (none_of c.args.table cells is c.len.ensures.len (omega (arith, c.if-len-eq0.true))) settled

pub returns-in_err-bytes-clause-files : goal.returns-in_err-bytes-clause-files
returns-in_err-bytes-clause-files g c first cells is ready filed =
    still_by first cells c.args.table.0 (g.D.Disk.files c.args.disk.now)
    c.from_residual.result c.from_residual.ensures.0 filed

pub returns-then-len-eq0-clause-any_moment : goal.returns-then-len-eq0-clause-any_moment
returns-then-len-eq0-clause-any_moment g c first cells is ready settled =
    let D = g.D.Disk in
    let old = c.args.disk.now in
    started D.moment D.since old (IsSameFolder first) (λ image left.
    settled_show first cells c.args.table.0 (D.files old) (D.leaves old) settled image
    (g.met.D.Disk.only_now old image left))

pub returns-then-len-eq0-clause-from : goal.returns-then-len-eq0-clause-from
returns-then-len-eq0-clause-from g c first cells is ready filed from =
    let D = g.D.Disk in
    still_from D.moment D.since D.leaves first c.args.disk.now
    (g.met.D.Disk.only_now c.args.disk.now) from

pub returns-in_err-bytes-clause-any_moment : goal.returns-in_err-bytes-clause-any_moment
returns-in_err-bytes-clause-any_moment g c first cells is ready settled =
    let D = g.D.Disk in
    let old = c.args.disk.now in
    started D.moment D.since old (IsSameFolder first) (λ image left.
    settled_show first cells c.args.table.0 (D.files old) (D.leaves old) settled image
    (g.met.D.Disk.only_now old image left))

pub returns-in_err-bytes-clause-from : goal.returns-in_err-bytes-clause-from
returns-in_err-bytes-clause-from g c first cells is ready filed from =
    let D = g.D.Disk in
    still_from D.moment D.since D.leaves first c.args.disk.now
    (g.met.D.Disk.only_now c.args.disk.now) from

-- ---- a file was put, or perhaps

pub returns-in-Ok-clause-puts : goal.returns-in-Ok-clause-puts
returns-in-Ok-clause-puts g c first cells is ready filed =
    let next = next_file c.args.names.now cells c.args.top c.args.table is c.len.ensures.len
    (λ e. omega (arith, c.if-len-eq0.false, e)) c.deref.ensures.value c.in_ok-bytes.ensures
    c.next_sequence.ensures.next (c.next_sequence.ensures.fits c.requires.few) in
    one_from first cells c.args.table c.next_sequence.result _ _ _ c.deref.result.now
    (named_now ready next _ filed) (is_put_now ready next _ filed) c.in-Ok.ensures.adds

pub returns-in-Ok-clause-files : goal.returns-in-Ok-clause-files
returns-in-Ok-clause-files g c first cells is ready filed =
    let next = next_file c.args.names.now cells c.args.top c.args.table is c.len.ensures.len
    (λ e. omega (arith, c.if-len-eq0.false, e)) c.deref.ensures.value c.in_ok-bytes.ensures
    c.next_sequence.ensures.next (c.next_sequence.ensures.fits c.requires.few) in
    put_filed ready next _ _ filed c.in-Ok.ensures.puts

pub returns-in-Ok-clause-settles : goal.returns-in-Ok-clause-settles
returns-in-Ok-clause-settles g c first cells is ready settled =
    let before = c.args.disk.now in
    let D = g.D.Disk in
    let next = next_file c.args.names.now cells c.args.top c.args.table is c.len.ensures.len
    (λ e. omega (arith, c.if-len-eq0.false, e)) c.deref.ensures.value c.in_ok-bytes.ensures
    c.next_sequence.ensures.next (c.next_sequence.ensures.fits c.requires.few) in
    settled_with first cells (c.args.table.0 + 1) _ _
    (put_filed ready next _ _
    (filed_told first cells c.args.table.0 (D.files before) (D.leaves before) settled)
    c.in-Ok.ensures.puts)
    (c.in-Ok.ensures.comes first _ refl (may_come_here ready next _ _ settled))

pub returns-clause-puts : goal.returns-clause-puts
returns-clause-puts g c first cells is ready filed = c.in-Err.ensures.adds

pub returns-clause-files : goal.returns-clause-files
returns-clause-files g c first cells is ready filed =
    let next = next_file c.args.names.now cells c.args.top c.args.table is c.len.ensures.len
    (λ e. omega (arith, c.if-len-eq0.false, e)) c.deref.ensures.value c.in_ok-bytes.ensures
    c.next_sequence.ensures.next (c.next_sequence.ensures.fits c.requires.few) in
    refused_filed ready next _ _ filed c.put_recovered.ensures.others c.in-Err.ensures.maybe
    (c.put_recovered.ensures.files first _ refl (may_come_to ready next _ filed))

pub returns-in-Ok-clause-any_moment : goal.returns-in-Ok-clause-any_moment
returns-in-Ok-clause-any_moment g c first cells is ready settled =
    let next = next_file c.args.names.now cells c.args.top c.args.table is c.len.ensures.len
    (λ e. omega (arith, c.if-len-eq0.false, e)) c.deref.ensures.value c.in_ok-bytes.ensures
    c.next_sequence.ensures.next (c.next_sequence.ensures.fits c.requires.few) in
    c.put_recovered.ensures.any_moment first _ refl (may_come_here ready next _ _ settled)

pub returns-in-Ok-clause-from : goal.returns-in-Ok-clause-from
returns-in-Ok-clause-from g c first cells is ready filed from =
    let next = next_file c.args.names.now cells c.args.top c.args.table is c.len.ensures.len
    (λ e. omega (arith, c.if-len-eq0.false, e)) c.deref.ensures.value c.in_ok-bytes.ensures
    c.next_sequence.ensures.next (c.next_sequence.ensures.fits c.requires.few) in
    c.put_recovered.ensures.from first (is_put_now ready next _ filed) from

pub returns-clause-any_moment : goal.returns-clause-any_moment
returns-clause-any_moment g c first cells is ready settled =
    let next = next_file c.args.names.now cells c.args.top c.args.table is c.len.ensures.len
    (λ e. omega (arith, c.if-len-eq0.false, e)) c.deref.ensures.value c.in_ok-bytes.ensures
    c.next_sequence.ensures.next (c.next_sequence.ensures.fits c.requires.few) in
    c.put_recovered.ensures.any_moment first _ refl (may_come_here ready next _ _ settled)

pub returns-clause-from : goal.returns-clause-from
returns-clause-from g c first cells is ready filed from =
    let next = next_file c.args.names.now cells c.args.top c.args.table is c.len.ensures.len
    (λ e. omega (arith, c.if-len-eq0.false, e)) c.deref.ensures.value c.in_ok-bytes.ensures
    c.next_sequence.ensures.next (c.next_sequence.ensures.fits c.requires.few) in
    c.put_recovered.ensures.from first (is_put_now ready next _ filed) from
