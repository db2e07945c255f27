use Rattle.std.proofs.Common.{◌≡◌, Option, refl, sym, subst}
use Rattle.std.specs.Prelude.{Ok, Err, Vec}
use Rattle.std.specs.declared.alloc.Global.{Global}
use Rattle.clog_disk.specs.Files.{Files, Lists}
use Rattle.clog_folder.specs.declared.tables.TableHeld.{TableHeld}
use Rattle.replay_merge.specs.declared.reading.Logged.{Logged}
use Rattle.clog_segments.specs.Live.{IsLogOf}
use Rattle.clog_segments.proofs.Looking.{
  few_of,
  from_folder,
  gives_for,
  late_of,
  limit_refused,
  many_tables,
}
use Rattle.clog_segments.proofs.LooksFirst.{listed_first}
use Rattle.clog_segments.proofs.opening.look.Goals as goal

abbrev Both : Type 0
Both = Vec TableHeld Global × Logged

abbrev IsReadIn : Option Files → Both → Type 0
IsReadIn files both = IsLogOf files both.0.items both.1.cells both.1.top

log_before : (files mid : Option Files) (both : Both) → mid ≡ files → IsReadIn mid both
    → IsReadIn files both
log_before files mid both same is = subst (λ (o : Option Files). IsReadIn o both) same is

pub read_both-requires : goal.read_both-requires
read_both-requires g c =
    let slice = c.as_slice.result.now in
    subst (λ (o : Option Files). Lists o slice) (sym c.in-Ok.ensures.same.files)
    (subst (Lists (g.D.Disk.files c.args.disk.now)) (sym c.as_slice.ensures)
    c.in-Ok.ensures.names)

pub returns-in-Err-read_both-clause-looks : goal.returns-in-Err-read_both-clause-looks
returns-in-Err-read_both-clause-looks g c =
    let D = g.D.Disk in
    let listed = c.in-Ok.ensures in
    from_folder (D.files c.args.disk.now) (D.files c.list.new.self) (D.faults c.args.disk.now)
    (D.faults c.list.new.self) (D.faults c.read_both.new.disk) c.in-Err-read_both.fault
    listed.same.files listed.cause.later c.in-Err-read_both.ensures.reads

pub returns-then-has_late_table-clause-looks : goal.returns-then-has_late_table-clause-looks
returns-then-has_late_table-clause-looks g c =
    let files = g.D.Disk.files c.args.disk.now in
    let both = c.in-Ok-read_both.both in
    let log = log_before files (g.D.Disk.files c.list.new.self) both c.in-Ok.ensures.same.files
    c.in-Ok-read_both.ensures.reads in (
      refl,
      many_tables both.0.items log.ps files c.in-Ok.names log.told c.in-Ok.ensures.names
          (late_of c.in-Ok.names c.as_slice-2.result.now c.has_late_table.result
          c.as_slice-2.ensures c.has_late_table.ensures c.if-has_late_table.true),
    )

pub returns-in-Ok-base_of-clause-looks : goal.returns-in-Ok-base_of-clause-looks
returns-in-Ok-base_of-clause-looks g c =
    let both = c.in-Ok-read_both.both in
    let names = c.in-Ok.names in
    record {
      tables = both.0.items;
      log = log_before (g.D.Disk.files c.args.disk.now) (g.D.Disk.files c.list.new.self) both
          c.in-Ok.ensures.same.files c.in-Ok-read_both.ensures.reads;
      lists = c.in-Ok.ensures.names;
      few = few_of names c.as_slice-2.result.now c.has_late_table.result c.as_slice-2.ensures
          c.has_late_table.ensures c.if-has_late_table.false;
      base_is = gives_for names c.as_slice-3.result.now both.0.items c.as_slice-4.result.now
          c.as_slice-3.ensures c.as_slice-4.ensures.value c.args.moment
          (Ok c.in-Ok-base_of.base) c.in-Ok-base_of.ensures;
    }

pub returns-in-Err-base_of-clause-looks : goal.returns-in-Err-base_of-clause-looks
returns-in-Err-base_of-clause-looks g c =
    let D = g.D.Disk in
    let files = D.files c.args.disk.now in
    let both = c.in-Ok-read_both.both in
    let names = c.in-Ok.names in
    let log = log_before files (D.files c.list.new.self) both c.in-Ok.ensures.same.files
    c.in-Ok-read_both.ensures.reads in
    limit_refused both.0.items log.ps files names (D.faults c.args.disk.now)
    (D.faults c.read_both.new.disk) c.in-Err-base_of.fault log.told c.in-Ok.ensures.names
    (few_of names c.as_slice-2.result.now c.has_late_table.result c.as_slice-2.ensures
    c.has_late_table.ensures c.if-has_late_table.false)
    (gives_for names c.as_slice-3.result.now both.0.items c.as_slice-4.result.now
    c.as_slice-3.ensures c.as_slice-4.ensures.value c.args.moment (Err c.in-Err-base_of.fault)
    c.in-Err-base_of.ensures)

pub returns-in-Ok-base_of-clause-keeps : goal.returns-in-Ok-base_of-clause-keeps
returns-in-Ok-base_of-clause-keeps g c =
    let is = c.in-Ok.ensures in
    listed_first c.in-Ok-read_both.ensures.keeps is.same is.quiet is.time is.cause.later

pub returns-in-Err-base_of-clause-keeps : goal.returns-in-Err-base_of-clause-keeps
returns-in-Err-base_of-clause-keeps g c =
    let is = c.in-Ok.ensures in
    listed_first c.in-Ok-read_both.ensures.keeps is.same is.quiet is.time is.cause.later
