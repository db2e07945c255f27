use Rattle.std.proofs.Common.{List, refl, subst}
use Rattle.std.specs.Prelude.{false}
use Rattle.clog_crash.specs.Folder.{IsNameOf, place_cmp}
use Rattle.clog_folder.specs.declared.tables.TableHeld.{TableHeld}
use Rattle.clog_folder.specs.Listing.{IsSegmentAt, segment_cmp}
use Rattle.clog_folder.proofs.FolderRead.{segments_refused, told_rows}
use Rattle.replay_merge.specs.Logged.{IsLogged}
use Rattle.clog_segments.proofs.ReadLog.{log_of}
use Rattle.clog_segments.proofs.reading.read_both.Goals as goal

pub read_tables-requires : goal.read_tables-requires
read_tables-requires g c =
    let files = g.D.Disk.files c.args.disk.now in
    told_rows place_cmp IsNameOf files files c.args.names.now c.in_ok-tables.tables.entries refl
    c.requires c.in_ok-tables.ensures

pub read_log-requires : goal.read_log-requires
read_log-requires g c = record {
  there = told_rows segment_cmp IsSegmentAt (g.D.Disk.files c.args.disk.now)
      (g.D.Disk.files c.read_tables.new.disk) c.args.names.now
      c.in_ok-segments.segments.entries c.in-Ok.ensures.keeps.same.files c.requires
      c.in_ok-segments.ensures;
}

pub returns-in-Err-read_log-clause-reads : goal.returns-in-Err-read_log-clause-reads
returns-in-Err-read_log-clause-reads g c =
    let files = g.D.Disk.files c.args.disk.now in
    let later = c.in-Ok.ensures.keeps.later in
    let rows = c.in_ok-tables.tables.entries in
    segments_refused false files (g.D.Disk.files c.read_tables.new.disk)
    (g.D.Disk.faults c.args.disk.now) (g.D.Disk.faults c.read_tables.new.disk)
    (g.D.Disk.faults c.read_log.new.disk) rows c.in-Ok.tables.items c.in-Err-read_log.fault
    c.in-Ok.ensures.keeps.same.files later
    (told_rows place_cmp IsNameOf files files c.args.names.now rows refl c.requires
    c.in_ok-tables.ensures)
    c.in-Ok.ensures.reads c.in-Err-read_log.ensures.reads

pub returns-in-Ok-read_log-clause-reads : goal.returns-in-Ok-read_log-clause-reads
returns-in-Ok-read_log-clause-reads g c =
    let files = g.D.Disk.files c.args.disk.now in
    let now = g.D.Disk.files c.read_tables.new.disk in
    let rows = c.in_ok-segments.segments.entries in
    log_of files now rows c.in_ok-tables.tables.entries c.in-Ok.tables.items c.in-Ok-read_log.log
    c.in-Ok.ensures.keeps.same.files
    (told_rows segment_cmp IsSegmentAt files files c.args.names.now rows refl c.requires
    c.in_ok-segments.ensures)
    (told_rows place_cmp IsNameOf files files c.args.names.now c.in_ok-tables.tables.entries refl
    c.requires c.in_ok-tables.ensures)
    c.in-Ok.ensures.reads
    (subst (λ (ts : List TableHeld). IsLogged now ts rows c.in-Ok-read_log.log)
    c.as_slice.ensures.value c.in-Ok-read_log.ensures.reads)
