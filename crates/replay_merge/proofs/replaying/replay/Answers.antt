use Rattle.std.proofs.Common.{Option, List, refl, sym, subst, ◌∙◌, arith}
use Rattle.clog_disk.specs.Files.{Files, Lists}
use Rattle.clog_crash.specs.Counts.{IsNameOfTable}
use Rattle.clog_crash.specs.Folder.{IsNameOf, IsNameOfSegment, place_cmp}
use Rattle.clog_folder.specs.declared.tables.TableHeld.{TableHeld}
use Rattle.clog_folder.specs.Listing.{IsSegmentAt, segment_cmp}
use Rattle.clog_folder.specs.Tables.{HaveRead}
use Rattle.clog_folder.proofs.Counting.{told_named}
use Rattle.clog_folder.proofs.Passing.{both}
use Rattle.clog_folder.proofs.FolderRead.{segments_refused, told_rows}
use Rattle.replay_merge.specs.Settling.{HasPiped}
use Rattle.replay_merge.proofs.Replayed.{replays}
use Rattle.replay_merge.proofs.replaying.replay.Goals as goal

pub read_tables-requires : goal.read_tables-requires
read_tables-requires g c =
    let files = g.D.Disk.files c.args.disk.now in
    told_rows place_cmp IsNameOf files (g.D.Disk.files c.list.new.self) c.as_slice.result.now
    c.in_ok-tables.tables.entries c.in-Ok.ensures.same.files
    (subst (Lists files) (sym c.as_slice.ensures) c.in-Ok.ensures.names) c.in_ok-tables.ensures

pub pipe_folder-requires-clause-there : goal.pipe_folder-requires-clause-there
pipe_folder-requires-clause-there g c = λ _ _.
    let files = g.D.Disk.files c.args.disk.now in
    told_rows segment_cmp IsSegmentAt files (g.D.Disk.files c.read_tables.new.disk)
    c.as_slice-2.result.now c.in_ok-segments.segments.entries
    (c.in-Ok-read_tables.ensures.keeps.same.files ∙ c.in-Ok.ensures.same.files)
    (subst (Lists files) (sym c.as_slice-2.ensures) c.in-Ok.ensures.names)
    c.in_ok-segments.ensures

pub returns-in-Err-pipe_folder-clause-replays : goal.returns-in-Err-pipe_folder-clause-replays
returns-in-Err-pipe_folder-clause-replays g c =
    let files = g.D.Disk.files c.args.disk.now in
    let first = c.in-Ok.ensures.cause.later in
    let second = c.in-Ok-read_tables.ensures.keeps.later in
    let rows = c.in_ok-tables.tables.entries in
    let tables = c.in-Ok-read_tables.tables.items in
    segments_refused c.args.ignore files (g.D.Disk.files c.read_tables.new.disk)
    (g.D.Disk.faults c.args.disk.now) (g.D.Disk.faults c.read_tables.new.disk)
    (g.D.Disk.faults c.pipe_folder.new.disk) rows tables c.in-Err-pipe_folder.fault
    (c.in-Ok-read_tables.ensures.keeps.same.files ∙ c.in-Ok.ensures.same.files)
    (omega (arith, first, second))
    (told_rows place_cmp IsNameOf files files c.as_slice.result.now rows refl
    (subst (Lists files) (sym c.as_slice.ensures) c.in-Ok.ensures.names) c.in_ok-tables.ensures)
    (subst (λ (f : Option Files). HaveRead f rows tables) c.in-Ok.ensures.same.files
    c.in-Ok-read_tables.ensures.reads)
    c.in-Err-pipe_folder.ensures.pipes

pub returns-clause-replays : goal.returns-clause-replays
returns-clause-replays g c =
    let files = g.D.Disk.files c.args.disk.now in
    let rows = c.in_ok-segments.segments.entries in
    let table_rows = c.in_ok-tables.tables.entries in
    let tables = c.in-Ok-read_tables.tables.items in
    let piped = c.in-Ok-pipe_folder.piped in
    let same = c.in-Ok-read_tables.ensures.keeps.same.files ∙ c.in-Ok.ensures.same.files in
    let p : HasPiped c.args.ignore files tables rows piped =
    subst (λ (ts : List TableHeld). HasPiped c.args.ignore files ts rows piped)
    c.as_slice-lent.ensures.value
    (subst (λ (f : Option Files). HasPiped c.args.ignore f c.as_slice-lent.result.now rows piped)
    same c.in-Ok-pipe_folder.ensures.pipes) in
    replays c.args.ignore files tables table_rows rows c.count_segments-segments.result
    c.count_tables.result piped c.in_ok-restored_of.field-0
    (told_rows segment_cmp IsSegmentAt files files c.as_slice-2.result.now rows refl
    (subst (Lists files) (sym c.as_slice-2.ensures) c.in-Ok.ensures.names)
    c.in_ok-segments.ensures)
    (told_rows place_cmp IsNameOf files files c.as_slice.result.now table_rows refl
    (subst (Lists files) (sym c.as_slice.ensures) c.in-Ok.ensures.names) c.in_ok-tables.ensures)
    (subst (λ (f : Option Files). HaveRead f table_rows tables) c.in-Ok.ensures.same.files
    c.in-Ok-read_tables.ensures.reads) p
    (told_named files IsNameOfTable _ _
    (subst (Lists files) (sym c.as_slice-4.ensures) c.in-Ok.ensures.names) c.count_tables.ensures)
    (told_named files IsNameOfSegment _ _
    (subst (Lists files) (sym c.as_slice-3.ensures) c.in-Ok.ensures.names)
    c.count_segments-segments.ensures)
    (c.in_ok-restored_of.ensures p.items p.done)

pub returns-in_err-restored_of-clause-keeps : goal.returns-in_err-restored_of-clause-keeps
returns-in_err-restored_of-clause-keeps g c =
    let stays = both g.D.Disk.files g.D.Disk.changes g.D.Disk.leaves g.D.Disk.moment
    g.D.Disk.since g.D.Disk.read_at g.D.Disk.lasted_at g.D.Disk.faults c.args.disk.now in
    stays c.read_tables.new.disk c.pipe_folder.new.disk
    (stays c.list.new.self c.read_tables.new.disk (record {
      same = c.in-Ok.ensures.same;
      changes_are = c.in-Ok.ensures.quiet;
      time = c.in-Ok.ensures.time;
      later = c.in-Ok.ensures.cause.later;
    }) c.in-Ok-read_tables.ensures.keeps)
    c.in-Ok-pipe_folder.ensures.keeps

pub returns-clause-keeps : goal.returns-clause-keeps
returns-clause-keeps g c =
    let stays = both g.D.Disk.files g.D.Disk.changes g.D.Disk.leaves g.D.Disk.moment
    g.D.Disk.since g.D.Disk.read_at g.D.Disk.lasted_at g.D.Disk.faults c.args.disk.now in
    stays c.read_tables.new.disk c.pipe_folder.new.disk
    (stays c.list.new.self c.read_tables.new.disk (record {
      same = c.in-Ok.ensures.same;
      changes_are = c.in-Ok.ensures.quiet;
      time = c.in-Ok.ensures.time;
      later = c.in-Ok.ensures.cause.later;
    }) c.in-Ok-read_tables.ensures.keeps)
    c.in-Ok-pipe_folder.ensures.keeps
