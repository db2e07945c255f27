-- What was read of a folder's log, by the disk as it was.
use Rattle.std.proofs.Common.{◌≡◌, ℕ, List, Option, Some, None, IfSome, subst}
use Rattle.std.specs.Prelude.{false}
use Rattle.clog_base.specs.declared.cell.Table.{Table}
use Rattle.clog_disk.specs.Files.{Files}
use Rattle.clog_crash.specs.Folder.{IsHeld, IsNameOf, place_cmp}
use Rattle.clog_folder.specs.declared.tables.TableHeld.{TableHeld}
use Rattle.clog_folder.specs.Folder.{PlacedPayload}
use Rattle.clog_folder.specs.Listing.{AreRows, IsSegmentAt, segment_cmp}
use Rattle.clog_folder.specs.Segments.{Row}
use Rattle.clog_folder.specs.Tables.{HaveRead}
use Rattle.clog_folder.proofs.FolderRead.{is_read_as, segment_files}
use Rattle.replay_merge.specs.declared.reading.Logged.{Logged}
use Rattle.replay_merge.specs.Logged.{AreLogged, IsLogged}
use Rattle.clog_segments.specs.Live.{HasLog, IsLogOf}

abbrev Tables : Type 0
Tables = List ((Table × ℕ) × List ℕ)

has_log : (files : Option Files) (rows : List Row) (table_rows : Tables) (tables : List TableHeld)
    (ps : List PlacedPayload)
    → IfSome files (λ held. AreRows segment_cmp IsSegmentAt (IsHeld held) rows)
    → IfSome files (λ held. AreRows place_cmp IsNameOf (IsHeld held) table_rows)
    → HaveRead files table_rows tables → IfSome files (AreLogged rows ps)
    → IfSome files (HasLog tables ps)
has_log None rows table_rows tables ps places table_places read logged = tt
has_log (Some held) rows table_rows tables ps places table_places read logged = record {
  segments = logged.helds;
  read = is_read_as false held rows logged.helds places logged.have tables table_rows table_places
      read;
  payloads = logged.payloads;
  are_files = segment_files false held rows logged.helds places logged.have;
}

pub log_of : (files now : Option Files) (rows : List Row) (table_rows : Tables)
    (tables : List TableHeld) (logged : Logged) → now ≡ files
    → IfSome files (λ held. AreRows segment_cmp IsSegmentAt (IsHeld held) rows)
    → IfSome files (λ held. AreRows place_cmp IsNameOf (IsHeld held) table_rows)
    → HaveRead files table_rows tables → IsLogged now tables rows logged
    → IsLogOf files tables logged.cells logged.top
log_of files now rows table_rows tables logged same places table_places read is = record {
  ps = is.ps;
  live = is.live;
  reaches = is.top;
  told = has_log files rows table_rows tables is.ps places table_places read
      (subst (λ (o : Option Files). IfSome o (AreLogged rows is.ps)) same is.told);
}
