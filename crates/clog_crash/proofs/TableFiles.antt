-- The table files of a folder: each is read as one thing, and their cells are those of the list.
use Rattle.std.proofs.Common.{◌≡◌, ℕ, List, Some, sym, ap, subst, ◌∙◌}
use Rattle.std.specs.Prelude.{Contains, is_some}
use Rattle.std.specs.FinMap as finmap
use Rattle.std.proofs.lemmas.List.Elements.{All-contains}
use Rattle.clog_base.specs.declared.cell.Cell.{Cell}
use Rattle.clog_base.specs.declared.cell.CellKey.{CellKey}
use Rattle.clog_disk.specs.Files.{Files}
use Rattle.clog_table.specs.declared.table_file.TableFile.{TableFile}
use Rattle.clog_table.specs.Refusals.{IsFileOf}
use Rattle.clog_table.proofs.Again.{one_table_file}
use Rattle.clog_crash.specs.Folder.{
  TableRead,
  Place,
  place_of,
  cells_in,
  cells_of_tables,
  IsNameOf,
  IsHeld,
  AreTables,
  AreGoodTables,
  IsReadFrom,
}
use Rattle.clog_crash.specs.Restore.{IsTableCell}
use Rattle.clog_base.proofs.Members.{from_map, in_flat, from_flat}
use Rattle.clog_crash.proofs.OneMore.{bytes_of}

-- the place of a table file's name has one name
one_name : (place : Place) (name other : List ℕ) → IsNameOf place name → IsNameOf place other
    → other ≡ name
one_name place name other a b = b.form ∙ sym a.form

-- a table file that is there is one of those that were read
pub read_of : (files : Files) (reads : List TableRead) (place : Place) (name bytes : List ℕ)
    → AreTables files reads → IsNameOf place name → finmap.get files name ≡ Some bytes
    → (read : TableRead) × Contains reads read × (place_of read ≡ place)
    × IsFileOf place.0 bytes read.file
read_of files reads place name bytes tables named there =
    let held : IsHeld files name = ap is_some there in
    let read = from_map place_of reads place (tables.every place name named held) in
    let from = All-contains (IsReadFrom files) reads read.0 tables.each read.1 in
    let named_same : from.name ≡ name =
    one_name place name from.name named
    (subst (λ (p : Place). IsNameOf p from.name) read.2 from.named) in
    let same : Some from.good.bytes ≡ Some bytes =
    sym from.good.there ∙ ap (finmap.get files) named_same ∙ there in
    let spelled : IsFileOf place.0 from.good.bytes read.0.file =
    subst (λ (p : Place). IsFileOf p.0 from.good.bytes read.0.file) read.2 from.good.spelled in
    let bytes_same : from.good.bytes ≡ bytes = cc in (
      read.0,
      read.1,
      read.2,
      subst (λ (b : List ℕ). IsFileOf place.0 b read.0.file) bytes_same spelled,
    )

-- where all table files are told, each is good
pub tables_are_good : (files : Files) (reads : List TableRead) → AreTables files reads
    → AreGoodTables files
tables_are_good files reads tables place name named held =
    let there = bytes_of (finmap.get files name) held in
    let read = read_of files reads place name there.0 tables named there.1 in
    (read.0.file, record { bytes = there.0; there = there.1; spelled = read.3 })

-- what is read from the folder is one of them
pub known_read : (files : Files) (reads : List TableRead) → AreTables files reads
    → (read : TableRead) → IsReadFrom files read
    → (other : TableRead) × Contains reads other × (other.file ≡ read.file)
known_read files reads tables read r =
    let found = read_of files reads (place_of read) r.name r.good.bytes tables r.named
    r.good.there in (
      found.0,
      found.1,
      one_table_file read.file.table r.good.bytes read.file found.0.file r.good.spelled found.3,
    )

pub table_cell_in : (files : Files) (reads : List TableRead) (pair : CellKey × Cell)
    → AreTables files reads → IsTableCell files pair → Contains (cells_of_tables reads) pair
table_cell_in files reads pair tables c =
    let known = known_read files reads tables c.read c.there in
    in_flat cells_in reads known.0 pair known.1
    (subst (λ (f : TableFile). Contains f.cells pair) (sym known.2) c.listed)

pub in_table_cell : (files : Files) (reads : List TableRead) (pair : CellKey × Cell)
    → AreTables files reads → Contains (cells_of_tables reads) pair → IsTableCell files pair
in_table_cell files reads pair tables h =
    let found = from_flat cells_in reads pair h in
    record {
      read = found.0;
      there = All-contains (IsReadFrom files) reads found.0 tables.each found.1;
      listed = found.2;
    }
