-- Table files stand for all cells of a segment that may be dropped.
use Rattle.std.proofs.Common.{ℕ, List, ap, arith}
use Rattle.std.specs.Prelude.{Contains}
use Rattle.clog_base.specs.declared.cell.Cell.{Cell}
use Rattle.clog_base.specs.declared.cell.CellKey.{CellKey}
use Rattle.clog_base.proofs.Members.{from_map}
use Rattle.clog_mutation.specs.Payload.{pair_of}
use Rattle.clog_scan.specs.Segment.{Entry}
use Rattle.clog_table.specs.declared.table_file.TableFile.{TableFile}
use Rattle.clog_crash.specs.Changes.{AreCovered}
use Rattle.clog_crash.specs.Droppable.{IsDroppable, Touches}
use Rattle.clog_crash.specs.Readings.{Reading, IsCellOf, IsLoggedIn, IsTableIn}

-- the entry of a cell touches the cell's table
touches_its_table : (entry : Entry) (pair : CellKey × Cell) → IsCellOf entry pair
    → Touches entry pair.0.table
touches_its_table entry pair c =
    let found = from_map (pair_of c.mutation.key) c.mutation.updates pair c.listed in
    record {
      mutation = c.mutation;
      said = c.said;
      update = found.0;
      listed = found.1;
      same_table = ap (λ (p : CellKey × Cell). p.0.table) found.2;
    }

pub droppable_is_covered : (r : Reading) (id : ℕ) (files : List TableFile) (entries : List Entry)
    → IsDroppable files id entries → ((file : TableFile) → Contains files file → IsTableIn r file)
    → ((entry : Entry) → IsLoggedIn r id entry → Contains entries entry) → AreCovered r id
droppable_is_covered r id files entries d there logged entry l pair cell =
    let touches = touches_its_table entry pair cell in
    let listed = logged entry l in
    let filed = d.filed pair.0.table entry entry listed listed touches touches entry.end
    (omega arith) (omega arith) in
    record {
      file = filed.file;
      there = there filed.file filed.listed;
      same_table = filed.same_table;
      inside = filed.inside;
    }
