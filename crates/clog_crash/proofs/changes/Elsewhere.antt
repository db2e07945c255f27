-- Where a segment alone has changed, table files and the other segments are as before.
use Rattle.std.proofs.Common.{◌≡◌, ℕ, ◌<◌, ◌^◌, List, sym, subst}
use Rattle.clog_spec.specs.Names.{segment_name_of, table_name_of, IsTableName}
use Rattle.clog_base.specs.declared.cell.Cell.{Cell}
use Rattle.clog_base.specs.declared.cell.CellKey.{CellKey}
use Rattle.clog_base.specs.declared.cell.Table.{Table}
use Rattle.clog_base.specs.declared.position.Position.{Position}
use Rattle.clog_scan.specs.Segment.{Entry, IsSegment}
use Rattle.clog_table.specs.declared.table_file.TableFile.{TableFile}
use Rattle.clog_table.specs.Refusals.{IsFileOf}
use Rattle.clog_crash.specs.Changes.{DiffersAt}
use Rattle.clog_crash.specs.Readings.{
  Reading,
  IsLoggedIn,
  IsTableIn,
  IsSkippedIn,
  IsTableCellIn,
  IsLoggedCellIn,
}
use Rattle.clog_crash.specs.Restore.{end_position}
use Rattle.clog_crash.proofs.changes.Names.{not_segment, one_id}

module _ (r q : Reading) (id : ℕ) (fits : id < 2 ^ 63)
    (others : DiffersAt (segment_name_of 6 id) r q) where
  table_reads : (file : TableFile) (sequence : ℕ)
      → IsTableName (table_name_of file.table.0 sequence) file.table.0 sequence
      → q (table_name_of file.table.0 sequence) ≡ r (table_name_of file.table.0 sequence)
  table_reads file sequence named =
      let name = table_name_of file.table.0 sequence in
      others name (not_segment id name file.table.0 sequence fits named)

  pub table_now : (file : TableFile) → IsTableIn r file → IsTableIn q file
  table_now file t = record {
    sequence = t.sequence;
    named = t.named;
    spelled = subst (λ (b : List ℕ). IsFileOf file.table b file)
        (sym (table_reads file t.sequence t.named)) t.spelled;
  }

  pub skipped_now : (table : Table) (at : Position) → IsSkippedIn r table at
      → IsSkippedIn q table at
  skipped_now table at s = record {
    file = s.file;
    there = table_now s.file s.there;
    same_table = s.same_table;
    inside = s.inside;
  }

  pub logged_now : (other : ℕ) (entry : Entry) → (other ≡ id → ⊥) → IsLoggedIn r other entry
      → IsLoggedIn q other entry
  logged_now other entry apart l = record {
    fits = l.fits;
    entries = l.entries;
    end = l.end;
    holds = subst (λ (b : List ℕ). IsSegment b other l.entries l.end)
        (sym (others (segment_name_of 6 other)
        (λ same. apart (one_id id other fits l.fits same)))) l.holds;
    listed = l.listed;
  }

  pub cell_now : (pair : CellKey × Cell) → IsTableCellIn r pair → IsTableCellIn q pair
  cell_now pair c = record { file = c.file; there = table_now c.file c.there; listed = c.listed }

-- they differ at the name the other way too
pub turned : (name : List ℕ) (r q : Reading) → DiffersAt name r q → DiffersAt name q r
turned name r q others other apart = sym (others other apart)

-- a logged cell, at an entry that is logged now too
pub still_logged : (r q : Reading) (id : ℕ) → id < 2 ^ 63
    → DiffersAt (segment_name_of 6 id) r q → (pair : CellKey × Cell)
    → (c : IsLoggedCellIn r pair) → IsLoggedIn q c.id c.entry → IsLoggedCellIn q pair
still_logged r q id fits others pair c there = record {
  id = c.id;
  entry = c.entry;
  logged = there;
  cell = c.cell;
  kept = λ skipped. c.kept (skipped_now q r id fits (turned (segment_name_of 6 id) r q others)
      pair.0.table (end_position c.id c.entry) skipped);
}
