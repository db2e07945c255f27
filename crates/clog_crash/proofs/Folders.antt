-- What a folder restores to: one list, and without a segment the merge of its table files' cells.
use Rattle.std.proofs.Common.{◌≡◌, ℕ, List, Some, inl, inr, ap}
use Rattle.std.specs.Prelude.{Contains, is_some}
use Rattle.std.specs.FinMap as finmap
use Rattle.clog_spec.specs.Names.{IsSegmentName}
use Rattle.clog_base.specs.declared.cell.Cell.{Cell}
use Rattle.clog_base.specs.declared.cell.CellKey.{CellKey}
use Rattle.clog_cells.specs.Merge.{IsMerge}
use Rattle.clog_cells.proofs.Merging.{of_same, unique_of}
use Rattle.clog_disk.specs.Files.{Files}
use Rattle.clog_crash.specs.Folder.{TableRead, AreTables, HasSegmentFile, cells_of_tables}
use Rattle.clog_crash.specs.Restore.{IsLoggedCell, IsRestored, IsUndamaged, Restores}
use Rattle.clog_crash.proofs.TableFiles.{table_cell_in, in_table_cell, tables_are_good}

pub was_no_segment : (before : Files) (name bytes : List ℕ) (version id : ℕ)
    → ¬ HasSegmentFile before → IsSegmentName name version id
    → finmap.get before name ≡ Some bytes → ⊥
was_no_segment before name bytes version id none named there =
    none (name, ap is_some there, (version, (id, named)))

nothing_logged : (before : Files) (pair : CellKey × Cell) → ¬ HasSegmentFile before
    → IsLoggedCell before pair → ⊥
nothing_logged before pair none c =
    let s = c.logged.segment in
    was_no_segment before c.logged.name s.bytes 6 c.id none s.named s.there

pub restored_tables : (before : Files) (reads : List TableRead) (rows : List (CellKey × Cell))
    → ¬ HasSegmentFile before → AreTables before reads → IsMerge (cells_of_tables reads) rows
    → IsRestored before rows
restored_tables before reads rows none tables merge =
    of_same (Contains (cells_of_tables reads)) (Restores before) rows (λ pair. (
      λ h. inl (in_table_cell before reads pair tables h),
      λ r. elim r [
        | inl cell ↦ table_cell_in before reads pair tables cell
        | inr cell ↦ absurd (nothing_logged before pair none cell)
      ],
    )) merge

-- files restore to one list of rows
pub one_restored : (files : Files) (rows others : List (CellKey × Cell)) → IsRestored files rows
    → IsRestored files others → rows ≡ others
one_restored files rows others one other = unique_of (Restores files) rows others one other

pub undamaged_tables : (before : Files) (reads : List TableRead) → ¬ HasSegmentFile before
    → AreTables before reads → IsUndamaged before
undamaged_tables before reads none tables = record {
  tables = tables_are_good before reads tables;
  segments = λ name version id named there.
      absurd (none (name, there, (version, (id, named))));
}
