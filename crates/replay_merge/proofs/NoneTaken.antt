-- What was merged of no entries.
use Rattle.std.proofs.Common.{◌≡◌, List, [], refl, sym, subst}
use Rattle.std.specs.List.Sorted.{IsStrictlySortedBy}
use Rattle.clog_base.specs.declared.cell.Cell.{Cell}
use Rattle.clog_base.specs.declared.cell.CellKey.{CellKey}
use Rattle.clog_cells.specs.Merge.{IsMerge}
use Rattle.clog_cells.proofs.Merging.{of_itself}
use Rattle.clog_folder.specs.declared.tables.TableHeld.{TableHeld}
use Rattle.replay_merge.specs.declared.merged.Merged.{Merged}
use Rattle.replay_merge.specs.Merged.{IsMergedOf}
use Rattle.replay_merge.specs.Taking.{IsTakenOf}

no_cells : IsMerge [] []
unfolding IsStrictlySortedBy
no_cells = of_itself [] tt

none_merged : (tables : List TableHeld) (m : Merged) → m.cells ≡ [] → m.updates ≡ 0
    → m.skipped ≡ 0 → IsMergedOf tables [] m
none_merged tables m cells updates skipped = record {
  kept = [];
  picks_kept = refl;
  cells = subst (λ (l : List (CellKey × Cell)). IsMerge [] l) (sym cells) no_cells;
  updates = updates;
  gone = [];
  picks_gone = refl;
  skipped = skipped;
}

pub none_taken : (tables : List TableHeld) (m : Merged) → m.cells ≡ [] → m.updates ≡ 0
    → m.skipped ≡ 0 → IsTakenOf tables [] m
none_taken tables m cells updates skipped = record {
  log = [];
  say = refl;
  taken = none_merged tables m cells updates skipped;
}
