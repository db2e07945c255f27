use Rattle.std.proofs.Common.{◌≡◌, ◌∙◌, ℕ, List, ◌∷◌, ◌++◌, ap, sym, subst, append_assoc}
use Rattle.std.specs.List.{AllByRecursion}
use Rattle.clog_base.specs.declared.cell.Cell.{Cell}
use Rattle.clog_base.specs.declared.cell.CellKey.{CellKey}
use Rattle.clog_table.specs.Format.{cell_bytes, cells_bytes}
use Rattle.clog_table.specs.Limits.{IsWithinLimits, IsStoredCell}
use Rattle.clog_table.proofs.writing.put_cells.Goals as goal

pub loop-key-preserved : goal.loop-key-preserved
loop-key-preserved c =
    let out = c.loop-key.out.items in
    let pair : CellKey × Cell = (c.in-Some.key.now, c.in-Some.cell.now) in
    let left : c.loop-key.key-iterator ≡ pair ∷ c.next.new.self = c.in-Some.ensures.steps in
    let limits : AllByRecursion (IsWithinLimits c.args.table) (pair ∷ c.next.new.self) =
    subst (AllByRecursion (IsWithinLimits c.args.table)) left c.loop-key.invariant.limits in
    record {
      bytes = ap (λ (l : List ℕ). l ++ cells_bytes c.next.new.self) c.in_ok-put_cell.ensures.bytes
          ∙ append_assoc out (cell_bytes pair) (cells_bytes c.next.new.self)
          ∙ ap (λ (l : List (CellKey × Cell)). out ++ cells_bytes l) (sym left)
          ∙ c.loop-key.invariant.bytes;
      limits = limits.1;
      stored = λ rest. c.loop-key.invariant.stored
          (subst (AllByRecursion (IsStoredCell c.args.table)) (sym left)
          (c.in_ok-put_cell.ensures.stored c.args.table limits.0, rest));
    }
