use Rattle.std.proofs.Common.{[], List, Bool, if◌then◌else◌, sym, ap, ◌∙◌, subst}
use Rattle.std.specs.Prelude.{OnOk}
use Rattle.clog_base.specs.declared.cell.Cell.{Cell}
use Rattle.clog_base.specs.declared.cell.CellKey.{CellKey}
use Rattle.clog_cells.specs.Batches.{Adds}
use Rattle.clog_cells.specs.Merge.{part_on}
use Rattle.clog_cells.proofs.Batched.{adds_none}
use Rattle.clog_mutation.specs.Payload.{cells_of}
use Rattle.clog_memtable.proofs.memtable.put_within.Goals as goal

pub returns-then-is_within : goal.returns-then-is_within
returns-then-is_within c whole = let part = part_on c.args.interval.table
    (cells_of whole.mutation) in
    subst (λ (l : List (CellKey × Cell)).
    OnOk c.put_note.result (Adds l c.args.cells.now c.put_note.new.cells))
    (sym (ap (λ (b : Bool). if b then part else [])
    (sym c.is_within.ensures ∙ c.if-is_within.true)))
    (c.put_note.ensures whole)

pub returns : goal.returns
returns c whole = let part = part_on c.args.interval.table (cells_of whole.mutation) in
    subst (λ (l : List (CellKey × Cell)). Adds l c.args.cells.now c.args.cells.now)
    (sym (ap (λ (b : Bool). if b then part else [])
    (sym c.is_within.ensures ∙ c.if-is_within.false)))
    (adds_none c.args.cells.now)
