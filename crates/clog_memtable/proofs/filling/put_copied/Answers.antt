use Rattle.std.proofs.Common.{ℕ, List, [], ◌∷◌, ◌∙◌, subst}
use Rattle.clog_base.proofs.Follows.{on_ok}
use Rattle.clog_cells.specs.Batches.{Adds}
use Rattle.clog_cells.specs.Merge.{part_on}
use Rattle.clog_mutation.specs.Payload.{pair_of}
use Rattle.clog_memtable.proofs.Parts.{nothing_more, one_more}
use Rattle.clog_memtable.proofs.filling.put_copied.Goals as goal

pub returns-then-update-table : goal.returns-then-update-table
returns-then-update-table c = nothing_more c.args.table c.args.cells.now
    (pair_of c.args.key.now c.args.update) c.if-update-table.true

pub returns : goal.returns
returns c = let copy = c.in_ok-copy_of.field-0 in let old = c.args.cells.now in
    let new = c.put_under.new.cells in let u = c.args.update in
    on_ok c.put_under.result _ _ c.put_under.ensures (λ step. subst (λ (key : List ℕ).
    Adds (part_on c.args.table (pair_of key u ∷ [])) old new) (c.in_ok-copy_of.ensures
    ∙ c.as_str.ensures)
    (one_more c.args.table old new (pair_of copy u) c.if-update-table.false step))
