use Rattle.std.proofs.Common.{◌≡◌, ◌∷◌, ◌++◌, [], List, map, sym, ◌∙◌, subst}
use Rattle.clog_base.proofs.Follows.{on_ok}
use Rattle.clog_cells.specs.Batches.{Adds}
use Rattle.clog_cells.specs.Merge.{part_on}
use Rattle.clog_mutation.specs.declared.mutation.Update.{Update}
use Rattle.clog_mutation.specs.Payload.{pair_of}
use Rattle.clog_memtable.proofs.Parts.{one_update}
use Rattle.clog_memtable.proofs.filling.put_mutation.Goals as goal

pub returns : goal.returns
returns c = let m = c.args.mutation in let front = c.pop.new.self.items in
    let all : m.updates ≡ front ++ c.in-Some.last ∷ [] =
    sym c.into_vec-updates.ensures ∙ c.in-Some.ensures.items in
    let old = c.args.cells.now in let new = c.put_last.new.cells in
    on_ok c.put_last.result _ _ c.put_last.ensures (λ step. subst (λ (us : List Update).
    Adds (part_on c.args.table (map (pair_of m.key) us)) old new) (sym all)
    (one_update c.args.table m.key old c.put_updates.new.cells new front c.in-Some.last
    c.in_ok-put_updates.ensures step))
