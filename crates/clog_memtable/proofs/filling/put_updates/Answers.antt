use Rattle.std.proofs.Common.{◌++◌, ◌∷◌, [], List, sym, ap, ◌∙◌, append_assoc}
use Rattle.clog_cells.proofs.Batched.{adds_none}
use Rattle.clog_mutation.specs.declared.mutation.Update.{Update}
use Rattle.clog_memtable.proofs.Parts.{one_update}
use Rattle.clog_memtable.proofs.filling.put_updates.Goals as goal

pub loop-update-init : goal.loop-update-init
loop-update-init c = record {
  put = adds_none c.args.cells.now;
  parts = search;
  count = search;
}

pub loop-update-preserved : goal.loop-update-preserved
loop-update-preserved c = record {
  put = one_update c.args.table c.args.key.now c.args.cells.now c.loop-update.cells
      c.put_copied.new.cells c.loop-update.yielded c.in-Some.update
      c.loop-update.invariant.put c.in_ok-put_copied.ensures;
  parts = c.loop-update.invariant.parts
      ∙ ap (λ (l : List Update). c.loop-update.yielded ++ l) c.in-Some.ensures.steps.0
      ∙ sym (append_assoc c.loop-update.yielded (c.in-Some.update ∷ []) c.next.new.self.rest.items);
  count = search;
}
