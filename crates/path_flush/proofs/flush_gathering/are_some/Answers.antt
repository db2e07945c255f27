use Rattle.std.proofs.Common.{not, Bool, sym, ap, ◌∙◌, subst}
use Rattle.path_flush.specs.FlushGathers.{AreSome}
use Rattle.path_flush.proofs.FilingGathers.{some_by_length}
use Rattle.path_flush.proofs.flush_gathering.are_some.Goals as goal

pub returns : goal.returns
returns c = subst (λ (b : Bool). AreSome (not b) c.args.notes.now) (sym c.is_empty.ensures)
    (some_by_length c.args.notes.now)
