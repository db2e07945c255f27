use Rattle.std.proofs.Common.{is_some, refl, ap, sym, ◌∙◌}
use Rattle.path_core.specs.declared.seat.Seat.{Seat}
use Rattle.path_machine.proofs.steps.Asked.{files_by}
use Rattle.path_machine.proofs.cursor_allowed.may_file.Goals as goal

pub returns-in-Final : goal.returns-in-Final
returns-in-Final c =
    files_by c.args.state.now c.args.by c.args.table.0 c.args.memtable c.in-Final.key
    c.is_below_after.result
    (ap (λ (s : Seat). is_some s.sync) (sym c.requires.seat) ∙ c.if-is_none.ensures)
    (c.if-not-runs.ensures.0 refl) (sym c.oldest_bound.ensures ∙ c.in-Final.is)
    c.is_below_after.ensures
