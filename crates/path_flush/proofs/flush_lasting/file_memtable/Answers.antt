use Rattle.std.proofs.Common.{◌<◌, ◌∙◌, subst}
use Rattle.path_rule.specs.Lasts.{shows_of}
use Rattle.path_flush.proofs.FilingGoes.{of_read, retired_before}
use Rattle.path_flush.proofs.FilingTurns.{both_reads}
use Rattle.path_flush.proofs.flush_lasting.file_memtable.Goals as goal

pub end_reading-requires-clause-there : goal.end_reading-requires-clause-there
end_reading-requires-clause-there g c = subst (λ z. c.args.table.0 < z.tables) c.requires.table.1
    c.requires.holds.turns.holder.there

pub returns-clause-holds : goal.returns-clause-holds
returns-clause-holds g c = let F = c.file_cells-member in let E = c.end_reading in
    both_reads (shows_of g.K.Keeper.holds) F.result.0.seat.me E.result.seat.me F.result.0.number
    c.args.table.0 E.ensures.steps E.ensures.same.1 F.ensures.holds

pub returns-clause-retired : goal.returns-clause-retired
returns-clause-retired g c = let F = c.file_cells-member in let E = c.end_reading in
    let z = F.result.0.number in let t = c.args.table.0 in
    let u = F.result.0.seat.me.0 in let after = E.result.seat.me.0 in
    retired_before c.args.member.number z t c.args.memtable c.args.member.seat.me.0 u after
    F.result.1 F.ensures.same.1 F.ensures.retired (of_read z t u after E.ensures.steps)

pub returns-clause-same : goal.returns-clause-same
returns-clause-same g c = let F = c.file_cells-member.ensures in let E = c.end_reading.ensures in
    (E.same.0.0, E.same.0.1 ∙ F.same.1)
