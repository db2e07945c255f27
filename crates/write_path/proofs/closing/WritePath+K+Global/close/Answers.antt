use Rattle.std.proofs.Common.{ℕ, sym, ap, ◌∙◌, subst}
use Rattle.path_rule.specs.declared.lasting.Lasting.{Lasting}
use Rattle.path_rule.specs.Lasts.{beside_of}
use Rattle.path_table.specs.declared.bounds.TableBounds.{TableBounds}
use Rattle.path_table.specs.ClosedBounds.{TellsBounds}
use Rattle.write_path.specs.Closed.{AreAll, IsOutcome, StaysBeside}
use Rattle.write_path.specs.Opened.{numbers_of}
use Rattle.write_path.proofs.BesideStays.{plain_beside}
use Rattle.write_path.proofs.Outcomes.{outcome, unused_outcome}
use Rattle.write_path.proofs.closing.WritePath+K+Global.close.Goals.{in-Some, in-None}
use Rattle.write_path.proofs.closing.WritePath+K+Global.close.Goals as goal

pub returns-clause-outcome : goal.returns-clause-outcome
returns-clause-outcome g c = let size = c.args.self.table.size in
    let seats = c.args.seats.items in
    let o = beside_of (g.K.Keeper.holds c.args.self.table.table.shared.key.first.value) in
    let P : g.row.K.Denot × ℕ × TableBounds → Type 0 =
    λ r. (o : IsOutcome size seats r.1 (g.K.Keeper.holds r.0)) × TellsBounds o.core r.2 in
    elim c.match-opener.branch [
      | in-Some w ↦ subst P (sym w.keeper-is) (unused_outcome size o seats w.finish_unused.result.1
          (g.K.Keeper.holds w.finish_unused.result.0) c.args.self.table.fits
          (subst (λ o. AreAll o size.seats (numbers_of seats)) w.in-Some.is c.requires.all)
          w.finish_unused.ensures.ended w.finish_unused.result.2 w.finish_unused.ensures.bounds)
      | in-None w ↦ subst P (sym w.keeper-is) (outcome size o seats w.close_by_all.result.1
          (g.K.Keeper.holds w.close_by_all.result.0) w.close_by_all.ensures.0
          (subst (λ o. AreAll o size.seats (numbers_of seats)) w.in-None.is c.requires.all)
          w.close_by_all.result.2 w.close_by_all.ensures.1)
    ]

pub returns-clause-beside : goal.returns-clause-beside
returns-clause-beside g c = let size = c.args.self.table.size in
    let first = g.K.Keeper.holds c.args.self.table.table.shared.key.first.value in
    let P : g.row.K.Denot × ℕ × TableBounds → Type 0 =
    λ r. StaysBeside size first (g.K.Keeper.holds r.0) in
    elim c.match-opener.branch [
      | in-Some w ↦ subst P (sym w.keeper-is)
          (plain_beside size first (g.K.Keeper.holds w.finish_unused.result.0)
          (ap (λ (l : Lasting). l.beside) w.finish_unused.ensures.ended.1)
          (λ plain. ap (λ (l : Lasting). l.filed) w.finish_unused.ensures.ended.1))
      | in-None w ↦ subst P (sym w.keeper-is)
          (plain_beside size first (g.K.Keeper.holds w.close_by_all.result.0)
          (ap (λ (l : Lasting). l.beside) w.close_by_all.ensures.0.ended.lasting_is)
          (λ plain. ap (λ (l : Lasting). l.filed) w.close_by_all.ensures.0.ended.lasting_is
          ∙ (w.close_by_all.ensures.0.ended.filing.plain plain).1))
    ]
