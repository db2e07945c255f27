use Rattle.std.proofs.Common.{◌++◌, ap, ◌∙◌, arith, length-set}
use Rattle.path_rule.specs.declared.slot.Slot.TheVariants.{Turn}
use Rattle.path_rule.specs.Lasts.{beside_of, shows_of}
use Rattle.path_rule.proofs.seats.Begins.{first_set, set_front, new_lasting}
use Rattle.path_table.proofs.opening.first_boxes.Goals as goal

pub returns-clause-boxes : goal.returns-clause-boxes
returns-clause-boxes g c = let size = c.args.size.now in let xs = c.in-Ok.boxes.items in
    let d = c.first_desk.result in let e = c.first_desk.ensures in (
      length-set xs 0 (Turn d) ∙ c.in-Ok.ensures.0,
      first_set (shows_of g.K.Keeper.holds) (beside_of (g.K.Keeper.holds c.args.keeper)) size xs d
          c.in-Ok.ensures.1 (
            ap (shows_of g.K.Keeper.holds) e.0
                ∙ new_lasting size (g.K.Keeper.holds c.args.keeper) c.requires.keeper,
            (λ i. e.1 i ++ e.2 i),
            e.3,
            (λ t few. e.4 t),
          ),
    )

pub returns-clause-front : goal.returns-clause-front
returns-clause-front g c = let xs = c.in-Ok.boxes.items in let d = c.first_desk.result in record {
  desk = d;
  lies = c.first_desk.ensures.0;
  front = set_front xs (Turn d) (let l = c.in-Ok.ensures.0 in omega arith);
}
