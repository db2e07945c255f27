use Rattle.std.proofs.Common.{◌≡◌, length, false, ap, sym, ◌∙◌}
use Rattle.std.proofs.lemmas.Bool.{ltb-false}
use Rattle.std.proofs.Math.Dec.{ltb}
use Rattle.std.specs.Option.{is_some}
use Rattle.clog_base.proofs.PositionOrder.{is_below-true, is_below-false}
use Rattle.clog_intervals.proofs.Unions.{
  first_from,
  has_found,
  none_below_found,
  none_if_all_end,
}
use Rattle.clog_intervals.proofs.cleans.holder.Goals as goal

pub returns-in-Some : goal.returns-in-Some
returns-in-Some c =
    let found = c.in-Some.interval.now in
    let first = first_from c.args.intervals.now c.ended_below.result found c.args.at
    c.in-Some.ensures.lookup.3.0 (c.in-Some.ensures.lookup.3.1 found) c.requires
    c.ended_below.ensures.below c.ended_below.ensures.others in
    has_found _ _ _ _ _ first
    (is_below-true found.lower c.args.at (sym c.begins_below.ensures ∙ c.if-begins_below.true))

pub returns-in_default : goal.returns-in_default
returns-in_default c =
    let found = c.in-Some.interval.now in
    let first = first_from c.args.intervals.now c.ended_below.result found c.args.at
    c.in-Some.ensures.lookup.3.0 (c.in-Some.ensures.lookup.3.1 found) c.requires
    c.ended_below.ensures.below c.ended_below.ensures.others in
    none_below_found _ _ _ _ _ first
    (is_below-false found.lower c.args.at (sym c.begins_below.ensures ∙ c.if-begins_below.false))

pub returns-in_default-2 : goal.returns-in_default-2
returns-in_default-2 c =
    let none : ltb c.ended_below.result (length c.args.intervals.now) ≡ false =
    sym c.get.ensures.lookup.0 ∙ ap is_some c.in_default.is in
    none_if_all_end c.args.intervals.now c.ended_below.result c.args.at (ltb-false _ _ none)
    c.ended_below.ensures.below
