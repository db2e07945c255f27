use Rattle.std.proofs.Common.{sym, refl, ap, ◌∙◌, arith}
use Rattle.path_rule.specs.declared.view.View.{View}
use Rattle.path_rule.proofs.moves.WriteSteps.{stops}
use Rattle.path_rule.specs.Lasts.{beside_of, shows_of}
use Rattle.path_rule.specs.Issued.{issued_in}
use Rattle.path_table.specs.LastEnds.{last_end_in}
use Rattle.path_table.proofs.table.PathTable.leave.Goals as goal

pub fetch_sub-requires : goal.fetch_sub-requires
fetch_sub-requires g c = let t = c.args.self.now in let m = c.args.member.now in
    let k = t.table.shared.key.size in
    let o = beside_of (g.K.Keeper.holds t.table.shared.key.first.value) in let wide = t.wide in let
    f = c.requires.group.0 in (
      c.requires.table.0,
      omega arith,
      stops (shows_of g.K.Keeper.holds) o k t.table.shared.table_id.slots
          m.seat.id m.seat.me m.number m.role c.args.group c.requires.group.1 c.requires.unclaimed.0
          c.requires.unclaimed.1,
    )

pub invariant_of-member : goal.invariant_of-member
invariant_of-member g c = let m = c.args.member.now in
    let d = c.fetch_sub.ensures.2 m.number c.args.group m.role c.requires.group.1 in
    record {
      role = ap (λ (v : View). v.role) d.0.0 ∙ m.role;
      counted = m.counted ∙ sym (ap (λ (v : View). issued_in v.trail) d.0.0);
      ended = m.ended ∙ sym (ap (λ (v : View). last_end_in v.trail) d.0.0);
    }

pub returns-clause-same : goal.returns-clause-same
returns-clause-same g c = let m = c.args.member.now in
    let d = c.fetch_sub.ensures.2 m.number c.args.group m.role c.requires.group.1 in
    (c.fetch_sub.ensures.0, refl, d.1)

pub returns-clause-step : goal.returns-clause-step
returns-clause-step g c = let m = c.args.member.now in
    let d = c.fetch_sub.ensures.2 m.number c.args.group m.role c.requires.group.1 in
    record { view = d.0.0; was = d.0.1 }
