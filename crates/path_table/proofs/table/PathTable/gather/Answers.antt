use Rattle.std.proofs.Common.{sym, ◌≡◌, ap, ◌∙◌, arith}
use mathlib.Core.Logic.{dite}
use native.Mathlib.Decide.{ℕ_discrete}
use Rattle.path_rule.specs.declared.view.PathSize.{PathSize}
use Rattle.path_rule.specs.declared.view.View.{View}
use Rattle.path_rule.proofs.moves.GatherSteps.{gathers}
use Rattle.path_rule.specs.Lasts.{beside_of, shows_of}
use Rattle.path_rule.specs.Issued.{issued_in}
use Rattle.path_table.specs.LastEnds.{last_end_in}
use Rattle.path_table.proofs.table.PathTable.gather.Goals as goal

pub load-requires : goal.load-requires
load-requires g c = let t = c.args.self.now in let m = c.args.member.now in
    let k = t.table.shared.key.size in
    let o = beside_of (g.K.Keeper.holds t.table.shared.key.first.value) in let wide = t.wide in
    let same : k.seats ≡ t.size.seats = ap (λ (z : PathSize). z.seats) t.keyed in
    let more = c.requires.more in (
      c.requires.table.0,
      omega arith,
      gathers (shows_of g.K.Keeper.holds) o k
          t.table.shared.table_id.slots m.seat.id m.seat.me m.number m.role c.args.current
          c.requires.turn.0 c.requires.turn.1 c.requires.turn.2 (omega arith),
    )

pub invariant_of-member : goal.invariant_of-member
invariant_of-member g c = let m = c.args.member.now in
    let e = c.load.ensures.2 m.number c.args.current m.role c.requires.turn.0 in
    dite (ℕ_discrete c.load.result c.args.current)
    (λ hit. let d = e.0 hit in record {
      role = ap (λ (v : View). v.role) d.0.1.0 ∙ m.role;
      counted = m.counted ∙ sym (ap (λ (v : View). issued_in v.trail) d.0.1.0);
      ended = m.ended ∙ sym (ap (λ (v : View). last_end_in v.trail) d.0.1.0);
    })
    (λ miss. let d = e.1 miss in record {
      role = ap (λ (v : View). v.role) d.0.0 ∙ m.role;
      counted = m.counted ∙ sym (ap (λ (v : View). issued_in v.trail) d.0.0);
      ended = m.ended ∙ sym (ap (λ (v : View). last_end_in v.trail) d.0.0);
    })

pub returns-clause-hit : goal.returns-clause-hit
returns-clause-hit g c = let m = c.args.member.now in
    λ hit. let e = c.load.ensures.2 m.number c.args.current m.role c.requires.turn.0 in
    let d = e.0 hit in ((d.0.0, record { view = d.0.1.0; was = d.0.1.1 }), d.1)

pub returns-clause-miss : goal.returns-clause-miss
returns-clause-miss g c = let m = c.args.member.now in
    λ miss. let e = c.load.ensures.2 m.number c.args.current m.role c.requires.turn.0 in
    let d = e.1 miss in (record { view = d.0.0; was = d.0.1 }, d.1)
