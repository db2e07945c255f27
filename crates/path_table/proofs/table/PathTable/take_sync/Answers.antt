use Rattle.std.proofs.Common.{sym, ap, ◌∙◌, arith}
use mathlib.Core.Logic.{dite}
use native.Mathlib.Decide.{ℕ_discrete}
use Rattle.path_rule.specs.declared.view.PathSize.{PathSize}
use Rattle.path_rule.specs.declared.view.View.{View}
use Rattle.path_rule.proofs.moves.TurnSteps.{takes_sync}
use Rattle.path_rule.specs.Lasts.{beside_of, shows_of}
use Rattle.path_rule.specs.Issued.{issued_in}
use Rattle.path_table.specs.LastEnds.{last_end_in}
use Rattle.path_table.proofs.table.PathTable.take_sync.Goals as goal

pub compare_exchange-requires : goal.compare_exchange-requires
compare_exchange-requires g c = let t = c.args.self.now in let m = c.args.member.now in
    let k = t.table.shared.key.size in
    let o = beside_of (g.K.Keeper.holds t.table.shared.key.first.value) in let wide = t.wide in (
      c.requires.table.0,
      omega arith,
      takes_sync (shows_of g.K.Keeper.holds) o k t.table.shared.table_id.slots
          m.seat.id m.seat.me m.number m.role c.requires.idle.0 c.requires.idle.1,
    )

pub invariant_of-member : goal.invariant_of-member
invariant_of-member g c = let m = c.args.member.now in
    let e = c.compare_exchange.ensures.2 m.number m.role in
    dite (ℕ_discrete c.compare_exchange.result 0)
    (λ hit. let d = e.1 hit in record {
      role = ap (λ (v : View). v.role) d.0.3.0 ∙ m.role;
      counted = m.counted ∙ sym (ap (λ (v : View). issued_in v.trail) d.0.3.0);
      ended = m.ended ∙ sym (ap (λ (v : View). last_end_in v.trail) d.0.3.0);
    })
    (λ miss. let d = e.2 miss in record {
      role = ap (λ (v : View). v.role) d.0.0.0 ∙ m.role;
      counted = m.counted ∙ sym (ap (λ (v : View). issued_in v.trail) d.0.0.0);
      ended = m.ended ∙ sym (ap (λ (v : View). last_end_in v.trail) d.0.0.0);
    })

pub returns-clause-hit : goal.returns-clause-hit
returns-clause-hit g c = let m = c.args.member.now in
    λ hit. let e = c.compare_exchange.ensures.2 m.number m.role in let d = e.1 hit in (
      (
        d.0.0,
        d.0.1,
        d.0.2,
        record { view = d.0.3.0; was = d.0.3.1 },
        d.0.4 ∙ ap (λ (z : PathSize). z.at_open) c.requires.table.1,
      ),
      d.1,
    )

pub returns-clause-miss : goal.returns-clause-miss
returns-clause-miss g c = let m = c.args.member.now in
    λ miss. let e = c.compare_exchange.ensures.2 m.number m.role in let d = e.2 miss in
    (record { view = d.0.0.0; was = d.0.0.1 }, d.0.1, d.1)

pub returns-clause-empty : goal.returns-clause-empty
returns-clause-empty g c = let m = c.args.member.now in
    let e = c.compare_exchange.ensures.2 m.number m.role in
    dite (ℕ_discrete c.compare_exchange.result 0)
    (λ hit. ap (λ (v : View). v.hands.box_taken) (e.1 hit).0.3.0 ∙ e.0)
    (λ miss. ap (λ (v : View). v.hands.box_taken) (e.2 miss).0.0.0 ∙ e.0)
