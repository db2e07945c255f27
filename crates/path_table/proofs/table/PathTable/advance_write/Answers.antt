use Rattle.std.proofs.Common.{refl, sym, ap, ◌∙◌, subst, arith}
use Rattle.op_core.specs.declared.count.Order.TheVariants.{Write}
use Rattle.path_core.specs.declared.seat.Issue.TheVariants.{Rest}
use Rattle.path_core.specs.Parts.{marker_of, stage_of}
use Rattle.path_rule.specs.declared.view.View.{View}
use Rattle.path_rule.specs.Calls.{Holds}
use Rattle.path_rule.specs.Turns.{FoundRunning, TurnSaw}
use Rattle.path_rule.proofs.moves.WriteBarriers.{advances_at}
use Rattle.path_rule.proofs.seats.HolderIssues as know
use Rattle.path_rule.specs.Lasts.{beside_of, shows_of}
use Rattle.path_rule.specs.Issued.{issued_in}
use Rattle.path_table.specs.LastEnds.{last_end_in}
use Rattle.path_table.proofs.table.PathTable.advance_write.Goals as goal

pub store-requires : goal.store-requires
store-requires g c = let t = c.args.self.now in let m = c.args.member.now in
    let k = t.table.shared.key.size in
    let o = beside_of (g.K.Keeper.holds t.table.shared.key.first.value) in let wide = t.wide in (
      c.requires.table.0,
      omega arith,
      advances_at (shows_of g.K.Keeper.holds) o k t.table.shared.table_id.slots
          m.seat.id m.seat.me m.number m.role c.args.group c.args.oldest c.args.current
          c.requires.turn.1
          c.requires.turn.2 c.requires.turn.3 c.requires.group.0 c.requires.group.1
          c.requires.turn.0.empty,
    )

pub invariant_of-member : goal.invariant_of-member
invariant_of-member g c = let m = c.args.member.now in let q = c.store.ensures.2 m.number m.role in
    let d = q in record {
      role = ap (λ (v : View). v.role) d.0.0 ∙ m.role;
      counted = m.counted ∙ sym (ap (λ (v : View). issued_in v.trail) d.0.0);
      ended = m.ended ∙ sym (ap (λ (v : View). last_end_in v.trail) d.0.0);
    }

pub returns-clause-same : goal.returns-clause-same
returns-clause-same g c = let m = c.args.member.now in let q = c.store.ensures.2 m.number m.role in
    let d = q in (c.store.ensures.0, refl, d.1, ap (λ (v : View). v.size) d.0.0)

pub returns-clause-step : goal.returns-clause-step
returns-clause-step g c = let m = c.args.member.now in let q = c.store.ensures.2 m.number m.role in
    let d = q in record { view = d.0.0; was = d.0.1 }

pub returns-clause-turn : goal.returns-clause-turn
returns-clause-turn g c = let m = c.args.member.now in let v = m.seat.me.0 in
    let q = c.store.ensures.2 m.number m.role in let d = q in let e = sym d.0.0 in (
      subst (Holds Rest) e (know.advanced_held v m.number c.args.group Write c.args.group Rest
          c.requires.turn.0),
      (λ k s. subst (λ (z : View). TurnSaw Write z.part k) e
          (know.advanced_saw v m.number c.args.group Write c.args.group k s)),
    )

pub returns-clause-hands : goal.returns-clause-hands
returns-clause-hands g c = let m = c.args.member.now in let q = c.store.ensures.2 m.number m.role in
    ap (λ (v : View). v.hands) q.0.0

pub returns-clause-stages : goal.returns-clause-stages
returns-clause-stages g c = let m = c.args.member.now in let q = c.store.ensures.2 m.number m.role
    in
    let d = q in
    λ t. ap (λ (v : View). stage_of v.part t) d.0.0

pub returns-clause-marker : goal.returns-clause-marker
returns-clause-marker g c = let m = c.args.member.now in
    let q = c.store.ensures.2 m.number m.role in
    ap (λ (v : View). marker_of v.part) q.0.0
    ∙ know.advanced_marker m.seat.me.0 m.number c.args.group Write c.args.group

pub returns-clause-runs : goal.returns-clause-runs
returns-clause-runs g c = let m = c.args.member.now in
    let q = c.store.ensures.2 m.number m.role in
    λ runs. subst (λ (z : View). FoundRunning z.part) (sym q.0.0)
    (know.advanced_runs m.seat.me.0 m.number c.args.group Write c.args.group runs)
