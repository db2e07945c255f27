use Rattle.std.proofs.Common.{refl, sym, ap, ◌∙◌, subst, arith}
use Rattle.op_core.specs.declared.count.Order.TheVariants.{Write}
use Rattle.path_core.specs.declared.seat.Issue.TheVariants.{Rest}
use Rattle.path_core.specs.Parts.{stage_of}
use Rattle.path_rule.specs.declared.view.View.{View}
use Rattle.path_rule.specs.Calls.{Holds}
use Rattle.path_rule.specs.Turns.{TurnSaw}
use Rattle.path_rule.proofs.moves.WriteBarriers.{expires_write}
use Rattle.path_rule.proofs.seats.HolderIssues as know
use Rattle.path_rule.specs.Lasts.{beside_of, shows_of}
use Rattle.path_rule.specs.Issued.{issued_in}
use Rattle.path_table.specs.LastEnds.{last_end_in}
use Rattle.path_table.proofs.table.PathTable.expire_write.Goals as goal

pub fetch_add-requires : goal.fetch_add-requires
fetch_add-requires g c = let t = c.args.self.now in let m = c.args.member.now in
    let k = t.table.shared.key.size in
    let o = beside_of (g.K.Keeper.holds t.table.shared.key.first.value) in let wide = t.wide in (
      c.requires.table.0,
      let f = c.requires.turn.3 in
          omega arith,
      expires_write (shows_of g.K.Keeper.holds) o k t.table.shared.table_id.slots m.seat.id
          m.seat.me
          m.number m.role c.args.group c.args.current c.requires.turn.0.issue c.requires.turn.1
          c.requires.turn.2 c.requires.turn.0.empty,
    )

pub invariant_of-member : goal.invariant_of-member
invariant_of-member g c = let m = c.args.member.now in
    let q = c.fetch_add.ensures.2 m.number c.args.group c.args.current m.role c.requires.turn.1
    c.requires.turn.2 in
    let d = q in record {
      role = ap (λ (v : View). v.role) d.0.0 ∙ m.role;
      counted = m.counted ∙ sym (ap (λ (v : View). issued_in v.trail) d.0.0);
      ended = m.ended ∙ sym (ap (λ (v : View). last_end_in v.trail) d.0.0);
    }

pub returns-clause-same : goal.returns-clause-same
returns-clause-same g c = let m = c.args.member.now in
    let q = c.fetch_add.ensures.2 m.number c.args.group c.args.current m.role c.requires.turn.1
    c.requires.turn.2 in
    let d = q in (c.fetch_add.ensures.0, refl, d.1, ap (λ (v : View). v.size) d.0.0)

pub returns-clause-step : goal.returns-clause-step
returns-clause-step g c = let m = c.args.member.now in
    let q = c.fetch_add.ensures.2 m.number c.args.group c.args.current m.role c.requires.turn.1
    c.requires.turn.2 in
    let d = q in record { view = d.0.0; was = d.0.1 }

pub returns-clause-turn : goal.returns-clause-turn
returns-clause-turn g c = let m = c.args.member.now in let v = m.seat.me.0 in
    let q = c.fetch_add.ensures.2 m.number c.args.group c.args.current m.role c.requires.turn.1
    c.requires.turn.2 in
    let d = q in let e = sym d.0.0 in (
      subst (Holds Rest) e
          (know.expired_held v m.number c.fetch_add.result Write c.args.group c.requires.turn.0),
      (λ k s. subst (λ (z : View). TurnSaw Write z.part k) e
          (know.expired_saw v m.number c.fetch_add.result Write c.args.group k s)),
    )

pub returns-clause-stages : goal.returns-clause-stages
returns-clause-stages g c = let m = c.args.member.now in
    let q = c.fetch_add.ensures.2 m.number c.args.group c.args.current m.role c.requires.turn.1
    c.requires.turn.2 in
    let d = q in
    λ t. ap (λ (v : View). stage_of v.part t) d.0.0
