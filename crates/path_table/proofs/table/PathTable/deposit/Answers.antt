use Rattle.std.proofs.Common.{max, sym, List, refl, ap, ◌∙◌, subst, arith}
use Rattle.std.specs.List.{Contains}
use Rattle.atomic_table.specs.Table.{rest}
use Rattle.path_core.specs.declared.state.Placed.{Placed}
use Rattle.path_core.specs.Parts.{seat_table}
use Rattle.path_rule.specs.declared.view.View.{View}
use Rattle.path_rule.specs.Lasts.{beside_of, shows_of}
use Rattle.path_rule.proofs.moves.DepositSteps.{deposits}
use Rattle.path_rule.proofs.seats.Accepting.{untried}
use Rattle.path_rule.specs.Issued.{issued_in}
use Rattle.path_table.specs.LastEnds.{last_end_in}
use Rattle.path_table.proofs.table.PathTable.deposit.Goals as goal

pub fetch_sub-requires : goal.fetch_sub-requires
fetch_sub-requires g c = let t = c.args.self.now in let m = c.args.member.now in
    let k = t.table.shared.key.size in
    let o = beside_of (g.K.Keeper.holds t.table.shared.key.first.value) in let wide = t.wide in let
    f = c.requires.group.0 in
    let n = c.requires.note in (
      c.requires.table.0,
      omega arith,
      deposits (shows_of g.K.Keeper.holds) o k t.table.shared.table_id.slots
          m.seat.id m.seat.me m.number m.role c.args.group n.0
          (rest m.seat.me.1) c.requires.group.1 n.1 n.2 n.3 n.4 n.5,
    )

pub invariant_of-member : goal.invariant_of-member
invariant_of-member g c = let m = c.args.member.now in let n = c.requires.note in
    let d = c.fetch_sub.ensures.2 m.number c.args.group n.0 m.role c.requires.group.1 n.5
    in record {
      role = ap (λ (v : View). v.role) d.0.0 ∙ m.role;
      counted = m.counted ∙ sym (ap (λ (v : View). issued_in v.trail) d.0.0);
      ended = c.max-member.ensures ∙ ((λ i. max (sym n.6 i) (m.ended i))
          ∙ sym (ap (λ (v : View). last_end_in v.trail) d.0.0));
    }

pub returns-clause-same : goal.returns-clause-same
returns-clause-same g c = let m = c.args.member.now in let n = c.requires.note in
    let d = c.fetch_sub.ensures.2 m.number c.args.group n.0 m.role c.requires.group.1 n.5
    in (c.fetch_sub.ensures.0, refl, d.1)

pub returns-clause-step : goal.returns-clause-step
returns-clause-step g c = let m = c.args.member.now in
    λ note has. let d = c.fetch_sub.ensures.2 m.number c.args.group note m.role c.requires.group.1
    has in record { view = d.0.0; was = d.0.1 }

pub returns-clause-untried : goal.returns-clause-untried
returns-clause-untried g c = let m = c.args.member.now in let n = c.requires.note in
    let d = c.fetch_sub.ensures.2 m.number c.args.group n.0 m.role c.requires.group.1 n.5 in
    λ t. ap (λ (v : View). (seat_table v.part t).trying) d.0.0
    ∙ untried m.seat.me.0 m.number c.args.group n.0 d.0.1 t

pub returns-clause-rests : goal.returns-clause-rests
returns-clause-rests g c = let m = c.args.member.now in let n = c.requires.note in
    let d = c.fetch_sub.ensures.2 m.number c.args.group n.0 m.role c.requires.group.1 n.5
    in ap (λ (v : View). v.hands.memtable_box) d.0.0 ∙ d.2

pub returns-clause-unapplied : goal.returns-clause-unapplied
returns-clause-unapplied g c = let m = c.args.member.now in
    λ note has a put. let d = c.fetch_sub.ensures.2 m.number c.args.group note m.role
    c.requires.group.1 has in
    d.3 a (subst (λ (l : List Placed). Contains l a) (ap (λ (v : View). v.hands.applied) d.0.0) put)
