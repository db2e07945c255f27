use Rattle.std.proofs.Common.{Some, refl, sym, ap, ◌∙◌, subst, arith}
use Rattle.path_core.specs.declared.seat.SyncTurn.{SyncTurn}
use Rattle.path_rule.specs.declared.view.View.{View}
use Rattle.path_rule.specs.Calls.{MayGive}
use Rattle.path_rule.specs.Lasts.{beside_of, shows_of, refused_lasting}
use Rattle.path_rule.proofs.moves.RefusedSyncs.{halts}
use Rattle.path_rule.proofs.seats.MayGives.{gives_still, carries_on}
use Rattle.path_rule.specs.Issued.{issued_in}
use Rattle.path_table.specs.LastEnds.{last_end_in}
use Rattle.path_table.proofs.table.PathTable.put_stopped.Goals as goal

pub store-requires : goal.store-requires
store-requires g c = let t = c.args.self.now in let m = c.args.member.now in
    let k = t.table.shared.key.size in
    let o = beside_of (g.K.Keeper.holds t.table.shared.key.first.value) in let wide = t.wide in let
    d = c.requires.desk in (
      c.requires.table.0,
      omega arith,
      halts (shows_of g.K.Keeper.holds) o k t.table.shared.table_id.slots
          m.seat.id m.seat.me m.number m.role c.args.upto c.requires.turn.0 c.requires.turn.1
          c.requires.turn.2 c.requires.marker d.0 d.1 d.2 d.3 c.args.value c.requires.value d.4,
    )

pub invariant_of-member : goal.invariant_of-member
invariant_of-member g c = let m = c.args.member.now in let d = c.store.ensures.2 m.number
    c.args.upto m.role
    c.requires.marker in
    record {
      role = ap (λ (v : View). v.role) d.0.4.0 ∙ m.role;
      counted = m.counted ∙ sym (ap (λ (v : View). issued_in v.trail) d.0.4.0);
      ended = m.ended ∙ sym (ap (λ (v : View). last_end_in v.trail) d.0.4.0);
    }

pub returns-clause-same : goal.returns-clause-same
returns-clause-same g c = let m = c.args.member.now in let d = c.store.ensures.2 m.number
    c.args.upto m.role
    c.requires.marker in
    (c.store.ensures.0, refl, d.1)

pub returns-clause-step : goal.returns-clause-step
returns-clause-step g c = let m = c.args.member.now in let d = c.store.ensures.2 m.number
    c.args.upto m.role
    c.requires.marker in
    (d.0.0, d.0.1, d.0.2, d.0.3, record { view = d.0.4.0; was = d.0.4.1 })

pub returns-clause-give : goal.returns-clause-give
returns-clause-give g c = let m = c.args.member.now in let d = c.store.ensures.2 m.number
    c.args.upto m.role
    c.requires.marker in
    λ may. subst MayGive (sym d.0.4.0) (gives_still (λ (t : SyncTurn).
    record t { stopped = Some c.args.value }) (λ t. refl) (λ t. refl) m.seat.me.0 _ refl refl may)

pub returns-clause-desk : goal.returns-clause-desk
returns-clause-desk g c = let m = c.args.member.now in let d = c.store.ensures.2 m.number
    c.args.upto m.role
    c.requires.marker in
    carries_on (shows_of g.K.Keeper.holds) m.seat.me c.store.new.seat.me
    (refused_lasting d.0.0 (Some c.args.value) m.seat.me.0.hands.lasting) d.0.1
    m.seat.me.0.hands.progress
    m.seat.me.0.hands (ap (λ (v : View). v.hands) d.0.4.0) d.1 d.0.5
