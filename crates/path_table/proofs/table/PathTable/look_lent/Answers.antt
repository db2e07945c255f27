use Rattle.std.proofs.Common.{Some, refl, sym, ap, ◌∙◌, subst, arith}
use Rattle.std.specs.Option.{option_map}
use Rattle.path_core.specs.declared.seat.SyncTurn.{SyncTurn}
use Rattle.path_rule.specs.declared.view.PathSize.{PathSize}
use Rattle.path_rule.specs.declared.view.View.{View}
use Rattle.path_rule.specs.Calls.{MayGive, IsSyncedTo}
use Rattle.path_rule.specs.Trails.{GoesOnBehind}
use Rattle.path_rule.specs.Turns.{TurnRuns}
use Rattle.path_rule.proofs.moves.LentLooks.{looks_lent}
use Rattle.path_rule.proofs.seats.CursorKnows.{synced_seen}
use Rattle.path_rule.specs.Lasts.{beside_of, shows_of}
use Rattle.path_rule.proofs.seats.MayGives.{gives_still}
use Rattle.path_rule.specs.Issued.{issued_in}
use Rattle.path_table.specs.LastEnds.{last_end_in}
use Rattle.path_table.proofs.table.PathTable.look_lent.Goals as goal

pub load-requires : goal.load-requires
load-requires g c = let t = c.args.self.now in let m = c.args.member.now in
    let k = t.table.shared.key.size in
    let o = beside_of (g.K.Keeper.holds t.table.shared.key.first.value) in let wide = t.wide in (
      c.requires.table.0,
      omega arith,
      looks_lent (shows_of g.K.Keeper.holds) o k t.table.shared.table_id.slots
          m.seat.id m.seat.me m.number m.role c.requires.turn.0.0 c.requires.turn.0.1
          c.requires.turn.0.2
          c.requires.turn.1,
    )

pub invariant_of-member : goal.invariant_of-member
invariant_of-member g c = let m = c.args.member.now in let d = c.load.ensures.2 m.number m.role in
    record {
      role = ap (λ (v : View). v.role) d.0.0.0 ∙ m.role;
      counted = m.counted ∙ sym (ap (λ (v : View). issued_in v.trail) d.0.0.0);
      ended = m.ended ∙ sym (ap (λ (v : View). last_end_in v.trail) d.0.0.0);
    }

pub returns-clause-same : goal.returns-clause-same
returns-clause-same g c = let m = c.args.member.now in let d = c.load.ensures.2 m.number m.role in
    (c.load.ensures.0, refl, d.0.1)

pub returns-clause-step : goal.returns-clause-step
returns-clause-step g c = let m = c.args.member.now in let d = c.load.ensures.2 m.number m.role in
    record { view = d.0.0.0; was = d.0.0.1 }

pub returns-clause-lent : goal.returns-clause-lent
returns-clause-lent g c = let m = c.args.member.now in (c.load.ensures.2 m.number m.role).1

pub returns-clause-goes_on : goal.returns-clause-goes_on
returns-clause-goes_on g c = let m = c.args.member.now in
    subst (λ (z : PathSize). GoesOnBehind z.capacity c.load.result) c.requires.table.1
    (c.load.ensures.2 m.number m.role).2

pub returns-clause-runs : goal.returns-clause-runs
returns-clause-runs g c = let m = c.args.member.now in let d = c.load.ensures.2 m.number m.role in
    λ value low. subst (λ (v : View). TurnRuns v.part value) (sym d.0.0.0)
    (synced_seen m.seat.me.0 m.number c.load.result value c.requires.turn.0.0 c.requires.turn.0.1
    c.requires.turn.0.2 low)

pub returns-clause-hands : goal.returns-clause-hands
returns-clause-hands g c = let m = c.args.member.now in let d = c.load.ensures.2 m.number m.role in
    ap (λ (v : View). v.hands) d.0.0.0

pub returns-clause-give : goal.returns-clause-give
returns-clause-give g c = let m = c.args.member.now in let d = c.load.ensures.2 m.number m.role in
    λ may. subst MayGive (sym d.0.0.0) (gives_still (λ (t : SyncTurn).
    record t { synced = Some c.load.result }) (λ t. refl) (λ t. refl) m.seat.me.0 _ refl refl may)

pub returns-clause-found : goal.returns-clause-found
returns-clause-found g c = let m = c.args.member.now in let d = c.load.ensures.2 m.number m.role in
    let t = c.requires.turn.0.0 in
    subst (λ (v : View). IsSyncedTo v c.load.result) (sym d.0.0.0) (
      record t { synced = Some c.load.result },
      c.load.result,
      ap (option_map (λ (t : SyncTurn). record t { synced = Some c.load.result }))
          c.requires.turn.0.1,
      refl,
      omega arith,
    )
