use Rattle.std.proofs.Common.{Some, refl, sym, ap, ◌∙◌, subst, arith}
use Rattle.std.specs.Option.{option_map}
use Rattle.path_core.specs.declared.seat.SyncTurn.{SyncTurn}
use Rattle.atomic_table.specs.Table.{rest}
use Rattle.path_core.specs.declared.event.Cursor.TheVariants.{Synced}
use Rattle.path_core.specs.declared.event.Event.TheVariants.{Put}
use Rattle.path_core.specs.Next.{next_of}
use Rattle.path_rule.specs.declared.view.PathSize.{PathSize}
use Rattle.path_rule.specs.declared.view.View.{View}
use Rattle.path_rule.specs.Calls.{MayGive, IsSyncedTo}
use Rattle.path_rule.specs.Lasts.{beside_of, more_lasting, shown, shows_of}
use Rattle.path_rule.proofs.moves.SyncSteps.{syncs}
use Rattle.path_rule.proofs.seats.MayGives.{gives_still, carries_on}
use Rattle.path_rule.specs.Issued.{issued_in}
use Rattle.path_table.specs.LastEnds.{last_end_in}
use Rattle.path_table.proofs.table.PathTable.put_synced.Goals as goal

pub store-requires : goal.store-requires
store-requires g c = let t = c.args.self.now in let m = c.args.member.now in
    let k = t.table.shared.key.size in
    let o = beside_of (g.K.Keeper.holds t.table.shared.key.first.value) in let wide = t.wide in let
    d = c.requires.desk in (
      c.requires.table.0,
      omega arith,
      syncs (shows_of g.K.Keeper.holds) o k t.table.shared.table_id.slots
          m.seat.id m.seat.me m.number m.role c.args.value d.0 d.1 d.3.0
          (rest m.seat.me.1) c.requires.turn.0 c.requires.turn.1 c.requires.turn.2 c.requires.marker
          d.2
          d.3.1 d.3.2,
    )

pub invariant_of-member : goal.invariant_of-member
invariant_of-member g c = let m = c.args.member.now in let k = c.requires.desk in
    let d = c.store.ensures.2 m.number
    (more_lasting k.0 c.args.value m.seat.me.0.hands.lasting) k.1 m.role k.3 in
    record {
      role = ap (λ (v : View). v.role) d.0.0 ∙ m.role;
      counted = m.counted ∙ sym (ap (λ (v : View). issued_in v.trail) d.0.0);
      ended = m.ended ∙ sym (ap (λ (v : View). last_end_in v.trail) d.0.0);
    }

pub returns-clause-same : goal.returns-clause-same
returns-clause-same g c = let m = c.args.member.now in let k = c.requires.desk in
    let d = c.store.ensures.2 m.number
    (more_lasting k.0 c.args.value m.seat.me.0.hands.lasting) k.1 m.role k.3 in
    (c.store.ensures.0, refl, d.1)

pub returns-clause-step : goal.returns-clause-step
returns-clause-step g c = let m = c.args.member.now in
    λ lasting pending C. let d = c.store.ensures.2 m.number lasting pending m.role C in (
      record { view = d.0.0; was = d.0.1 },
      (
        d.2.0,
        ap (λ (z : PathSize). shown lasting.beside z.at_open c.args.value
            lasting.filed lasting.dropped
            (next_of d.2.0.core (Put m.number Synced c.args.value))) (sym c.requires.table.1)
            ∙ d.2.1,
      ),
    )

pub returns-clause-give : goal.returns-clause-give
returns-clause-give g c = let m = c.args.member.now in let k = c.requires.desk in
    let d = c.store.ensures.2 m.number
    (more_lasting k.0 c.args.value m.seat.me.0.hands.lasting) k.1 m.role k.3 in
    λ may. subst MayGive (sym d.0.0) (gives_still (λ (t : SyncTurn).
    record t { synced = Some c.args.value }) (λ t. refl) (λ t. refl) m.seat.me.0 _ refl refl may)

pub returns-clause-desk : goal.returns-clause-desk
returns-clause-desk g c = let m = c.args.member.now in let k = c.requires.desk in
    let lasting = more_lasting k.0 c.args.value m.seat.me.0.hands.lasting in
    let d = c.store.ensures.2 m.number lasting k.1 m.role k.3 in
    carries_on (shows_of g.K.Keeper.holds) m.seat.me c.store.new.seat.me lasting k.1
    m.seat.me.0.hands.progress
    m.seat.me.0.hands (ap (λ (v : View). v.hands) d.0.0) d.1 k.3

pub returns-clause-synced : goal.returns-clause-synced
returns-clause-synced g c = let m = c.args.member.now in let k = c.requires.desk in
    let d = c.store.ensures.2 m.number
    (more_lasting k.0 c.args.value m.seat.me.0.hands.lasting) k.1 m.role k.3 in
    let t = c.requires.turn.0.0 in
    subst (λ (v : View). IsSyncedTo v c.args.value) (sym d.0.0) (
      record t { synced = Some c.args.value },
      c.args.value,
      ap (option_map (λ (t : SyncTurn). record t { synced = Some c.args.value }))
          c.requires.turn.0.2,
      refl,
      omega arith,
    )
