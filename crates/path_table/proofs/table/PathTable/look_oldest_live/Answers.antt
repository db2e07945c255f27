use Rattle.std.proofs.Common.{◌<◌, refl, sym, ap, ◌∙◌, subst, arith}
use Rattle.path_core.specs.declared.event.Cursor.TheVariants.{OldestLive}
use Rattle.path_core.specs.declared.event.Place.TheVariants.{CursorWord}
use Rattle.path_core.specs.Parts.{seat_table}
use Rattle.path_rule.specs.declared.view.PathSize.{PathSize}
use Rattle.path_rule.specs.declared.view.View.{View}
use Rattle.path_rule.specs.Lasts.{beside_of, shows_of}
use Rattle.path_rule.specs.Switches.{FlushOldest}
use Rattle.path_rule.proofs.moves.Looks.{looks}
use Rattle.path_rule.proofs.seats.Accepting.{oldest_leaves, oldest_small, tries_oldest}
use Rattle.path_rule.proofs.seats.SwitchStages.{least_found}
use Rattle.path_rule.specs.Issued.{issued_in}
use Rattle.path_table.specs.LastEnds.{last_end_in}
use Rattle.path_table.proofs.table.PathTable.look_oldest_live.Goals as goal

pub load-requires : goal.load-requires
load-requires g c = let t = c.args.self.now in let m = c.args.member.now in
    let k = t.table.shared.key.size in
    let o = beside_of (g.K.Keeper.holds t.table.shared.key.first.value) in let wide = t.wide in
    let few = t.fits.few_tables in let there = c.requires.there in (
      c.requires.table.0,
      omega arith,
      looks (shows_of g.K.Keeper.holds) o k t.table.shared.table_id.slots m.seat.id
          m.seat.me m.number m.role (CursorWord (OldestLive c.args.table))
          (omega arith)
          (subst (λ (z : PathSize). c.args.table.0 < z.tables) (sym c.requires.table.1)
          c.requires.there),
    )

pub invariant_of-member : goal.invariant_of-member
invariant_of-member g c = let m = c.args.member.now in
    let few = c.args.self.now.fits.few_tables in let there = c.requires.there in
    let q = c.load.ensures.2 m.number (CursorWord (OldestLive c.args.table)) m.role
    (omega arith) tt refl in
    record {
      role = ap (λ (v : View). v.role) q.0.0.0 ∙ m.role;
      counted = m.counted ∙ sym (ap (λ (v : View). issued_in v.trail) q.0.0.0);
      ended = m.ended ∙ sym (ap (λ (v : View). last_end_in v.trail) q.0.0.0);
    }

pub returns-clause-same : goal.returns-clause-same
returns-clause-same g c = let m = c.args.member.now in
    let few = c.args.self.now.fits.few_tables in let there = c.requires.there in
    let q = c.load.ensures.2 m.number (CursorWord (OldestLive c.args.table)) m.role
    (omega arith) tt refl in
    (c.load.ensures.0, refl, q.0.1)

pub returns-clause-step : goal.returns-clause-step
returns-clause-step g c = let m = c.args.member.now in
    let few = c.args.self.now.fits.few_tables in let there = c.requires.there in
    let q = c.load.ensures.2 m.number (CursorWord (OldestLive c.args.table)) m.role
    (omega arith) tt refl in
    record { view = q.0.0.0; was = q.0.0.1 }

pub returns-clause-below : goal.returns-clause-below
returns-clause-below g c = let m = c.args.member.now in
    let few = c.args.self.now.fits.few_tables in let there = c.requires.there in
    let q = c.load.ensures.2 m.number (CursorWord (OldestLive c.args.table)) m.role
    (omega arith) tt refl in
    oldest_small m.seat.me.0 m.number c.args.table c.load.result q.1.0 q.1.1

pub returns-clause-others : goal.returns-clause-others
returns-clause-others g c = let m = c.args.member.now in
    let few = c.args.self.now.fits.few_tables in let there = c.requires.there in
    let q = c.load.ensures.2 m.number (CursorWord (OldestLive c.args.table)) m.role
    (omega arith) tt refl in
    λ u apart. ap (λ (v : View). seat_table v.part u) q.0.0.0
    ∙ oldest_leaves m.seat.me.0 m.number c.args.table c.load.result u apart

pub returns-clause-tries : goal.returns-clause-tries
returns-clause-tries g c = let m = c.args.member.now in
    let few = c.args.self.now.fits.few_tables in let there = c.requires.there in
    let q = c.load.ensures.2 m.number (CursorWord (OldestLive c.args.table)) m.role
    (omega arith) tt refl in
    λ note none. ap (λ (v : View). (seat_table v.part c.args.table.0).trying) q.0.0.0
    ∙ tries_oldest m.seat.me.0 m.number c.args.table c.load.result q.1.0 (omega arith) note none

pub returns-clause-turn : goal.returns-clause-turn
returns-clause-turn g c = let m = c.args.member.now in
    let few = c.args.self.now.fits.few_tables in let there = c.requires.there in
    let q = c.load.ensures.2 m.number (CursorWord (OldestLive c.args.table)) m.role
    (omega arith) tt refl in
    λ held. subst (λ (v : View). FlushOldest c.args.table.0 v.part c.load.result) (sym q.0.0.0)
    (least_found m.seat.me.0 m.number c.args.table (omega arith) c.load.result q.1.0 held)
