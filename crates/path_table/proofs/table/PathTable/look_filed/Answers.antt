use Rattle.std.proofs.Common.{ℕ, ◌<◌, ◌≤◌, Some, refl, sym, ap, ◌∙◌, subst, arith}
use Rattle.std.specs.Option.{option_map}
use Rattle.std.proofs.lemmas.Option.{same_Some}
use Rattle.path_core.specs.declared.event.Cursor.TheVariants.{Synced}
use Rattle.path_core.specs.declared.event.Place.TheVariants.{CursorWord}
use Rattle.path_core.specs.declared.seat.SyncTurn.{SyncTurn}
use Rattle.path_core.specs.Keys.{after}
use Rattle.path_rule.specs.declared.view.FlushRead.{FlushRead}
use Rattle.path_rule.specs.declared.view.PathSize.{PathSize}
use Rattle.path_rule.specs.declared.view.View.{View}
use Rattle.path_rule.specs.FilingTold.{SeesAll, TurnSynced}
use Rattle.path_rule.specs.Finds.{Finds}
use Rattle.path_rule.specs.Lasts.{beside_of, shows_of}
use Rattle.path_rule.proofs.moves.FiledLooks.{looks_filed}
use Rattle.path_rule.specs.Issued.{issued_in}
use Rattle.path_table.specs.LastEnds.{last_end_in}
use Rattle.path_table.proofs.table.PathTable.look_filed.Goals as goal

pub load-requires : goal.load-requires
load-requires g c = let t = c.args.self.now in let m = c.args.member.now in
    let k = t.table.shared.key.size in
    let o = beside_of (g.K.Keeper.holds t.table.shared.key.first.value) in let wide = t.wide in (
      c.requires.table.0,
      omega arith,
      looks_filed (shows_of g.K.Keeper.holds) o k t.table.shared.table_id.slots
          m.seat.id m.seat.me m.number m.role c.requires.turn.0 c.requires.turn.1
          c.requires.turn.2,
    )

pub invariant_of-member : goal.invariant_of-member
invariant_of-member g c = let m = c.args.member.now in let d = c.load.ensures.2 m.number m.role in
    record {
      role = ap (λ (v : View). v.role) d.0.0.0 ∙ m.role;
      counted = m.counted ∙ sym (ap (λ (v : View). issued_in v.trail) d.0.0.0);
      ended = m.ended ∙ sym (ap (λ (v : View). last_end_in v.trail) d.0.0.0);
    }

pub returns-clause-same : goal.returns-clause-same
returns-clause-same g c = let m = c.args.member.now in let d = c.load.ensures.2 m.number m.role in
    (c.load.ensures.0, refl, d.0.1)

pub returns-clause-step : goal.returns-clause-step
returns-clause-step g c = let m = c.args.member.now in let d = c.load.ensures.2 m.number m.role in
    record { view = d.0.0.0; was = d.0.0.1 }

pub returns-clause-found : goal.returns-clause-found
returns-clause-found g c = let m = c.args.member.now in let d = c.load.ensures.2 m.number m.role in
    let t = c.requires.turn.0 in
    subst (λ (v : View). TurnSynced v.part c.load.result) (sym d.0.0.0) (
      record t { synced = Some c.load.result },
      ap (option_map (λ (t : SyncTurn). record t { synced = Some c.load.result }))
          c.requires.turn.1,
      c.requires.turn.2,
      refl,
    )

pub returns-clause-small : goal.returns-clause-small
returns-clause-small g c = let m = c.args.member.now in (c.load.ensures.2 m.number m.role).2

pub returns-clause-rises : goal.returns-clause-rises
returns-clause-rises g c = let m = c.args.member.now in
    subst (λ (z : PathSize). (key : ℕ) → Finds (CursorWord Synced) key m.seat.me.0.trail
    → after z.capacity key ≤ after z.capacity c.load.result) c.requires.table.1
    (c.load.ensures.2 m.number m.role).3

pub returns-clause-put : goal.returns-clause-put
returns-clause-put g c = let m = c.args.member.now in let d = c.load.ensures.2 m.number m.role in
    let S = c.requires.sees in let is = c.requires.table.1 in
    λ q cells reading low seen. let same = same_Some S.0 q (sym S.1.0 ∙ reading) in
    d.1 c.args.table.0 c.args.memtable c.args.bound.0 q cells
    (subst (λ (z : PathSize). c.args.table.0 < z.tables) (sym is) c.requires.there)
    (subst (λ (z : PathSize). SeesAll z.seats m.seat.me.0.hands c.args.table.0 c.args.memtable q)
    (sym is) (subst (λ (r : FlushRead). SeesAll c.args.self.now.size.seats m.seat.me.0.hands
    c.args.table.0 c.args.memtable r) same S.1))
    (λ none. S.2 (ap (λ (r : FlushRead). r.seen) same ∙ none)) c.requires.bound
    (subst (λ (z : PathSize). c.args.bound.0 ≤ after z.capacity c.load.result) (sym is) low) seen
