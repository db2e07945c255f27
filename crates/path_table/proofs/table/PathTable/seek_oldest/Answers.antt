use Rattle.std.proofs.Common.{refl, sym, ap, ◌∙◌, subst, arith}
use Rattle.path_core.specs.declared.event.Place.TheVariants.{Oldest}
use Rattle.path_core.specs.declared.seat.Issue.TheVariants.{Rest}
use Rattle.path_core.specs.Parts.{marker_of, found_of, stage_of}
use Rattle.path_rule.specs.declared.view.View.{View}
use Rattle.path_rule.specs.Calls.{Holds}
use Rattle.path_rule.specs.Turns.{FoundRunning, TurnSaw, TurnOld}
use Rattle.path_rule.proofs.moves.Looks.{looks_at}
use Rattle.path_rule.proofs.moves.StepFacts.{oldest_below}
use Rattle.path_rule.proofs.places.SamePlace.{in_rows}
use Rattle.path_rule.proofs.seats.HolderLooks as know
use Rattle.path_rule.specs.Lasts.{beside_of, shows_of}
use Rattle.path_rule.proofs.seats.SwitchStages.{oldest_stages}
use Rattle.path_rule.specs.Issued.{issued_in}
use Rattle.path_table.specs.LastEnds.{last_end_in}
use Rattle.path_table.proofs.table.PathTable.seek_oldest.Goals as goal

pub load-requires : goal.load-requires
load-requires g c = let t = c.args.self.now in let m = c.args.member.now in
    let k = t.table.shared.key.size in
    let o = beside_of (g.K.Keeper.holds t.table.shared.key.first.value) in
    let wide = t.wide in
    let low = in_rows (Oldest c.args.order) tt in
    let word = c.oldest_word.ensures in (
      c.requires.table.0,
      omega arith,
      looks_at (shows_of g.K.Keeper.holds) o k t.table.shared.table_id.slots m.seat.id m.seat.me
          m.number m.role
          (Oldest c.args.order) tt tt c.oldest_word.result word,
    )

pub invariant_of-member : goal.invariant_of-member
invariant_of-member g c = let m = c.args.member.now in
    let q = c.load.ensures.2 m.number (Oldest c.args.order) m.role tt tt
    c.oldest_word.ensures in
    record {
      role = ap (λ (v : View). v.role) q.0.0.0 ∙ m.role;
      counted = m.counted ∙ sym (ap (λ (v : View). issued_in v.trail) q.0.0.0);
      ended = m.ended ∙ sym (ap (λ (v : View). last_end_in v.trail) q.0.0.0);
    }

pub returns-clause-same : goal.returns-clause-same
returns-clause-same g c = let m = c.args.member.now in
    let q = c.load.ensures.2 m.number (Oldest c.args.order) m.role tt tt
    c.oldest_word.ensures in
    (c.load.ensures.0, refl, q.0.1, ap (λ (v : View). v.size) q.0.0.0)

pub returns-clause-step : goal.returns-clause-step
returns-clause-step g c = let m = c.args.member.now in
    let q = c.load.ensures.2 m.number (Oldest c.args.order) m.role tt tt
    c.oldest_word.ensures in
    record { view = q.0.0.0; was = q.0.0.1 }

pub returns-clause-hands : goal.returns-clause-hands
returns-clause-hands g c = let m = c.args.member.now in
    let q = c.load.ensures.2 m.number (Oldest c.args.order) m.role tt tt
    c.oldest_word.ensures in
    ap (λ (v : View). v.hands) q.0.0.0

pub returns-clause-turn : goal.returns-clause-turn
returns-clause-turn g c = let m = c.args.member.now in let v = m.seat.me.0 in
    let q = c.load.ensures.2 m.number (Oldest c.args.order) m.role tt tt
    c.oldest_word.ensures in
    let e = sym q.0.0.0 in (
      subst (Holds Rest) e
          (know.oldest_held v m.number c.load.result c.args.order Rest c.requires.turn),
      subst (λ (z : View). TurnOld c.args.order z.part c.load.result) e
          (know.oldest_old v m.number c.load.result c.args.order c.requires.turn.held),
      (λ k s. subst (λ (z : View). TurnSaw c.args.order z.part k) e
          (know.oldest_saw v m.number c.load.result c.args.order k s)),
    )

pub returns-clause-below : goal.returns-clause-below
returns-clause-below g c = let m = c.args.member.now in
    let q = c.load.ensures.2 m.number (Oldest c.args.order) m.role tt tt
    c.oldest_word.ensures in
    oldest_below m.seat.me.0 m.number c.load.result c.args.order q.1.0 q.1.1

pub returns-clause-stages : goal.returns-clause-stages
returns-clause-stages g c = let m = c.args.member.now in
    let q = c.load.ensures.2 m.number (Oldest c.args.order) m.role tt tt
    c.oldest_word.ensures in
    λ t. ap (λ (v : View). stage_of v.part t) q.0.0.0
    ∙ oldest_stages m.seat.me.0 m.number c.load.result c.args.order t

pub returns-clause-found : goal.returns-clause-found
returns-clause-found g c = let m = c.args.member.now in
    let q = c.load.ensures.2 m.number (Oldest c.args.order) m.role tt tt
    c.oldest_word.ensures in
    ap (λ (v : View). (found_of c.args.order v.part).oldest) q.0.0.0
    ∙ know.oldest_seen m.seat.me.0 m.number c.load.result c.args.order

pub returns-clause-marker : goal.returns-clause-marker
returns-clause-marker g c = let m = c.args.member.now in
    let q = c.load.ensures.2 m.number (Oldest c.args.order) m.role tt tt
    c.oldest_word.ensures in
    ap (λ (v : View). marker_of v.part) q.0.0.0
    ∙ know.oldest_marker m.seat.me.0 m.number c.load.result c.args.order

pub returns-clause-runs : goal.returns-clause-runs
returns-clause-runs g c = let m = c.args.member.now in
    let q = c.load.ensures.2 m.number (Oldest c.args.order) m.role tt tt
    c.oldest_word.ensures in
    λ runs. subst (λ (z : View). FoundRunning z.part) (sym q.0.0.0)
    (know.oldest_runs m.seat.me.0 m.number c.load.result c.args.order runs)
