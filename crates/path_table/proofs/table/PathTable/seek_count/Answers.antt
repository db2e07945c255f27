use Rattle.std.proofs.Common.{◌≡◌, ℕ, refl, sym, ap, ◌∙◌, subst, arith}
use mathlib.Core.Logic.{inr}
use Rattle.op_core.specs.CountWords.{number_in}
use Rattle.path_core.specs.declared.event.Event.TheVariants.{Look}
use Rattle.path_core.specs.declared.event.Place.TheVariants.{Count}
use Rattle.path_core.specs.declared.seat.Issue.TheVariants.{Rest}
use Rattle.path_core.specs.Parts.{marker_of, stage_of}
use Rattle.path_rule.specs.declared.view.View.{View}
use Rattle.path_core.specs.Words.{reading}
use Rattle.path_rule.specs.Calls.{Did, Holds}
use Rattle.path_rule.specs.Layout.{word_for}
use Rattle.path_rule.specs.Rule.{view_after}
use Rattle.path_rule.specs.Turns.{FoundRunning, TurnSaw, TurnOld, TurnGone}
use Rattle.path_rule.proofs.moves.Looks.{looks_at}
use Rattle.path_rule.proofs.places.SamePlace.{in_rows}
use Rattle.path_rule.proofs.seats.HolderLooks as know
use Rattle.path_rule.proofs.seats.OldestBelow.{gone_below}
use Rattle.path_rule.specs.Lasts.{beside_of, shows_of}
use Rattle.path_rule.proofs.seats.SwitchStages.{count_stages}
use Rattle.path_rule.specs.Issued.{issued_in}
use Rattle.path_table.specs.LastEnds.{last_end_in}
use Rattle.path_table.proofs.table.PathTable.seek_count.Goals as goal

pub load-requires : goal.load-requires
load-requires g c = let t = c.args.self.now in let m = c.args.member.now in
    let k = t.table.shared.key.size in
    let o = beside_of (g.K.Keeper.holds t.table.shared.key.first.value) in
    let wide = t.wide in
    let low = in_rows (Count c.args.order c.args.group) tt in
    let word = c.count_word.ensures in (
      c.requires.table.0,
      omega arith,
      looks_at (shows_of g.K.Keeper.holds) o k t.table.shared.table_id.slots m.seat.id m.seat.me
          m.number m.role
          (Count c.args.order c.args.group) tt
          (inr (inr c.requires.turn.1)) c.count_word.result word,
    )

pub invariant_of-member : goal.invariant_of-member
invariant_of-member g c = let m = c.args.member.now in
    let q = c.load.ensures.2 m.number (Count c.args.order c.args.group) m.role tt tt
    c.count_word.ensures in
    record {
      role = ap (λ (v : View). v.role) q.0.0.0 ∙ m.role;
      counted = m.counted ∙ sym (ap (λ (v : View). issued_in v.trail) q.0.0.0);
      ended = m.ended ∙ sym (ap (λ (v : View). last_end_in v.trail) q.0.0.0);
    }

pub returns-clause-same : goal.returns-clause-same
returns-clause-same g c = let m = c.args.member.now in
    let q = c.load.ensures.2 m.number (Count c.args.order c.args.group) m.role tt tt
    c.count_word.ensures in
    (c.load.ensures.0, refl, q.0.1, ap (λ (v : View). v.size) q.0.0.0)

pub returns-clause-step : goal.returns-clause-step
returns-clause-step g c = let m = c.args.member.now in
    let q = c.load.ensures.2 m.number (Count c.args.order c.args.group) m.role tt tt
    c.count_word.ensures in
    let same = q.2 c.args.order c.args.group refl c.requires.turn.1 in
    subst (λ (h : ℕ). Did m.seat.me.0 m.number (Look m.number (Count c.args.order h)) c.load.result
    c.load.new.seat.me.0) same (record { view = q.0.0.0; was = q.0.0.1 })

pub returns-clause-hands : goal.returns-clause-hands
returns-clause-hands g c = let m = c.args.member.now in
    let q = c.load.ensures.2 m.number (Count c.args.order c.args.group) m.role tt tt
    c.count_word.ensures in
    ap (λ (v : View). v.hands) q.0.0.0

pub returns-clause-turn : goal.returns-clause-turn
returns-clause-turn g c = let m = c.args.member.now in let v = m.seat.me.0 in
    let q = c.load.ensures.2 m.number (Count c.args.order c.args.group) m.role tt tt
    c.count_word.ensures in
    let e = sym q.0.0.0 in let h = number_in c.load.result in (
      subst (Holds Rest) e (know.count_held v m.number c.load.result c.args.order h Rest
          c.requires.turn.0),
      (λ k s. subst (λ (z : View). TurnSaw c.args.order z.part k) e
          (know.count_saw v m.number c.load.result c.args.order h k s)),
      (λ k s. subst (λ (z : View). TurnOld c.args.order z.part k) e
          (know.count_old v m.number c.load.result c.args.order h k s)),
    )

pub returns-clause-gone : goal.returns-clause-gone
returns-clause-gone g c = λ full. let m = c.args.member.now in let v = m.seat.me.0 in
    let q = c.load.ensures.2 m.number (Count c.args.order c.args.group) m.role tt tt
    c.count_word.ensures in
    let same = q.2 c.args.order c.args.group refl c.requires.turn.1 in
    let e = subst (λ (h : ℕ). c.load.new.seat.me.0
    ≡ view_after v (Look m.number (Count c.args.order h)) c.load.result) same q.0.0.0 in
    subst (λ (z : View). TurnGone c.args.order z.part c.args.group) (sym e)
    (know.count_gone v m.number c.load.result c.args.order c.args.group c.requires.turn.2 full
    c.requires.turn.0.held)

pub returns-clause-below : goal.returns-clause-below
returns-clause-below g c k full saw = let m = c.args.member.now in
    let q = c.load.ensures.2 m.number (Count c.args.order c.args.group) m.role tt tt
    c.count_word.ensures in
    let same = q.2 c.args.order c.args.group refl c.requires.turn.1 in
    let was = q.1.0 in
    gone_below was.core was.lawful m.number m.seat.me.0.part was.part c.args.order c.args.group k
    (subst (λ (h : ℕ). word_for (Count c.args.order h) (reading was.core (Count c.args.order h))
    ≡ c.load.result) same q.1.1 ∙ full) c.requires.turn.1 saw

pub returns-clause-stages : goal.returns-clause-stages
returns-clause-stages g c = let m = c.args.member.now in
    let q = c.load.ensures.2 m.number (Count c.args.order c.args.group) m.role tt tt
    c.count_word.ensures in
    λ t. ap (λ (v : View). stage_of v.part t) q.0.0.0
    ∙ count_stages m.seat.me.0 m.number c.load.result c.args.order (number_in c.load.result) t

pub returns-clause-marker : goal.returns-clause-marker
returns-clause-marker g c = let m = c.args.member.now in
    let q = c.load.ensures.2 m.number (Count c.args.order c.args.group) m.role tt tt
    c.count_word.ensures in
    ap (λ (v : View). marker_of v.part) q.0.0.0
    ∙ know.count_marker m.seat.me.0 m.number c.load.result c.args.order (number_in c.load.result)

pub returns-clause-runs : goal.returns-clause-runs
returns-clause-runs g c = let m = c.args.member.now in
    let q = c.load.ensures.2 m.number (Count c.args.order c.args.group) m.role tt tt
    c.count_word.ensures in
    λ runs. subst (λ (z : View). FoundRunning z.part) (sym q.0.0.0)
    (know.count_runs m.seat.me.0 m.number c.load.result c.args.order (number_in c.load.result) runs)
