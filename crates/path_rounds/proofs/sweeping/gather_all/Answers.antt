use Rattle.std.proofs.Common.{◌≡◌, suc, ◌+◌, ◌<◌, [], true, refl, sym, ap, ◌∙◌, subst, arith}
use Rattle.path_core.specs.declared.seat.Issue.TheVariants.{Rest}
use Rattle.path_rule.specs.declared.view.Hands.{Hands}
use Rattle.path_rule.specs.declared.view.PathSize.{PathSize}
use Rattle.path_rule.specs.declared.view.Progress.{Progress}
use Rattle.path_rule.specs.declared.view.View.{View}
use Rattle.path_rule.specs.Calls.{Holds}
use Rattle.path_rule.specs.Desks.{HasDesk}
use Rattle.path_rule.specs.Lasts.{shows_of}
use Rattle.path_rule.specs.Rounds.{RoundSteps}
use Rattle.path_rule.specs.Sweeps.{SweptAll, SweepsOne}
use Rattle.path_rule.proofs.seats.RoundsGo.{none_yet, next}
use Rattle.path_rule.proofs.seats.Sweeping.{SweptTo, sweeps_on, sweep_begins, sweep_ends}
use Rattle.path_rounds.proofs.sweeping.gather_all.Goals as goal

pub loop-init : goal.loop-init
loop-init g c = let some = c.args.path.now.fits.some_writer in record {
  next = tt;
  finite = tt;
  table = refl;
  number = refl;
  steps = none_yet c.args.member.number _ _ refl;
  holds = c.requires.turn.0;
  saw = c.requires.turn.1;
  swept = sweep_begins c.args.path.now.size.seats c.args.member.seat.me.0.hands c.requires.fresh.0
      (omega arith);
  desk = c.requires.desk;
}

pub note_progress-requires-clause-table : goal.note_progress-requires-clause-table
note_progress-requires-clause-table g c = c.loop.invariant.table ∙ c.requires.table.0

pub note_progress-requires-clause-desk : goal.note_progress-requires-clause-desk
note_progress-requires-clause-desk g c =
    (c.args.member.seat.me.0.hands.progress, c.loop.invariant.desk)

pub returns-then-swept-size-clause-same : goal.returns-then-swept-size-clause-same
returns-then-swept-size-clause-same g c = let N = c.note_progress.ensures.same in
    (N.0.0 ∙ c.loop.invariant.table, N.0.1 ∙ c.loop.invariant.number)

pub returns-then-swept-size-clause-steps : goal.returns-then-swept-size-clause-steps
returns-then-swept-size-clause-steps g c =
    subst (λ (u : View). RoundSteps c.args.member.number 0 [] c.args.member.seat.me.0 u)
    (sym c.note_progress.ensures.same.1) c.loop.invariant.steps

pub returns-then-swept-size-clause-turn : goal.returns-then-swept-size-clause-turn
returns-then-swept-size-clause-turn g c =
    subst (Holds Rest) (sym c.note_progress.ensures.same.1) c.loop.invariant.holds

pub returns-then-swept-size-clause-swept : goal.returns-then-swept-size-clause-swept
returns-then-swept-size-clause-swept g c =
    subst (λ (u : View). SweptAll c.args.member.seat.me.0.hands u.hands)
    (sym c.note_progress.ensures.same.1) (sweep_ends c.args.path.now.size.seats c.loop.swept _ _
    (c.if-swept-size.true ∙ ap (λ (z : PathSize). z.seats) c.size.ensures)
    c.loop.invariant.swept)

pub returns-then-swept-size-clause-desk : goal.returns-then-swept-size-clause-desk
returns-then-swept-size-clause-desk g c =
    let shows = shows_of g.K.Keeper.holds in let N = c.note_progress in
    let S = c.loop.invariant.swept in
    let all = c.if-swept-size.true ∙ ap (λ (z : PathSize). z.seats) c.size.ensures in
    let told : record { gathered = true; marker = c.args.progress.marker }
    ≡ c.loop.member.seat.me.0.hands.progress = λ j. record {
      gathered = sym (S.all all) j;
      marker = (ap (λ (p : Progress). p.marker) c.requires.fresh.1 ∙ sym S.marker) j;
    } in
    subst (λ (u : View). HasDesk shows u.hands.lasting u.hands.pending u.hands.progress
    N.result.seat.me.1) (sym N.ensures.same.1)
    (subst (λ (p : Progress). HasDesk shows c.loop.member.seat.me.0.hands.lasting
    c.loop.member.seat.me.0.hands.pending p N.result.seat.me.1) told N.ensures.desk)

pub gather_box-next-requires-clause-table : goal.gather_box-next-requires-clause-table
gather_box-next-requires-clause-table g c = let I = c.loop.invariant in
    (I.table ∙ c.requires.table.0, I.steps.size ∙ c.requires.table.1)

pub gather_box-next-requires-clause-turn : goal.gather_box-next-requires-clause-turn
gather_box-next-requires-clause-turn g c = let I = c.loop.invariant in
    (I.holds, I.saw, c.requires.turn.2)

pub gather_box-next-requires-clause-more : goal.gather_box-next-requires-clause-more
gather_box-next-requires-clause-more g c = let S = c.loop.invariant.swept in
    let below = S.below in let other = c.if-swept-size.false in
    let size = ap (λ (z : PathSize). z.seats) c.size.ensures in
    let few = c.args.path.now.fits.few_writers in (S.count, omega arith, omega arith)

pub gather_box-next-requires-clause-desk : goal.gather_box-next-requires-clause-desk
gather_box-next-requires-clause-desk g c = let I = c.loop.invariant in
    let below = I.swept.below in let other = c.if-swept-size.false in
    let size = ap (λ (z : PathSize). z.seats) c.size.ensures in
    subst (λ (p : Progress). HasDesk (shows_of g.K.Keeper.holds)
    c.loop.member.seat.me.0.hands.lasting c.loop.member.seat.me.0.hands.pending p
    c.loop.member.seat.me.1) (sym (I.swept.still (omega arith))) I.desk

pub loop-preserved-then-took : goal.loop-preserved-then-took
loop-preserved-then-took g c =
    let I = c.loop.invariant in let G = c.gather_box-next in let w = c.args.member.number in
    let seats = c.args.path.now.size.seats in let before = c.loop.member.seat.me.0.hands in
    let first = c.args.member.seat.me.0.hands in let now = G.result.0.seat.me.0.hands in
    let below = I.swept.below in let other = c.if-swept-size.false in
    let size = ap (λ (z : PathSize). z.seats) c.size.ensures in
    let less : c.loop.swept < seats = omega arith in
    let up : suc c.loop.swept ≡ c.loop.swept + 1 = omega arith in record {
      next = tt;
      finite = tt;
      table = G.ensures.same.0 ∙ I.table;
      number = G.ensures.same.1 ∙ I.number;
      steps = next w _ [] [] _ _ _ I.number I.steps G.ensures.steps;
      holds = G.ensures.turn.0;
      saw = G.ensures.turn.1;
      swept = subst (λ k. SweptTo seats k first now) up
          (sweeps_on seats c.loop.swept c.args.current first before now less I.swept
          (subst (λ b. SweepsOne seats c.args.current before b now) c.if-took.true
          G.ensures.swept));
      desk = subst (λ (p : Progress). HasDesk (shows_of g.K.Keeper.holds) now.lasting now.pending p
          G.result.0.seat.me.1) (I.swept.still less) G.ensures.desk;
    }

pub loop-preserved : goal.loop-preserved
loop-preserved g c =
    let I = c.loop.invariant in let G = c.gather_box-next in let w = c.args.member.number in
    let seats = c.args.path.now.size.seats in let before = c.loop.member.seat.me.0.hands in
    let first = c.args.member.seat.me.0.hands in let now = G.result.0.seat.me.0.hands in
    let below = I.swept.below in let other = c.if-swept-size.false in
    let size = ap (λ (z : PathSize). z.seats) c.size.ensures in
    let less : c.loop.swept < seats = omega arith in
    let same : now ≡ before = subst (λ b. SweepsOne seats c.args.current before b now)
    c.if-took.false G.ensures.swept in record {
      next = tt;
      finite = tt;
      table = G.ensures.same.0 ∙ I.table;
      number = G.ensures.same.1 ∙ I.number;
      steps = next w _ [] [] _ _ _ I.number I.steps G.ensures.steps;
      holds = G.ensures.turn.0;
      saw = G.ensures.turn.1;
      swept = subst (λ (h : Hands). SweptTo seats c.loop.swept first h) (sym same) I.swept;
      desk = subst (λ (p : Progress). HasDesk (shows_of g.K.Keeper.holds) now.lasting now.pending p
          G.result.0.seat.me.1) (I.swept.still less) G.ensures.desk;
    }
