use Rattle.std.proofs.Common.{◌≡◌, [], refl, sym, ap, ◌∙◌, subst}
use Rattle.op_core.specs.declared.count.Order.TheVariants.{Append}
use Rattle.path_core.specs.declared.event.Place.TheVariants.{Log}
use Rattle.path_rule.specs.declared.view.Hands.{Hands}
use Rattle.path_rule.specs.declared.view.View.{View}
use Rattle.path_rule.specs.Boxes.{DeskIs}
use Rattle.path_rule.specs.HandsAfter.{with_marker}
use Rattle.path_rule.specs.Lasts.{shows_of}
use Rattle.path_rule.specs.Rounds.{RoundSteps}
use Rattle.path_rule.specs.Turns.{FoundRunning, MarkerWaits, TurnSaw}
use Rattle.path_rule.proofs.seats.Reaching.{found_on}
use Rattle.path_rule.proofs.seats.RoundsGo.{next, none_yet}
use Rattle.path_rounds.specs.Marks.{HasMarked}
use Rattle.path_rounds.proofs.marking.claim_next.Goals as goal

pub loop-init : goal.loop-init
loop-init g c = let m = c.args.member in record {
  next = tt;
  finite = tt;
  table = refl;
  number = refl;
  boxes = refl;
  steps = none_yet m.number m.seat.me.0 m.seat.me.0 refl;
  give = c.requires.turn.0;
  current = λ k saw. saw;
  runs = c.requires.runs;
  hands = refl;
}

pub note_progress-requires-clause-desk : goal.note_progress-requires-clause-desk
note_progress-requires-clause-desk g c =
    let I = c.loop.invariant in let C = c.claim_once.ensures in let D = c.requires.desk in
    let H = c.in-Claimed.ensures.claim in let progress = c.args.member.seat.me.0.hands.progress in (
      progress,
      (
        D.0,
        C.same.2 ∙ (I.boxes ∙ D.1),
        subst (λ (h : Hands). DeskIs (shows_of g.K.Keeper.holds) D.0 h.lasting h.pending progress)
            (sym (H.hands ∙ ap (with_marker c.loop.member.number c.in-Claimed.start) I.hands)) D.2,
      ),
    )

pub returns-in-Claimed-clause-steps : goal.returns-in-Claimed-clause-steps
returns-in-Claimed-clause-steps g c = let I = c.loop.invariant in let w = c.args.member.number in
    subst (λ (u : View). RoundSteps w 0 [] c.args.member.seat.me.0 u)
    (sym c.note_progress.ensures.same.1)
    (next w _ [] [] _ _ _ I.number I.steps c.claim_once.ensures.steps)

pub returns-in-Claimed-clause-claimed : goal.returns-in-Claimed-clause-claimed
returns-in-Claimed-clause-claimed g c = let I = c.loop.invariant in
    let H = c.in-Claimed.ensures.claim in let w = c.args.member.number in
    let start = c.in-Claimed.start in let v = c.args.member.seat.me.0 in
    subst (λ (u : View). HasMarked w v start u) (sym c.note_progress.ensures.same.1) (record {
      hands = subst (λ k. c.claim_once.new.member.seat.me.0.hands ≡ with_marker k start v.hands)
          I.number (H.hands ∙ ap (with_marker c.loop.member.number start) I.hands);
      waits = subst (λ k. MarkerWaits k c.claim_once.new.member.seat.me.0.part start) I.number
          H.waits;
      wrote = H.wrote;
      rises = λ key F. H.rises key (found_on w [] v _ Log key I.steps F);
    })

pub returns-in-Claimed-clause-current : goal.returns-in-Claimed-clause-current
returns-in-Claimed-clause-current g c =
    λ k saw. subst (λ (u : View). TurnSaw Append u.part k) (sym c.note_progress.ensures.same.1)
    (c.claim_once.ensures.current k (c.loop.invariant.current k saw))

pub returns-in-NoEntry-clause-current : goal.returns-in-NoEntry-clause-current
returns-in-NoEntry-clause-current g c =
    λ k saw. c.claim_once.ensures.current k (c.loop.invariant.current k saw)

pub returns-in-NoEntry-clause-steps : goal.returns-in-NoEntry-clause-steps
returns-in-NoEntry-clause-steps g c = let I = c.loop.invariant in
    next c.args.member.number _ [] [] _ _ _ I.number I.steps c.claim_once.ensures.steps

pub loop-preserved : goal.loop-preserved
loop-preserved g c = let I = c.loop.invariant in let C = c.claim_once.ensures in record {
  next = tt;
  finite = tt;
  table = C.same.0 ∙ I.table;
  number = C.same.1 ∙ I.number;
  boxes = C.same.2 ∙ I.boxes;
  steps = next c.args.member.number _ [] [] _ _ _ I.number I.steps C.steps;
  give = C.give;
  current = λ k saw. C.current k (I.current k saw);
  runs = C.runs;
  hands = c.in-Moved.ensures.claim ∙ I.hands;
}

pub returns-in-Claimed-clause-runs : goal.returns-in-Claimed-clause-runs
returns-in-Claimed-clause-runs g c = subst (λ (u : View). FoundRunning u.part)
    (sym c.note_progress.ensures.same.1) c.claim_once.ensures.runs
