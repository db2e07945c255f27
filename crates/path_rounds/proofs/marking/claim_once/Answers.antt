use Rattle.std.proofs.Common.{[], is_some, refl, sym, ap, ◌∙◌, subst}
use Rattle.path_core.specs.declared.event.ClaimKind.TheVariants.{Marker}
use Rattle.path_core.specs.declared.event.Event.TheVariants.{Look, Claim}
use Rattle.path_core.specs.declared.event.Place.TheVariants.{Log}
use Rattle.path_rule.specs.declared.view.View.{View}
use Rattle.path_rule.specs.HandsAfter.{with_marker}
use Rattle.path_rule.specs.Turns.{FoundRunning}
use Rattle.path_rule.proofs.seats.Reaching.{found_on}
use Rattle.path_rule.proofs.seats.RoundsGo.{one, one_as, next}
use Rattle.path_rounds.specs.Marks.{HasMarked}
use Rattle.path_rounds.proofs.MarkerClaims.{log_keeps, marked, marked_keeps, marked_runs}
use Rattle.path_rounds.proofs.marking.claim_once.Goals as goal

pub returns-then-not-is_entry_since-clause-steps :
    goal.returns-then-not-is_entry_since-clause-steps
returns-then-not-is_entry_since-clause-steps g c = let L = c.look_log-from in
    one c.args.member.now.number (Look _ Log) L.result _ _ refl L.ensures.step

pub returns-then-claim_marker-from-clause-steps : goal.returns-then-claim_marker-from-clause-steps
returns-then-claim_marker-from-clause-steps g c =
    let w = c.args.member.now.number in let L = c.look_log-from in
    next w _ [] [] _ _ _ L.ensures.same.1 (one w (Look w Log) L.result _ _ refl L.ensures.step)
    (one_as _ (Claim _ (record { 0 = L.result }) (record { 0 = c.key_behind_marker-to.result })
    Marker) c.key_behind_marker-to.result _ _ _ refl
    (c.claim_marker.ensures.hit c.if-claim_marker-from.true) refl)

pub returns-then-claim_marker-from-clause-claim : goal.returns-then-claim_marker-from-clause-claim
returns-then-claim_marker-from-clause-claim g c =
    let w = c.args.member.now.number in let L = c.look_log-from in
    let after = c.claim_marker.new.member.seat.me.0 in let u = L.new.member.seat.me.0 in
    let held = ap (λ (v : View). is_some v.part.sync) L.ensures.step.view
    ∙ c.requires.turn.0.holds.held in
    let H = subst (λ k. HasMarked k u L.result after) L.ensures.same.1
    (marked u after L.new.member.number L.result c.key_behind_marker-to.result
    (c.claim_marker.ensures.hit c.if-claim_marker-from.true) held) in record {
      hands = H.hands ∙ ap (λ (v : View). with_marker w L.result v.hands) L.ensures.step.view;
      waits = H.waits;
      wrote = H.wrote;
      rises = λ key F. H.rises key (found_on w [] c.args.member.now.seat.me.0 u Log key
          (one w (Look w Log) L.result _ _ refl L.ensures.step) F);
    }

pub returns-then-not-is_entry_since-clause-current :
    goal.returns-then-not-is_entry_since-clause-current
returns-then-not-is_entry_since-clause-current g c = let L = c.look_log-from in
    log_keeps _ _ c.args.member.now.number L.result L.ensures.step

pub returns-then-claim_marker-from-clause-current :
    goal.returns-then-claim_marker-from-clause-current
returns-then-claim_marker-from-clause-current g c = let L = c.look_log-from in
    λ k saw. marked_keeps _ _ _ L.result c.key_behind_marker-to.result
    (c.claim_marker.ensures.hit c.if-claim_marker-from.true) k
    (log_keeps _ _ c.args.member.now.number L.result L.ensures.step k saw)

pub returns-else-claim_marker-from-clause-current :
    goal.returns-else-claim_marker-from-clause-current
returns-else-claim_marker-from-clause-current g c = let L = c.look_log-from in
    λ k saw. log_keeps _ _ _ c.claim_marker.result
    (c.claim_marker.ensures.miss c.if-claim_marker-from.false) k
    (log_keeps _ _ c.args.member.now.number L.result L.ensures.step k saw)

pub returns-else-claim_marker-from-clause-steps : goal.returns-else-claim_marker-from-clause-steps
returns-else-claim_marker-from-clause-steps g c =
    let w = c.args.member.now.number in let L = c.look_log-from in
    next w _ [] [] _ _ _ L.ensures.same.1 (one w (Look w Log) L.result _ _ refl L.ensures.step)
    (one _ (Look _ Log) c.claim_marker.result _ _ refl
    (c.claim_marker.ensures.miss c.if-claim_marker-from.false))

pub claim_marker-requires-clause-runs : goal.claim_marker-requires-clause-runs
claim_marker-requires-clause-runs g c =
    subst (λ (v : View). FoundRunning v.part) (sym c.look_log-from.ensures.step.view)
    c.requires.runs

pub returns-then-not-is_entry_since-clause-runs : goal.returns-then-not-is_entry_since-clause-runs
returns-then-not-is_entry_since-clause-runs g c =
    subst (λ (v : View). FoundRunning v.part) (sym c.look_log-from.ensures.step.view)
    c.requires.runs

pub returns-then-claim_marker-from-clause-runs : goal.returns-then-claim_marker-from-clause-runs
returns-then-claim_marker-from-clause-runs g c = let L = c.look_log-from in
    marked_runs _ _ _ L.result c.key_behind_marker-to.result
    (c.claim_marker.ensures.hit c.if-claim_marker-from.true)
    (subst (λ (v : View). FoundRunning v.part) (sym L.ensures.step.view) c.requires.runs)

pub returns-else-claim_marker-from-clause-runs : goal.returns-else-claim_marker-from-clause-runs
returns-else-claim_marker-from-clause-runs g c = let L = c.look_log-from in
    subst (λ (v : View). FoundRunning v.part)
    (sym (c.claim_marker.ensures.miss c.if-claim_marker-from.false).view)
    (subst (λ (v : View). FoundRunning v.part) (sym L.ensures.step.view) c.requires.runs)
