use Rattle.std.proofs.Common.{◌<◌, ◌≤◌, [], refl, sym, ◌∙◌, subst, arith}
use Rattle.std.proofs.lemmas.Bool.{false≢true}
use mathlib.Core.Logic.{dite}
use native.Mathlib.Decide.{dec_lt}
use Rattle.path_core.specs.declared.event.Event.TheVariants.{Look}
use Rattle.path_core.specs.declared.event.Place.TheVariants.{Log}
use Rattle.path_core.specs.Holders.{behind_last}
use Rattle.path_rule.specs.declared.view.PathSize.{PathSize}
use Rattle.path_rule.proofs.seats.RoundsGo.{one, still_wrote}
use Rattle.path_rounds.proofs.MarkerClaims.{none_since, rises_to}
use Rattle.path_rounds.proofs.marking.look_since.Goals as goal

pub returns-clause-steps : goal.returns-clause-steps
returns-clause-steps g c = let L = c.look_log-log in
    one c.args.member.now.number (Look _ Log) L.result _ _ refl L.ensures.step

pub returns-clause-none : goal.returns-clause-none
returns-clause-none g c = λ none.
    let L = c.look_log-log in let w = c.args.member.now.number in
    let v = c.args.member.now.seat.me.0 in let K = c.requires.marker in
    still_wrote w _ [] v L.new.member.seat.me.0
    (one w (Look w Log) L.result v _ refl L.ensures.step)
    (none_since v w L.result K.0.0 c.args.marker L.ensures.found.0 K.0.1 (K.0.2 ∙ sym K.1)
    (subst (λ (z : PathSize). L.result ≤ behind_last z.capacity c.args.marker)
    (sym c.requires.table.1)
    (dite (dec_lt (behind_last c.args.path.now.size.capacity c.args.marker) L.result)
    (λ above. absurd (false≢true (sym none ∙ c.is_entry_since.ensures.1
    (subst (λ (z : PathSize). behind_last z.capacity c.args.marker < L.result)
    (sym c.size.ensures) above))))
    (λ low. omega arith))) L.ensures.found.1)

pub returns-clause-rises : goal.returns-clause-rises
returns-clause-rises g c = λ none key F.
    let L = c.look_log-log in let w = c.args.member.now.number in
    let v = c.args.member.now.seat.me.0 in
    let up = rises_to v w L.result L.ensures.found.0 L.ensures.found.1 key F in
    dite (dec_lt (behind_last c.args.path.now.size.capacity c.args.marker) L.result)
    (λ above. absurd (false≢true (sym none ∙ c.is_entry_since.ensures.1
    (subst (λ (z : PathSize). behind_last z.capacity c.args.marker < L.result)
    (sym c.size.ensures) above))))
    (λ low. omega (arith, low, up))
