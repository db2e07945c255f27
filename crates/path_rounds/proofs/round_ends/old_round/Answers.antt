use Rattle.std.proofs.Common.{not, Option, sym, ap, ◌∙◌, subst}
use Rattle.path_core.specs.declared.seat.LastMarker.{LastMarker}
use Rattle.path_core.specs.Holders.{behind_last}
use Rattle.path_rule.specs.Reached.{Reaches}
use Rattle.path_rounds.proofs.MarkerClaims.{is_barred}
use Rattle.path_rounds.proofs.round_ends.old_round.Goals as goal

pub end_round-member-requires-clause-marker : goal.end_round-member-requires-clause-marker
end_round-member-requires-clause-marker g c =
    is_barred c.args.member.seat.me.0.hands c.in-Some.last
    (sym c.requires.marker ∙ c.in-Some.is) (c.is_none.ensures ∙ ap not c.if-is_none.false)

pub returns-clause-reaches : goal.returns-clause-reaches
returns-clause-reaches g c = let E = c.end_round-member in
    let capacity = c.args.path.now.size.capacity in
    subst (λ (m : Option LastMarker). Reaches capacity (behind_last capacity m) E.result.1)
    (sym c.in-Some.is) E.ensures.reaches

pub returns-in_default-clause-reaches : goal.returns-in_default-clause-reaches
returns-in_default-clause-reaches g c = let F = c.first_round-member in
    let capacity = c.args.path.now.size.capacity in
    subst (λ (m : Option LastMarker). Reaches capacity (behind_last capacity m) F.result.1)
    (sym c.in_default.is) F.ensures.reaches
