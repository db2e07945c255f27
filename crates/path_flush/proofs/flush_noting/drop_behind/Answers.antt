use Rattle.std.proofs.Common.{◌≡◌, Option, sym, subst}
use Rattle.path_rule.specs.declared.view.View.{View}
use Rattle.path_rule.specs.FilingTold.{CarriesNoted}
use Rattle.path_rule.specs.Lasts.{shows_of}
use Rattle.path_flush.specs.declared.flush_answer.Flush.{Flush}
use Rattle.path_flush.specs.FlushFilings.{MayStop, Refused, TellsFault, stopped_after}
use Rattle.path_flush.proofs.FilingPuts.{stopped_so, tells_so}
use Rattle.path_flush.proofs.FilingRounds.{dropped_is}
use Rattle.path_flush.proofs.flush_noting.drop_behind.Goals as goal

pub note_fault-member-requires-clause-desk : goal.note_fault-member-requires-clause-desk
note_fault-member-requires-clause-desk g c = let D = c.drop_due-member in
    let shows = shows_of g.K.Keeper.holds in let h = c.args.member.seat.me.0.hands in
    subst (λ (u : View). CarriesNoted shows (stopped_after u.hands.lasting.stopped c.in-Err.fault)
    D.result.0.seat.me) (sym D.ensures.same.1)
    (subst (λ s. CarriesNoted shows s D.result.0.seat.me)
    (stopped_so h.lasting.stopped D.result.1 c.in-Err.fault c.in-Err.is) D.ensures.dropped)

pub note_fault-member-requires-clause-counts : goal.note_fault-member-requires-clause-counts
note_fault-member-requires-clause-counts g c = let D = c.drop_due-member in (
  subst (λ (u : View). TellsFault u.hands.lasting.at_open c.in-Err.fault)
      (sym D.ensures.same.1) (tells_so c.args.member.seat.me.0.hands.lasting.at_open D.result.1
      c.in-Err.fault c.in-Err.is D.ensures.counts),
  subst (λ (u : View). u.hands.lasting.at_open ≡ u.size.at_open) (sym D.ensures.same.1)
      c.requires.opened,
)

pub returns-in-Err-clause-stopped : goal.returns-in-Err-clause-stopped
returns-in-Err-clause-stopped g c = let D = c.drop_due-member in let N = c.note_fault-member in
    let w = c.args.member.number in let t = c.args.table.0 in let v = c.args.member.seat.me.0 in
    let after = N.result.0.seat.me.0 in
    subst (λ (o : Option Flush). MayStop w t v o after) (sym c.unless_memory.ensures)
    (dropped_is w t v after N.result.1 (subst (λ k. Refused k t 0 v N.result.1 after)
    D.ensures.same.0.1 (subst (λ (u : View). Refused D.result.0.number t 0 u N.result.1 after)
    D.ensures.same.1 N.ensures.refused)) N.ensures.fault)
