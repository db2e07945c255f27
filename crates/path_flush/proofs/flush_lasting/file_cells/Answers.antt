use Rattle.std.proofs.Common.{Option, sym, ap, ◌∙◌, subst}
use Rattle.path_rule.specs.declared.view.PathSize.{PathSize}
use Rattle.path_flush.specs.declared.flush_answer.Flush.{Flush}
use Rattle.path_flush.specs.FlushFilings.{LastsTo, MakesLasting}
use Rattle.path_flush.proofs.FilingGoes.{none_retired, retired_behind}
use Rattle.path_flush.proofs.FilingRounds.{takes_none}
use Rattle.path_flush.proofs.FilingTurns.{awaits_still}
use Rattle.path_flush.proofs.flush_lasting.file_cells.Goals as goal

pub await_lasting-member-requires-clause-opened : goal.await_lasting-member-requires-clause-opened
await_lasting-member-requires-clause-opened g c = c.requires.awaits.opened
    ∙ ap (λ (k : PathSize). k.at_open) c.requires.table.1

pub await_lasting-member-requires-clause-bound : goal.await_lasting-member-requires-clause-bound
await_lasting-member-requires-clause-bound g c = (c.args.memtable, c.requires.awaits.final)

pub put_lasting-requires-clause-awaits : goal.put_lasting-requires-clause-awaits
put_lasting-requires-clause-awaits g c = let L = c.await_lasting-member in
    awaits_still c.args.path.now.size.seats c.args.table.0 c.args.memtable c.args.bound.0
    c.args.cells.now c.args.member.seat.me.0 L.result.0.seat.me.0 L.ensures.reading
    L.ensures.tables (L.ensures.opened ∙ sym (ap (λ (i : PathSize). i.at_open) L.ensures.same.0.1))
    c.requires.awaits

pub put_lasting-requires-clause-lasts : goal.put_lasting-requires-clause-lasts
put_lasting-requires-clause-lasts g c = let L = c.await_lasting-member in
    let after = L.result.0.seat.me.0 in
    subst (λ (k : PathSize). LastsTo k.capacity c.args.bound.0 after.trail) c.requires.table.1
    (subst (λ (o : Option Flush). MakesLasting c.args.member.number c.args.table.0 c.args.bound.0
    c.args.member.seat.me.0 o after) c.in-None.is L.ensures.lasts).1

pub returns-in-None-clause-retired : goal.returns-in-None-clause-retired
returns-in-None-clause-retired g c = let L = c.await_lasting-member in let P = c.put_lasting in
    let w = c.args.member.number in let t = c.args.table.0 in let v = c.args.member.seat.me.0 in
    let u = L.result.0.seat.me.0 in let M = subst (λ (o : Option Flush). MakesLasting w t
    c.args.bound.0 v o u) c.in-None.is L.ensures.lasts in
    retired_behind w L.result.0.number t c.args.memtable v u P.result.0.seat.me.0 P.result.1
    L.ensures.same.1 M.0 P.ensures.retired

pub returns-in-Some-clause-retired : goal.returns-in-Some-clause-retired
returns-in-Some-clause-retired g c = let L = c.await_lasting-member in
    let w = c.args.member.number in let t = c.args.table.0 in let v = c.args.member.seat.me.0 in
    let u = L.result.0.seat.me.0 in
    none_retired w t c.args.memtable v u c.in-Some.answer (subst (λ (o : Option Flush). MakesLasting
    w t c.args.bound.0 v o u) c.in-Some.is L.ensures.lasts)

pub returns-in-Some-clause-unread : goal.returns-in-Some-clause-unread
returns-in-Some-clause-unread g c = let L = c.await_lasting-member in
    let A = c.requires.awaits in
    takes_none c.args.path.now.size.seats c.args.table.0 c.args.memtable
    L.result.0.seat.me.0.hands A.read (
      L.ensures.reading ∙ A.sees.0,
      A.sees.1,
      A.sees.2,
      A.sees.3,
      A.sees.4,
      A.sees.5,
    )
