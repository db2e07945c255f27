use Rattle.std.proofs.Common.{refl, ◌∙◌, arith}
use Rattle.path_rule.proofs.seats.Answering.{found_after}
use Rattle.path_core.specs.declared.event.Cursor.TheVariants.{OldestLive}
use Rattle.path_core.specs.declared.event.Place.TheVariants.{CursorWord, Newest}
use Rattle.path_flush.proofs.FilingGoes.{none_made}
use Rattle.path_flush.proofs.FlushGoes.{issued_by}
use Rattle.path_flush.proofs.FlushPays.{paid_quiet}
use Rattle.path_flush.proofs.SwitchGoes.{then_quiet}
use Rattle.path_flush.proofs.flushing.flush_alone.Goals as goal

pub loop-init : goal.loop-init
loop-init g c = let m = c.args.member in record {
  next = tt;
  finite = tt;
  stays = ((c.requires.table.0, c.requires.table.1), refl);
  steps = (none_made m.number c.args.table.0 m.seat.me.0 m.seat.me.0 refl).made;
  holds = c.requires.holds;
  settled = c.requires.settled;
}

pub loop-preserved : goal.loop-preserved
loop-preserved g c = let I = c.loop.invariant in let L = c.look_memtables in record {
  next = tt;
  finite = tt;
  stays = (L.ensures.same.0, L.ensures.same.1 ∙ I.stays.1);
  steps = then_quiet c.args.member.number c.loop.member.number c.args.member.seat.me.0
      c.loop.member.seat.me.0 L.new.member.seat.me.0 I.stays.1 I.steps L.ensures.steps;
  holds = L.ensures.holds;
  settled = L.ensures.stage ∙ I.settled;
}

pub flush_newest-requires-clause-settled : goal.flush_newest-requires-clause-settled
flush_newest-requires-clause-settled g c =
    c.look_memtables.ensures.stage ∙ c.loop.invariant.settled

pub flush_newest-requires-clause-turn : goal.flush_newest-requires-clause-turn
flush_newest-requires-clause-turn g c = let K = c.in-Free.ensures.known in (K.2, K.1, K.0)

pub flush_newest-requires-clause-numbers : goal.flush_newest-requires-clause-numbers
flush_newest-requires-clause-numbers g c = let I = c.loop.invariant in let L = c.look_memtables in
    let Q = then_quiet c.args.member.number c.loop.member.number c.args.member.seat.me.0
    c.loop.member.seat.me.0 L.new.member.seat.me.0 I.stays.1 I.steps L.ensures.steps in
    let few = issued_by c.args.member.number _ _ Q.made in let low = c.requires.numbers.1 in
    (paid_quiet c.args.member.number _ _ Q c.requires.numbers.0, omega (arith, few, low))

pub returns-in-Free-clause-flushes : goal.returns-in-Free-clause-flushes
returns-in-Free-clause-flushes g c = let I = c.loop.invariant in let L = c.look_memtables in
    let t = c.args.table in let F = c.in-Free.ensures.found in let n = c.in-Free.newest in
    c.flush_newest.ensures.flushes c.args.member.number c.args.member.seat.me.0
    (then_quiet c.args.member.number c.loop.member.number c.args.member.seat.me.0
    c.loop.member.seat.me.0 L.new.member.seat.me.0 I.stays.1 I.steps F.0)
    (L.ensures.same.1 ∙ I.stays.1) (
      found_after (Newest t) n F.0.made.steps I.steps.made.steps F.1.0,
      found_after (CursorWord (OldestLive t)) n F.0.made.steps I.steps.made.steps F.1.1,
    )
