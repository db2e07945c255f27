use Rattle.std.proofs.Common.{◌≡◌, Some}
use Rattle.path_core.specs.declared.seat.Switching.TheVariants.{Settled}
use Rattle.path_core.specs.Parts.{stage_of}
use Rattle.path_flush.specs.FlushSteps.{QuietSteps}
use Rattle.path_flush.specs.FlushTurns.{HoldsTable}
use Rattle.path_flush.specs.Seats.{Stays}
use Rattle.path_flush.proofs.flushing.flush_alone.Given as goal

abbrev pub invariant-loop : goal.invariant-loop
invariant-loop g l = let first = l.fn.member in record {
  next : (goal.iterator-loop g).can_next l.iterator';
  finite : (goal.iterator-loop g).is_finite l.iterator';
  stays : Stays l.path.table.shared.table_id l.path.size first l.member;
  steps : QuietSteps first.number l.fn.table.0 0 first.seat.me.0 l.member.seat.me.0;
  holds : HoldsTable l.fn.table.0 l.member.seat.me;
  settled : stage_of l.member.seat.me.0.part l.fn.table.0 ≡ Some Settled;
}
