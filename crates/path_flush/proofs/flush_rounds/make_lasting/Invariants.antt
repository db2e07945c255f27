use Rattle.std.proofs.Common.{◌≡◌}
use Rattle.path_core.specs.Parts.{seat_table}
use Rattle.path_rule.specs.Lasts.{shows_of}
use Rattle.path_flush.specs.FlushFilings.{FilingSteps, HasBoth}
use Rattle.path_flush.specs.Seats.{Stays}
use Rattle.path_flush.proofs.flush_rounds.make_lasting.Given as goal

abbrev pub invariant-loop : goal.invariant-loop
invariant-loop g l = let first = l.fn.member in let t = l.fn.table.0 in record {
  next : (goal.iterator-loop g).can_next l.iterator';
  finite : (goal.iterator-loop g).is_finite l.iterator';
  stays : Stays l.path.table.shared.table_id l.path.size first l.member;
  steps : FilingSteps first.number t 0 first.seat.me.0 l.member.seat.me.0;
  holds : HasBoth (shows_of g.K.Keeper.holds) t l.member.seat.me;
  tables : seat_table l.member.seat.me.0.part t ≡ seat_table first.seat.me.0.part t;
  reading : l.member.seat.me.0.hands.reading ≡ first.seat.me.0.hands.reading;
}
