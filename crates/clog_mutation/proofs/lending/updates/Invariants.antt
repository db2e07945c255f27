use Rattle.std.proofs.Common.{◌≡◌, ◌-◌, map}
use Rattle.clog_mutation.specs.Lent.{update_lent}
use Rattle.clog_mutation.specs.Reading.{updates_at}
use Rattle.clog_mutation.proofs.Loop.{with_front}
use Rattle.clog_mutation.proofs.lending.updates.Given as goal

abbrev pub invariant-loop : goal.invariant-loop
invariant-loop l =
    with_front (map update_lent l.updates.items) (updates_at l.end (l.count - l.counter) l.rest)
    ≡ updates_at l.end l.count l.bytes
