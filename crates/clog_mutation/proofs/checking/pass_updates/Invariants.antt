use Rattle.std.proofs.Common.{◌≡◌, ◌-◌}
use Rattle.clog_mutation.specs.Reading.{passed, updates_at}
use Rattle.clog_mutation.proofs.checking.pass_updates.Given as goal

abbrev pub invariant-loop : goal.invariant-loop
invariant-loop l =
    passed (updates_at l.end (l.count - l.counter) l.rest) ≡ passed (updates_at l.end l.count
    l.bytes)
