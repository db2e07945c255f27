use Rattle.std.proofs.Common.{◌≡◌, ◌++◌, map}
use Rattle.clog_segments.specs.Named.{id_of}
use Rattle.clog_segments.proofs.naming.segment_ids.Given as goal

-- what was taken has its ids, and with what is left it is the whole
abbrev pub invariant-loop-place : goal.invariant-loop-place
invariant-loop-place l = record {
  can_next : (goal.iterator-loop-place).can_next l.place-iterator;
  is_finite : (goal.iterator-loop-place).is_finite l.place-iterator;
  parts : l.initial.place-iterator ≡ l.yielded ++ l.place-iterator;
  ids : l.ids.items ≡ map id_of l.yielded;
}
