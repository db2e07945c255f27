use Rattle.std.proofs.Common.{◌≡◌, ◌≤◌, ◌+◌, ◌*◌, length, vec_capacity}
use Rattle.std.specs.List.{All}
use Rattle.order_run.specs.Rounds.{HasMade, HasRead}
use Rattle.order_run.proofs.readers.read_all.Given as goal

-- the readers that are back, and those that are left
abbrev pub invariant-loop-part : goal.invariant-loop-part
invariant-loop-part g l = record {
  left : All (HasRead l.order.table.shared.table_id l.rounds) l.part-iterator.rest.items;
  count : l.part-iterator.rest.len ≡ length l.part-iterator.rest.items;
  back : All (HasMade l.order.table.shared.table_id l.rounds) l.back.items;
  room : length l.back.items + length l.part-iterator.rest.items ≤ vec_capacity l.back;
  reads : l.reads + length l.part-iterator.rest.items * l.rounds
      ≡ length l.fn.readers.items * l.rounds;
}
