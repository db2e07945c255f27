use Rattle.std.proofs.Common.{◌≡◌, ◌+◌, ◌≤◌, ◌++◌}
use Rattle.std.specs.LinkedList.{linked_list_len}
use Rattle.std.specs.Prelude.{vec_len, vec_capacity}
use Rattle.path_table.proofs.lending.move_all.Given as goal

-- what has moved and what is left are the whole, and there is room for the rest
abbrev pub invariant-loop : goal.invariant-loop
invariant-loop l = record {
  whole : l.lent.items ++ l.gathered ≡ l.fn.lent.items ++ l.fn.gathered;
  left : linked_list_len l.gathered + l.counter ≡ l.count;
  room : vec_len l.lent + linked_list_len l.gathered ≤ vec_capacity l.lent;
}
