use Rattle.std.proofs.Common.{refl, arith}
use Rattle.replay_merge.proofs.restoring.restored_of.Goals as goal

pub add_tables-requires : goal.add_tables-requires
add_tables-requires c = c.requires.1.taken.taken.cells.ordered

pub returns : goal.returns
returns c = λ items done. record {
  good = done.good;
  picks = done.picks;
  log = done.taken.log;
  say = done.taken.say;
  merged = c.args.piped.merged;
  taken = done.taken.taken;
  cells = c.in_ok-add_tables.ensures;
  segments = grind arith;
  tables_are = grind arith;
  entries = done.entries;
  updates = refl;
  skipped = refl;
}
