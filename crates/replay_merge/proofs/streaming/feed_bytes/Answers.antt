use Rattle.std.proofs.Common.{arith}
use Rattle.replay_merge.proofs.streaming.feed_bytes.Goals as goal

pub returns-in-Ok : goal.returns-in-Ok
returns-in-Ok c = record {
  feeds = c.in-Ok.ensures.given;
  bytes = λ i. omega (arith, c.type_inv.piece i);
}
