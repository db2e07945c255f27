use Rattle.write_path.proofs.seats.WritePath.give.Goals as goal

pub give_flush_turn-requires-clause-holds : goal.give_flush_turn-requires-clause-holds
give_flush_turn-requires-clause-holds g c = c.args.seat.flushes c.in-Flush.table c.in-Flush.is
