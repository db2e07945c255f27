use Rattle.std.proofs.Common.{◌≡◌, length}
use Rattle.clog_writers.proofs.Slots.{PlacedTo}
use Rattle.clog_writers.proofs.placing.place_receipts.Given as goal

abbrev pub invariant-loop-note : goal.invariant-loop-note
invariant-loop-note l = record {
  long : length l.receipts ≡ length l.fn.receipts;
  placed : PlacedTo l.base l.notes l.note-index l.receipts;
}
