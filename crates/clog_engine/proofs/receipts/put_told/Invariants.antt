use Rattle.std.proofs.Common.{◌≡◌, ◌+◌, ◌*◌, ◌≤◌, ◌++◌, drop, vec_capacity, vec_len}
use Rattle.clog_engine.specs.Report.{longest_receipt, receipts_told}
use Rattle.clog_engine.proofs.receipts.put_told.Given as goal

-- what is put and the receipts that are left are all of them; each has taken at most the room of
-- the longest
abbrev pub invariant-loop-receipt : goal.invariant-loop-receipt
invariant-loop-receipt l = record {
  items : l.out.items ++ receipts_told (drop l.receipt-index l.told)
      ≡ l.fn.out.items ++ receipts_told l.told;
  len : vec_len l.out ≤ vec_len l.fn.out + longest_receipt * l.receipt-index;
  capacity : vec_capacity l.fn.out ≤ vec_capacity l.out;
}
