-- What `orders` does, and what it prints: an owner publishes values while readers read them.
use Rattle.std.specs.Prelude.{◌≡◌, ℕ, ◌*◌, List, ◌∷◌, ◌++◌, decimal, codes, Result}
use Rattle.std.specs.declared.result.Result.TheVariants as result
use Rattle.clog_applied.specs.Printed.{line}
use Rattle.order_run.specs.Rounds.{product_of}
use Rattle.clog_engine.specs.declared.status.Status.{Status}
use Rattle.clog_engine.specs.declared.status.Status.TheVariants.{OutOfMemory}
use Rattle.clog_engine.specs.Report.{numbered_line}

-- how many values were published, the last sequence and its value, how many operations the readers
-- made, and how many places were freed
abbrev pub totals_report : ℕ → ℕ → ℕ → ℕ → List ℕ
totals_report published last reads freed =
    numbered_line (codes "published") published
    ++ line (codes "last" ++ 32 ∷ decimal published ++ 32 ∷ decimal last)
    ++ numbered_line (codes "reads") reads
    ++ numbered_line (codes "freed") freed

-- Each reader makes an operation a round, and each place but the last root's is freed.
abbrev pub orders_report : ℕ → ℕ → List ℕ
orders_report readers rounds =
    totals_report rounds (product_of rounds) (readers * rounds) rounds

-- a report of so many readers and rounds; only memory can be missing
abbrev pub RunsOrders : ℕ → ℕ → Result (List ℕ) Status → Type 0
RunsOrders readers rounds (result.Ok report) = report ≡ orders_report readers rounds
RunsOrders readers rounds (result.Err status) = status ≡ OutOfMemory
