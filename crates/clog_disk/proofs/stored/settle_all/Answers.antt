use Rattle.std.proofs.Common.{inr, sym, ap}
use Rattle.clog_disk.specs.InMemory.{state_of}
use Rattle.clog_disk.proofs.Past.{same_entries}
use Rattle.clog_disk.proofs.stored.settle_all.Goals as goal

pub returns-clause-steps : goal.returns-clause-steps
returns-clause-steps c =
    inr (
      _,
      c.in_ok-push.ensures.items,
      ap state_of (same_entries _ _ c.in_ok-clone.ensures.cases),
    )
