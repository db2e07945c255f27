use Rattle.std.proofs.Common.{◌∙◌, sym, ap, arith}
use Rattle.clog_disk.specs.InMemory.{state_of, back}
use Rattle.clog_disk.specs.InMemoryLaws.{none_left}
use Rattle.clog_disk.proofs.Past.{same_entries}
use Rattle.clog_disk.proofs.stored.past.files_at.Goals as goal

pub loop-n-init : goal.loop-n-init
loop-n-init c =
    let now = state_of c.args.files.now.entries in
    record {
      from = c.requires;
      within = omega arith;
      undone = ap state_of (same_entries _ _ c.in_ok-past.ensures.cases)
          ∙ sym (ap (λ us. back us now) (none_left c.args.undos.now));
    }
