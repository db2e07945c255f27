use Rattle.std.proofs.Common.{subst}
use Rattle.clog_segments.specs.Life.{State}
use Rattle.clog_segments.specs.StoreFolder.{IsSound}
use Rattle.clog_segments.proofs.section_log.SectionLog.fault_count.Goals as goal

pub returns-clause-sound : goal.returns-clause-sound
returns-clause-sound g c =
    subst (λ (s : State g.row.D.Denot). IsSound s) c.self.view_is (record {
      below = c.self.invariant.0.past_below;
      past_stored = c.self.invariant.0.past_stored;
      stored = c.self.invariant.0.stored;
    })
