use Rattle.std.proofs.Common.{◌<◌, subst}
use Rattle.std.specs.Prelude.{Contains}
use Rattle.clog_crash.specs.Log.{Write}
use Rattle.clog_segments.specs.Life.{State}
use Rattle.clog_segments.specs.StoreFolder.{IsSound}
use Rattle.clog_segments.proofs.section_log.SectionLog.id.Goals as goal

pub returns-clause-below : goal.returns-clause-below
returns-clause-below g c =
    subst (λ (s : State g.row.D.Denot). (w : Write) → Contains s.past w → w.id < s.id)
    c.self.view_is c.self.invariant.0.past_below

pub returns-clause-sound : goal.returns-clause-sound
returns-clause-sound g c =
    subst (λ (s : State g.row.D.Denot). IsSound s) c.self.view_is (record {
      below = c.self.invariant.0.past_below;
      past_stored = c.self.invariant.0.past_stored;
      stored = c.self.invariant.0.stored;
    })
