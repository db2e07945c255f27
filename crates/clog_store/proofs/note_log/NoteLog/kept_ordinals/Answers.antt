use Rattle.std.proofs.Common.{ℕ, Contains, subst}
use Rattle.std.specs.Prelude.{◌↔◌}
use Rattle.clog_segments.specs.NoteLog.{NoteState}
use Rattle.clog_due.specs.Dropping.{HasEntry}
use Rattle.clog_store.proofs.note_log.NoteLog.kept_ordinals.Goals as goal

pub returns-clause-kept : goal.returns-clause-kept
returns-clause-kept g c =
    subst (λ (s : NoteState g.row.D.Denot). (o : ℕ) → Contains c.ordinals.result.now o
    ↔ HasEntry s.kept o) c.self.view_is c.ordinals.ensures
