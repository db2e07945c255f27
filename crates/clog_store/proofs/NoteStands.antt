-- What stands in the log of what is kept, also where the disk has failed.
use Rattle.std.proofs.Common.{ℕ, ◌≤◌, List, length}
use Rattle.clog_base.specs.declared.sizes.Sizes.{Sizes}
use Rattle.path_core.specs.declared.note.EntryNote.{EntryNote}
use Rattle.clog_segments.specs.Life.{State}
use Rattle.clog_segments.specs.NoteLog.{IsHeld, Stands}
use Rattle.clog_store.specs.NoteSteps.{standing}

pub stands_by : {D : Type 0} (base : ℕ) (notes : List EntryNote) (sizes : Sizes) (synced : ℕ)
    (logged : List EntryNote) (log : State D) (written shown : ℕ) → shown ≤ length notes
    → IsHeld (standing sizes synced logged base log notes shown)
    → Stands (standing sizes synced logged base log notes written)
stands_by base notes sizes synced logged log written shown few h = record {
  shown = shown;
  no_more_shown = few;
  all = h.all;
  lasting = h.lasting;
  no_more = h.no_more;
  lasts = h.lasts;
}
