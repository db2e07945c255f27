-- The notes of a log are placed, as it is asked of entries where segments are looked for that may
-- go.
use Rattle.std.proofs.Common.{ℕ, ◌<◌, subst, arith}
use Rattle.std.specs.Prelude.{IsTrue}
use Rattle.std.proofs.lemmas.List.Elements.{Contains-append_left}
use Rattle.clog_spec.specs.Sizes.{most_tables}
use Rattle.clog_base.specs.declared.sizes.Sizes.{Sizes}
use Rattle.clog_base.proofs.Members.{all_have}
use Rattle.clog_mutation.specs.Stored.{IsStoredUpdate}
use Rattle.path_core.specs.declared.note.EntryNote.{EntryNote}
use Rattle.path_core.specs.Parts.{touches}
use Rattle.clog_due.specs.Dropping.{ArePlaced, IsPlaced}
use Rattle.clog_segments.specs.NoteLog.{IsGood, IsNoteLog, NoteState}

-- a whole note is of tables that there may be
pub table_low : (sizes : Sizes) (n : EntryNote) → IsGood sizes n → (t : ℕ)
    → IsTrue (touches n.tables t) → t < most_tables
table_low sizes n good t touched =
    let updates = (good.whole.tables t).0 touched in
    let stored = all_have IsStoredUpdate good.whole.mutation.updates updates.update
    good.whole.stored.updates updates.among in
    subst (λ (k : ℕ). k < most_tables) updates.table stored.table

pub placed_good : (sizes : Sizes) (n : EntryNote) → IsGood sizes n → IsPlaced n
placed_good sizes n good =
    let long = good.in_segment.long in
    let inside = good.in_segment.inside in
    let most = sizes.within.greatest_capacity in
    record { one_segment = omega (arith, long, inside, most); tables = table_low sizes n good }

pub logged_placed : {D : Type 0} (s : NoteState D) → IsNoteLog s → ArePlaced s.logged
logged_placed s is n among =
    placed_good s.sizes n (is.good n (Contains-append_left s.logged s.kept n among))
