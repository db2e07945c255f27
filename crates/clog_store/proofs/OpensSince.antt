-- Each image since the opening of a store can be opened.
use Rattle.std.proofs.Common.{◌≡◌, ℕ, inl, List, Option, Some, refl, ◌∙◌, ap, subst, arith}
use Rattle.std.specs.Prelude.{option_map}
use Rattle.clog_disk.specs.declared.change.Change.{Change}
use Rattle.clog_disk.specs.Files.{Files, bytes_at}
use Rattle.clog_disk.specs.Images.{IsLater}
use Rattle.clog_crash.specs.Log.{GoesOn, NoChances, Write}
use Rattle.clog_crash.specs.Readings.{Reading}
use Rattle.clog_crash.specs.Restore.{IsUndamaged}
use Rattle.clog_segments.specs.Life.{ShownSince}
use Rattle.clog_segments.specs.NoteLog.{IsNoteLog}
use Rattle.clog_segments.specs.StoreFolder.{IsSound, log_of}
use Rattle.clog_segments.specs.StoreImages.{MostSince, OpensSince}
use Rattle.clog_segments.specs.StoreState.{HasGrown, HoldsItButOne, StoreState, deeds_by}
use Rattle.clog_segments.proofs.Lived.{at_both}
use Rattle.clog_segments.proofs.MostOpens.{most_opens}
use Rattle.clog_segments.proofs.SegmentFiles.{of_a_store, of_none}
use Rattle.clog_store.proofs.SegmentLengths.{all_short}

module _ {D : Type 0} (files : D → Option Files) (changes : D → Option (List Change))
    (moment : D → ℕ) (since : D → ℕ → Files → Type 0) (read_at : D → ℕ → Option Reading)
    (lasted_at : D → ℕ → Type 0) (s : StoreState D) (opened : s.notes.log.opened ≡ moment s.first)
    (later : IsLater moment read_at lasted_at s.first s.notes.log.disk)
    (reads : read_at s.first (moment s.first) ≡ option_map bytes_at (files s.first))
    (shown : ShownSince files moment since read_at lasted_at s.first s.notes.log.disk
    s.notes.log.opened s.notes.log.past s.notes.log.id s.notes.log.sections) where
  undamaged : (first now : Files) → files s.first ≡ Some first
      → files s.notes.log.disk ≡ Some now → (image : Files)
      → since s.notes.log.disk s.notes.log.opened image → (log : List Write)
      → GoesOn s.notes.log.past s.notes.log.id s.notes.log.sections log → NoChances log image
      → IsUndamaged image
  undamaged first now at_first at_now image then_ log on none =
      let disk = s.notes.log.disk in
      let read : read_at disk s.notes.log.opened ≡ Some (bytes_at first) =
      ap (read_at disk) opened ∙ later.remembers (moment s.first) (omega arith) ∙ reads
      ∙ ap (option_map bytes_at) at_first in
      let shows = at_both (files disk) (read_at disk s.notes.log.opened) _ now (bytes_at first)
      shown at_now read s.notes.log.id (inl refl) in
      (shows.each image (subst (λ (t : ℕ). since disk t image) opened then_) log on none).undamaged

  pub opens_since : IsNoteLog s.notes → IsSound s.notes.log → HasGrown changes s.first s.notes.log
      → HoldsItButOne files s → MostSince files moment since s → OpensSince files moment since s
  opens_since noted sound growth left most first now at_first at_now can room low =
      let was = most first now at_first at_now in
      let begun = (left first now at_first at_now).holds.begun in
      let fits = s.notes.sizes.within.greatest_capacity in
      record {
        later = was.later;
        each = λ image then_ log on none.
            let opens = most_opens first image (log_of s.notes) (deeds_by s) can room (record {
              below = sound.below;
              low = low;
              short = λ w among.
                  let short = all_short s.notes noted sound changes s.first growth w among in
                  omega (arith, short, fits);
            }) (undamaged first now at_first at_now image then_ log on none)
            (was.each image then_) in (
              opens,
              of_a_store first image (log_of s.notes) (deeds_by s) log
                  (of_none first begun.no_segment) (was.each image then_) on none opens,
            );
      }
