-- What a store's keeper may put is true of its folder, and what is due may go there.
use Rattle.std.proofs.Common.{
  ◌≡◌,
  ℕ,
  ◌+◌,
  ◌<◌,
  Bool,
  List,
  take,
  None,
  Contains,
  refl,
  sym,
  ap,
  subst,
  ◌∙◌,
  inl,
  inr,
  arith,
}
use Rattle.std.specs.Prelude.{◌&&◌, true}
use Rattle.std.specs.FinMap as finmap
use Rattle.std.proofs.lemmas.Bool.{eq-eqb}
use Rattle.clog_spec.specs.Names.{table_name_of}
use Rattle.clog_base.specs.declared.position.Position.{Position}
use Rattle.clog_base.specs.Positions.{IsUpTo, ordinal_of, position_of}
use Rattle.clog_disk.specs.Files.{Files}
use Rattle.clog_scan.specs.Cut.{Section}
use Rattle.clog_crash.specs.Changes.{AreCovered, IsTrueOf}
use Rattle.clog_crash.specs.Flush.{IsCovered}
use Rattle.clog_crash.specs.Readings.{Reading}
use Rattle.clog_crash.specs.Rest.{IsBeyond, settled}
use Rattle.path_core.specs.declared.note.EntryNote.{EntryNote}
use Rattle.path_core.specs.Droppable.{is_of}
use Rattle.path_core.specs.Keeper.{Holding, IsDue, MayPublish, PutFile}
use Rattle.path_core.specs.Parts.{touches}
use Rattle.clog_due.specs.Dropping.{AreDue}
use Rattle.clog_segments.specs.NoteLog.{HasLog, IsNoteLog, NoteState}
use Rattle.clog_segments.specs.OnDisk.{IsAllOnDisk, file_on}
use Rattle.clog_segments.specs.Publishes.{IsTrueHere}
use Rattle.clog_segments.specs.StoreFolder.{
  EndsWithin,
  HoldsStore,
  IsPast,
  IsSound,
  MayBeDropped,
  deeds_of,
  log_of,
}
use Rattle.clog_segments.proofs.FolderReads.{all_on_disk}
use Rattle.clog_due.proofs.NotePast.{past_of}
use Rattle.clog_segments.proofs.OnDisk.{due_is_covered, published_is_true}

-- a place behind which the interval of a file ends is not beyond what lasts
up_to_within : (id : ℕ) (old : List Section) (at end : Position) → EndsWithin id old end
    → IsUpTo at end → IsBeyond id old at → ⊥
up_to_within id old at end within up_to beyond =
    let reach : EndsWithin id old at =
    elim within [
      | inl low ↦ elim up_to [
        | inl lower ↦ inl (omega (arith, low, lower))
        | inr same ↦ inl (omega (arith, low, same.0))
      ]
      | inr here ↦ elim up_to [
        | inl lower ↦ inl (omega (arith, here.0, lower))
        | inr same ↦ inr (omega (arith, here.0, same.0), omega (arith, here.1, same.1))
      ]
    ] in
    elim reach [
      | inl low ↦ elim beyond [
        | inl here ↦ omega (arith, low, here.0)
        | inr later ↦ omega (arith, low, later.0)
      ]
      | inr same ↦ elim beyond [
        | inl here ↦ omega (arith, same.1, here.1)
        | inr later ↦ omega (arith, same.0, later.0)
      ]
    ]

module _ {D : Type 0} (first f : Files) (s : NoteState D) (h : Holding)
    (holds : HoldsStore first (log_of s) (deeds_of h) f) (sound : IsSound s.log)
    (is : IsNoteLog s) (has : HasLog s h) where
  abbrev old : List Section
  old = take s.log.synced s.log.sections

  abbrev r : Reading
  r = settled f s.log.id old

  all : IsAllOnDisk h r
  all =
      all_on_disk first f s (deeds_of h) holds sound.below sound.stored.fits sound.past_stored
      sound.stored is h has refl

  -- ---- segments

  -- what is due may be dropped
  pub may_be_dropped : (closed : ℕ) (ordinals : List ℕ) → AreDue h closed ordinals
      → ((o : ℕ) → Contains ordinals o → s.base + o < s.log.id)
      → MayBeDropped (log_of s) (deeds_of h) ordinals
  may_be_dropped closed ordinals due low = record {
    past = λ o listed.
        let may = ((due.exact o).0 listed).1 in
        let among = subst (λ (l : List EntryNote). Contains l may.note) has.logged_are may.among in
        subst (IsPast (log_of s)) may.here
        (past_of s is may.note among (subst (λ (k : ℕ). s.base + k < s.log.id) (sym may.here)
        (low o listed)));
    stays = λ o listed. ((due.exact o).0 listed).2;
    filed = λ o listed n among here t touched.
        let may = ((due.exact o).0 listed).1 in
        let held = subst (λ (l : List EntryNote). Contains l n) (sym has.logged_are) among in
        let of : is_of o t n ≡ true =
        ap (λ (b : Bool). b && touches n.tables t) (eq-eqb (ordinal_of n.start.0) o here)
        ∙ touched in
        may.filed t n n held held of of n.end.0 (omega arith) (omega arith);
    ascending = due.ascending;
  }

  -- table files stand for all its cells
  pub covered_due : (closed o : ℕ) → IsDue h closed o → s.base + o < s.log.id
      → IsCovered f s.log.id old (s.base + o)
  covered_due closed o due low = record {
    below = low;
    covered = subst (λ (b : ℕ). AreCovered r (b + o)) has.base_is
        (due_is_covered h r closed o all.on_disk due);
  }

  -- ---- table files

  -- what may be put is true of what lasts
  pub true_here : (put : PutFile) (sequence : ℕ) → MayPublish h put
      → finmap.get f (table_name_of put.table sequence) ≡ None
      → EndsWithin s.log.id old (position_of s.base put.upper)
      → IsTrueHere f s.log.id old (file_on s.base put) sequence
  true_here put sequence may free within = record {
    free = free;
    is_true = subst (λ (b : ℕ). IsTrueOf r (file_on b put)) has.base_is
        (published_is_true h put r all may);
    below = λ at inside beyond.
        up_to_within s.log.id old at (position_of s.base put.upper) within inside.up_to beyond;
  }
