-- The folder of a store stays its own: at its opening, and over a sync.
use Rattle.std.proofs.Common.{
  ◌≡◌,
  ℕ,
  Bool,
  true,
  false,
  List,
  [],
  ◌++◌,
  Option,
  Some,
  None,
  refl,
  sym,
  ◌∙◌,
  ap,
  subst,
  append-nil,
}
use Rattle.std.specs.Prelude.{Err, IfSome, OnErr, OnOk, Ok, Result, is_some, option_map}
use Rattle.std.specs.List.{Contains}
use Rattle.std.specs.FinMap as finmap
use Rattle.std.proofs.lemmas.Bool.{true≢false}
use Rattle.std.proofs.lemmas.Option.{none-some}
use base.Stored.{Gv}
use Rattle.clog_spec.specs.Names.{segment_name_of}
use Rattle.clog_base.specs.Positions.{ordinal_of}
use Rattle.clog_base.proofs.Members.{nothing_there}
use Rattle.clog_disk.specs.declared.change.Change.{Change}
use Rattle.clog_disk.specs.Files.{Files, SameTold, bytes_at}
use Rattle.clog_crash.specs.Readings.{Reading}
use Rattle.clog_crash.specs.Sections.{segment_bytes}
use Rattle.path_core.specs.declared.note.EntryNote.{EntryNote}
use Rattle.path_core.specs.Keeper.{MaySync}
use Rattle.clog_segments.specs.declared.written.StoreFault.{StoreFault}
use Rattle.clog_segments.specs.declared.written.StoreFault.TheVariants.{Stopped, OutOfMemory}
use Rattle.clog_segments.specs.Grows.{Writes}
use Rattle.clog_segments.specs.Life.{ReadsAs, StandsHere}
use Rattle.clog_segments.specs.NoteLog.{HasRefused, HasSynced, LeavesOthers, NoteState}
use Rattle.clog_segments.specs.Opened.{IsOpened, OpensAs}
use Rattle.clog_segments.specs.Stepped.{HasLogCause, StopsBy}
use Rattle.clog_segments.specs.StoreFolder.{
  HoldsStore,
  IsSound,
  fresh_log,
  no_deeds,
}
use Rattle.clog_segments.specs.StoreState.{
  HoldsIt,
  HoldsItButOne,
  IsStore,
  StoreState,
  deeds_by,
  holding_of,
}
use Rattle.clog_segments.specs.Torn.{StandsTorn}
use Rattle.clog_store.proofs.FolderBegins.{holds_opened}
use Rattle.clog_store.proofs.FolderFails.{fails_synced}
use Rattle.clog_store.proofs.FolderSyncs.{holds_notes_synced}
use Rattle.clog_segments.proofs.Lived.{at_told}
use Rattle.clog_store.proofs.NoteSynced.{run_writes}

-- at its opening
pub opened_folder : (old now : Option Files) (moment base : ℕ) (archives : Bool)
    → SameTold old now → OpensAs old now moment base → (f : Files) → now ≡ Some f
    → HoldsStore f (fresh_log base) (no_deeds archives) f
opened_folder None now moment base archives same opens f is =
    absurd (none-some f (sym same ∙ is))
opened_folder (Some h) now moment base archives same opens f is =
    holds_opened h f base moment (at_told now f (IsOpened h moment base) is opens) archives

-- a disk that tells its files now has told them before
pub some_told : (before now : Option Files) (made made_now : Option (List Change))
    (added : List Change) → is_some made ≡ is_some before → is_some made_now ≡ is_some now
    → made_now ≡ option_map (λ all. all ++ added) made → (g : Files) → now ≡ Some g
    → (f : Files) × (before ≡ Some f)
some_told (Some f) now made made_now added was tells is g here = (f, refl)
some_told None now None made_now added was tells is g here =
    absurd (true≢false (sym (ap is_some here) ∙ sym tells ∙ ap is_some is))
some_told None now (Some all) made_now added was tells is g here = absurd (true≢false was)

pub at_some : (o : Option Files) (P : Files → Type 0) (g : Files) → IfSome o P → o ≡ Some g → P g
at_some o P g holds is = subst (λ (x : Option Files). IfSome x P) is holds

module _ {D : Type 0} (files : D → Option Files) (changes : D → Option (List Change))
    (moment faults : D → ℕ) (read_at : D → ℕ → Option Reading) (lasted_at : D → ℕ → Type 0)
    (code : D → Gv) (tells : (d : D) → is_some (changes d) ≡ is_some (files d))
    (s : StoreState D) (n : NoteState D)
    (kept : IsStore files changes moment faults read_at lasted_at s)
    (writes : Writes changes s.notes.log n.log)
    (others : LeavesOthers s.notes.log n.log (files s.notes.log.disk) (files n.log.disk))
    (sound : IsSound n.log)
    (reads : n.log.is_stopped ≡ false → ReadsAs (files n.log.disk)
    (segment_name_of 6 n.log.id) (segment_bytes n.log.id n.log.sections))
    (torn : StandsHere files n.log) where
  abbrev Holds : Type 0
  Holds = HoldsIt files (record s { notes = n })

  pub folder_with : s.notes.log.is_stopped ≡ false → n.log.is_stopped ≡ false
      → (run : List EntryNote)
      → n.base ≡ s.notes.base → n.logged ≡ s.notes.logged ++ run
      → ((m : EntryNote) → Contains run m → Contains s.dropped (ordinal_of m.start.0) → ⊥) → Holds
  folder_with runs still run base_is logged_is stay first g is here =
      let was = some_told (files s.notes.log.disk) (files n.log.disk) (changes s.notes.log.disk)
      (changes n.log.disk) writes.added (tells s.notes.log.disk) (tells n.log.disk)
      writes.changes_are g here in
      let rest : LeavesOthers s.notes.log n.log (Some was.0) (Some g) =
      subst (λ (o : Option Files). LeavesOthers s.notes.log n.log (Some was.0) o) here
      (subst (λ (o : Option Files). LeavesOthers s.notes.log n.log o (files n.log.disk)) was.1
      others) in
      holds_notes_synced first was.0 g s.notes n (deeds_by s) run
      (kept.folder runs first was.0 is was.1) kept.sound sound rest
      (at_some (files n.log.disk)
      (λ f. bytes_at f (segment_name_of 6 n.log.id) ≡ segment_bytes n.log.id n.log.sections) g
      (reads still) here) base_is logged_is stay

  -- where the disk has failed, nothing was logged
  pub folder_failed : s.notes.log.is_stopped ≡ false → n.base ≡ s.notes.base
      → n.logged ≡ s.notes.logged → HoldsItButOne files (record s { notes = n })
  folder_failed runs base_is same first g is here =
      let was = some_told (files s.notes.log.disk) (files n.log.disk) (changes s.notes.log.disk)
      (changes n.log.disk) writes.added (tells s.notes.log.disk) (tells n.log.disk)
      writes.changes_are g here in
      let rest : LeavesOthers s.notes.log n.log (Some was.0) (Some g) =
      subst (λ (o : Option Files). LeavesOthers s.notes.log n.log (Some was.0) o) here
      (subst (λ (o : Option Files). LeavesOthers s.notes.log n.log o (files n.log.disk)) was.1
      others) in
      fails_synced first was.0 g s.notes n (deeds_by s) []
      (kept.folder runs first was.0 is was.1) kept.sound sound rest base_is
      (same ∙ sym (append-nil s.notes.logged)) (λ m among. absurd (nothing_there m among))
      (at_some (files n.log.disk) (λ f. StandsTorn n.log.id n.log.synced n.log.sections
      (finmap.get f (segment_name_of 6 n.log.id))) g torn here)

  module _ {T : Type 0} (upto : ℕ) (pending left : List EntryNote)
      (may : MaySync (holding_of files changes moment faults code s) upto pending) where
    pub folder_synced : (r : Result T StoreFault)
        → HasLogCause s.notes.log.is_stopped (faults s.notes.log.disk) (faults n.log.disk) r
        → StopsBy n.log.is_stopped r → OnOk r (HasSynced s.notes n upto pending left)
        → OnErr r (HasRefused s.notes n upto pending left) → n.log.is_stopped ≡ false → Holds
    folder_synced (Ok done) cause stops ok err still =
        folder_with cause.0 still ok.run (ap (λ (x : NoteState D). x.base) ok.log_is)
        (ap (λ (x : NoteState D). x.logged) ok.log_is)
        (λ m among. ((run_writes s.notes upto pending ok.run left ok.parted
        (holding_of files changes moment faults code s) may).each m among).not_dropped)
    folder_synced (Err OutOfMemory) cause stops ok err still =
        folder_with cause.0 still [] (ap (λ (x : NoteState D). x.base) err.log_is)
        (ap (λ (x : NoteState D). x.logged) err.log_is ∙ sym (append-nil s.notes.logged))
        (λ m among. absurd (nothing_there m among))
    folder_synced (Err Stopped) cause stops ok err still =
        absurd (true≢false (sym stops ∙ still))

    -- a sync that was refused since the disk has failed
    pub failed_synced : (r : Result T StoreFault) → StopsBy n.log.is_stopped r
        → OnErr r (HasRefused s.notes n upto pending left) → n.log.is_stopped ≡ true
        → s.notes.log.is_stopped ≡ false → HoldsItButOne files (record s { notes = n })
    failed_synced (Ok done) stops err stopped runs = absurd (true≢false (sym stopped ∙ stops))
    failed_synced (Err fault) stops err stopped runs =
        folder_failed runs (ap (λ (x : NoteState D). x.base) err.log_is)
        (ap (λ (x : NoteState D). x.logged) err.log_is)
