-- What a call of its log of notes tells of a store, as its caller saw it: `s` is the store inside
-- the call, `seen` the same store before it.
use Rattle.std.proofs.Common.{
  ◌≡◌,
  ℕ,
  ◌<◌,
  ◌^◌,
  true,
  false,
  List,
  Option,
  sym,
  ◌∙◌,
  ap₂,
  subst,
}
use Rattle.std.specs.Prelude.{Result}
use base.Stored.{Gv}
use Rattle.clog_base.specs.declared.cell.Cell.{Cell}
use Rattle.clog_base.specs.declared.cell.CellKey.{CellKey}
use Rattle.clog_disk.specs.declared.change.Change.{Change}
use Rattle.clog_disk.specs.Files.{Files}
use Rattle.clog_crash.specs.Readings.{Reading}
use Rattle.path_core.specs.declared.keeper.KeeperFault.{KeeperFault}
use Rattle.path_core.specs.Keeper.{HasKeeperCause, Holding, MayPublish}
use Rattle.clog_segments.specs.declared.publishing.Published.{Published}
use Rattle.clog_segments.specs.declared.written.StoreFault.{StoreFault}
use Rattle.clog_segments.specs.NoteLog.{IsNoteLog, NoteState}
use Rattle.clog_segments.specs.Publishes.{IsNextSequence}
use Rattle.clog_segments.specs.Stepped.{HasLogCause, IsQuiet, Passes, StopsBy}
use Rattle.clog_segments.specs.StoreState.{
  HasMoved,
  HasReached,
  IsStore,
  StoreState,
  holding_of,
  put_of,
  told_as,
}
use Rattle.clog_store.specs.StoreTakes.{GoesOnTaking, StillTakes}
use Rattle.clog_store.proofs.NoteTakes.{passed_id, takes_moved}
use Rattle.clog_store.proofs.StoreKept.{keeper_cause, rose_of}
use Rattle.clog_store.proofs.StorePuts.{quiet_on}

-- its lists, where memory was taken for more
pub lists_same : {D : Type 0} (s : StoreState D) {dropped archived : List ℕ} → dropped ≡ s.dropped
    → archived ≡ s.archived → record s { dropped = dropped; archived = archived } ≡ s
lists_same s dropped_is archived_is = λ j. record s {
  dropped = dropped_is j;
  archived = archived_is j;
}

-- what its path is told, by the counts of faults that it has in mind
pub told_is : {T : Type 0} {at_open first count now : ℕ} (r : Result T StoreFault)
    {result : Result T KeeperFault} → result ≡ told_as at_open count r → at_open ≡ first
    → count ≡ now → result ≡ told_as first now r
told_is r is opened counted = is ∙ ap₂ (λ (a b : ℕ). told_as a b r) opened counted

module _ {D : Type 0} {s seen : StoreState D} (view : s ≡ seen) (n : NoteState D) where
  abbrev Now : StoreState D
  Now = record s { notes = n }

  pub moved_seen : n ≡ record s.notes { log = n.log } → HasMoved seen Now
  moved_seen same =
      subst (λ (x : StoreState D). HasMoved x Now) view (λ i. record s { notes = same i })

  pub stays_seen : (s.notes.log.is_stopped ≡ true → n ≡ s.notes)
      → seen.notes.log.is_stopped ≡ true → Now ≡ seen
  stays_seen stays was =
      (λ j. record s {
        notes = stays (subst (λ (x : StoreState D). x.notes.log.is_stopped ≡ true) (sym view) was)
            j;
      }) ∙ view

  pub takes_seen : StillTakes s.notes n → GoesOnTaking seen Now
  takes_seen takes =
      subst (λ (x : StoreState D). GoesOnTaking x Now) view (takes s.dropped)

  -- of a call that only touches its disk
  pub takes_passed : {T : Type 0} (r : Result T StoreFault) → Passes s.notes.log n.log r
      → n ≡ record s.notes { log = n.log } → GoesOnTaking seen Now
  takes_passed r passes same =
      takes_seen (λ dropped takes still. takes_moved s.notes n dropped same
      (passed_id s.notes.log n.log r passes) takes)

  module _ (faults : D → ℕ) {T : Type 0} (r : Result T StoreFault)
      (cause : HasLogCause s.notes.log.is_stopped (faults s.notes.log.disk) (faults n.log.disk) r)
      (stops : StopsBy n.log.is_stopped r) where
    pub quiet_seen : IsQuiet faults seen.notes.log n.log
    quiet_seen =
        subst (λ (x : StoreState D). IsQuiet faults x.notes.log n.log) view
        (quiet_on faults s.notes.log n.log r cause stops)

    module _ (files : D → Option Files) (changes : D → Option (List Change)) (moment : D → ℕ)
        (read_at : D → ℕ → Option Reading) (lasted_at : D → ℕ → Type 0) (code : D → Gv)
        (kept : IsStore files changes moment faults read_at lasted_at s) where
      abbrev Held : StoreState D → Holding
      Held x = holding_of files changes moment faults code x

      pub cause_seen : faults n.log.disk < 2 ^ 64 → {result : Result T KeeperFault}
          → result ≡ told_as (faults s.first) (faults n.log.disk) r
          → HasKeeperCause (Held seen) (Held Now) result
      cause_seen fits {result} says =
          subst (λ (x : StoreState D). HasKeeperCause (Held x) (Held Now) result) view
          (subst (HasKeeperCause (Held s) (Held Now)) (sym says)
          (keeper_cause (Held s) (Held Now) r cause stops
          (rose_of files changes moment faults read_at lasted_at s n kept r cause stops) fits))

-- what a put of a table file is asked
module _ {D : Type 0} (files : D → Option Files) (changes : D → Option (List Change))
    (moment faults : D → ℕ) (code : D → Gv) where
  abbrev Asked : StoreState D → Published → List (CellKey × Cell) → ℕ → Type 0
  Asked s file cells sequence =
      MayPublish (holding_of files changes moment faults code s) (put_of file cells)
      × (s.notes.log.is_stopped ≡ false) × IsNoteLog s.notes
      × IsNextSequence (files s.notes.log.disk) file.table sequence
      × HasReached s.notes file.upper.0

  pub asked_inside : {s seen : StoreState D} → s ≡ seen → (file : Published)
      (cells : List (CellKey × Cell)) (sequence : ℕ) → Asked seen file cells sequence
      → Asked s file cells sequence
  asked_inside view file cells sequence =
      subst (λ (x : StoreState D). Asked x file cells sequence) (sym view)
