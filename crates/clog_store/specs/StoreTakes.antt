-- Where a log stands for what comes next: no further than what a keeper may be asked to write. A
-- log that stood in a later segment would have to refuse it.
use Rattle.std.specs.Prelude.{◌≡◌, ◌⊎◌, ℕ, ◌+◌, false, List, drop, Contains, Result, Ok, Err}
use Rattle.path_core.specs.declared.note.EntryNote.{EntryNote}
use Rattle.path_core.specs.Keeper.{Holding, IsDue, MayWrite}
use Rattle.clog_segments.specs.NoteLog.{BeginsFrom, HasLog, NoteState}
use Rattle.clog_due.specs.StoreDrops.{HasBeside}
use Rattle.clog_segments.specs.StoreState.{StoreState}

-- ---- a log of notes

-- Of all that a keeper with this log may be asked to write, where these segments were dropped, what
-- does not stand in the log's sections begins in the segment at hand or in a later one.
abbrev pub TakesMore : {D : Type 0} → NoteState D → List ℕ → Type 0
TakesMore s dropped =
    (h : Holding) → HasLog s h → h.dropped ≡ dropped → (upto : ℕ) (run : List EntryNote)
    → MayWrite h upto run → BeginsFrom s.base s.log.id (drop s.written run)

-- So it is still, unless the disk has failed, whatever was dropped.
abbrev pub StillTakes : {D : Type 0} → NoteState D → NoteState D → Type 0
StillTakes before now =
    (dropped : List ℕ) → TakesMore before dropped → now.log.is_stopped ≡ false
    → TakesMore now dropped

-- The log stands where it did, or in the segment behind that, which is one of these.
abbrev pub StandsBehind : {D : Type 0} → NoteState D → NoteState D → List ℕ → Type 0
StandsBehind before now ordinals =
    (now.log.id ≡ before.log.id)
    ⊎ ((o : ℕ) × Contains ordinals o × (before.base + o ≡ before.log.id)
    × (now.log.id ≡ before.log.id + 1))

-- ---- a store

-- the same of a store's log and the segments that it dropped
abbrev pub TakesNext : {D : Type 0} → StoreState D → Type 0
TakesNext s = TakesMore s.notes s.dropped

abbrev pub GoesOnTaking : {D : Type 0} → StoreState D → StoreState D → Type 0
GoesOnTaking before now =
    TakesNext before → now.notes.log.is_stopped ≡ false → TakesNext now

-- The segment at hand is due.
pub record HasDueAtHand {D : Type 0} (s : StoreState D) (closed : ℕ) : Type 0 where
  pub ordinal : ℕ
  pub at_hand : s.notes.base + ordinal ≡ s.notes.log.id
  pub due : (h : Holding) → HasBeside s.notes s.files s.dropped h → IsDue h closed ordinal

-- Once all that was due was dropped; where that was refused, unless the segment at hand was due.
abbrev pub TakesBehind : {D E : Type 0} → StoreState D → StoreState D → ℕ → Result ℕ E → Type 0
TakesBehind before now closed (Ok count) = TakesNext before → TakesNext now
TakesBehind before now closed (Err fault) =
    (HasDueAtHand before closed → ⊥) → GoesOnTaking before now
