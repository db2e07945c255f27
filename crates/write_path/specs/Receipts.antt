-- What a commit answers, and what is so then of its seat and of the seat's list.
use Rattle.std.specs.Prelude.{◌≡◌, ℕ, ◌≤◌, List, length, Some}
use Rattle.clog_base.specs.declared.sizes.Sizes.{Sizes}
use Rattle.clog_base.specs.Positions.{position_of}
use Rattle.clog_mutation.specs.declared.mutation.Mutation.{Mutation}
use Rattle.path_core.specs.declared.event.Cursor.TheVariants.{Stopped as StoppedCursor}
use Rattle.path_core.specs.declared.event.Place.TheVariants.{CursorWord}
use Rattle.path_core.specs.declared.note.EntryNote.{EntryNote}
use Rattle.path_core.specs.Keeper.{HasRisen}
use Rattle.path_rule.specs.declared.answer.SyncAnswer.{SyncAnswer}
use Rattle.path_rule.specs.declared.answer.SyncAnswer.TheVariants.{Done, Stopped, OutOfMemory}
use Rattle.path_rule.specs.declared.view.OwnStep.{OwnStep}
use Rattle.path_rule.specs.declared.view.PathSize.{PathSize}
use Rattle.path_rule.specs.declared.view.View.{View}
use Rattle.sync_core.specs.declared.SyncCore.{SyncCore}
use Rattle.sync_core.specs.declared.SyncCore.TheVariants.{Batch, Periodic}
use Rattle.write_path.specs.declared.commit.Commit.{Commit}
use Rattle.write_path.specs.declared.commit.Commit.TheVariants.{Logged, Durable, Unsynced, Spent}
use Rattle.write_path.specs.declared.commit.Receipt.{Receipt}
use Rattle.write_path.specs.declared.commit.SyncFault.{SyncFault}
use Rattle.write_path.specs.declared.commit.SyncFault.TheVariants.{Stopped as LogStopped}
use Rattle.write_path.specs.declared.commit.SyncFault.TheVariants.{OutOfMemory as NoMemory}
use Rattle.write_path.specs.declared.prepared.Prepared.{Prepared}
use Rattle.write_path.specs.Commits.{HasNoRoom, IsLogged}
use Rattle.path_flush.specs.OwnWrites.{writes_of}
use Rattle.path_flush.specs.FlushSteps.{RetiresNone, SwitchesNone}
use Rattle.path_flush.specs.Grown.{HasGrown}
use Rattle.write_path.specs.Sealed.{FoundWhileLast, IsSealed}
use Rattle.write_path.specs.Syncs.{Syncs, CoversList}
use Rattle.write_path.specs.Writes.{IsPrepared}

-- It is the line of what was prepared.
abbrev pub IsLineOf : Prepared → ℕ → Type 0
IsLineOf prepared n = (sizes : Sizes) (line : ℕ) (m : Mutation)
    → IsPrepared sizes line m prepared → n ≡ line

-- Seat w logged the write: its list is the old one and this write, which the receipt tells by its
-- line and by the position of its end.
pub record HasReceipt (base w : ℕ) (before : List OwnStep) (prepared : Prepared) (r : Receipt)
    (after : List OwnStep) : Type 0 where
  pub start : ℕ
  pub end : ℕ
  pub logged : IsLogged before w start end prepared after
  pub position : r.position ≡ position_of base end
  pub line : IsLineOf prepared r.line

-- The seat found or put a synced key at or above this end, and at or above that of each other write
-- of its list.
pub record IsDurable (end : ℕ) (v : View) : Type 0 where
  pub synced : ℕ
  pub found : v.part.found.synced ≡ Some synced
  pub reached : end ≤ synced
  pub covers : CoversList (Done synced) v

-- Why it was not synced, where `opened` is the keeper's count of faults at its opening. The seat
-- found or put the count with which the log is stopped, and it has risen; or memory was refused.
abbrev pub IsUnsynced : ℕ → SyncFault → View → Type 0
IsUnsynced opened (LogStopped at_open now) v = (at_open ≡ opened) × HasRisen at_open now
    × (v.part.found.stopped ≡ Some now)
IsUnsynced opened NoMemory v = Unit {0}

-- The seat found so, or put it there, in this commit: behind the write, which was its last.
abbrev pub IsToldBehind : EntryNote → SyncFault → List OwnStep → Type 0
IsToldBehind n (LogStopped at_open now) trail =
    FoundWhileLast n (CursorWord StoppedCursor) now trail
IsToldBehind n NoMemory trail = Unit {0}

-- What a commit by seat w answers in a mode. A write waits for a sync in batch mode alone. Durable:
-- it is sealed, so a marker stands behind it before the seat's next one. Spent: it comes back,
-- the list is as it was, and the key was found in this call. In each case the seat's trail has
-- grown by steps that retire no memtable, and switch none.
abbrev pub IsCommitted : SyncCore → PathSize → ℕ → List OwnStep → Prepared → Commit → View → Type 0
IsCommitted (Periodic period) size w before p (Logged r) v =
    HasReceipt size.base w before p r v.trail
IsCommitted Batch size w before p (Logged r) v = ⊥
IsCommitted (Periodic period) size w before p (Durable r) v = ⊥
IsCommitted Batch size w before p (Durable r) v =
    (h : HasReceipt size.base w before p r v.trail) × IsDurable h.end v
    × IsSealed h.logged.listed.note v.trail
IsCommitted (Periodic period) size w before p (Unsynced r fault) v = ⊥
IsCommitted Batch size w before p (Unsynced r fault) v =
    (h : HasReceipt size.base w before p r v.trail) × IsUnsynced size.at_open fault v
    × IsToldBehind h.logged.listed.note fault v.trail
IsCommitted mode size w before p (Spent back key) v = (back ≡ p)
    × (writes_of v.trail ≡ writes_of before) × HasNoRoom size p.size (length before) key.0 v
    × (g : HasGrown before v.trail) × RetiresNone g.newer × SwitchesNone g.newer

-- the answer of a sync to a write that it did not make lasting
abbrev pub told_by : SyncFault → SyncAnswer
told_by (LogStopped at_open now) = Stopped at_open now
told_by NoMemory = OutOfMemory

-- What a sync behind a write with this receipt makes of it, from one view of the seat to another.
abbrev pub Acknowledges : ℕ → ℕ → View → Receipt → Commit → View → Type 0
Acknowledges w opened v r (Logged x) after = ⊥
Acknowledges w opened v r (Durable x) after = (x ≡ r) × ((s : ℕ) × Syncs w opened v (Done s) after)
Acknowledges w opened v r (Unsynced x fault) after =
    (x ≡ r) × Syncs w opened v (told_by fault) after
Acknowledges w opened v r (Spent back key) after = ⊥
