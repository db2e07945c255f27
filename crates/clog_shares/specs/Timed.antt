-- Writers in periodic mode: behind each of its writes a writer asks the clock, and where the period
-- has passed since it last had the log synced it has it synced before its next one. Moments and
-- periods are in ms.
use Rattle.std.specs.Prelude.{◌≡◌, ◌⊎◌, ℕ, List, [], ◌∷◌, map, Option, Some, None}
use Rattle.std.specs.List.{Contains}
use Rattle.sync_core.specs.declared.SyncCore.{SyncCore}
use Rattle.sync_core.specs.Due.{IsDue}
use Rattle.path_core.specs.declared.note.EntryNote.{EntryNote}
use Rattle.path_rule.specs.declared.view.OwnStep.{OwnStep}
use Rattle.path_rule.specs.Rule.{event_of}
use Rattle.path_table.specs.declared.trying.PathSeat.{PathSeat}
use Rattle.path_table.specs.Members.{part_of, view_of}
use Rattle.write_path.specs.Commits.{WritesEndBelow}
use Rattle.path_flush.specs.OwnWrites.{writes_of}
use Rattle.write_path.specs.Ends.{IsLast}
use Rattle.path_flush.specs.Grown.{HasGrown}
use Rattle.write_path.specs.Sealed.{IsSealed}
use Rattle.clog_shares.specs.declared.fault.WriteFault.{WriteFault}
use Rattle.clog_shares.specs.declared.worker.Worker.{Worker}

-- ---- by a write

-- Behind a write the clock told a moment. Where a sync was due at it, since `last`, the write was
-- sealed while it was the seat's last, and the next period runs from that moment; else the period
-- runs on.
abbrev pub IsTimed : (ℕ → Type 0) → SyncCore → ℕ → EntryNote → List OwnStep → ℕ → Type 0
IsTimed tells mode last n trail next = (moment : ℕ) × tells moment
    × ((IsDue mode moment last 0 × (next ≡ moment) × IsSealed n trail)
    ⊎ ((IsDue mode moment last 0 → ⊥) × (next ≡ last)))

-- A seat's list has one write more, which is so.
pub record TimesWrite (tells : ℕ → Type 0) (mode : SyncCore) (last : ℕ)
    (before after : List OwnStep) (next : ℕ) : Type 0 where
  pub note : EntryNote
  pub list : writes_of after ≡ note ∷ writes_of before
  pub grown : HasGrown before after
  pub timed : IsTimed tells mode last note after next

-- Each of a seat's writes is so, the newest first: the first period of the oldest one ran from
-- `since`, and that of the write to come runs from `last`.
abbrev pub AreTimed : (ℕ → Type 0) → SyncCore → ℕ → List EntryNote → List OwnStep → ℕ → Type 0
AreTimed tells mode since [] trail last = last ≡ since
AreTimed tells mode since (n ∷ earlier) trail last = (then : ℕ)
    × AreTimed tells mode since earlier trail then × IsTimed tells mode then n trail last

-- ---- by a seat

module _ {K : Type 0} where
  -- the seat knows that all that it has logged is lasting
  abbrev pub KnowsSynced : PathSeat K → Type 0
  KnowsSynced s = (key : ℕ) × ((part_of s.member).found.synced ≡ Some key)
      × WritesEndBelow key (view_of s.member).trail

  -- the write that was the seat's last is sealed
  abbrev pub SealsLast : PathSeat K → PathSeat K → Type 0
  SealsLast before after = (n : EntryNote) → Contains (writes_of (view_of before.member).trail) n
      → IsLast n (map event_of (view_of before.member).trail)
      → IsSealed n (view_of after.member).trail

  -- A sync was due at a moment and was made, from which the next period runs: unless it was refused
  -- the seat knows of it.
  pub record HasSynced (moment : ℕ) (before after : PathSeat K) (next : ℕ)
      (fault : Option WriteFault) : Type 0 where
    pub next_is : next ≡ moment
    pub synced : fault ≡ None → KnowsSynced after
    pub seals : fault ≡ None → SealsLast before after

  -- No sync was made: the seat is as it was, and the period runs on.
  pub record HasNotSynced (last : ℕ) (before after : PathSeat K) (next : ℕ)
      (fault : Option WriteFault) : Type 0 where
    pub next_is : next ≡ last
    pub seat_is : after ≡ before
    pub none_refused : fault ≡ None

  -- The clock told a moment, and a sync was made exactly where one was due at it, since `last`.
  abbrev pub SyncsWhenDue : (ℕ → Type 0) → SyncCore → ℕ → PathSeat K → PathSeat K → ℕ
      → Option WriteFault → Type 0
  SyncsWhenDue tells mode last before after next fault = (moment : ℕ) × tells moment
      × ((IsDue mode moment last 0 × HasSynced moment before after next fault)
      ⊎ ((IsDue mode moment last 0 → ⊥) × HasNotSynced last before after next fault))

  -- each write of the seat was followed by a sync where its period had passed, the first of which
  -- ran from `since`
  abbrev pub HasTimed : (ℕ → Type 0) → SyncCore → ℕ → PathSeat K → Type 0
  HasTimed tells mode since s = (last : ℕ) × AreTimed tells mode since
      (writes_of (view_of s.member).trail) (view_of s.member).trail last

  -- a worker's seat, where nothing was refused
  abbrev pub TimesShare : (ℕ → Type 0) → SyncCore → ℕ → Worker K → Type 0
  TimesShare tells mode since w =
      w.fault ≡ None → (s : PathSeat K) → w.seat ≡ Some s → HasTimed tells mode since s

  abbrev pub TimeShares : (ℕ → Type 0) → SyncCore → ℕ → List (Worker K) → Type 0
  TimeShares tells mode since workers =
      (w : Worker K) → Contains workers w → TimesShare tells mode since w
