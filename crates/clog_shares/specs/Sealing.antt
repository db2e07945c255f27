-- Writers in batch mode: behind each of a seat's entries stands a marker, before its next one.
use Rattle.std.specs.Prelude.{◌≡◌, List, ◌∷◌, Some}
use Rattle.std.specs.List.{Contains}
use Rattle.path_core.specs.declared.note.EntryNote.{EntryNote}
use Rattle.path_rule.specs.declared.view.OwnStep.{OwnStep}
use Rattle.path_table.specs.declared.trying.PathSeat.{PathSeat}
use Rattle.path_table.specs.Members.{view_of}
use Rattle.path_flush.specs.OwnWrites.{writes_of}
use Rattle.write_path.specs.Sealed.{IsSealed}
use Rattle.clog_shares.specs.declared.worker.Worker.{Worker}

-- each write of a seat with this trail is sealed
abbrev pub IsAllSealed : List OwnStep → Type 0
IsAllSealed trail = (n : EntryNote) → Contains (writes_of trail) n → IsSealed n trail

-- each write of a seat with this trail but its newest is sealed
abbrev pub AreEarlierSealed : List OwnStep → Type 0
AreEarlierSealed trail = (newest : EntryNote) (earlier : List EntryNote)
    → writes_of trail ≡ newest ∷ earlier → (n : EntryNote) → Contains earlier n → IsSealed n trail

module _ {K : Type 0} where
  abbrev pub HasSealed : PathSeat K → Type 0
  HasSealed s = IsAllSealed (view_of s.member).trail

  -- a seat logged nothing behind a write that is not sealed
  abbrev pub HasWaited : PathSeat K → Type 0
  HasWaited s = AreEarlierSealed (view_of s.member).trail

  abbrev pub HaveWaited : List (PathSeat K) → Type 0
  HaveWaited seats = (s : PathSeat K) → Contains seats s → HasWaited s

  -- nor did a worker's, whatever was refused
  abbrev pub WaitsShare : Worker K → Type 0
  WaitsShare w = (s : PathSeat K) → w.seat ≡ Some s → HasWaited s

  abbrev pub WaitShares : List (Worker K) → Type 0
  WaitShares workers = (w : Worker K) → Contains workers w → WaitsShare w
