-- What the waiting calls of a write leave of its seat, and what a write answers.
use Rattle.std.specs.Prelude.{◌≡◌, ℕ, ◌≤◌, List, length, Some}
use Rattle.std.specs.List.{Contains}
use Rattle.atomic_table.specs.Seated.{TableId}
use Rattle.path_core.specs.declared.event.Place.TheVariants.{Log}
use Rattle.path_core.specs.declared.note.EntryNote.{EntryNote}
use Rattle.path_core.specs.Keys.{entry_end, ordinal_of}
use Rattle.path_rule.specs.declared.view.OwnStep.{OwnStep}
use Rattle.path_rule.specs.declared.view.PathSize.{PathSize}
use Rattle.path_rule.specs.declared.view.View.{View}
use Rattle.path_rule.specs.Calls.{FoundSince}
use Rattle.path_rule.specs.Finds.{Finds}
use Rattle.path_rule.specs.Issued.{issued_in}
use Rattle.path_table.specs.declared.table.Member.{Member}
use Rattle.write_path.specs.declared.prepared.Prepared.{Prepared}
use Rattle.write_path.specs.declared.writing.Written.{Written}
use Rattle.write_path.specs.declared.writing.Written.TheVariants.{Logged, Spent}
use Rattle.path_flush.specs.OwnWrites.{writes_of}
use Rattle.write_path.specs.Ends.{IsListed}
use Rattle.path_flush.specs.FlushSteps.{RetiresNone, SwitchesNone}
use Rattle.path_flush.specs.Grown.{HasGrown}
use Rattle.path_flush.specs.Seats.{Stays}

-- It is the same seat of the path, its list is as it was, and its trail has grown.
abbrev pub KeepsList : {K : Type 0} → TableId → PathSize → Member K → Member K → Type 0
KeepsList id size m m' = Stays id size m m'
    × (writes_of m'.seat.me.0.trail ≡ writes_of m.seat.me.0.trail)
    × HasGrown m.seat.me.0.trail m'.seat.me.0.trail

-- It has issued no barrier since.
abbrev pub IssuesNone : {K : Type 0} → Member K → Member K → Type 0
IssuesNone m m' = issued_in m'.seat.me.0.trail ≡ issued_in m.seat.me.0.trail

-- The same seat with the same list, by steps that retire no memtable, switch none, and issue no
-- barrier.
abbrev pub KeepsMemtables : {K : Type 0} → TableId → PathSize → Member K → Member K → Type 0
KeepsMemtables id size m m' = Stays id size m m'
    × (writes_of m'.seat.me.0.trail ≡ writes_of m.seat.me.0.trail)
    × (g : HasGrown m.seat.me.0.trail m'.seat.me.0.trail) × RetiresNone g.newer
    × SwitchesNone g.newer × IssuesNone m m'

-- The seat found this log key, at a step behind its first `since` ones. At the key an entry of so
-- many bytes has no segment.
pub record HasNoRoom (size : PathSize) (bytes since key : ℕ) (v : View) : Type 0 where
  pub none : size.ordinals ≤ ordinal_of (entry_end size.capacity key bytes)
  pub found : v.part.found.log ≡ Some key
  pub now : FoundSince since Log key v.trail
  pub looked : Finds Log key v.trail

-- each write of a seat's list ends at or below a key
abbrev pub WritesEndBelow : ℕ → List OwnStep → Type 0
WritesEndBelow key trail = (n : EntryNote) → Contains (writes_of trail) n → n.end.0 ≤ key

-- A write with this range was logged by seat w, behind all of its list: the list is the old one and
-- this write, and the trail has grown by steps that retire no memtable, and switch none.
pub record IsLogged (before : List OwnStep) (w start end : ℕ) (prepared : Prepared)
    (after : List OwnStep) : Type 0 where
  pub behind : WritesEndBelow start before
  pub tables : ℕ
  pub listed : IsListed before after w start end tables prepared
  pub grown : HasGrown before after
  pub kept : RetiresNone grown.newer
  pub unswitched : SwitchesNone grown.newer

-- What a write answers. Spent: it comes back, the list is as it was, the trail has grown by steps
-- that retire no memtable and switch none, and the key was found in this call.
abbrev pub IsWritten : PathSize → ℕ → List OwnStep → Prepared → Written → View → Type 0
IsWritten size w before prepared (Logged start end) v =
    IsLogged before w start.0 end.0 prepared v.trail
IsWritten size w before prepared (Spent back key) v = (back ≡ prepared)
    × (writes_of v.trail ≡ writes_of before) × HasNoRoom size prepared.size (length before) key.0 v
    × (g : HasGrown before v.trail) × RetiresNone g.newer × SwitchesNone g.newer
