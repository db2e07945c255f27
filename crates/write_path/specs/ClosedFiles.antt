-- What a closed path tells of its keeper's table files.
use Rattle.std.specs.Prelude.{◌≡◌, ℕ, ◌<◌, ◌≤◌, true, List, [], Some, None, IsTrue}
use Rattle.std.specs.List.{Contains}
use Rattle.clog_base.specs.declared.cell.Table.{Table}
use Rattle.path_core.specs.declared.event.Cursor.TheVariants.{OldestLive}
use Rattle.path_core.specs.declared.event.Place.TheVariants.{CursorWord}
use Rattle.path_core.specs.declared.note.EntryNote.{EntryNote}
use Rattle.path_core.specs.declared.state.Bound.TheVariants.{Final}
use Rattle.path_core.specs.declared.state.PathState.{PathState}
use Rattle.path_core.specs.Keeper.{Holding, IsFiledIn, PutFile}
use Rattle.path_core.specs.Parts.{is_empty, memtable_of, touches}
use Rattle.path_rule.specs.declared.view.OwnStep.{OwnStep}
use Rattle.path_rule.specs.Finds.{Finds}
use Rattle.path_rule.specs.FindsBounds.{FindsFinal, Retires}
use Rattle.path_rule.specs.Trails.{HoldsSome}
use Rattle.path_table.specs.declared.trying.PathSeat.{PathSeat}
use Rattle.path_table.specs.Members.{view_of}

-- Nothing was done beside the log: no table file was put, and no segment has gone.
pub record IsUnfiled (core : PathState) (h : Holding) : Type 0 where
  pub none_written : core.files ≡ []
  pub no_file : h.files ≡ []
  pub none_gone : core.dropped ≡ []
  pub none_dropped : h.dropped ≡ []

-- the table of a file that a keeper put, and its interval
abbrev pub held_range : PutFile → ℕ × (ℕ × ℕ)
held_range f = (f.table, (f.lower, f.upper))

-- By these steps a memtable of the table is final at a key, and retired: a later one was found, or
-- put, as the least that is not retired.
pub record HasRetired (t : Table) (key : ℕ) (trail : List OwnStep) : Type 0 where
  pub memtable : ℕ
  pub final : FindsFinal t.0 memtable key trail
  pub least : ℕ
  pub found : Finds (CursorWord (OldestLive t)) least trail
  pub retired : memtable < least

-- Each entry of a history that touches a table, and ends at or below such a key of it, lies in the
-- interval of one of these files of the table.
abbrev pub CoversFlushed : List EntryNote → List PutFile → List OwnStep → Type 0
CoversFlushed history files trail = (t : Table) (key : ℕ) → HasRetired t key trail
    → (n : EntryNote) → Contains history n → IsTrue (touches n.tables t.0) → n.end.0 ≤ key
    → IsFiledIn files t.0 n.end.0

-- One of these seats retired a memtable of the table with a table file.
pub record IsFlushedBy {K : Type 0} (seats : List (PathSeat K)) (t : ℕ) : Type 0 where
  pub seat : PathSeat K
  pub among : Contains seats seat
  pub table : Table
  pub of_table : table.0 ≡ t
  pub memtable : ℕ
  pub lower : ℕ
  pub retires : Retires table memtable (Some lower) (view_of seat.member).trail

-- A history has an entry that touches a table, and ends above one key and not above another.
pub record HasEntryBetween (history : List EntryNote) (t lower upper : ℕ) : Type 0 where
  pub note : EntryNote
  pub among : Contains history note
  pub touched : IsTrue (touches note.tables t)
  pub above : lower < note.end.0
  pub up_to : note.end.0 ≤ upper

-- Among these files is one of a memtable, which begins above a key and ends at the memtable's final
-- bound.
pub record IsGiven (core : PathState) (files : List PutFile) (t m from : ℕ) : Type 0 where
  pub file : PutFile
  pub among : Contains files file
  pub of_table : file.table ≡ t
  pub lower : file.lower ≡ from
  pub upper : (memtable_of core t m).bound ≡ Final (record { 0 = file.upper })

-- Each memtable that these steps found final at a key, or made final there, is final at that key.
abbrev pub AreFinal : PathState → List OwnStep → Type 0
AreFinal core trail = (t m key : ℕ) → FindsFinal t m key trail
    → (memtable_of core t m).bound ≡ Final (record { 0 = key })

-- In each that they retired without a table file nothing is placed, and no running write has its
-- place there.
abbrev pub AreEmpty : PathState → List OwnStep → Type 0
AreEmpty core trail = (t : Table) (m : ℕ) → Retires t m None trail → is_empty core t.0 m ≡ true

-- In each that they retired with one something is placed, and among these is its file, which
-- begins above the key that the step gave.
abbrev pub AreGiven : PathState → List PutFile → List OwnStep → Type 0
AreGiven core files trail = (t : Table) (m lower : ℕ) → Retires t m (Some lower) trail
    → HoldsSome core t.0 m × IsGiven core files t.0 m lower
