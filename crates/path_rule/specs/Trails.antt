-- What a seat's trail tells of the machine that it was a part of.
use Rattle.std.specs.Prelude.{◌≡◌, ℕ, ◌<◌, ◌≤◌, true, List, [], ◌∷◌, Some, None}
use Rattle.std.specs.List.{Contains}
use mathlib.Core.Option.{some}
use lib.ListN.{get_elem?}
use Rattle.clog_base.specs.declared.cell.Table.{Table}
use Rattle.op_core.specs.declared.count.Order.{Order}
use Rattle.path_core.specs.declared.event.ClaimKind.TheVariants.{Entry}
use Rattle.path_core.specs.declared.event.Cursor.TheVariants.{Synced, OldestLive, Stopped}
use Rattle.path_core.specs.declared.event.Event.{Event}
use Rattle.path_core.specs.declared.event.Event.TheVariants.{Claim}
use Rattle.path_core.specs.declared.event.Place.TheVariants.{Current, CursorWord, Log, Newest}
use Rattle.path_core.specs.declared.state.Bound.TheVariants.{Final}
use Rattle.path_core.specs.declared.state.PathState.{PathState}
use Rattle.path_core.specs.declared.state.WrittenFile.{WrittenFile}
use Rattle.path_core.specs.Keys.{after, behind_marker, first_offset}
use Rattle.path_core.specs.Markers.{HasMarkerAt}
use Rattle.path_core.specs.Parts.{HoldsNoTurn, groups_of, is_empty, memtable_of, table_of}
use Rattle.path_rule.specs.declared.view.OwnStep.{OwnStep}
use Rattle.path_rule.specs.declared.view.Returned.{Returned}
use Rattle.path_rule.specs.declared.view.View.{View}
use Rattle.path_rule.specs.Finds.{Finds}
use Rattle.path_rule.specs.FindsBounds.{FindsFinal, Retires}

-- The log is lasting up to the key, which is 0 or where a marker starts.
pub record IsMark (x : PathState) (key : ℕ) : Type 0 where
  pub lasting : key ≤ x.synced
  -- but for 0, a marker starts there
  pub marker : 0 < key → HasMarkerAt x.claims key

-- The log goes on behind a synced key no earlier than behind the front of the first segment, and
-- than behind a marker at or below that key.
pub record GoesOnBehind (capacity synced : ℕ) : Type 0 where
  pub front : first_offset ≤ after capacity synced
  pub rises : (key : ℕ) → key ≤ synced → behind_marker capacity key ≤ after capacity synced

-- An entry is claimed where the log went on behind each synced key that the seat had found, or put,
-- or further on.
abbrev pub ClaimsPast : ℕ → Event → List OwnStep → Type 0
ClaimsPast capacity (Claim by from to Entry) before =
    (key : ℕ) → Finds (CursorWord Synced) key before → after capacity key ≤ from.0
ClaimsPast capacity _ before = Unit {0}

abbrev pub AllClaimPast : ℕ → List OwnStep → Type 0
AllClaimPast capacity [] = Unit {0}
AllClaimPast capacity (t ∷ ts) = ClaimsPast capacity t.event ts × AllClaimPast capacity ts

-- The state has a table file of the memtable, which begins above a key and ends at the memtable's
-- final bound.
pub record HasFileFrom (x : PathState) (t m from : ℕ) : Type 0 where
  pub file : WrittenFile
  pub among : Contains x.files file
  pub table : file.table ≡ t
  pub memtable : file.memtable ≡ m
  pub lower : file.lower ≡ from
  pub upper : (memtable_of x t m).bound ≡ Final (record { 0 = file.upper })

-- A closed write placed an entry in the memtable.
pub record HoldsSome (x : PathState) (t m : ℕ) : Type 0 where
  pub entry : ℕ
  pub placed : Contains x.placed (record { table = t; entry = entry; memtable = m })

-- What these steps of a seat tell of the state that they led to.
pub record TrailTells (capacity : ℕ) (x : PathState) (trail : List OwnStep) : Type 0 where
  -- each synced key that the seat found, or put, is a mark
  pub synced : (key : ℕ) → Finds (CursorWord Synced) key trail → IsMark x key
  -- each log key that the seat found is at or below that of the log
  pub come : (key : ℕ) → Finds Log key trail → key ≤ x.log
  -- each count with which it found the log stopped, or stopped it, is that of the log
  pub stopped : (n : ℕ) → Finds (CursorWord Stopped) n trail → 0 < n → n ≡ x.stopped
  -- each group of an order that it found current is at or below the current one
  pub current : (o : Order) (g : ℕ) → Finds (Current o) g trail → g ≤ (groups_of x o).current
  -- each memtable that it found as a table's newest is at or below that one
  pub newest : (t : Table) (m : ℕ) → Finds (Newest t) m trail → m ≤ (table_of x t.0).newest
  -- each entry was claimed behind the markers that the seat had found
  pub past : AllClaimPast capacity trail
  -- each memtable that it found final at a key, or made final there, is final at that key
  pub final : (t m key : ℕ) → FindsFinal t m key trail
      → (memtable_of x t m).bound ≡ Final (record { 0 = key })
  -- each number that it found, or put, as the least memtable that is not retired is at or below it
  pub retired : (t : Table) (n : ℕ) → Finds (CursorWord (OldestLive t)) n trail
      → n ≤ (table_of x t.0).oldest_live
  -- each memtable that it retired with a table file has that file, which begins above the key that
  -- the step gave and ends at the memtable's final bound
  pub filed : (t : Table) (m lower : ℕ) → Retires t m (Some lower) trail
      → HasFileFrom x t.0 m lower
  -- and something is placed in it
  pub filled : (t : Table) (m lower : ℕ) → Retires t m (Some lower) trail → HoldsSome x t.0 m
  -- in each that it retired without one nothing is placed, and no running write has its place there
  pub emptied : (t : Table) (m : ℕ) → Retires t m None trail → is_empty x t.0 m ≡ true

-- A view's own steps tell it, and those of the seats that it took in, which held no turn then.
pub record ViewTells (capacity : ℕ) (x : PathState) (v : View) : Type 0 where
  pub own : TrailTells capacity x v.trail
  pub returned : (n : ℕ) (b : Returned) → get_elem? v.returned n ≡ some b
      → TrailTells capacity x b.trail
  pub free : (n : ℕ) (b : Returned) → get_elem? v.returned n ≡ some b → HoldsNoTurn b.part
