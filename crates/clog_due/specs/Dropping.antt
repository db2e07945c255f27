-- Which segments may go. A keeper's definition stands over all its entries and files; here are the
-- words in which it is computed: of each table the hull of its entries in each segment, and the
-- union of its files' intervals. A place of the log is a position whose id is the ordinal.
use Rattle.std.specs.Prelude.{
  ◌≡◌,
  ◌↔◌,
  ◌⊎◌,
  ℕ,
  ◌<◌,
  ◌≤◌,
  List,
  [],
  ◌∷◌,
  ◌++◌,
  map,
  IsTrue,
  Contains,
}
use Rattle.std.specs.List.{All, AllPairs, filter}
use Rattle.clog_spec.specs.Sizes.{most_tables}
use Rattle.clog_base.specs.declared.position.Position.{Position}
use Rattle.clog_base.specs.Positions.{IsBelow, IsUpTo, ordinal_of, position_of}
use Rattle.clog_intervals.specs.declared.interval.Interval.{Interval}
use Rattle.clog_intervals.specs.Hulls.{IsHull}
use Rattle.clog_intervals.specs.Union.{Holds, IsCovered}
use Rattle.path_core.specs.declared.note.EntryNote.{EntryNote}
use Rattle.path_core.specs.Droppable.{is_of}
use Rattle.path_core.specs.Keeper.{Holding, IsDue, IsFiledIn, PutFile}
use Rattle.path_core.specs.Parts.{touches}
use Rattle.clog_due.specs.declared.hulls.SegmentHull.{SegmentHull}
use Rattle.clog_segments.specs.declared.publishing.Published.{Published}
use Rattle.clog_due.specs.declared.table_log.TableLog.{TableLog}
use Rattle.clog_due.specs.HullRows.{hull_at}

-- ---- what is known of a keeper

-- An entry that ends in the segment in which it starts, and is of tables that there may be.
pub record IsPlaced (n : EntryNote) : Type 0 where
  pub one_segment : ordinal_of n.end.0 ≡ ordinal_of n.start.0
  pub tables : (t : ℕ) → IsTrue (touches n.tables t) → t < most_tables

abbrev pub ArePlaced : List EntryNote → Type 0
ArePlaced notes = (n : EntryNote) → Contains notes n → IsPlaced n

-- the file's interval, without its cells
pub record IsPublished (f : PutFile) (p : Published) : Type 0 where
  pub table : p.table.0 ≡ f.table
  pub lower : p.lower.0 ≡ f.lower
  pub upper : p.upper.0 ≡ f.upper

-- Exactly the segments that are to be dropped, in the order of their ids.
pub record AreDue (h : Holding) (closed : ℕ) (ordinals : List ℕ) : Type 0 where
  pub ascending : AllPairs (λ (a b : ℕ). a < b) ordinals
  pub exact : (o : ℕ) → Contains ordinals o ↔ IsDue h closed o

-- ---- a segment

-- one of the entries is of the segment of this ordinal
abbrev pub HasEntry : List EntryNote → ℕ → Type 0
HasEntry notes o = (n : EntryNote) × Contains notes n × (ordinal_of n.start.0 ≡ o)

-- the table's files hold each key from one to another of the ends of the segment's entries that
-- touch the table
abbrev pub IsTableFiled : List EntryNote → List PutFile → ℕ → ℕ → Type 0
IsTableFiled notes files t o = (a b : EntryNote) → Contains notes a → Contains notes b
    → IsTrue (is_of o t a) → IsTrue (is_of o t b)
    → (key : ℕ) → a.end.0 ≤ key → key ≤ b.end.0 → IsFiledIn files t key

-- so it is with all tables below a number
abbrev pub AreFiled : ℕ → List EntryNote → List PutFile → ℕ → Type 0
AreFiled n notes files o = (t : ℕ) → t < n → IsTableFiled notes files t o

-- ---- how it is computed

-- the place is in an interval of the table, by the keys of its ends
pub record IsOfFile (t table lower upper : ℕ) (at : Position) : Type 0 where
  pub of_table : table ≡ t
  pub above : IsBelow (position_of 0 lower) at
  pub up_to : IsUpTo at (position_of 0 upper)

-- it is in that of a file
abbrev pub IsOf : ℕ → PutFile → Position → Type 0
IsOf t file at = IsOfFile t file.table file.lower file.upper at

-- the union of the intervals of the table's files
abbrev pub AreClean : ℕ → List PutFile → List Interval → Type 0
AreClean t files intervals = (at : Position)
    → Holds intervals at ↔ ((file : PutFile) × Contains files file × IsOf t file at)

-- the positions of the segment's entries that touch the table
abbrev pub ends_of : ℕ → ℕ → List EntryNote → List Position
ends_of t o notes = map (λ (n : EntryNote). position_of 0 n.end.0) (filter (is_of o t) notes)

-- the hulls of the table's entries in each segment
abbrev pub AreHulls : ℕ → List EntryNote → List SegmentHull → Type 0
AreHulls t notes hulls = (o : ℕ) → IsHull (hull_at hulls o) (ends_of t o notes)

-- a table's files hold the hull of the segment of this ordinal
abbrev pub IsFiledAt : ℕ → TableLog → Type 0
IsFiledAt o table = IsCovered table.cleans.intervals (hull_at table.hulls o)

-- A segment that has an entry and was not dropped may go: nothing of it is kept, and the tables'
-- files hold it.
pub record LetsGo (tables : List TableLog) (kept : List ℕ) (o : ℕ) : Type 0 where
  pub not_kept : Contains kept o → ⊥
  pub filed : All (IsFiledAt o) tables

-- It is closed too.
pub record IsClosedAndGoes (tables : List TableLog) (kept : List ℕ) (closed o : ℕ) : Type 0 where
  pub below : o < closed
  pub goes : LetsGo tables kept o

-- the number is behind those that were listed, where this is so
abbrev pub PicksIf : Type 0 → ℕ → List ℕ → List ℕ → Type 0
PicksIf P o before now =
    (P × (now ≡ before ++ o ∷ [])) ⊎ ((P → ⊥) × (now ≡ before))

-- These are the ones that have P, in their order.
pub record ArePicked (P : ℕ → Type 0) (all picked : List ℕ) : Type 0 where
  pub ascending : AllPairs (λ (a b : ℕ). a < b) picked
  pub exact : (o : ℕ) → Contains picked o ↔ (Contains all o × P o)
