-- The log as mutations at their positions, and what a folder counts: segments, table files,
-- entries, updates that are merged, and updates that table files stand for.
use Rattle.std.specs.Prelude.{
  ◌≡◌,
  ◌⊎◌,
  ◌↔◌,
  ℕ,
  suc,
  List,
  [],
  ◌∷◌,
  length,
  map,
  Contains,
}
use Rattle.std.specs.List.{flat_map}
use Rattle.std.specs.List.Sorted.{IsStrictlySortedBy}
use Rattle.std.specs.Cmp.Lexicographic.{slice_cmp}
use Rattle.std.specs.declared.cmp.Ordering.{Ordering}
use Rattle.std.specs.Ordering.{nat_cmp, ordering_then}
use Rattle.clog_spec.specs.Names.{IsTableName}
use Rattle.clog_base.specs.declared.position.Position.{Position}
use Rattle.clog_disk.specs.Files.{Files}
use Rattle.clog_mutation.specs.declared.mutation.Mutation.{Mutation}
use Rattle.clog_mutation.specs.declared.mutation.Update.{Update}
use Rattle.clog_mutation.specs.Stored.{IsPayload}
use Rattle.clog_scan.specs.Segment.{Entry}
use Rattle.clog_crash.specs.Folder.{IsHeld, IsNameOfSegment}
use Rattle.clog_crash.specs.Restore.{IsLogged, IsSkipped, end_position}

-- ---- the log

-- a mutation that is logged, at the position where its entry ends
pub record LoggedMutation : Type 0 where
  pub at : Position
  pub mutation : Mutation

-- by id, then by offset
abbrev pub position_cmp : Position → Position → Ordering
position_cmp a b = ordering_then (nat_cmp a.id b.id) (nat_cmp a.offset b.offset)

-- the entry is logged, and its payload is the mutation's
pub record IsLoggedMutation (files : Files) (l : LoggedMutation) : Type 0 where
  pub entry : Entry
  pub logged : IsLogged files l.at.id entry
  pub place : end_position l.at.id entry ≡ l.at
  pub said : IsPayload entry.payload l.mutation

-- These are all mutations that are logged, in the order of their positions. An entry whose payload
-- is no mutation's is left out.
pub record IsLog (files : Files) (log : List LoggedMutation) : Type 0 where
  pub ordered : IsStrictlySortedBy position_cmp (map (λ (l : LoggedMutation). l.at) log)
  pub are : (l : LoggedMutation) → IsLoggedMutation files l ↔ Contains log l

-- ---- how many

-- so many of these have P
abbrev pub HaveIt : {A : Type 0} → (A → Type 0) → List A → ℕ → Type 0
HaveIt P [] n = n ≡ 0
HaveIt P (x ∷ xs) n = (P x × ((less : ℕ) × (n ≡ suc less) × HaveIt P xs less))
    ⊎ ((¬ P x) × HaveIt P xs n)

-- the name is that of a table file
abbrev pub IsNameOfTable : List ℕ → Type 0
IsNameOfTable name = (table : ℕ) × ((sequence : ℕ) × IsTableName name table sequence)

-- these are all names that are there and have P, in ascending order
pub record AreNames (files : Files) (P : List ℕ → Type 0) (names : List (List ℕ)) : Type 0 where
  pub ordered : IsStrictlySortedBy (slice_cmp nat_cmp) names
  pub are : (name : List ℕ) → (IsHeld files name × P name) ↔ Contains names name

-- an update at the position of its mutation
abbrev pub PlacedUpdate : Type 0
PlacedUpdate = Position × Update

abbrev pub updates_of : LoggedMutation → List PlacedUpdate
updates_of l = map (λ (u : Update). (l.at, u)) l.mutation.updates

-- a table file stands for the update
abbrev pub IsStoodFor : Files → PlacedUpdate → Type 0
IsStoodFor files u = IsSkipped files u.1.table u.0

-- Names of segments of any version count, torn ones among them, and names of table files. Of the
-- log each mutation counts as an entry, and each of its updates as merged or as skipped.
pub record AreCounts (files : Files) (segments tables entries updates skipped : ℕ) : Type 0 where
  pub segment_names : List (List ℕ)
  pub segments_all : AreNames files IsNameOfSegment segment_names
  pub segments_are : segments ≡ length segment_names
  pub table_names : List (List ℕ)
  pub tables_all : AreNames files IsNameOfTable table_names
  pub tables_are : tables ≡ length table_names
  pub log : List LoggedMutation
  pub is_log : IsLog files log
  pub entries_are : entries ≡ length log
  pub updates_are : HaveIt (λ (u : PlacedUpdate). ¬ IsStoodFor files u) (flat_map updates_of log)
      updates
  pub skipped_are : HaveIt (IsStoodFor files) (flat_map updates_of log) skipped
