-- What a merge of updates holds.
use Rattle.std.specs.Prelude.{◌≡◌, ◌⊎◌, ℕ, ◌+◌, List, [], ◌∷◌, ◌++◌, length, map}
use Rattle.clog_base.specs.declared.cell.Cell.{Cell}
use Rattle.clog_base.specs.declared.cell.CellKey.{CellKey}
use Rattle.clog_base.specs.declared.position.Position.{Position}
use Rattle.clog_cells.specs.Merge.{IsMerge}
use Rattle.clog_mutation.specs.declared.mutation.Update.{Update}
use Rattle.clog_mutation.specs.Payload.{pair_of}
use Rattle.clog_crash.specs.Counts.{LoggedMutation}
use Rattle.clog_folder.specs.declared.tables.TableHeld.{TableHeld}
use Rattle.clog_folder.specs.Listing.{Picks}
use Rattle.replay_merge.specs.declared.merged.Merged.{Merged}
use Rattle.replay_merge.specs.Skipping.{IsFiled}

-- an update under its key, at the position of its entry
pub record KeyedUpdate : Type 0 where
  pub at : Position
  pub key : List ℕ
  pub update : Update

abbrev pub keyed : Position → List ℕ → Update → KeyedUpdate
keyed at key update = record { at = at; key = key; update = update }

abbrev pub updates_of : LoggedMutation → List KeyedUpdate
updates_of l = map (keyed l.at l.mutation.key) l.mutation.updates

abbrev pub pair_at : KeyedUpdate → CellKey × Cell
pair_at u = pair_of u.key u.update

-- a table file stands for the update
abbrev pub IsSkippedBy : List TableHeld → KeyedUpdate → Type 0
IsSkippedBy tables u = IsFiled tables u.update.table u.at

-- Of these updates those are merged for which no table file stands, and the others are counted.
pub record IsMergedOf (tables : List TableHeld) (us : List KeyedUpdate) (m : Merged) : Type 0 where
  pub kept : List KeyedUpdate
  pub picks_kept : Picks (λ u. ¬ IsSkippedBy tables u) us kept
  pub cells : IsMerge (map pair_at kept) m.cells
  pub updates : m.updates ≡ length kept
  pub gone : List KeyedUpdate
  pub picks_gone : Picks (IsSkippedBy tables) us gone
  pub skipped : m.skipped ≡ length gone

-- ---- for private clauses

-- an update is counted as skipped
pub record IsSkip (old new : Merged) : Type 0 where
  pub cells : new.cells ≡ old.cells
  pub updates : new.updates ≡ old.updates
  pub skipped : new.skipped ≡ old.skipped + 1

-- a cell is merged, and counted
pub record IsKept (pair : CellKey × Cell) (old new : Merged) : Type 0 where
  pub cells : IsMerge (old.cells ++ pair ∷ []) new.cells
  pub updates : new.updates ≡ old.updates + 1
  pub skipped : new.skipped ≡ old.skipped

-- what one worker has is merged with what another has
pub record IsJoin (mine other joined : Merged) : Type 0 where
  pub cells : IsMerge (mine.cells ++ other.cells) joined.cells
  pub updates : joined.updates ≡ mine.updates + other.updates
  pub skipped : joined.skipped ≡ mine.skipped + other.skipped

-- an update is counted as skipped, or merged
abbrev pub TakesOne : List TableHeld → KeyedUpdate → Merged → Merged → Type 0
TakesOne tables u old new =
    (IsSkippedBy tables u × IsSkip old new)
    ⊎ ((¬ IsSkippedBy tables u) × IsKept (pair_at u) old new)

-- these are taken in behind whatever was
abbrev pub Takes : List TableHeld → List KeyedUpdate → Merged → Merged → Type 0
Takes tables us old new =
    (before : List KeyedUpdate) → IsMergedOf tables before old
    → IsMergedOf tables (before ++ us) new
