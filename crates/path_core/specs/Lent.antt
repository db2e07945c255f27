-- What a path may lend its keeper: the entries that a sync makes lasting.
use Rattle.std.specs.Prelude.{◌≡◌, ◌⊎◌, ℕ, ◌<◌, ◌≤◌, List, [], IsTrue}
use Rattle.std.specs.List.{Contains, filter}
use Rattle.path_core.specs.declared.note.EntryNote.{EntryNote}
use Rattle.path_core.specs.declared.state.Claim.{Claim}
use Rattle.path_core.specs.declared.state.PathState.{PathState}
use Rattle.path_core.specs.Keeper.{Holding}
use Rattle.path_core.specs.Next.{is_between}
use Rattle.path_core.specs.Parts.{is_marker}

-- A keeper agrees with a path on what its syncs ask: the sizes, the synced key, and which segments
-- are there.
pub record AgreesWith (x : PathState) (h : Holding) : Type 0 where
  pub capacity : h.sizes.capacity ≡ x.capacity
  pub ordinals : h.sizes.ordinals ≡ x.ordinals
  pub synced : h.synced ≡ x.synced
  pub dropped : (o : ℕ) → Contains h.dropped o → Contains x.dropped o

-- what may be kept of a refused sync once the log may be synced up to a key: nothing, or the notes
-- up to a marker at or below it
abbrev pub IsKeptOf : PathState → ℕ → List EntryNote → Type 0
IsKeptOf x value kept =
    (kept ≡ [])
    ⊎ ((c : Claim) × Contains x.claims c × IsTrue (is_marker c) × (x.synced < c.start)
    × (c.start ≤ value) × (kept ≡ filter (is_between x.synced c.start) x.notes))

-- the notes that a sync up to a key makes lasting
abbrev pub run_to : PathState → ℕ → List EntryNote
run_to x value = filter (is_between x.synced value) x.notes
