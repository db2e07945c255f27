-- What the path promises of each state that allowed steps lead to.
use Rattle.std.specs.Prelude.{◌≡◌, ℕ, ◌<◌, ◌≤◌, List, Some, ◌↔◌}
use Rattle.std.specs.List.{AllPairs, Contains}
use Rattle.clog_base.specs.declared.position.Key.{Key}
use Rattle.path_core.specs.declared.event.Event.{Event}
use Rattle.path_core.specs.declared.note.EntryNote.{EntryNote}
use Rattle.path_core.specs.declared.state.Bound.TheVariants.{Final}
use Rattle.path_core.specs.declared.state.Claim.{Claim}
use Rattle.path_core.specs.declared.state.PathState.{PathState}
use Rattle.path_core.specs.declared.state.WrittenFile.{WrittenFile}
use Rattle.path_core.specs.Parts.{seat_of, seat_table, memtable_of}
use Rattle.path_core.specs.Next.{next_of}
use Rattle.path_core.specs.History.{bound_before, final_bound}
use Rattle.path_core.specs.LawfulTables.{IsTouched}

-- Each claimed range ends before the later ones begin.
abbrev pub AreApart : List Claim → Type 0
AreApart claims = AllPairs (λ (a b : Claim). a.end ≤ b.start) claims

-- The entry of a position is placed in exactly one memtable of a table: the one whose log interval,
-- from the bound before it to its own where that is final, holds the position.
pub record IsPlacedRight (x : PathState) (t entry : ℕ) : Type 0 where
  pub memtable : ℕ
  pub placed : Contains x.placed (record { table = t; entry = entry; memtable = memtable })
  pub no_other : (m : ℕ) → Contains x.placed (record { table = t; entry = entry; memtable = m })
      → m ≡ memtable
  pub above : bound_before x t memtable < entry
  pub below : (u : Key) → (memtable_of x t memtable).bound ≡ Final u → entry ≤ u.0

-- What is placed in a memtable is exactly what touches its table in its log interval.
abbrev pub HoldsItsInterval : PathState → ℕ → ℕ → Type 0
HoldsItsInterval x t m = (entry : ℕ)
    → Contains x.placed (record { table = t; entry = entry; memtable = m })
    ↔ IsTouched x t (bound_before x t m) (final_bound x t m) entry

-- The entry of a position is in a file of a table: it lies in the file's interval, and was placed
-- in its memtable.
pub record IsInFile (x : PathState) (t entry : ℕ) : Type 0 where
  pub file : WrittenFile
  pub among : Contains x.files file
  pub table : file.table ≡ t
  pub above : file.lower < entry
  pub below : entry ≤ file.upper
  pub placed : Contains x.placed (record { table = t; entry = entry; memtable = file.memtable })

-- A claimed entry is deposited: its writer noted it with this range.
pub record IsDeposited (x : PathState) (c : Claim) : Type 0 where
  pub note : EntryNote
  pub among : Contains x.notes note
  pub writer : note.writer.0 ≡ c.by
  pub start : note.start.0 ≡ c.start
  pub end : note.end.0 ≡ c.end

-- No running write has its place in a memtable.
abbrev pub NoneRuns : PathState → ℕ → ℕ → Type 0
NoneRuns x t m = (w : ℕ) → (seat_table (seat_of x w) t).place ≡ Some m → ⊥

-- A step leaves what is placed in a memtable.
abbrev pub LeavesPlaced : PathState → Event → ℕ → ℕ → Type 0
LeavesPlaced x e t m = (entry : ℕ)
    → Contains (next_of x e).placed (record { table = t; entry = entry; memtable = m })
    ↔ Contains x.placed (record { table = t; entry = entry; memtable = m })
