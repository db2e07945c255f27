-- Which steps retire a memtable, and what a step leaves of the files.
use Rattle.std.proofs.Common.{◌≡◌, ℕ, Bool, true, false, cond, List, ◌++◌, [], ◌∷◌, refl}
use Rattle.clog_base.specs.declared.cell.Table.{Table}
use Rattle.path_core.specs.declared.event.Cursor.TheVariants.{Synced, OldestLive, Stopped}
use Rattle.path_core.specs.declared.event.Event.{Event}
use Rattle.path_core.specs.declared.event.Event.TheVariants.{Put}
use Rattle.path_core.specs.declared.state.PathState.{PathState}
use Rattle.path_core.specs.declared.state.WrittenFile.{WrittenFile}
use Rattle.path_core.specs.Parts.{table_of, memtable_of, is_empty, key_of_bound, last_upper}
use Rattle.path_core.specs.Next.{next_of}

-- the step retires a memtable
abbrev pub Retires : Event → Type 0
Retires (Put by (OldestLive table) value) = Unit {0}
Retires _ = ⊥

-- a step that retires no memtable leaves the files
pub files_same : (x : PathState) (e : Event) → (Retires e → ⊥) → (next_of x e).files ≡ x.files
files_same x (Put by (OldestLive table) value) other = absurd (other tt)
files_same x (Put by Synced value) other = refl
files_same x (Put by Stopped value) other = refl
files_same x e other = refl

-- the file of the memtable of a table that is retired next
abbrev pub next_file : PathState → ℕ → WrittenFile
next_file x t = record {
  table = t;
  memtable = (table_of x t).oldest_live;
  lower = last_upper x.files t;
  upper = key_of_bound (memtable_of x t (table_of x t).oldest_live).bound;
}

-- what holds of the files after a memtable was retired
pub files_retired : (x : PathState) (by : ℕ) (table : Table) (value : ℕ)
    (P : List WrittenFile → Type 0)
    → (is_empty x table.0 (table_of x table.0).oldest_live ≡ true → P x.files)
    → (is_empty x table.0 (table_of x table.0).oldest_live ≡ false
    → P (x.files ++ next_file x table.0 ∷ []))
    → P (next_of x (Put by (OldestLive table) value)).files
files_retired x by table value P none one =
    choose (is_empty x table.0 (table_of x table.0).oldest_live) none one
  where
    choose : (b : Bool) → (b ≡ true → P x.files) → (b ≡ false → P (x.files ++ next_file
        x table.0 ∷ [])) → P (cond b x.files (x.files ++ next_file x table.0 ∷ []))
    choose true none one = none refl
    choose false none one = one refl
