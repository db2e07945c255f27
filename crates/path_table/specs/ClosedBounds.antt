-- Up to which key the memtables of tables were switched, as a closed table tells it.
use Rattle.std.specs.Prelude.{◌≡◌, ℕ, zero, suc, ◌+◌, ◌*◌, ◌%◌, ◌^◌, ◌<◌, List, slice_index}
use Rattle.path_core.specs.declared.state.Bound.TheVariants.{Final, Live}
use Rattle.path_core.specs.declared.state.PathState.{PathState}
use Rattle.path_core.specs.History.{bound_before}
use Rattle.path_core.specs.Parts.{HasPassedBarrier, memtable_of, table_of}
use Rattle.path_table.specs.declared.bounds.TableBounds.{TableBounds}

-- the key of the bound below a memtable of a table, as its word has it; 0 below the first
abbrev pub key_below : List ℕ → ℕ → ℕ → ℕ
key_below words t zero = 0
key_below words t (suc m) = slice_index words (640 + 16 * (m % 4) + t) % 2 ^ 62

-- below the table's newest one
abbrev pub last_key : List ℕ → ℕ → ℕ
last_key words t = key_below words t (slice_index words (64 + 4 * t))

-- What a closed table tells of its tables' bounds in the state where its run ends: of each the last
-- final one, and key 0 where there is none. It is that of the memtable below the newest, whose
-- barrier is passed; its table file may be wanting, as behind a flush that was refused memory. The
-- newest memtable is live. Of tables 0 to 15 keys are told; those that a path has not got have one
-- memtable, and so key 0.
pub record TellsBounds (x : PathState) (bounds : TableBounds) : Type 0 where
  pub keys : (t : ℕ) → t < 16 → slice_index bounds.keys t ≡ bound_before x t (table_of x t).newest
  pub live : (t : ℕ) → (memtable_of x t (table_of x t).newest).bound ≡ Live
  pub final : (t m : ℕ) → t < 16 → (table_of x t).newest ≡ suc m
      → (memtable_of x t m).bound ≡ Final (record { 0 = slice_index bounds.keys t })
  pub passed : (t m : ℕ) → (table_of x t).newest ≡ suc m → HasPassedBarrier x t m
