-- An entry of the log, and those that batches hold.
use Rattle.std.specs.Prelude.{ℕ, zero, suc, List, [], ◌∷◌, map}
use Rattle.std.specs.List.{flat_map}
use Rattle.clog_scan.specs.declared.whole.Whole.{Whole}
use Rattle.replay_merge.specs.declared.piped.Batch.{Batch}

-- its segment's id, its range there, and its payload, which need not be a mutation's
pub record Entry : Type 0 where
  pub id : ℕ
  pub start : ℕ
  pub end : ℕ
  pub payload : List ℕ

-- an entry that was read, of the segment of an id
abbrev pub item_of : ℕ → Whole → Entry
item_of id w = record { id = id; start = w.start; end = w.end; payload = w.payload.items }

abbrev pub items_of : Batch → List Entry
items_of b = map (item_of b.id) b.wholes.items

abbrev pub all_items : List Batch → List Entry
all_items batches = flat_map items_of batches

-- every third element, the first of which has so many in front of it
abbrev pub thirds : {A : Type 0} → ℕ → List A → List A
thirds k [] = []
thirds zero (x ∷ xs) = x ∷ thirds 2 xs
thirds (suc k) (x ∷ xs) = thirds k xs
