-- A cell that stands is renewed where another is newer.
use Rattle.std.proofs.Common.{◌≡◌, List, [], ◌∷◌, ◌++◌, Bool, true, false, cond, Some, refl, sym}
use Rattle.std.proofs.Common.{ap, subst, ◌∙◌}
use Rattle.std.specs.Prelude.{IfSome, if◌then◌else◌}
use Rattle.std.specs.BTreeMap.{is_at}
use Rattle.std.specs.Map.{set_value}
use Rattle.std.proofs.lemmas.Map.Steps.{set_value_same}
use Rattle.clog_base.specs.declared.cell.Cell.{Cell}
use Rattle.clog_base.specs.declared.cell.CellKey.{CellKey}
use Rattle.clog_cells.specs.Merge.{AreInOrder, IsMerge, found_at, is_newer, key_cmp}
use Rattle.clog_cells.proofs.Merging.{grown, kept}

abbrev Pairs : Type 0
Pairs = List (CellKey × Cell)

module _ (rows new : Pairs) (key : CellKey) (cell found : Cell) (s : AreInOrder rows)
    (there : found_at rows key ≡ Some found) where
  pub same : (w : Cell) → w ≡ found → new ≡ set_value (is_at (key_cmp key)) rows w → new ≡ rows
  same w e set =
      set ∙ ap (set_value (is_at (key_cmp key)) rows) e
      ∙ set_value_same (is_at (key_cmp key)) rows found there

  by_case : (newer : Bool) → is_newer cell found ≡ newer → (w : Cell)
      → w ≡ (if newer then cell else found)
      → AreInOrder new → new ≡ set_value (is_at (key_cmp key)) rows w
      → ((q : CellKey) → found_at new q ≡ cond (is_at (key_cmp key) q) (Some w) (found_at rows q))
      → IsMerge (rows ++ (key, cell) ∷ []) new
  by_case true is w e t set updates =
      grown rows new key cell s t
      (subst (λ f. IfSome f (λ c. is_newer cell c ≡ true)) (sym there) is)
      (subst (λ (x : Cell). (q : CellKey) → found_at new q
      ≡ cond (is_at (key_cmp key) q) (Some x) (found_at rows q)) e updates)
  by_case false is w e t set updates =
      subst (IsMerge (rows ++ (key, cell) ∷ [])) (sym (same w e set))
      (kept rows key cell found s there is)

  pub renewed : (w : Cell) → w ≡ (if is_newer cell found then cell else found)
      → AreInOrder new → new ≡ set_value (is_at (key_cmp key)) rows w
      → ((q : CellKey) → found_at new q ≡ cond (is_at (key_cmp key) q) (Some w) (found_at rows q))
      → IsMerge (rows ++ (key, cell) ∷ []) new
  renewed w e t set updates = by_case (is_newer cell found) refl w e t set updates
