-- Cells with the same newest ones have the same merge.
use Rattle.std.proofs.Common.{
  ◌≡◌,
  inl,
  inr,
  List,
  ◌++◌,
  false,
  Option,
  Some,
  None,
  refl,
  sym,
  ◌∙◌,
  subst,
}
use Rattle.std.specs.Prelude.{Contains, ◌↔◌}
use Rattle.std.specs.Map.{keys_of}
use Rattle.std.proofs.lemmas.Map.Keys.{IsDistinct-from_sorted}
use Rattle.std.proofs.lemmas.Map.Views.{Contains-from_lookup, lookup-from_Contains}
use Rattle.std.proofs.lemmas.List.Elements.{
  Contains-append_left,
  Contains-append_right,
  Contains-append_cases,
}
use Rattle.clog_base.specs.declared.cell.Cell.{Cell}
use Rattle.clog_base.specs.declared.cell.CellKey.{CellKey}
use Rattle.clog_cells.specs.Merge.{
  key_cmp,
  is_newer,
  found_at,
  IsNewestAmong,
  IsMergeOf,
  IsMerge,
}
use Rattle.clog_cells.proofs.Orders.{key_equiv, one_key, one_cell, not_newer, not_newer_itself}
use Rattle.clog_table.specs.declared.table_file.TableFile.{TableFile}
use Rattle.clog_crash.specs.Changes.{IsLiveInside, IsTrueOf}
use Rattle.clog_crash.specs.Covering.{IsUnder, SameMerge, Either}
use Rattle.clog_crash.specs.Readings.{Reading}

-- ---- covering

pub under_itself : (pair : CellKey × Cell) → IsUnder pair pair
under_itself pair = record { same_key = refl; no_newer = not_newer_itself pair.1 }

under_then : (x y z : CellKey × Cell) → IsUnder x y → IsUnder y z → IsUnder x z
under_then x y z p q = record {
  same_key = p.same_key ∙ q.same_key;
  no_newer = not_newer x.1 y.1 z.1 p.no_newer q.no_newer;
}

pub exactly : (A B : CellKey × Cell → Type 0) → ((pair : CellKey × Cell) → A pair ↔ B pair)
    → SameMerge A B
exactly A B same = record {
  forth = λ pair a. (pair, (same pair).0 a, under_itself pair);
  back = λ pair b. (pair, (same pair).1 b, under_itself pair);
}

pub merge_then : (A B C : CellKey × Cell → Type 0) → SameMerge A B → SameMerge B C → SameMerge A C
merge_then A B C one two = record {
  forth = λ pair a.
      let b = one.forth pair a in
      let c = two.forth b.0 b.1 in (c.0, c.1, under_then pair b.0 c.0 b.2 c.2);
  back = λ pair c.
      let b = two.back pair c in
      let a = one.back b.0 b.1 in (a.0, a.1, under_then pair b.0 a.0 b.2 a.2);
}

-- ---- the same newest cells, the same merge

module _ (A B : CellKey × Cell → Type 0) (same : SameMerge A B) where
  at_key : (key : CellKey) (cell : Cell) → B (key, cell)
      → (other : Cell) × A (key, other) × (is_newer cell other ≡ false)
  at_key key cell b =
      let found = same.back (key, cell) b in (
        found.0.1,
        subst (λ (k : CellKey). A (k, found.0.1)) (sym found.2.same_key) found.1,
        found.2.no_newer,
      )

  newest_too : (key : CellKey) (o : Option Cell) → IsNewestAmong A key o → IsNewestAmong B key o
  newest_too key None none = λ cell b. let found = at_key key cell b in none found.0 found.1
  newest_too key (Some c) newest =
      let up = same.forth (key, c) newest.listed in
      let there : B (key, up.0.1) =
      subst (λ (k : CellKey). B (k, up.0.1)) (sym up.2.same_key) up.1 in
      let down = at_key key up.0.1 there in
      let one : up.0.1 ≡ c = one_cell up.0.1 c
      (not_newer up.0.1 down.0 c down.2 (newest.greatest down.0 down.1)) up.2.no_newer in
      record {
        listed = subst (λ (x : Cell). B (key, x)) one there;
        greatest = λ other b.
            let found = at_key key other b in
            not_newer other found.0 c found.2 (newest.greatest found.0 found.1);
      }

pub merge_of_same : (A B : CellKey × Cell → Type 0) (rows : List (CellKey × Cell))
    → SameMerge A B → IsMergeOf A rows → IsMergeOf B rows
merge_of_same A B rows same merge = record {
  ordered = merge.ordered;
  newest = λ key. newest_too A B same key (found_at rows key) (merge.newest key);
}

-- ---- a merge and more cells

module _ (A : CellKey × Cell → Type 0) (rows : List (CellKey × Cell)) (merge : IsMergeOf A rows)
  where
    row_is : (key : CellKey) (cell : Cell) → Contains rows (key, cell) → A (key, cell)
    row_is key cell h =
        let found : found_at rows key ≡ Some cell =
        lookup-from_Contains key_equiv key cell rows
        (IsDistinct-from_sorted key_cmp (keys_of rows) merge.ordered) h in
        (subst (IsNewestAmong A key) found (merge.newest key)).listed

    row_over : (key : CellKey) (cell : Cell) (o : Option Cell) → found_at rows key ≡ o
        → IsNewestAmong A key o → A (key, cell)
        → (other : CellKey × Cell) × Contains rows other × IsUnder (key, cell) other
    row_over key cell None e newest a = absurd (newest cell a)
    row_over key cell (Some c) e newest a = (
      (key, c),
      Contains-from_lookup one_key key c rows e,
      record { same_key = refl; no_newer = newest.greatest cell a },
    )

    -- the rows of a merge have the same newest cells
    pub rows_same : SameMerge A (Contains rows)
    rows_same = record {
      forth = λ pair a. row_over pair.0 pair.1 (found_at rows pair.0) refl (merge.newest pair.0) a;
      back = λ pair h. (pair, row_is pair.0 pair.1 h, under_itself pair);
    }

pub either_same : (A B C : CellKey × Cell → Type 0) → SameMerge A B
    → SameMerge (Either A C) (Either B C)
either_same A B C same = record {
  forth = λ pair h. elim h [
    | inl a ↦ let over = same.forth pair a in (over.0, inl over.1, over.2)
    | inr c ↦ (pair, inr c, under_itself pair)
  ];
  back = λ pair h. elim h [
    | inl b ↦ let over = same.back pair b in (over.0, inl over.1, over.2)
    | inr c ↦ (pair, inr c, under_itself pair)
  ];
}

either_listed : (rows more : List (CellKey × Cell)) (pair : CellKey × Cell)
    → Contains (rows ++ more) pair ↔ Either (Contains rows) (Contains more) pair
either_listed rows more pair = (
  Contains-append_cases rows more pair,
  λ h. elim h [
    | inl row ↦ Contains-append_left rows more pair row
    | inr new ↦ Contains-append_right rows more pair new
  ],
)

pub swapped : (A B : CellKey × Cell → Type 0) → SameMerge A B → SameMerge B A
swapped A B same = record { forth = same.back; back = same.forth }

pub merge_of_more : (A : CellKey × Cell → Type 0) (rows more now : List (CellKey × Cell))
    → IsMergeOf A rows → IsMerge (rows ++ more) now → IsMergeOf (Either A (Contains more)) now
merge_of_more A rows more now merge next =
    let Listed = Either (Contains rows) (Contains more) in
    merge_of_same (Contains (rows ++ more)) (Either A (Contains more)) now
    (merge_then (Contains (rows ++ more)) Listed (Either A (Contains more))
    (exactly (Contains (rows ++ more)) Listed (either_listed rows more))
    (either_same (Contains rows) A (Contains more) (swapped A (Contains rows)
    (rows_same A rows merge)))) next

-- the merge of what is live inside a file's interval is true
pub merges_are_true : (r : Reading) (file : TableFile)
    → IsMergeOf (IsLiveInside r file) file.cells → IsTrueOf r file
merges_are_true r file merge =
    let same = rows_same (IsLiveInside r file) file.cells merge in
    record {
      covers = same.forth;
      no_more = λ pair listed.
          let live = same.back pair listed in (live.0, inr live.1.cell, live.2);
    }
