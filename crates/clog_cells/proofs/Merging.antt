-- Merges are unique, do not depend on the order of what is merged, and may be made in parts.
use Rattle.std.proofs.Common.{◌≡◌, List, [], ◌∷◌, ◌++◌, Bool, true, false, cond, Option, Some, None}
use Rattle.std.proofs.Common.{refl, sym, ap, subst, ◌∙◌, inl, inr, append_assoc}
use Rattle.std.proofs.lemmas.List.{append-nil}
use Rattle.std.specs.Prelude.{Contains, IfSome, T, ◌↔◌}
use Rattle.std.proofs.lemmas.Bool.{true≢false}
use Rattle.std.specs.Ordering.{eq_by_cmp, is_lt}
use Rattle.std.specs.BTreeMap.{is_at}
use Rattle.std.specs.Map.{keys_of}
use Rattle.std.proofs.lemmas.Map.Keys.{IsDistinct-from_sorted}
use Rattle.std.proofs.lemmas.Map.Views.{Contains-from_lookup, lookup-from_Contains}
use Rattle.std.specs.FinMap.{entries, find, from_sorted, get-from_sorted, entries-from_sorted}
use Rattle.std.specs.FinMap.{is_sorted, same_map}
use Rattle.std.specs.FinMap.Entries.{below_all}
use Rattle.std.specs.List.{AllByRecursion}
use Rattle.std.specs.List.Sorted.{IsStrictlySortedBy}
use Rattle.std.specs.declared.cmp.Ordering.TheVariants.{Less}
use Rattle.std.proofs.lemmas.List.Elements.{Contains-append_left, Contains-append_right}
use Rattle.std.proofs.lemmas.List.Elements.{Contains-append_cases, Contains-push}
use Rattle.std.proofs.lemmas.List.Elements.{Contains-push_cases}
use Rattle.clog_base.specs.declared.cell.Cell.{Cell}
use Rattle.clog_base.specs.declared.cell.CellKey.{CellKey}
use Rattle.clog_base.proofs.Orderings.{both_hold}
use Rattle.clog_cells.specs.Merge.{key_cmp, is_newer, found_at, AreInOrder, IsNewestAt}
use Rattle.clog_cells.specs.Merge.{IsNewestAmong, IsMerge, IsMergeOf, HaveSameMembers}
use Rattle.clog_cells.proofs.Orders.{key_total, exact_keys, key_equiv, one_key, one_cell, not_newer}
use Rattle.clog_cells.proofs.Orders.{not_newer_itself, not_both_newer}

abbrev Pairs : Type 0
Pairs = List (CellKey × Cell)

-- rows in order that read alike are the same, as finite maps are
below_rest : (key : CellKey) (rows : Pairs)
    → AllByRecursion (λ other. key_cmp key other ≡ Less) (keys_of rows)
    → T (below_all key_cmp key rows)
below_rest key [] h = tt
below_rest key (row ∷ rows) h =
    both_hold (is_lt (key_cmp key row.0)) (below_all key_cmp key rows)
    (subst (λ r. T (is_lt r)) (sym h.0) tt) (below_rest key rows h.1)

pub rises : (rows : Pairs) → AreInOrder rows → T (is_sorted key_cmp rows)
unfolding IsStrictlySortedBy
rises [] h = tt
rises (row ∷ rows) h =
    both_hold (below_all key_cmp row.0 rows) (is_sorted key_cmp rows) (below_rest row.0 rows h.0)
    (rises rows h.1)

pub found_as : (rows : Pairs) (key : CellKey) → find key_cmp key rows ≡ found_at rows key
found_as [] key = refl
found_as (row ∷ rows) key = ap (cond (eq_by_cmp key_cmp key row.0) (Some row.1)) (found_as rows key)

pub same_rows : (rows others : Pairs) → AreInOrder rows → AreInOrder others
    → ((key : CellKey) → found_at rows key ≡ found_at others key) → rows ≡ others
same_rows rows others p q h =
    let a : T (is_sorted key_cmp rows) = rises rows p in
    let b : T (is_sorted key_cmp others) = rises others q in
    let same : from_sorted {R = key_cmp} rows ≡ from_sorted {R = key_cmp} others =
    same_map key_total exact_keys (from_sorted rows) (from_sorted others) (λ key.
    get-from_sorted key_cmp rows key a ∙ found_as rows key ∙ h key
    ∙ sym (get-from_sorted key_cmp others key b ∙ found_as others key)) in
    sym (entries-from_sorted key_cmp rows a) ∙ ap entries same
    ∙ entries-from_sorted key_cmp others b

-- ---- of cells that have P
one_newest : (P : CellKey × Cell → Type 0) (key : CellKey) (a b : Option Cell)
    → IsNewestAmong P key a → IsNewestAmong P key b → a ≡ b
one_newest P key None None p q = refl
one_newest P key None (Some d) p q = absurd (p d q.listed)
one_newest P key (Some c) None p q = absurd (q c p.listed)
one_newest P key (Some c) (Some d) p q =
    ap Some (one_cell c d (q.greatest c p.listed) (p.greatest d q.listed))

pub unique_of : (P : CellKey × Cell → Type 0) (rows others : Pairs) → IsMergeOf P rows
    → IsMergeOf P others → rows ≡ others
unique_of P rows others p q =
    same_rows rows others p.ordered q.ordered
    (λ key. one_newest P key (found_at rows key) (found_at others key) (p.newest key)
    (q.newest key))

newest_of_same : (P Q : CellKey × Cell → Type 0) → ((pair : CellKey × Cell) → P pair ↔ Q pair)
    → (key : CellKey) (o : Option Cell) → IsNewestAmong P key o → IsNewestAmong Q key o
newest_of_same P Q same key None p = λ cell h. p cell ((same (key, cell)).1 h)
newest_of_same P Q same key (Some c) p = record {
  listed = (same (key, c)).0 p.listed;
  greatest = λ other h. p.greatest other ((same (key, other)).1 h);
}

-- what holds of the same cells has the same merge
pub of_same : (P Q : CellKey × Cell → Type 0) (rows : Pairs)
    → ((pair : CellKey × Cell) → P pair ↔ Q pair) → IsMergeOf P rows → IsMergeOf Q rows
of_same P Q rows same p = record {
  ordered = p.ordered;
  newest = λ key. newest_of_same P Q same key (found_at rows key) (p.newest key);
}

-- ---- of a list: its members alone decide
pub unique : (pairs rows others : Pairs) → IsMerge pairs rows → IsMerge pairs others → rows ≡ others
unique pairs rows others p q = unique_of (Contains pairs) rows others p q

pub of_members : (pairs others rows : Pairs) → HaveSameMembers pairs others → IsMerge pairs rows
    → IsMerge others rows
of_members pairs others rows same p = of_same (Contains pairs) (Contains others) rows same p

-- ---- rows in order are their own merge
newest_of_itself : (rows : Pairs) → AreInOrder rows → (key : CellKey) (o : Option Cell)
    → found_at rows key ≡ o → IsNewestAt rows key o
newest_of_itself rows s key None e = λ cell h.
    let found : found_at rows key ≡ Some cell =
    lookup-from_Contains key_equiv key cell rows
    (IsDistinct-from_sorted key_cmp (keys_of rows) s) h in
    (let clash : None ≡ Some cell = sym e ∙ found in cc)
newest_of_itself rows s key (Some c) e = record {
  listed = Contains-from_lookup one_key key c rows e;
  greatest = λ other h.
      let found : found_at rows key ≡ Some other =
      lookup-from_Contains key_equiv key other rows
      (IsDistinct-from_sorted key_cmp (keys_of rows) s) h in
      let same : other ≡ c = (let both : Some other ≡ Some c = sym found ∙ e in cc) in
      subst (λ (x : Cell). is_newer x c ≡ false) (sym same) (not_newer_itself c);
}

pub of_itself : (rows : Pairs) → AreInOrder rows → IsMerge rows rows
of_itself rows s = record {
  ordered = s;
  newest = λ key. newest_of_itself rows s key (found_at rows key) refl;
}

-- ---- in parts: lists that agree on their newest cells agree with more behind
more_newest : (pairs others more : Pairs) (key : CellKey) (o new : Option Cell)
    → IsNewestAt pairs key o → IsNewestAt others key o
    → IsNewestAt (others ++ more) key new → IsNewestAt (pairs ++ more) key new
more_newest pairs others more key None None p q r = λ cell h.
    elim (Contains-append_cases pairs more (key, cell) h) [
      | inl l ↦ p cell l
      | inr l ↦ r cell (Contains-append_right others more (key, cell) l)
    ]
more_newest pairs others more key None (Some d) p q r = record {
  listed = elim (Contains-append_cases others more (key, d) r.listed) [
    | inl l ↦ absurd (q d l)
    | inr l ↦ Contains-append_right pairs more (key, d) l
  ];
  greatest = λ other h. elim (Contains-append_cases pairs more (key, other) h) [
    | inl l ↦ absurd (p other l)
    | inr l ↦ r.greatest other (Contains-append_right others more (key, other) l)
  ];
}
more_newest pairs others more key (Some c) None p q r =
    absurd (r c (Contains-append_left others more (key, c) q.listed))
more_newest pairs others more key (Some c) (Some d) p q r =
    let no_older : is_newer c d ≡ false =
    r.greatest c (Contains-append_left others more (key, c) q.listed) in
    record {
      listed = elim (Contains-append_cases others more (key, d) r.listed) [
        | inl l ↦ subst (λ (x : Cell). Contains (pairs ++ more) (key, x))
            (one_cell c d no_older (q.greatest d l))
            (Contains-append_left pairs more (key, c) p.listed)
        | inr l ↦ Contains-append_right pairs more (key, d) l
      ];
      greatest = λ other h. elim (Contains-append_cases pairs more (key, other) h) [
        | inl l ↦ not_newer other c d (p.greatest other l) no_older
        | inr l ↦ r.greatest other (Contains-append_right others more (key, other) l)
      ];
    }

-- what was merged stands for what it was made of
pub continues : (pairs merged more rows : Pairs) → IsMerge pairs merged
    → IsMerge (merged ++ more) rows → IsMerge (pairs ++ more) rows
continues pairs merged more rows p q = record {
  ordered = q.ordered;
  newest = λ key. more_newest pairs merged more key (found_at merged key) (found_at rows key)
      (p.newest key) ((of_itself merged p.ordered).newest key) (q.newest key);
}

-- ---- one pair more
pub unrelated : (rows : Pairs) (p : CellKey × Cell) (q : CellKey) (o : Option Cell) → (p.0 ≡ q → ⊥)
    → IsNewestAt rows q o → IsNewestAt (rows ++ p ∷ []) q o
unrelated rows p q None apart h = λ c l.
    elim (Contains-push_cases rows p (q, c) l) [
      | inl there ↦ h c there
      | inr same ↦ apart (ap (λ x. x.0) same)
    ]
unrelated rows p q (Some d) apart h = record {
  listed = Contains-append_left rows (p ∷ []) (q, d) h.listed;
  greatest = λ other l. elim
      (Contains-push_cases rows p (q, other) l) [
        | inl there ↦ h.greatest other there
        | inr same ↦ absurd (apart (ap (λ x. x.0) same))
      ];
}

-- whatever the key had is no newer than the cell behind
pub topped : (rows : Pairs) (key : CellKey) (cell : Cell)
    → ((other : Cell) → Contains rows (key, other) → is_newer other cell ≡ false)
    → IsNewestAt (rows ++ (key, cell) ∷ []) key (Some cell)
topped rows key cell h = record {
  listed = Contains-push rows (key, cell);
  greatest = λ other l. elim (Contains-push_cases rows (key, cell) (key, other) l) [
    | inl there ↦ h other there
    | inr same ↦ subst (λ (x : Cell). is_newer x cell ≡ false) (ap (λ x. x.1) same)
        (not_newer_itself cell)
  ];
}

over : (rows : Pairs) (key : CellKey) (cell : Cell) (found : Option Cell)
    → IsNewestAt rows key found → IfSome found (λ f. is_newer cell f ≡ true)
    → IsNewestAt (rows ++ (key, cell) ∷ []) key (Some cell)
over rows key cell None h newer = topped rows key cell (λ other there. absurd (h other there))
over rows key cell (Some f) h newer =
    topped rows key cell
    (λ other there. not_newer other f cell (h.greatest other there)
    (not_both_newer cell f newer))

under : (rows : Pairs) (key : CellKey) (cell f : Cell) → IsNewestAt rows key (Some f)
    → is_newer cell f ≡ false → IsNewestAt (rows ++ (key, cell) ∷ []) key (Some f)
under rows key cell f h older = record {
  listed = Contains-append_left rows ((key, cell) ∷ []) (key, f) h.listed;
  greatest = λ other l. elim (Contains-push_cases rows (key, cell) (key, other) l) [
    | inl there ↦ h.greatest other there
    | inr same ↦ subst (λ (x : Cell). is_newer x f ≡ false) (ap (λ x. x.1) same) older
  ];
}

pub apart_from : (a b : CellKey) → eq_by_cmp key_cmp a b ≡ false → a ≡ b → ⊥
apart_from a b e same =
    true≢false (sym (key_equiv.refl a) ∙ ap (λ x. eq_by_cmp key_cmp a x) same ∙ e)

kept_at : (rows : Pairs) (key : CellKey) (cell f : Cell) → AreInOrder rows
    → found_at rows key ≡ Some f → is_newer cell f ≡ false
    → (q : CellKey) (tie : Bool) → eq_by_cmp key_cmp key q ≡ tie
    → IsNewestAt (rows ++ (key, cell) ∷ []) q (found_at rows q)
kept_at rows key cell f s found older q true e =
    let same = one_key key q e in
    let here : IsNewestAt rows key (Some f) =
    subst (IsNewestAt rows key) found ((of_itself rows s).newest key) in
    subst (λ (k : CellKey). IsNewestAt (rows ++ (key, cell) ∷ []) k (found_at rows k)) same
    (subst (IsNewestAt (rows ++ (key, cell) ∷ []) key) (sym found)
    (under rows key cell f here older))
kept_at rows key cell f s found older q false e =
    unrelated rows (key, cell) q (found_at rows q) (apart_from key q e)
    ((of_itself rows s).newest q)

-- a cell that is not newer than its key's changes nothing
pub kept : (rows : Pairs) (key : CellKey) (cell f : Cell) → AreInOrder rows
    → found_at rows key ≡ Some f → is_newer cell f ≡ false → IsMerge (rows ++ (key, cell) ∷ []) rows
kept rows key cell f s found older = record {
  ordered = s;
  newest = λ q. kept_at rows key cell f s found older q (eq_by_cmp key_cmp key q) refl;
}

put_at : (rows new : Pairs) (key : CellKey) (cell : Cell) → AreInOrder rows
    → IfSome (found_at rows key) (λ f. is_newer cell f ≡ true)
    → (q : CellKey) (tie : Bool) → eq_by_cmp key_cmp key q ≡ tie
    → IsNewestAt (rows ++ (key, cell) ∷ []) q (cond tie (Some cell) (found_at rows q))
put_at rows new key cell s newer q true e =
    subst (λ (k : CellKey). IsNewestAt (rows ++ (key, cell) ∷ []) k (Some cell)) (one_key key q e)
    (over rows key cell (found_at rows key) ((of_itself rows s).newest key) newer)
put_at rows new key cell s newer q false e =
    unrelated rows (key, cell) q (found_at rows q) (apart_from key q e)
    ((of_itself rows s).newest q)

-- a cell that is newer than its key's, or the first of its key, takes its place
pub grown : (rows new : Pairs) (key : CellKey) (cell : Cell) → AreInOrder rows → AreInOrder new
    → IfSome (found_at rows key) (λ f. is_newer cell f ≡ true)
    → ((q : CellKey) → found_at new q ≡ cond (is_at (key_cmp key) q) (Some cell) (found_at rows q))
    → IsMerge (rows ++ (key, cell) ∷ []) new
grown rows new key cell s t newer updates = record {
  ordered = t;
  newest = λ q. subst (IsNewestAt (rows ++ (key, cell) ∷ []) q) (sym (updates q))
      (put_at rows new key cell s newer q (eq_by_cmp key_cmp key q) refl);
}

-- ---- one pair after another
pub none_yet : (old : Pairs) → AreInOrder old → IsMerge (old ++ []) old
none_yet old s = subst (λ (l : Pairs). IsMerge l old) (sym (append-nil old)) (of_itself old s)

pub one_more : (old part merged new : Pairs) (p : CellKey × Cell) → IsMerge (old ++ part) merged
    → IsMerge (merged ++ p ∷ []) new → IsMerge (old ++ (part ++ p ∷ [])) new
one_more old part merged new p so_far step =
    subst (λ (l : Pairs). IsMerge l new) (append_assoc old part (p ∷ []))
    (continues (old ++ part) merged (p ∷ []) new so_far step)

pub part_more : (others part left rest : Pairs) (p : CellKey × Cell) → others ≡ part ++ left
    → left ≡ p ∷ rest → others ≡ (part ++ p ∷ []) ++ rest
part_more others part left rest p so_far e = so_far ∙ ap (λ (l : Pairs). part ++ l) e
    ∙ sym (append_assoc part (p ∷ []) rest)

-- ---- two merges
swapped : (pairs others : Pairs) (pair : CellKey × Cell) → Contains (pairs ++ others) pair
    → Contains (others ++ pairs) pair
swapped pairs others pair h = elim (Contains-append_cases pairs others pair h) [
  | inl l ↦ Contains-append_right others pairs pair l
  | inr l ↦ Contains-append_left others pairs pair l
]

-- which of two lists comes first does not matter
pub turned : (pairs others rows : Pairs) → IsMerge (pairs ++ others) rows
    → IsMerge (others ++ pairs) rows
turned pairs others rows p =
    of_members (pairs ++ others) (others ++ pairs) rows
    (λ pair. (swapped pairs others pair, swapped others pairs pair)) p

pub joins : (pairs others left right rows : Pairs) → IsMerge pairs left → IsMerge others right
    → IsMerge (left ++ right) rows → IsMerge (pairs ++ others) rows
joins pairs others left right rows p q r =
    turned others pairs rows (continues others right pairs rows q
    (turned pairs right rows (continues pairs left right rows p r)))
