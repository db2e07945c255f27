-- The orders of cells and of their keys are total, and tell all cells and keys apart.
use Rattle.std.proofs.Common.{◌≡◌, true, false, refl, ap}
use Rattle.std.specs.declared.cmp.Ordering.{Ordering}
use Rattle.std.specs.declared.cmp.Ordering.TheVariants.{Less, Equal, Greater}
use Rattle.std.specs.Ordering.{nat_cmp, int_cmp, ordering_then, ordering_reverse, eq_by_cmp}
use Rattle.std.specs.Ordering.{is_gt}
use Rattle.std.specs.Cmp.{IsTotalOrder, IsEquivalence, eq_by_cmp_equiv, Equal-is}
use Rattle.std.specs.Cmp.Lexicographic.{slice_cmp, nat_list_cmp_total}
use Rattle.std.proofs.lemmas.Cmp.{then_total, on_total, nat_cmp_total, int_cmp_total, upto}
use Rattle.std.proofs.lemmas.Cmp.{tied_itself}
use Rattle.std.proofs.lemmas.Map.Lookups.{CmpEqualImpliesEq, exact_unsigned, exact_signed}
use Rattle.std.proofs.lemmas.Map.Lookups.{exact_bytes}
use Rattle.clog_base.specs.declared.cell.Kind.{Kind}
use Rattle.clog_base.specs.declared.cell.Kind.TheVariants.{Deletion, Live}
use Rattle.clog_base.specs.declared.cell.Cell.{Cell}
use Rattle.clog_base.specs.declared.cell.CellKey.{CellKey}
use Rattle.clog_base.proofs.Orderings.{both_equal}
use Rattle.clog_cells.specs.Merge.{key_cmp, cell_cmp, kind_rank, is_newer}

pub key_total : IsTotalOrder key_cmp
key_total =
    then_total (on_total (λ (k : CellKey). k.table.0) nat_cmp_total)
    (then_total (on_total (λ (k : CellKey). k.key) nat_list_cmp_total)
    (on_total (λ (k : CellKey). k.column) nat_list_cmp_total))

pub cell_total : IsTotalOrder cell_cmp
cell_total =
    then_total (on_total (λ (c : Cell). c.ts) int_cmp_total)
    (then_total (on_total (λ (c : Cell). kind_rank c.kind) nat_cmp_total)
    (on_total (λ (c : Cell). c.value) nat_list_cmp_total))

pub exact_keys : CmpEqualImpliesEq key_cmp
exact_keys a b e =
    let first = both_equal (nat_cmp a.table.0 b.table.0)
    (ordering_then (slice_cmp nat_cmp a.key b.key) (slice_cmp nat_cmp a.column b.column)) e in
    let second = both_equal (slice_cmp nat_cmp a.key b.key)
    (slice_cmp nat_cmp a.column b.column) first.1 in
    let t = exact_unsigned a.table.0 b.table.0 first.0 in
    let k = exact_bytes a.key b.key second.0 in
    let c = exact_bytes a.column b.column second.1 in
    λ i. record { table = record { 0 = t i }; key = k i; column = c i }

same_kind : (a b : Kind) → kind_rank a ≡ kind_rank b → a ≡ b
same_kind Live Live e = refl
same_kind Live Deletion e = cc
same_kind Deletion Live e = cc
same_kind Deletion Deletion e = refl

pub exact_cells : CmpEqualImpliesEq cell_cmp
exact_cells a b e =
    let first = both_equal (int_cmp a.ts b.ts)
    (ordering_then (nat_cmp (kind_rank a.kind) (kind_rank b.kind))
    (slice_cmp nat_cmp a.value b.value)) e in
    let second = both_equal (nat_cmp (kind_rank a.kind) (kind_rank b.kind))
    (slice_cmp nat_cmp a.value b.value) first.1 in
    let t = exact_signed a.ts b.ts first.0 in
    let k = same_kind a.kind b.kind
    (exact_unsigned (kind_rank a.kind) (kind_rank b.kind) second.0) in
    let v = exact_bytes a.value b.value second.1 in
    λ i. record { ts = t i; kind = k i; value = v i }

pub key_equiv : IsEquivalence (eq_by_cmp key_cmp)
key_equiv = eq_by_cmp_equiv key_total

-- keys that compare as equal are one
pub one_key : (a b : CellKey) → eq_by_cmp key_cmp a b ≡ true → a ≡ b
one_key a b e = exact_keys a b ((Equal-is (key_cmp a b)).0 e)

neither_greater : (r s : Ordering) → r ≡ ordering_reverse s → is_gt r ≡ false → is_gt s ≡ false
    → r ≡ Equal
neither_greater Less Less e p q = cc
neither_greater Less Equal e p q = cc
neither_greater Less Greater e p q = cc
neither_greater Equal s e p q = refl
neither_greater Greater s e p q = cc

-- two cells neither of which is newer are one
pub one_cell : (a b : Cell) → is_newer a b ≡ false → is_newer b a ≡ false → a ≡ b
one_cell a b p q =
    exact_cells a b (neither_greater (cell_cmp a b) (cell_cmp b a) (cell_total.antisymm a b) p q)

-- what is not newer than a cell is not newer than one that is no older
pub not_newer : (a b c : Cell) → is_newer a b ≡ false → is_newer b c ≡ false → is_newer a c ≡ false
not_newer a b c = upto cell_total a b c

pub not_newer_itself : (a : Cell) → is_newer a a ≡ false
not_newer_itself a = ap is_gt (tied_itself cell_total a)

greater_back : (r s : Ordering) → r ≡ ordering_reverse s → is_gt r ≡ true → is_gt s ≡ false
greater_back Less s e p = cc
greater_back Equal s e p = cc
greater_back Greater Less e p = refl
greater_back Greater Equal e p = cc
greater_back Greater Greater e p = cc

-- of two cells one is not newer
pub not_both_newer : (a b : Cell) → is_newer a b ≡ true → is_newer b a ≡ false
not_both_newer a b p = greater_back (cell_cmp a b) (cell_cmp b a) (cell_total.antisymm a b) p
