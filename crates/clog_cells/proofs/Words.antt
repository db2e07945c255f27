-- What is newer, and which key is below, in the words of cells.
use Rattle.std.proofs.Common.{◌≡◌, ◌<◌, ℕ, List, true, sym, ap, ◌∙◌}
use Rattle.std.specs.Prelude.{◌<ℤ◌}
use Rattle.std.specs.declared.cmp.Ordering.{Ordering}
use Rattle.std.specs.declared.cmp.Ordering.TheVariants.{Less, Equal, Greater}
use Rattle.std.specs.Ordering.{nat_cmp, ordering_then, is_gt}
use Rattle.std.specs.Cmp.{int_cmp_is, nat_cmp_is}
use Rattle.std.specs.Cmp.Lexicographic.{slice_cmp, nat_list_cmp_total}
use Rattle.std.proofs.lemmas.Cmp.{tied_itself}
use Rattle.clog_base.specs.declared.cell.Kind.{Kind}
use Rattle.clog_base.specs.declared.cell.Kind.TheVariants.{Deletion, Live}
use Rattle.clog_base.specs.declared.cell.Cell.{Cell}
use Rattle.clog_base.specs.declared.cell.CellKey.{CellKey}
use Rattle.clog_base.specs.declared.cell.Table.{Table}
use Rattle.clog_cells.specs.Merge.{key_cmp, kind_rank, is_newer}

abbrev by_kind : Cell → Cell → Ordering
by_kind a b =
    ordering_then (nat_cmp (kind_rank a.kind) (kind_rank b.kind))
    (slice_cmp nat_cmp a.value b.value)

pub later_is_newer : (a b : Cell) → b.ts <ℤ a.ts → is_newer a b ≡ true
later_is_newer a b later =
    ap (λ (o : Ordering). is_gt (ordering_then o (by_kind a b)))
    (sym (int_cmp_is a.ts b.ts Greater later))

at_one_time : (a b : Cell) → a.ts ≡ b.ts → is_newer a b ≡ is_gt (by_kind a b)
at_one_time a b same =
    ap (λ (o : Ordering). is_gt (ordering_then o (by_kind a b)))
    (sym (int_cmp_is a.ts b.ts Equal same))

pub deletion_is_newer : (a b : Cell) → a.ts ≡ b.ts → a.kind ≡ Deletion → b.kind ≡ Live
    → is_newer a b ≡ true
deletion_is_newer a b same deleted live =
    at_one_time a b same
    ∙ ap (λ (k : Kind). is_gt (ordering_then (nat_cmp (kind_rank k) (kind_rank b.kind))
    (slice_cmp nat_cmp a.value b.value))) deleted
    ∙ ap (λ (k : Kind). is_gt (ordering_then (nat_cmp 1 (kind_rank k))
    (slice_cmp nat_cmp a.value b.value))) live

pub greater_is_newer : (a b : Cell) → a.ts ≡ b.ts → a.kind ≡ Live → b.kind ≡ Live
    → slice_cmp nat_cmp a.value b.value ≡ Greater → is_newer a b ≡ true
greater_is_newer a b same live other greater =
    at_one_time a b same
    ∙ ap (λ (k : Kind). is_gt (ordering_then (nat_cmp (kind_rank k) (kind_rank b.kind))
    (slice_cmp nat_cmp a.value b.value))) live
    ∙ ap (λ (k : Kind). is_gt (ordering_then (nat_cmp 0 (kind_rank k))
    (slice_cmp nat_cmp a.value b.value))) other
    ∙ ap is_gt greater

-- ---- keys
pub lower_table : (a b : CellKey) → a.table.0 < b.table.0 → key_cmp a b ≡ Less
lower_table a b lower =
    ap (λ (o : Ordering). ordering_then o
    (ordering_then (slice_cmp nat_cmp a.key b.key) (slice_cmp nat_cmp a.column b.column)))
    (sym (nat_cmp_is a.table.0 b.table.0 Less lower))

tied_first : (rest : Ordering) (o : Ordering) → o ≡ Equal → ordering_then o rest ≡ rest
tied_first rest o tie = ap (λ (x : Ordering). ordering_then x rest) tie

pub lower_key : (a b : CellKey) → a.table ≡ b.table → slice_cmp nat_cmp a.key b.key ≡ Less
    → key_cmp a b ≡ Less
lower_key a b same lower =
    tied_first _ (nat_cmp a.table.0 b.table.0)
    (sym (nat_cmp_is a.table.0 b.table.0 Equal (ap (λ (t : Table). t.0) same)))
    ∙ ap (λ (o : Ordering). ordering_then o (slice_cmp nat_cmp a.column b.column)) lower

pub lower_column : (a b : CellKey) → a.table ≡ b.table → a.key ≡ b.key
    → slice_cmp nat_cmp a.column b.column ≡ Less → key_cmp a b ≡ Less
lower_column a b same one lower =
    tied_first _ (nat_cmp a.table.0 b.table.0)
    (sym (nat_cmp_is a.table.0 b.table.0 Equal (ap (λ (t : Table). t.0) same)))
    ∙ tied_first _ (slice_cmp nat_cmp a.key b.key)
    (ap (λ (bytes : List ℕ). slice_cmp nat_cmp a.key bytes) (sym one)
    ∙ tied_itself nat_list_cmp_total a.key)
    ∙ lower
