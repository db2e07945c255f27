-- Where reading stops: the cells before it and the rest behind it are the same in each reading.
use Rattle.std.proofs.Common.{
  ◌≡◌,
  ℕ,
  zero,
  suc,
  ◌+◌,
  ◌<◌,
  ◌≤◌,
  ◌⊎◌,
  inl,
  inr,
  List,
  [],
  ◌∷◌,
  ◌++◌,
  length,
  sym,
  ap,
  subst,
  ◌∙◌,
  append_assoc,
  arith,
  length-append,
}
use Rattle.std.specs.List.{AllByRecursion}
use Rattle.std.proofs.lemmas.List.{append-nil}
use Rattle.clog_base.specs.declared.cell.Cell.{Cell}
use Rattle.clog_base.specs.declared.cell.CellKey.{CellKey}
use Rattle.clog_base.specs.declared.cell.Table.{Table}
use Rattle.clog_cells.specs.Merge.{AreInOrder}
use Rattle.clog_cells.proofs.InOrder.{front_in_order}
use Rattle.clog_table.specs.Format.{cell_bytes, cells_bytes}
use Rattle.clog_table.specs.Limits.{IsStoredCell}
use Rattle.clog_table.specs.Cells.{HasCells, BeginsWithCell}
use Rattle.clog_table.proofs.Keys.{Pairs}
use Rattle.clog_table.proofs.Again.{front_of}

-- all that is counted is read, or no cell goes on
pub record IsStop (table : Table) (count : ℕ) (bytes : List ℕ) (cells : Pairs) (rest : List ℕ)
    : Type 0 where
  pub front : HasCells table count bytes cells rest
  pub stuck : length cells < count → (next : CellKey × Cell) (behind : List ℕ)
      → BeginsWithCell table rest next behind → AreInOrder (cells ++ next ∷ []) → ⊥

-- what is read to, as one value: the count, the cells and the rest
abbrev pub Stop : Type 0
Stop = ℕ × (Pairs × List ℕ)

-- of two readings the longer one has nothing more
module _ (table : Table) (count : ℕ) (bytes : List ℕ) (cells others : Pairs)
    (rest behind : List ℕ) (stop : IsStop table count bytes cells rest)
    (other : IsStop table count bytes others behind) where
  nothing_more : (later : Pairs) → others ≡ cells ++ later → rest ≡ cells_bytes later ++ behind
      → AllByRecursion (IsStoredCell table) later → (others ≡ cells) × (behind ≡ rest)
  nothing_more [] joined spelled stored = (joined ∙ append-nil cells, sym spelled)
  nothing_more (c ∷ cs) joined spelled stored =
      let longer : length others ≡ length cells + suc (length cs) =
      ap (λ (l : Pairs). length l) joined ∙ length-append cells (c ∷ cs) in
      let wanted : length cells < count = omega (arith, other.front.few) in
      let here : BeginsWithCell table rest c (cells_bytes cs ++ behind) = record {
        stored = stored.0;
        spelled = spelled ∙ append_assoc (cell_bytes c) (cells_bytes cs) behind;
      } in
      let ordered : AreInOrder ((cells ++ c ∷ []) ++ cs) =
      subst AreInOrder (joined ∙ sym (append_assoc cells (c ∷ []) cs)) other.front.ordered in
      absurd (stop.stuck wanted c (cells_bytes cs ++ behind) here
      (front_in_order (cells ++ c ∷ []) cs ordered))

  longer_is_same : length cells ≤ length others → (others ≡ cells) × (behind ≡ rest)
  longer_is_same few =
      let f = front_of table others cells behind rest
      other.front.stored stop.front.stored few
      (sym other.front.spelled ∙ stop.front.spelled) in
      nothing_more f.later f.joined f.spelled f.stored

either_less : (m n : ℕ) → (m ≤ n) ⊎ (n ≤ m)
either_less zero n = inl (omega arith)
either_less (suc m) zero = inr (omega arith)
either_less (suc m) (suc n) = elim (either_less m n) [
  | inl h ↦ inl (omega (arith, h))
  | inr h ↦ inr (omega (arith, h))
]

same_cells : (table : Table) (count : ℕ) (bytes : List ℕ) (cells others : Pairs)
    (rest behind : List ℕ) → IsStop table count bytes cells rest
    → IsStop table count bytes others behind → (others ≡ cells) × (behind ≡ rest)
same_cells table count bytes cells others rest behind p q =
    elim (either_less (length cells) (length others)) [
      | inl few ↦ longer_is_same table count bytes cells others rest behind p q few
      | inr few ↦
          let same = longer_is_same table count bytes others cells behind rest q p few in
          (sym same.0, sym same.1)
    ]

pub one_stop : (table : Table) (count count' : ℕ) (bytes : List ℕ) (cells others : Pairs)
    (rest behind : List ℕ) → count' ≡ count → IsStop table count bytes cells rest
    → IsStop table count' bytes others behind
    → ◌≡◌ {A = Stop} (count', (others, behind)) (count, (cells, rest))
one_stop table count count' bytes cells others rest behind counts p q =
    let same = same_cells table count bytes cells others rest behind p
    (subst (λ n. IsStop table n bytes others behind) counts q) in
    λ i. (counts i, (same.0 i, same.1 i))
