-- Bytes that are no table file break a rule.
use Rattle.std.proofs.Common.{
  ◌≡◌,
  ℕ,
  zero,
  suc,
  ◌+◌,
  ◌<◌,
  ◌≤◌,
  ◌⊎◌,
  inl,
  inr,
  List,
  [],
  ◌∷◌,
  ◌++◌,
  length,
  take,
  drop,
  Bool,
  true,
  false,
  Result,
  Ok,
  Err,
  refl,
  sym,
  ap,
  subst,
  ◌∙◌,
  arith,
}
use Rattle.std.specs.Prelude.{◌≢◌}
use Rattle.std.specs.Bool.{Decides}
use Rattle.std.specs.Int.{w32, to_be_bytes, from_be_bytes}
use Rattle.std.specs.declared.cmp.Ordering.{Ordering}
use Rattle.std.specs.declared.cmp.Ordering.TheVariants.{Less, Equal, Greater}
use Rattle.std.proofs.lemmas.Bool.Decides.{Decides-eqb, not_from_Decides}
use Rattle.std.proofs.lemmas.Slice.Eq.{bytes_eq-Decides}
use Rattle.std.proofs.lemmas.List.{take_all}
use Rattle.clog_spec.specs.Crc.{IsBytes}
use Rattle.clog_spec.proofs.Bytes.{drop-IsBytes, back-IsBytes}
use Rattle.clog_base.specs.declared.position.Position.{Position}
use Rattle.clog_base.specs.declared.cell.Cell.{Cell}
use Rattle.clog_base.specs.declared.cell.CellKey.{CellKey}
use Rattle.clog_base.specs.declared.cell.Table.{Table}
use Rattle.clog_base.specs.declared.fault.PayloadFault.{PayloadFault}
use Rattle.clog_cells.specs.Merge.{key_cmp}
use Rattle.clog_table.specs.declared.head.Head.{Head}
use Rattle.clog_table.specs.declared.table_file.TableFile.{TableFile}
use Rattle.clog_table.specs.declared.fault.TableFault.{TableFault}
use Rattle.clog_table.specs.declared.fault.TableFault.TheVariants.{
  Short,
  Version,
  HeadCheck,
  Table as OtherTable,
  Interval,
  Cell as NoCell,
  Order,
  CellsCheck,
  Trailing,
  OutOfMemory,
}
use Rattle.clog_table.specs.Format.{
  cell_bytes,
  cells_bytes,
  check_bytes,
  head_size,
  behind_head,
  file_of,
  head_front_size,
}
use Rattle.clog_table.specs.Limits.{IsThisTable, is_this_table, IsUpTo}
use Rattle.clog_table.specs.Reading.{Fields, cell_at}
use Rattle.clog_table.specs.RawFields.{pair_of}
use Rattle.clog_table.specs.Heads.{HasHead, head_at, BeginsWithHead}
use Rattle.clog_table.specs.Cells.{HasCells, BeginsWithCell, IsAbove}
use Rattle.clog_fields.specs.Refusals.{place}
use Rattle.clog_table.specs.Refusals.{RefusesCells, RefusesEnd, Refuses, IsFileOf}
use Rattle.clog_table.proofs.Numbers.{four_spelled, four_below}
use Rattle.clog_table.proofs.HeadParts.{begins_with, this_table, other_table}
use Rattle.clog_base.proofs.PositionOrder.{below_or_up_to, not_both}
use Rattle.clog_table.proofs.Grammar.{no_cell, cell_takes}
use Rattle.clog_table.proofs.Keys.{Pairs, order_goes_on, last_is_above}
use Rattle.clog_table.proofs.Front.{no_cells, one_more, length_push, refused_here}
use Rattle.clog_table.proofs.Ending.{text_is, end_refused, is_file, refused_in_cells}

-- a file, or a fault that tells of the bytes
abbrev pub Verdict : Table → List ℕ → Type 0
Verdict table bytes = ((file : TableFile) × IsFileOf table bytes file)
    ⊎ ((fault : TableFault) × (fault ≢ OutOfMemory) × Refuses table bytes fault)

-- ---- what is decided
decided : {P : Type 0} (r : Bool) → Decides r P → P ⊎ (¬ P)
decided true d = inl (d.0 refl)
decided false d = inr (not_from_Decides false d refl)

known_cell : (at : ℕ) → NoCell at ≢ OutOfMemory
known_cell at e = cc

known_order : (at : ℕ) → Order at ≢ OutOfMemory
known_order at e = cc

below_or : (m n : ℕ) → (m < n) ⊎ (n ≤ m)
below_or zero zero = inr (omega arith)
below_or zero (suc n) = inl (omega arith)
below_or (suc m) zero = inr (omega arith)
below_or (suc m) (suc n) = elim (below_or m n) [
  | inl h ↦ inl (omega (arith, h))
  | inr h ↦ inr (omega (arith, h))
]

table_or : (found table : Table) (b : Bool) → b ≡ is_this_table found table
    → IsThisTable found table ⊎ (¬ IsThisTable found table)
table_or found table true e = inl (this_table found table e)
table_or found table false e = inr (other_table found table e)

interval_or : (a b : Position) → IsUpTo a b ⊎ (¬ IsUpTo a b)
interval_or a b = elim (below_or_up_to b a) [
  | inl turned ↦ inr (not_both b a turned)
  | inr ordered ↦ inl ordered
]

above_by : (row : CellKey × Cell) (rows : Pairs) (key : CellKey) (r : Ordering)
    → key_cmp row.0 key ≡ r → IsAbove rows key ⊎ (¬ IsAbove rows key)
    → IsAbove (row ∷ rows) key ⊎ (¬ IsAbove (row ∷ rows) key)
above_by row rows key Less e (inl above) = inl (e, above)
above_by row rows key Less e (inr none) = inr (λ above. none above.1)
above_by row rows key Equal e rest =
    inr (λ above. let clash : Equal ≡ Less = sym e ∙ above.0 in cc)
above_by row rows key Greater e rest =
    inr (λ above. let clash : Greater ≡ Less = sym e ∙ above.0 in cc)

above_or : (rows : Pairs) (key : CellKey) → IsAbove rows key ⊎ (¬ IsAbove rows key)
above_or [] key = inl tt
above_or (row ∷ rows) key = above_by row rows key (key_cmp row.0 key) refl (above_or rows key)

-- ---- the head
by_head : (table : Table) (bytes : List ℕ) → IsBytes bytes
    → Verdict table bytes ⊎ ((head : Head) × HasHead table bytes head)
by_head table bytes fits = elim (below_or (length bytes) head_size) [
  | inl short ↦ inl (inr (Short, (λ e. cc e), inl short))
  | inr long ↦
      let four : 4 ≤ length bytes = omega (arith, long) in
      let spelled = four_spelled bytes four fits in
      let head = head_at bytes in
      elim (decided _ (Decides-eqb (from_be_bytes w32 bytes) 1)) [
        | inr other ↦ inl (inr (
          Version (from_be_bytes w32 bytes),
          (λ e. cc e),
          record {
            long = long;
            fits = four_below bytes fits;
            version = spelled;
            other = other;
          },
        ))
        | inl one ↦
            elim (decided _ (bytes_eq-Decides (take 4 (drop head_front_size bytes)) (check_bytes
            (take head_front_size bytes)))) [
              | inr wrong ↦ inl (inr (
                HeadCheck,
                (λ e. cc e),
                record {
                  long = long;
                  version = spelled ∙ ap (to_be_bytes w32) one;
                  wrong = wrong;
                },
              ))
              | inl right ↦
                  let begins : BeginsWithHead bytes head = begins_with bytes long fits one right in
                  elim (table_or head.table table (is_this_table head.table table) refl) [
                    | inr other ↦ inl (inr (
                      OtherTable,
                      (λ e. cc e),
                      record {
                        head = head;
                        begins = begins;
                        other = other;
                      },
                    ))
                    | inl this ↦
                        elim (interval_or head.lower head.upper) [
                          | inr turned ↦ inl (inr (
                            Interval,
                            (λ e. cc e),
                            record {
                              head = head;
                              begins = begins;
                              known = this.0;
                              same_table = this.1;
                              disordered = turned;
                            },
                          ))
                          | inl up ↦ inr (
                            head,
                            record {
                              begins = begins;
                              known = this.0;
                              same_table = this.1;
                              interval = up;
                            },
                          )
                        ]
                  ]
            ]
      ]
]

-- ---- the cells
module _ (table : Table) (bytes : List ℕ) (head : Head) (has : HasHead table bytes head) where
  refused : (fault : TableFault) → fault ≢ OutOfMemory
      → RefusesCells bytes head.table head.count (behind_head bytes) fault → Verdict table bytes
  refused fault known h =
      inr (fault, known, refused_in_cells table bytes head fault has h)

  ended : (cells : Pairs) (rest : List ℕ)
      → HasCells head.table head.count (behind_head bytes) cells rest
      → length cells ≡ head.count → (fault : TableFault) → fault ≢ OutOfMemory
      → RefusesEnd (cells_bytes cells) rest (place (length bytes) rest) fault → Verdict table bytes
  ended cells rest front all fault known h =
      inr (fault, known, end_refused table bytes head cells rest has front all fault h)

  at_end : (cells : Pairs) (rest : List ℕ)
      → HasCells head.table head.count (behind_head bytes) cells rest
      → length cells ≡ head.count → Verdict table bytes
  at_end cells rest front all = elim (below_or (length rest) 4) [
    | inl short ↦ ended cells rest front all Short (λ e. cc e) short
    | inr long ↦
        elim (decided _ (bytes_eq-Decides (take 4 rest) (check_bytes (cells_bytes cells)))) [
          | inr wrong ↦ ended cells rest front all CellsCheck (λ e. cc e) (long, wrong)
          | inl right ↦ elim (below_or 4 (length rest)) [
            | inl more ↦ ended cells rest front all (Trailing (place (length bytes) rest + 4))
                (λ e. cc e)
                (right, more, refl)
            | inr whole ↦
                let text = text_is table bytes head cells rest has front all in
                inl (
                  file_of table head.lower head.upper cells,
                  is_file table bytes head cells rest has front all
                      (sym (take_all 4 rest whole) ∙ right ∙ ap check_bytes (sym text)),
                )
          ]
        ]
  ]

  -- the next cell, and what comes of those behind it
  by_cell : (n : ℕ) (cells : Pairs) (rest : List ℕ)
      → HasCells head.table head.count (behind_head bytes) cells rest
      → IsBytes rest → length cells + suc n ≡ head.count
      → ((more : Pairs) (behind : List ℕ)
      → HasCells head.table head.count (behind_head bytes) more behind
      → IsBytes behind
      → length more + n ≡ head.count → Verdict table bytes)
      → (found : Result (Fields × List ℕ) PayloadFault) → cell_at (length rest) rest ≡ found
      → Verdict table bytes
  by_cell n cells rest front fits count again (Err fault) e =
      let wanted : length cells < head.count = omega (arith, count) in
      let none = no_cell (length rest) head.table rest fault e in
      refused (NoCell (place (length bytes) rest)) (known_cell (place (length bytes) rest))
      (refused_here bytes head.table head.count (behind_head bytes) cells rest
      (NoCell (place (length bytes) rest)) front wanted (refl, none))
  by_cell n cells rest front fits count again (Ok x) e =
      let wanted : length cells < head.count = omega (arith, count) in
      let t = cell_takes (length rest) head.table rest x.1 x.0 fits e in
      let pair = pair_of head.table x.0 in
      let found : BeginsWithCell head.table rest pair x.1 =
      record { stored = t.1; spelled = t.0 } in
      elim (above_or cells pair.0) [
        | inl above ↦
            let ordered = order_goes_on cells pair.0 pair.1 front.ordered above in
            again (cells ++ pair ∷ []) x.1
            (one_more head.table head.count (behind_head bytes) cells (cells ++ pair ∷ []) rest
            x.1 front wanted (record {
              next = pair;
              found = found;
              joined = refl;
              ordered = ordered;
            }))
            (back-IsBytes (cell_bytes pair) x.1 (subst IsBytes t.0 fits))
            (omega (arith, count, length_push cells pair))
        | inr not ↦ refused (Order (place (length bytes) rest)) (known_order (place (length bytes)
            rest))
            (refused_here bytes head.table head.count (behind_head bytes) cells rest
            (Order (place (length bytes) rest)) front wanted (
              refl,
              record {
                next = pair;
                behind = x.1;
                found = found;
                disordered = λ order. not (last_is_above cells pair.0 pair.1 order);
              },
            ))
      ]

  all_cells : (n : ℕ) (cells : Pairs) (rest : List ℕ)
      → HasCells head.table head.count (behind_head bytes) cells rest
      → IsBytes rest → length cells + n ≡ head.count → Verdict table bytes
  all_cells zero cells rest front fits count = at_end cells rest front (omega (arith, count))
  all_cells (suc n) cells rest front fits count =
      by_cell n cells rest front fits count (all_cells n)
      (cell_at (length rest) rest) refl

pub one_of_both : (table : Table) (bytes : List ℕ) → IsBytes bytes → Verdict table bytes
one_of_both table bytes fits = elim (by_head table bytes fits) [
  | inl verdict ↦ verdict
  | inr h ↦
      all_cells table bytes h.0 h.1 h.0.count [] (behind_head bytes)
      (no_cells h.0.table h.0.count (behind_head bytes))
      (drop-IsBytes head_size bytes fits) (omega arith)
]
