-- The tables hold what the division leaves of each byte with zero bytes behind it.
use Rattle.std.proofs.Common.{
  ◌≡◌,
  ℕ,
  zero,
  suc,
  ◌+◌,
  ◌*◌,
  ◌<◌,
  List,
  [],
  ◌∷◌,
  get_or,
  refl,
  ap,
  ◌∙◌,
  arith,
}
use Rattle.clog_spec.specs.Crc.{divide, divide_once}
use Rattle.clog_base.specs.declared.crc_tables.TheConstants.{TABLES}

-- what this many steps leave of n bytes, from a byte on
row_from : ℕ → ℕ → ℕ → List ℕ
row_from steps zero i = []
row_from steps (suc n) i = divide steps i ∷ row_from steps n (i + 1)

get_or-row_from : (steps n i k : ℕ) → k < n → get_or (row_from steps n i) k 0
    ≡ divide steps (i + k)
unfolding row_from
get_or-row_from steps zero i k h = absurd (omega arith)
get_or-row_from steps (suc n) i zero h = let e : i ≡ i + 0 = omega arith in ap (divide steps) e
get_or-row_from steps (suc n) i (suc k) h =
    let h' : k < n = omega arith in
    let e : i + 1 + k ≡ i + suc k = omega arith in
    get_or-row_from steps n (i + 1) k h' ∙ ap (divide steps) e

-- the rows of n tables, the first of which has this many zero bytes behind each byte
rows_from : ℕ → ℕ → List (List ℕ)
rows_from zero behind = []
rows_from (suc n) behind = row_from (8 * (behind + 1)) 256 0 ∷ rows_from n (behind + 1)

get_or-rows_from : (n behind k : ℕ) (none : List ℕ) → k < n → get_or (rows_from n behind) k none
    ≡ row_from (8 * (behind + k + 1)) 256 0
unfolding rows_from
get_or-rows_from zero behind k none h = absurd (omega arith)
get_or-rows_from (suc n) behind zero none h =
    let e : behind + 1 ≡ behind + 0 + 1 = omega arith in
    ap (λ z. row_from (8 * z) 256 0) e
get_or-rows_from (suc n) behind (suc k) none h =
    let h' : k < n = omega arith in
    let e : behind + 1 + k + 1 ≡ behind + suc k + 1 = omega arith in
    get_or-rows_from n (behind + 1) k none h' ∙ ap (λ z. row_from (8 * z) 256 0) e

tables_are : TABLES ≡ rows_from 8 0
unfolding rows_from row_from divide divide_once
tables_are = refl

pub table_at : (behind i : ℕ) (none : List ℕ) → behind < 8 → i < 256
    → get_or (get_or TABLES behind none) i 0 ≡ divide (8 * (behind + 1)) i
table_at behind i none few h =
    let e : 0 + i ≡ i = omega arith in
    let z : 0 + behind + 1 ≡ behind + 1 = omega arith in
    ap (λ l. get_or (get_or l behind none) i 0) tables_are
    ∙ ap (λ l. get_or l i 0) (get_or-rows_from 8 0 behind none few)
    ∙ ap (λ k. get_or (row_from (8 * k) 256 0) i 0) z
    ∙ get_or-row_from (8 * (behind + 1)) 256 0 i h ∙ ap (divide (8 * (behind + 1))) e
