-- A loop over tables that gives each barrier where the seat holds the table's turn.
use Rattle.std.proofs.Common.{
  ◌≡◌,
  ℕ,
  zero,
  suc,
  ◌+◌,
  ◌<◌,
  ◌≤◌,
  Bool,
  true,
  false,
  List,
  [],
  ◌∷◌,
  length,
  map,
  get_or,
  set,
  take,
  is_some,
  refl,
  sym,
  ap,
  ◌∙◌,
  arith,
  cond,
}
use Rattle.path_core.specs.declared.seat.SeatTable.{SeatTable}
use Rattle.path_core.specs.declared.state.TableState.{TableState}
use Rattle.path_core.specs.Next.{barred, barred_tables}

-- a table of which nothing waits for this barrier any more
abbrev pub barred_table : ℕ → TableState → TableState
barred_table group t = record t { memtables = map (barred group) t.memtables }

skipped : (group : ℕ) (ss : List SeatTable) (ts : List TableState) (i : ℕ) (d : SeatTable)
    → i < length ts → i < length ss → is_some (get_or ss i d).flush ≡ false
    → barred_tables group (take i ss) ts ≡ barred_tables group (take (suc i) ss) ts
skipped group [] ts i d inside there free = absurd (omega arith)
skipped group (s ∷ ss) [] i d inside there free = absurd (omega arith)
skipped group (s ∷ ss) (t ∷ ts) zero d inside there free =
    ap (λ (b : Bool). cond b (barred_table group t) t ∷ ts) (sym free)
skipped group (s ∷ ss) (t ∷ ts) (suc i) d inside there free =
    ap (λ l. cond (is_some s.flush) (barred_table group t) t ∷ l)
    (skipped group ss ts i d (omega arith) (omega arith) free)

changed : (group : ℕ) (ss : List SeatTable) (ts : List TableState) (i : ℕ) (d : SeatTable)
    (e : TableState) → i < length ts → i < length ss → is_some (get_or ss i d).flush ≡ true
    → set (barred_tables group (take i ss) ts) i
    (barred_table group (get_or (barred_tables group (take i ss) ts) i e))
    ≡ barred_tables group (take (suc i) ss) ts
changed group [] ts i d e inside there held = absurd (omega arith)
changed group (s ∷ ss) [] i d e inside there held = absurd (omega arith)
changed group (s ∷ ss) (t ∷ ts) zero d e inside there held =
    ap (λ (b : Bool). cond b (barred_table group t) t ∷ ts) (sym held)
changed group (s ∷ ss) (t ∷ ts) (suc i) d e inside there held =
    ap (λ l. cond (is_some s.flush) (barred_table group t) t ∷ l)
    (changed group ss ts i d e (omega arith) (omega arith) held)

suc_is : (i : ℕ) → suc i ≡ i + 1
suc_is i = omega arith

pub barred_tables-skip : (group : ℕ) (ss : List SeatTable) (ts us : List TableState) (i : ℕ)
    (d : SeatTable) → i < length ts → i < length ss → is_some (get_or ss i d).flush ≡ false
    → us ≡ barred_tables group (take i ss) ts → us ≡ barred_tables group (take (i + 1) ss) ts
barred_tables-skip group ss ts us i d inside there free is =
    is ∙ (skipped group ss ts i d inside there free
    ∙ ap (λ k. barred_tables group (take k ss) ts) (suc_is i))

pub barred_tables-set : (group : ℕ) (ss : List SeatTable) (ts us : List TableState) (i : ℕ)
    (d : SeatTable) (e y : TableState) → i < length ts → i < length ss
    → is_some (get_or ss i d).flush ≡ true → us ≡ barred_tables group (take i ss) ts
    → y ≡ barred_table group (get_or us i e)
    → set us i y ≡ barred_tables group (take (i + 1) ss) ts
barred_tables-set group ss ts us i d e y inside there held is e' =
    ap (set us i) e'
    ∙ (ap (λ l. set l i (barred_table group (get_or l i e))) is
    ∙ (changed group ss ts i d e inside there held
    ∙ ap (λ k. barred_tables group (take k ss) ts) (suc_is i)))

-- the parts of a seat beyond the tables do not count
pub barred_tables-take : (group : ℕ) (ss : List SeatTable) (ts : List TableState)
    → length ts ≤ length ss
    → barred_tables group (take (length ts) ss) ts ≡ barred_tables group ss ts
barred_tables-take group [] [] few = refl
barred_tables-take group [] (t ∷ ts) few = absurd (omega arith)
barred_tables-take group (s ∷ ss) [] few = refl
barred_tables-take group (s ∷ ss) (t ∷ ts) few =
    ap (λ l. cond (is_some s.flush) (barred_table group t) t ∷ l)
    (barred_tables-take group ss ts (omega arith))
