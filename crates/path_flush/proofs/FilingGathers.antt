-- What a flush has gathered behind the reading of one box.
use Rattle.std.proofs.Common.{
  ◌≡◌,
  ℕ,
  ◌||◌,
  not,
  nat_eq,
  ne_eqb,
  Bool,
  true,
  false,
  List,
  [],
  ◌∷◌,
  ◌++◌,
  Option,
  Some,
  None,
  refl,
  sym,
  ap,
  ◌∙◌,
  subst,
  length,
  arith,
  Result,
  Ok,
  Err,
  OnOk,
  IfSome,
}
use Rattle.std.proofs.lemmas.List.{append-nil}
use Rattle.clog_base.specs.declared.cell.Cell.{Cell}
use Rattle.clog_base.specs.declared.cell.CellKey.{CellKey}
use Rattle.clog_base.specs.declared.cell.Table.{Table}
use Rattle.clog_cells.proofs.Merging.{of_same}
use Rattle.clog_cells.specs.Batches.{WerePut}
use Rattle.clog_cells.specs.Merge.{IsMerge}
use Rattle.clog_cells.specs.declared.batches.CellBatches.{CellBatches}
use Rattle.clog_memtable.specs.Gathering.{IsCellOf, IsGathered}
use Rattle.clog_memtable.proofs.Gathered.{gathered_is, gathered_none}
use Rattle.path_core.specs.declared.note.EntryNote.{EntryNote}
use Rattle.path_rule.specs.declared.view.FlushRead.{FlushRead}
use Rattle.path_rule.specs.declared.view.Hands.{Hands}
use Rattle.path_rule.specs.Filing.{IsCellIn}
use Rattle.path_rule.specs.FilingTold.{AreSeen}
use Rattle.path_flush.specs.declared.flush_gathering.Gathered.{Gathered}
use Rattle.path_flush.specs.declared.flush_gathering.Gathered.TheVariants.{
  Nothing,
  Cells,
  OutOfMemory,
}
use Rattle.path_flush.specs.FlushGathers.{
  AreSome,
  HasGathered,
  HasGatheredAll,
  HoldsGathered,
  IsMadeOf,
  ReadsIt,
  told_some,
}

-- ---- something or nothing

-- a list of another length than 0 is of some
pub some_by_length : (l : List EntryNote) → AreSome (not (nat_eq (length l) 0)) l
some_by_length [] = refl
some_by_length (x ∷ xs) = subst (λ (b : Bool). AreSome (not b) (x ∷ xs))
    (sym (ne_eqb (length (x ∷ xs)) 0 (λ e. omega (arith, e)))) by
  where
    by : AreSome true (x ∷ xs)
    by none = let long = ap length none in omega (arith, long)

right_none : (l r : List EntryNote) → l ++ r ≡ [] → r ≡ []
right_none [] r is = is
right_none (x ∷ xs) r is = let long = ap length is in absurd (omega (arith, long))

-- both together
pub joined_some : (a b : Bool) (l r : List EntryNote) → AreSome a l → AreSome b r
    → AreSome (b || a) (l ++ r)
joined_some a true l r A B = λ none. B (right_none l r none)
joined_some a false l r A B = subst (AreSome a) (sym (ap (λ k. l ++ k) B ∙ append-nil l)) A

-- ---- the cells of what was seen

cell_in : (notes : List EntryNote) (t : ℕ) (pair : CellKey × Cell) → IsCellOf notes t pair
    → IsCellIn notes t pair
cell_in notes t pair C = record {
  note = C.note;
  among = C.among;
  whole = C.whole;
  listed = C.listed;
  of_table = C.of_table;
}

cell_of : (notes : List EntryNote) (t : ℕ) (pair : CellKey × Cell) → IsCellIn notes t pair
    → IsCellOf notes t pair
cell_of notes t pair C = record {
  note = C.note;
  among = C.among;
  whole = C.whole;
  listed = C.listed;
  of_table = C.of_table;
}

-- the merge of the cells of all that was seen is what a file of it has to hold
gathered_seen : (t : Table) (q : FlushRead) (cells : CellBatches) (merged : List (CellKey × Cell))
    → IsGathered t q.seen cells
    → ((put : List (CellKey × Cell)) → WerePut put cells → IsMerge put merged)
    → AreSeen q t.0 merged
gathered_seen t q cells merged G M =
    of_same (IsCellOf q.seen t.0) (IsCellIn q.seen t.0) merged
    (λ pair. (cell_in q.seen t.0 pair, cell_of q.seen t.0 pair))
    (gathered_is t q.seen cells merged G (M G.pairs G.put))

-- a further box was read, which holds these notes
pub box_gathered : {E : Type 0} (t : Table) (seen lent : List EntryNote) (new : CellBatches)
    (some here more : Bool) (after : Hands) (done : Result (Unit {0}) E)
    → ((q : FlushRead) → after.reading ≡ Some q → seen ++ lent ≡ q.seen)
    → OnOk done (IsGathered t (seen ++ lent) new) → AreSome some seen → AreSome here lent
    → more ≡ (here || some) → IfSome (told_some done more) (λ b. HoldsGathered t new b after)
box_gathered t seen lent new some here more after (Ok u) is G S L same = λ q has. (
  subst (λ l. IsGathered t l new) (is q has) G,
  subst (λ l. AreSome more l) (is q has) (subst (λ b. AreSome b (seen ++ lent)) (sym same)
      (joined_some some here seen lent S L)),
)
box_gathered t seen lent new some here more after (Err e) is G S L same = tt

-- no box was read yet
pub none_gathered : (t : Table) (cells : CellBatches) (h : Hands)
    → ((q : FlushRead) → h.reading ≡ Some q → q.seen ≡ []) → WerePut [] cells
    → HoldsGathered t cells false h
none_gathered t cells h void none = λ q has. (
  subst (λ l. IsGathered t l cells) (sym (void q has)) (gathered_none t cells none),
  void q has,
)

-- all boxes were
pub all_gathered : (seats : ℕ) (t : Table) (m : ℕ) (cells : CellBatches)
    (some : Option Bool) (h : Hands) (g : Gathered) → HasGatheredAll seats t m cells some h
    → IsMadeOf some cells g → HasGathered seats t m g h
all_gathered seats t m cells (Some true) h (Cells merged) A M =
    (A.0, A.1, A.3, gathered_seen t A.0 cells merged A.2 M)
all_gathered seats t m cells (Some true) h Nothing A M = absurd M
all_gathered seats t m cells (Some true) h OutOfMemory A M =
    (A.0, (A.1.0, A.1.1, A.1.2, A.1.3, A.1.5))
all_gathered seats t m cells (Some false) h g A M = subst (λ k. HasGathered seats t m k h) (sym M)
    (A.0, A.1.0, A.1.1, A.1.2, A.1.3, A.1.4, A.3, A.1.5)
all_gathered seats t m cells None h g A M = subst (λ k. HasGathered seats t m k h) (sym M) A

-- it is what is read of the memtable
pub reads_it : (seats : ℕ) (t : Table) (m : ℕ) (g : Gathered) (h : Hands)
    → HasGathered seats t m g h → (q : FlushRead) × ReadsIt t.0 m h q
reads_it seats t m Nothing h A = (A.0, (A.1, A.2, A.3, A.4, A.7))
reads_it seats t m (Cells cells) h A = (A.0, (A.1.0, A.1.1, A.1.2, A.1.3, A.1.5))
reads_it seats t m OutOfMemory h A = A

-- so it is where what is read stays
pub gathered_same : (seats : ℕ) (t : Table) (m : ℕ) (g : Gathered) (h after : Hands)
    → after.reading ≡ h.reading → HasGathered seats t m g h → HasGathered seats t m g after
gathered_same seats t m Nothing h after same A =
    (A.0, same ∙ A.1, A.2, A.3, A.4, A.5, A.6, A.7)
gathered_same seats t m (Cells cells) h after same A =
    (A.0, (same ∙ A.1.0, A.1.1, A.1.2, A.1.3, A.1.4, A.1.5), A.2, A.3)
gathered_same seats t m OutOfMemory h after same A =
    (A.0, (same ∙ A.1.0, A.1.1, A.1.2, A.1.3, A.1.4))
