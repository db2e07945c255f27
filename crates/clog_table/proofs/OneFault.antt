-- Bytes have one fault, since each is the first rule of an order that they break.
use Rattle.std.proofs.Common.{
  ◌≡◌,
  ℕ,
  zero,
  suc,
  ◌+◌,
  ◌<◌,
  ◌^◌,
  ◌≤◌,
  ◌⊎◌,
  inl,
  inr,
  List,
  [],
  ◌∷◌,
  ◌++◌,
  length,
  take,
  drop,
  Result,
  Ok,
  Err,
  refl,
  sym,
  ap,
  subst,
  ◌∙◌,
  arith,
}
use Rattle.std.specs.Prelude.{◌≢◌, ⊤}
use Rattle.std.specs.Int.{w32, from_be_bytes}
use Rattle.std.proofs.lemmas.List.{take-append-drop}
use Rattle.std.proofs.lemmas.Nat.{from_be_bytes-to_be_bytes_4}
use Rattle.clog_base.specs.declared.cell.Cell.{Cell}
use Rattle.clog_base.specs.declared.cell.CellKey.{CellKey}
use Rattle.clog_base.specs.declared.cell.Table.{Table}
use Rattle.clog_cells.specs.Merge.{AreInOrder}
use Rattle.clog_table.specs.declared.head.Head.{Head}
use Rattle.clog_table.specs.declared.table_file.TableFile.{TableFile}
use Rattle.clog_table.specs.declared.fault.TableFault.{TableFault}
use Rattle.clog_table.specs.declared.fault.TableFault.TheVariants.{
  Short,
  Version,
  HeadCheck,
  Table as OtherTable,
  Interval,
  Cell as NoCell,
  Order,
  CellsCheck,
  Trailing,
  OutOfMemory,
}
use Rattle.clog_table.specs.Format.{
  cells_bytes,
  check_bytes,
  head_bytes,
  head_size,
  head_front_size,
  behind_head,
}
use Rattle.clog_table.specs.Limits.{IsThisTable, IsUpTo}
use Rattle.clog_table.specs.Heads.{BeginsWithHead, HasHead, HasVersion, RefusesHead, head_at}
use Rattle.clog_table.specs.Cells.{BeginsWithNoCell}
use Rattle.clog_fields.specs.Refusals.{place}
use Rattle.clog_table.specs.Refusals.{HasAllCells, Refuses, Decodes}
use Rattle.clog_table.specs.Refusals.{IsFaultUnlessMemory}
use Rattle.clog_table.proofs.Numbers.{four_at, four_once}
use Rattle.clog_table.proofs.HeadParts.{head_is_long}
use Rattle.clog_table.proofs.Keys.{Pairs}
use Rattle.clog_table.proofs.Again.{head_again, one_head, one_cell, not_refused}
use Rattle.clog_table.proofs.Stops.{IsStop, Stop, one_stop}

-- ---- the first of some rules that holds
IsFirst : List (Type 0) → ℕ → Type 0
IsFirst [] n = ⊥
IsFirst (P ∷ Ps) zero = P
IsFirst (P ∷ Ps) (suc n) = ¬ P × IsFirst Ps n

one_first : (rules : List (Type 0)) (m n : ℕ) → IsFirst rules m → IsFirst rules n → m ≡ n
unfolding IsFirst
one_first [] m n p q = absurd p
one_first (P ∷ Ps) zero zero p q = refl
one_first (P ∷ Ps) zero (suc n) p q = absurd (q.0 p)
one_first (P ∷ Ps) (suc m) zero p q = absurd (p.0 q)
one_first (P ∷ Ps) (suc m) (suc n) p q = ap suc (one_first Ps m n p.1 q.1)

-- ---- the head
abbrev is_short : List ℕ → Type 0
is_short bytes = length bytes < head_size

abbrev head_rules : Table → List ℕ → List (Type 0)
head_rules table bytes =
    is_short bytes ∷ (¬ HasVersion 1 bytes)
    ∷ (take 4 (drop head_front_size bytes) ≢ check_bytes (take head_front_size bytes))
    ∷ (¬ IsThisTable (head_at (take head_size bytes)).table table)
    ∷ (¬ IsUpTo (head_at (take head_size bytes)).lower
    (head_at (take head_size bytes)).upper) ∷ ⊤ ∷ []

abbrev head_fault : List ℕ → ℕ → TableFault
head_fault bytes zero = Short
head_fault bytes (suc zero) = Version (from_be_bytes w32 bytes)
head_fault bytes (suc (suc zero)) = HeadCheck
head_fault bytes (suc (suc (suc zero))) = OtherTable
head_fault bytes (suc (suc (suc (suc n)))) = Interval

record HeadSays (table : Table) (bytes : List ℕ) (fault : TableFault) : Type 0 where
  pub rule : ℕ
  pub early : rule < 5
  pub first : IsFirst (head_rules table bytes) rule
  pub named : fault ≡ head_fault bytes rule

-- of bytes that begin with a head
module _ (table : Table) (bytes : List ℕ) (head : Head) (begins : BeginsWithHead bytes head) where
  long : is_short bytes → ⊥
  long short = let h = head_is_long bytes head begins in absurd (omega (arith, h, short))

  whole : bytes ≡ head_bytes head ++ behind_head bytes
  whole = sym (take-append-drop head_size bytes)
      ∙ ap (λ (l : List ℕ). l ++ behind_head bytes) begins.spelled

  version : HasVersion 1 bytes
  version = ap (take 4) whole

  right : take 4 (drop head_front_size bytes) ≡ check_bytes (take head_front_size bytes)
  right = subst (λ (l : List ℕ). take 4 (drop head_front_size l)
      ≡ check_bytes (take head_front_size l)) (sym whole) refl

  read_so : head_at (take head_size bytes) ≡ head
  read_so = ap head_at begins.spelled ∙ head_again head begins.stored

version_is : (n : ℕ) (bytes : List ℕ) → head_size ≤ length bytes → n < 2 ^ 32 → HasVersion n bytes
    → n ≡ from_be_bytes w32 bytes
version_is n bytes long fits version =
    sym (from_be_bytes-to_be_bytes_4 n fits) ∙ ap (from_be_bytes w32) (sym version)
    ∙ sym (four_at bytes (omega (arith, long)))

head_says : (table : Table) (bytes : List ℕ) (fault : TableFault) → RefusesHead table bytes fault
    → HeadSays table bytes fault
unfolding IsFirst
head_says table bytes Short h =
    record { rule = 0; early = omega arith; first = h; named = refl }
head_says table bytes (Version n) h = record {
  rule = 1;
  early = omega arith;
  first = (
    λ short. absurd (omega (arith, h.long, short)),
    λ one. h.other (four_once n 1 h.fits (omega arith) (sym h.version ∙ one)),
  );
  named = ap Version (version_is n bytes h.long h.fits h.version);
}
head_says table bytes HeadCheck h = record {
  rule = 2;
  early = omega arith;
  first = (
    λ short. absurd (omega (arith, h.long, short)),
    ((λ other. other h.version), h.wrong),
  );
  named = refl;
}
head_says table bytes OtherTable h = record {
  rule = 3;
  early = omega arith;
  first = (
    long table bytes h.head h.begins,
    (
      (λ other. other (version table bytes h.head h.begins)),
      (
        (λ wrong. wrong (right table bytes h.head h.begins)),
        (λ this. h.other (subst (λ (x : Head). IsThisTable x.table table)
            (read_so table bytes h.head h.begins) this)),
      ),
    ),
  );
  named = refl;
}
head_says table bytes Interval h = record {
  rule = 4;
  early = omega arith;
  first = (
    long table bytes h.head h.begins,
    (
      (λ other. other (version table bytes h.head h.begins)),
      (
        (λ wrong. wrong (right table bytes h.head h.begins)),
        (
          (λ other. other (subst (λ (x : Head). IsThisTable x.table table)
              (sym (read_so table bytes h.head h.begins)) (h.known, h.same_table))),
          (λ up. h.disordered (subst (λ (x : Head). IsUpTo x.lower x.upper)
              (read_so table bytes h.head h.begins) up)),
        ),
      ),
    ),
  );
  named = refl;
}
head_says table bytes (NoCell at) h = absurd h
head_says table bytes (Order at) h = absurd h
head_says table bytes CellsCheck h = absurd h
head_says table bytes (Trailing at) h = absurd h
head_says table bytes OutOfMemory h = absurd h

-- a head breaks none of its rules
head_passes : (table : Table) (bytes : List ℕ) (head : Head) → HasHead table bytes head
    → IsFirst (head_rules table bytes) 5
unfolding IsFirst
head_passes table bytes head h =
    let read = read_so table bytes head h.begins in (
      long table bytes head h.begins,
      (
        (λ other. other (version table bytes head h.begins)),
        (
          (λ wrong. wrong (right table bytes head h.begins)),
          (
            (λ other. other (subst (λ (x : Head). IsThisTable x.table table) (sym read)
                (h.known, h.same_table))),
            (
              (λ turned. turned (subst (λ (x : Head). IsUpTo x.lower x.upper) (sym read)
                  h.interval)),
              tt,
            ),
          ),
        ),
      ),
    )

-- ---- behind the head
abbrev stop_rules : Table → Stop → List (Type 0)
stop_rules table s =
    ((length s.1.0 < s.0) × BeginsWithNoCell table s.1.1) ∷ (length s.1.0 < s.0)
    ∷ (length s.1.1 < 4) ∷ (take 4 s.1.1 ≢ check_bytes (cells_bytes s.1.0)) ∷ ⊤ ∷ []

abbrev stop_fault : ℕ → ℕ → TableFault
stop_fault at zero = NoCell at
stop_fault at (suc zero) = Order at
stop_fault at (suc (suc zero)) = Short
stop_fault at (suc (suc (suc zero))) = CellsCheck
stop_fault at (suc (suc (suc (suc n)))) = Trailing (at + 4)

record Names (table : Table) (bytes : List ℕ) (fault : TableFault) (s : Stop) : Type 0 where
  pub rule : ℕ
  pub first : IsFirst (stop_rules table s) rule
  pub named : fault ≡ stop_fault (place (length bytes) s.1.1) rule

record StopSays (table : Table) (bytes : List ℕ) (fault : TableFault) : Type 0 where
  pub head : Head
  pub begins : HasHead table bytes head
  pub cells : Pairs
  pub rest : List ℕ
  pub stop : IsStop table head.count (behind_head bytes) cells rest
  pub names : Names table bytes fault (head.count, (cells, rest))

all_read : (table : Table) (count : ℕ) (bytes : List ℕ) (cells : Pairs) (rest : List ℕ)
    → HasAllCells table count bytes cells rest → IsStop table count bytes cells rest
all_read table count bytes cells rest h = record {
  front = h.front;
  stuck = λ wanted. absurd (omega (arith, h.all, wanted));
}

-- what is refused: the head, or what stands behind it
sort_out : (table : Table) (bytes : List ℕ) (fault : TableFault) → Refuses table bytes fault
    → fault ≢ OutOfMemory → HeadSays table bytes fault ⊎ StopSays table bytes fault
unfolding IsFirst
sort_out table bytes Short (inl h) known = inl (head_says table bytes Short h)
sort_out table bytes Short (inr h) known = inr (record {
  head = h.head;
  begins = h.begins;
  cells = h.says.cells;
  rest = h.says.rest;
  stop = all_read table h.head.count (behind_head bytes) h.says.cells h.says.rest h.says.whole;
  names = record {
    rule = 2;
    first = (
      (λ none. absurd (omega (arith, h.says.whole.all, none.0))),
      ((λ wanted. absurd (omega (arith, h.says.whole.all, wanted))), h.says.short),
    );
    named = refl;
  };
})
sort_out table bytes (Version n) h known = inl (head_says table bytes (Version n) h)
sort_out table bytes HeadCheck h known = inl (head_says table bytes HeadCheck h)
sort_out table bytes OtherTable h known = inl (head_says table bytes OtherTable h)
sort_out table bytes Interval h known = inl (head_says table bytes Interval h)
sort_out table bytes (NoCell at) h known = inr (record {
  head = h.head;
  begins = h.begins;
  cells = h.says.1.cells;
  rest = h.says.0;
  stop = record {
    front = h.says.1.front;
    stuck = λ wanted next behind found ordered.
        h.says.1.none next behind found.stored found.spelled;
  };
  names = record { rule = 0; first = (h.says.1.wanted, h.says.1.none); named = ap NoCell h.says.2 };
})
sort_out table bytes (Order at) h known = inr (record {
  head = h.head;
  begins = h.begins;
  cells = h.says.1.cells;
  rest = h.says.0;
  stop = record {
    front = h.says.1.front;
    stuck = λ wanted next behind found ordered.
        let said = h.says.1 in
        let same = one_cell table next said.next behind said.behind found.stored said.found.stored
        (sym found.spelled ∙ said.found.spelled) in
        said.disordered (subst (λ (c : CellKey × Cell). AreInOrder (said.cells ++ c ∷ [])) same.0
        ordered);
  };
  names = record {
    rule = 1;
    first = (
      (λ none. none.1 h.says.1.next h.says.1.behind h.says.1.found.stored h.says.1.found.spelled),
      h.says.1.wanted,
    );
    named = ap Order h.says.2;
  };
})
sort_out table bytes CellsCheck h known = inr (record {
  head = h.head;
  begins = h.begins;
  cells = h.says.cells;
  rest = h.says.rest;
  stop = all_read table h.head.count (behind_head bytes) h.says.cells h.says.rest h.says.whole;
  names = record {
    rule = 3;
    first = (
      (λ none. absurd (omega (arith, h.says.whole.all, none.0))),
      (
        (λ wanted. absurd (omega (arith, h.says.whole.all, wanted))),
        ((λ short. absurd (omega (arith, h.says.long, short))), h.says.wrong),
      ),
    );
    named = refl;
  };
})
sort_out table bytes (Trailing at) h known = inr (record {
  head = h.head;
  begins = h.begins;
  cells = h.says.1.cells;
  rest = h.says.0;
  stop = all_read table h.head.count (behind_head bytes) h.says.1.cells h.says.0 h.says.1.whole;
  names = record {
    rule = 4;
    first = (
      (λ none. absurd (omega (arith, h.says.1.whole.all, none.0))),
      (
        (λ wanted. absurd (omega (arith, h.says.1.whole.all, wanted))),
        (
          (λ short. absurd (omega (arith, h.says.1.more, short))),
          ((λ wrong. wrong h.says.1.right), tt),
        ),
      ),
    );
    named = ap Trailing h.says.2;
  };
})
sort_out table bytes OutOfMemory h known = absurd (known refl)

-- ---- one fault
no_head : (table : Table) (bytes : List ℕ) (fault other : TableFault)
    → HeadSays table bytes fault → StopSays table bytes other → ⊥
no_head table bytes fault other p q =
    let same = one_first (head_rules table bytes) p.rule 5 p.first
    (head_passes table bytes q.head q.begins) in
    absurd (omega (arith, p.early, same))

same_name : (table : Table) (bytes : List ℕ) (fault other : TableFault) (s : Stop)
    → Names table bytes fault s → Names table bytes other s → fault ≡ other
same_name table bytes fault other s p q =
    p.named
    ∙ ap (stop_fault (place (length bytes) s.1.1))
    (one_first (stop_rules table s) p.rule q.rule p.first q.first)
    ∙ sym q.named

by_sort : (table : Table) (bytes : List ℕ) (fault other : TableFault)
    → HeadSays table bytes fault ⊎ StopSays table bytes fault
    → HeadSays table bytes other ⊎ StopSays table bytes other → fault ≡ other
by_sort table bytes fault other (inl p) (inl q) =
    p.named
    ∙ ap (head_fault bytes) (one_first (head_rules table bytes) p.rule q.rule p.first q.first)
    ∙ sym q.named
by_sort table bytes fault other (inl p) (inr q) = absurd (no_head table bytes fault other p q)
by_sort table bytes fault other (inr p) (inl q) = absurd (no_head table bytes other fault q p)
by_sort table bytes fault other (inr p) (inr q) =
    let heads : q.head ≡ p.head =
    one_head bytes q.head p.head q.begins.begins p.begins.begins in
    let counts : q.head.count ≡ p.head.count = ap (λ (h : Head). h.count) heads in
    same_name table bytes fault other (p.head.count, (p.cells, p.rest)) p.names
    (subst (Names table bytes other)
    (one_stop table p.head.count q.head.count (behind_head bytes) p.cells q.cells p.rest q.rest
    counts p.stop q.stop)
    q.names)

pub one_refusal : (table : Table) (bytes : List ℕ) (fault other : TableFault)
    → Refuses table bytes fault → Refuses table bytes other → fault ≢ OutOfMemory
    → other ≢ OutOfMemory → fault ≡ other
one_refusal table bytes fault other p q known knows =
    by_sort table bytes fault other (sort_out table bytes fault p known)
    (sort_out table bytes other q knows)

-- ---- what is refused is refused so
memory_or_not : (fault : TableFault) → (fault ≡ OutOfMemory) ⊎ (fault ≢ OutOfMemory)
memory_or_not OutOfMemory = inl refl
memory_or_not Short = inr (λ e. cc e)
memory_or_not (Version n) = inr (λ e. cc e)
memory_or_not HeadCheck = inr (λ e. cc e)
memory_or_not OtherTable = inr (λ e. cc e)
memory_or_not Interval = inr (λ e. cc e)
memory_or_not (NoCell at) = inr (λ e. cc e)
memory_or_not (Order at) = inr (λ e. cc e)
memory_or_not CellsCheck = inr (λ e. cc e)
memory_or_not (Trailing at) = inr (λ e. cc e)

pub refused_so : (table : Table) (bytes : List ℕ) (fault : TableFault) → Refuses table bytes fault
    → fault ≢ OutOfMemory → (answer : Result TableFile TableFault) → Decodes table bytes answer
    → IsFaultUnlessMemory fault answer
refused_so table bytes fault h known (Ok file) d =
    absurd (known (not_refused table bytes file d fault h))
refused_so table bytes fault h known (Err other) d = elim (memory_or_not other) [
  | inl memory ↦ inr (ap Err memory)
  | inr knows ↦ inl (ap Err (sym (one_refusal table bytes fault other h d known knows)))
]
