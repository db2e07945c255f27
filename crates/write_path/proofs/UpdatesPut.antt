-- What a write has put into memtables, and for which tables it has copies of its note still.
use Rattle.std.proofs.Common.{
  ◌≡◌,
  ◌≢◌,
  ℕ,
  zero,
  suc,
  ◌+◌,
  ◌<◌,
  ◌≤◌,
  ◌==◌,
  List,
  [],
  ◌∷◌,
  length,
  map,
  inl,
  inr,
  refl,
  sym,
  ap,
  ◌∙◌,
  arith,
}
use Rattle.std.specs.Prelude.{Bool, true, false, cond, not, ◌&&◌, ◌||◌}
use Rattle.std.specs.List.{Contains, filter, range_with_len}
use Rattle.std.proofs.lemmas.Bool.Decides.{eqb_tells}
use Rattle.std.proofs.lemmas.List.Elements.{filter_agree}
use mathlib.Core.Logic.{dite}
use native.Mathlib.Decide.{ℕ_discrete}
use Rattle.clog_base.proofs.Members.{here, further}
use Rattle.clog_spec.specs.Sizes.{most_tables}
use Rattle.path_core.specs.declared.note.EntryNote.{EntryNote}
use Rattle.path_core.specs.declared.state.Placed.{Placed}
use Rattle.path_core.specs.Parts.{touches}
use Rattle.write_path.specs.Applies.{is_applied, tables_left}
use Rattle.write_path.specs.Writes.{tables_in}

-- ---- what is not among those that were put

is_itself : (n : ℕ) → (n == n) ≡ true
is_itself n = elim (eqb_tells n n) [
  | inl same ↦ same.0
  | inr other ↦ absurd (other.1 refl)
]

is_other : (a b : ℕ) → a ≢ b → (a == b) ≡ false
is_other a b apart = elim (eqb_tells a b) [
  | inl same ↦ absurd (apart same.1)
  | inr other ↦ other.0
]

-- one that was put there is of another entry, or into another table's memtable
not_first : (a : Placed) (end t : ℕ) → (a.entry ≡ end → a.table ≢ t)
    → ((a.entry == end) && (a.table == t)) ≡ false
not_first a end t fresh = elim (eqb_tells a.entry end) [
  | inl same ↦ λ i. same.0 i && is_other a.table t (fresh same.1) i
  | inr other ↦ ap (λ b. b && (a.table == t)) other.0
]

pub not_applied : (applied : List Placed) (end t : ℕ)
    → ((a : Placed) → Contains applied a → a.entry ≡ end → a.table ≢ t)
    → is_applied applied end t ≡ false
not_applied [] end t fresh = refl
not_applied (a ∷ more) end t fresh =
    let first = not_first a end t (fresh a (here a more)) in
    let rest = not_applied more end t (λ b h. fresh b (further a more b h)) in
    λ i. first i || rest i

-- ---- a number that one test passes and another does not

module _ (p q : ℕ → Bool) (t : ℕ) (passes : p t ≡ true) (fails : q t ≡ false)
    (same : (u : ℕ) → u ≢ t → q u ≡ p u) where
  behind : (a n : ℕ) → t < a → filter q (range_with_len a n) ≡ filter p (range_with_len a n)
  behind a zero past = refl
  behind a (suc n) past =
      let here_same : q a ≡ p a = same a (λ is. absurd (omega (arith, past, is))) in
      let more = behind (a + 1) n (omega (arith, past)) in
      λ i. cond (here_same i) (a ∷ more i) (more i)

  -- at the number itself, and at another one in front of it
  at : (a : ℕ) (ps qs : List ℕ) → qs ≡ ps → a ≡ t
      → length (cond (p a) (a ∷ ps) ps) ≡ suc (length (cond (q a) (a ∷ qs) qs))
  at a ps qs rest is = ap (λ b. length (cond b (a ∷ ps) ps)) (ap p is ∙ passes)
      ∙ (ap (λ l. suc (length l)) (sym rest)
      ∙ sym (ap (λ b. suc (length (cond b (a ∷ qs) qs))) (ap q is ∙ fails)))

  apart : (a : ℕ) (ps qs : List ℕ) → length ps ≡ suc (length qs) → a ≢ t
      → length (cond (p a) (a ∷ ps) ps) ≡ suc (length (cond (q a) (a ∷ qs) qs))
  apart a ps qs rest other = by (p a)
      ∙ ap (λ b. suc (length (cond b (a ∷ qs) qs))) (sym (same a other))
    where
      by : (b : Bool) → length (cond b (a ∷ ps) ps) ≡ suc (length (cond b (a ∷ qs) qs))
      by true = ap (λ k. suc k) rest
      by false = rest

  one_less : (a n : ℕ) → a ≤ t → t < a + n
      → length (filter p (range_with_len a n)) ≡ suc (length (filter q (range_with_len a n)))
  one_less a zero low high = absurd (omega (arith, low, high))
  one_less a (suc n) low high =
      let ps = filter p (range_with_len (a + 1) n) in
      let qs = filter q (range_with_len (a + 1) n) in
      dite (ℕ_discrete a t)
      (λ is. at a ps qs (behind (a + 1) n (omega (arith, is))) is)
      (λ other. apart a ps qs (one_less (a + 1) n (omega (arith, low, other))
      (omega (arith, high))) other)

-- ---- copies of a note, which are all the same

module _ (n : EntryNote) where
  abbrev all : List ℕ → List EntryNote
  all ts = map (λ (t : ℕ). n) ts

  as_many : (ts us : List ℕ) → length ts ≡ length us → all ts ≡ all us
  as_many [] [] same = refl
  as_many [] (u ∷ us) same = absurd (omega (arith, same))
  as_many (t ∷ ts) [] same = absurd (omega (arith, same))
  as_many (t ∷ ts) (u ∷ us) same = ap (λ l. n ∷ l) (as_many ts us (omega (arith, same)))

  one_of : (ts us : List ℕ) → length ts ≡ suc (length us) → all ts ≡ n ∷ all us
  one_of [] us more = absurd (omega (arith, more))
  one_of (t ∷ ts) us more = ap (λ l. n ∷ l) (as_many ts us (omega (arith, more)))

-- ---- before the first one is put, and over each

-- where none was put there is a copy for each of its tables
pub none_put : (n : EntryNote) (end : ℕ) (applied : List Placed)
    → ((a : Placed) → Contains applied a → a.entry ≢ end)
    → map (λ (t : ℕ). n) (tables_in n.tables)
    ≡ map (λ (t : ℕ). n) (tables_left n.tables end applied)
none_put n end applied none = ap (λ l. map (λ (t : ℕ). n) l)
    (filter_agree (λ t. touches n.tables t)
    (λ t. touches n.tables t && not (is_applied applied end t))
    (λ t. by (touches n.tables t) (is_applied applied end t)
    (not_applied applied end t (λ a h is. absurd (none a h is))))
    (range_with_len 0 most_tables))
  where
    by : (b put : Bool) → put ≡ false → b ≡ (b && not put)
    by true put is = sym (ap (λ c. not c) is)
    by false put is = refl

-- One of the copies is for a table that it touches and where it was not put, the others for the
-- rest.
pub one_put : (n : EntryNote) (tables end t m : ℕ) (applied : List Placed) → t < most_tables
    → touches tables t ≡ true
    → ((a : Placed) → Contains applied a → a.entry ≡ end → a.table ≢ t)
    → map (λ (t : ℕ). n) (tables_left tables end applied)
    ≡ n ∷ map (λ (t : ℕ). n) (tables_left tables end
    (record { table = t; entry = end; memtable = m } ∷ applied))
one_put n tables end t m applied low touched fresh = one_of n
    (tables_left tables end applied) (tables_left tables end (put ∷ applied))
    (one_less before after t before_is after_is same 0 most_tables (omega arith) low)
  where
    put : Placed
    put = record { table = t; entry = end; memtable = m }

    before : ℕ → Bool
    before u = touches tables u && not (is_applied applied end u)

    after : ℕ → Bool
    after u = touches tables u && not (((end == end) && (t == u)) || is_applied applied end u)

    before_is : before t ≡ true
    before_is = λ i. touched i && not (not_applied applied end t fresh i)

    after_is : after t ≡ false
    after_is = λ i. touched i && not ((is_itself end i && is_itself t i)
        || is_applied applied end t)

    same : (u : ℕ) → u ≢ t → after u ≡ before u
    same u other = λ i. touches tables u && not ((is_itself end i
        && is_other t u (λ is. other (sym is)) i) || is_applied applied end u)
