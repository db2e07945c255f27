-- All entries are as many as all lines, where each writer has as many entries as lines.
use Rattle.std.proofs.Common.{
  ◌≡◌,
  ℕ,
  zero,
  suc,
  ◌+◌,
  ◌%◌,
  ◌<◌,
  ◌≤◌,
  ◌==◌,
  Bool,
  true,
  false,
  List,
  [],
  ◌∷◌,
  length,
  refl,
  sym,
  ap,
  ◌∙◌,
  arith,
}
use Rattle.std.specs.Prelude.{Contains}
use Rattle.std.specs.List.{filter}
use Rattle.std.proofs.lemmas.Bool.{eqb-false, eqb-true, ne_eqb}
use Rattle.clog_base.proofs.Members.{further, here}
use Rattle.clog_mutation.specs.declared.mutation.Mutation.{Mutation}
use Rattle.clog_applied.specs.History.{
  Line,
  numbered,
  share_of,
}
use Rattle.clog_applied.proofs.Lists.{kept_one, left_one}
use Rattle.path_core.specs.declared.note.EntryNote.{EntryNote}
use Rattle.clog_writers.specs.Logged.{HoldShares, is_note_of}
use Rattle.clog_shares.specs.Shares.{AreWritesOf}

module _ {A : Type 0} (of : A → ℕ) where
  abbrev pub is_of : ℕ → A → Bool
  is_of k x = of x == k

  -- how many are of one of the first numbers
  abbrev pub total : ℕ → List A → ℕ
  total zero = λ xs. 0
  total (suc k) = λ xs. length (filter (is_of k) xs) + total k xs

  of_none : (k : ℕ) → total k [] ≡ 0
  of_none zero = refl
  of_none (suc k) = let rest = of_none k in omega (arith, rest)

  -- one that is of none of them
  not_counted : (k : ℕ) (x : A) (xs : List A) → k ≤ of x → total k (x ∷ xs) ≡ total k xs
  not_counted zero x xs high = refl
  not_counted (suc k) x xs high =
      let apart : is_of k x ≡ false =
      ne_eqb (of x) k (λ same. absurd (omega (arith, high, same))) in
      let one = ap length (left_one (is_of k) x xs apart) in
      let rest = not_counted k x xs (omega (arith, high)) in
      omega (arith, one, rest)

  -- one that is of one of them
  counted : (k : ℕ) (x : A) (xs : List A) → of x < k → total k (x ∷ xs) ≡ 1 + total k xs
  counted zero x xs low = absurd (omega (arith, low))
  counted (suc k) x xs low =
      by (is_of k x) refl (λ less. counted k x xs less)
    where
      by : (b : Bool) → is_of k x ≡ b → (of x < k → total k (x ∷ xs) ≡ 1 + total k xs)
          → total (suc k) (x ∷ xs) ≡ 1 + total (suc k) xs
      by true is before =
          let same = eqb-true (of x) k is in
          let one = ap length (kept_one (is_of k) x xs is) in
          let rest = not_counted k x xs (omega (arith, same)) in
          omega (arith, one, rest)
      by false is before =
          let apart = eqb-false (of x) k is in
          let one = ap length (left_one (is_of k) x xs is) in
          let rest = before (omega (arith, low, apart)) in
          omega (arith, one, rest)

  pub all_counted : (k : ℕ) (xs : List A) → ((x : A) → Contains xs x → of x < k)
      → total k xs ≡ length xs
  all_counted k [] low = of_none k
  all_counted k (x ∷ xs) low =
      let one = counted k x xs (low x (here x xs)) in
      let rest = all_counted k xs (λ y h. low y (further x xs y h)) in
      omega (arith, one, rest)

-- two lists with as many of each number are as long
pub as_long : {A B : Type 0} (f : A → ℕ) (g : B → ℕ) (k : ℕ) (xs : List A) (ys : List B)
    → ((n : ℕ) → n < k → length (filter (is_of f n) xs) ≡ length (filter (is_of g n) ys))
    → total f k xs ≡ total g k ys
as_long f g zero xs ys same = refl
as_long f g (suc k) xs ys same =
    let one = same k (omega arith) in
    let rest = as_long f g k xs ys (λ n low. same n (omega (arith, low))) in
    omega (arith, one, rest)

many_numbered : (n : ℕ) (ms : List Mutation) → length (numbered n ms) ≡ length ms
many_numbered n [] = refl
many_numbered n (m ∷ ms) = ap (λ (k : ℕ). suc k) (many_numbered (n + 1) ms)

many_writes : (w : ℕ) (ls : List Line) (ns : List EntryNote) → AreWritesOf w ls ns
    → length ns ≡ length ls
many_writes w [] [] are = refl
many_writes w [] (n ∷ ns) are = absurd are
many_writes w (l ∷ ls) [] are = absurd are
many_writes w (l ∷ ls) (n ∷ ns) are = ap (λ (k : ℕ). suc k) (many_writes w ls ns are.1)

pub as_many_lines : (capacity writers : ℕ) (mutations : List Mutation) (notes : List EntryNote)
    → 0 < writers → HoldShares capacity writers mutations notes → length notes ≡ length mutations
as_many_lines capacity writers mutations notes some h =
    let lines = numbered 1 mutations in
    sym (all_counted (λ (n : EntryNote). n.writer.0) writers notes h.known)
    ∙ as_long (λ (n : EntryNote). n.writer.0) (λ (l : Line). l.number % writers) writers notes
    lines (λ w low. many_writes w (share_of writers w mutations) (filter (is_note_of w) notes)
    (h.shares w low))
    ∙ all_counted (λ (l : Line). l.number % writers) writers lines
    (λ l among. omega (arith, some))
    ∙ many_numbered 1 mutations
