-- The lines of a file: what the first is, and that they are the file's lines alone.
use Rattle.std.proofs.Common.{◌≡◌, ℕ, zero, suc, ◌+◌, ◌<◌, List, [], ◌∷◌, ◌++◌, length, take, drop}
use Rattle.std.proofs.Common.{get_or, true, cond, eqb, eq-eqb, Some, None, ◌-◌, inl, inr, refl, sym}
use Rattle.std.proofs.Common.{ap, subst, ◌∙◌, arith, append_assoc}
use Rattle.std.specs.List.{flat_map, AllByRecursion}
use Rattle.std.proofs.lemmas.Bool.Decides.{eqb_tells}
use Rattle.std.proofs.lemmas.List.{take_all, drop_all, drop-drop, length-drop, length-append}
use Rattle.memchr.specs.Find.{IsFirstByte, is_byte}
use Rattle.clog_text.specs.FileLines.{piece_of, lines_of, before_first, HasNoNewline, ended, closed}
use Rattle.clog_text.specs.FileLines.{AreLines}

-- no byte below n is 0A
abbrev pub HasNone : List ℕ → ℕ → Type 0
HasNone xs n = (k : ℕ) → k < n → get_or xs k 0 ≡ 10 → ⊥

newline : (b : ℕ) (xs : List ℕ) → b ≡ 10 → lines_of (b ∷ xs) ≡ [] ∷ lines_of xs
newline b xs is =
    ap (λ c. cond c ([] ∷ lines_of xs) (before_first b (lines_of xs))) (eq-eqb b 10 is)

other_byte : (b : ℕ) (xs : List ℕ) → (b ≡ 10 → ⊥) → lines_of (b ∷ xs) ≡ before_first b (lines_of xs)
other_byte b xs h = elim (eqb_tells b 10) [
  | inl same ↦ absurd (h same.1)
  | inr apart ↦ ap (λ c. cond c ([] ∷ lines_of xs) (before_first b (lines_of xs))) apart.0
]

-- ---- the first line

pub first_ended : (xs : List ℕ) (i : ℕ) → i < length xs → get_or xs i 0 ≡ 10 → HasNone xs i
    → lines_of xs ≡ take i xs ∷ lines_of (drop (suc i) xs)
first_ended [] i h is none = absurd (omega arith)
first_ended (b ∷ xs) zero h is none = newline b xs is
first_ended (b ∷ xs) (suc i) h is none =
    other_byte b xs (none 0 (omega arith))
    ∙ ap (before_first b) (first_ended xs i (omega arith) is (λ k l. none (suc k) (omega arith)))

pub first_alone : (xs : List ℕ) → 0 < length xs → HasNone xs (length xs) → lines_of xs ≡ xs ∷ []
first_alone [] h none = absurd (omega arith)
first_alone (b ∷ []) h none = other_byte b [] (none 0 (omega arith))
first_alone (b ∷ c ∷ xs) h none =
    other_byte b (c ∷ xs) (none 0 (omega arith))
    ∙ ap (before_first b) (first_alone (c ∷ xs) (omega arith) (λ k l. none (suc k) (omega arith)))

longer : (b : ℕ) (ls : List (List ℕ)) → 0 < length (before_first b ls)
longer b [] = omega arith
longer b (l ∷ ls) = omega arith

pub some_line : (xs : List ℕ) → 0 < length xs → 0 < length (lines_of xs)
some_line [] h = absurd (omega arith)
some_line (b ∷ xs) h = elim (eqb_tells b 10) [
  | inl same ↦ subst (λ (l : List (List ℕ)). 0 < length l) (sym (newline b xs same.1)) (omega arith)
  | inr apart ↦ subst (λ (l : List (List ℕ)). 0 < length l) (sym (other_byte b xs apart.1))
      (longer b (lines_of xs))
]

-- ---- the laws

unbroken_before : (b : ℕ) (ls : List (List ℕ)) → (b ≡ 10 → ⊥) → AllByRecursion HasNoNewline ls
    → AllByRecursion HasNoNewline (before_first b ls)
unbroken_before b [] h all = ((h, tt), tt)
unbroken_before b (l ∷ ls) h all = ((h, all.0), all.1)

pub lines_unbroken : (xs : List ℕ) → AllByRecursion HasNoNewline (lines_of xs)
lines_unbroken [] = tt
lines_unbroken (b ∷ xs) = elim (eqb_tells b 10) [
  | inl same ↦ subst (λ (l : List (List ℕ)). AllByRecursion HasNoNewline l)
      (sym (newline b xs same.1)) (tt, lines_unbroken xs)
  | inr apart ↦ subst (λ (l : List (List ℕ)). AllByRecursion HasNoNewline l)
      (sym (other_byte b xs apart.1)) (unbroken_before b (lines_of xs) apart.1 (lines_unbroken xs))
]

-- a line that begins with the byte, laid before the rest
laid_before : (b : ℕ) (ls : List (List ℕ)) → 0 < length ls
    → flat_map ended (before_first b ls) ≡ b ∷ flat_map ended ls
laid_before b [] h = absurd (omega arith)
laid_before b (l ∷ ls) h = refl

closed_newline : (xs : List ℕ) → closed (10 ∷ xs) ≡ 10 ∷ closed xs
closed_newline [] = refl
closed_newline (c ∷ xs) = refl

pub lines_whole : (xs : List ℕ) → flat_map ended (lines_of xs) ≡ closed xs
lines_whole [] = refl
lines_whole (b ∷ []) = elim (eqb_tells b 10) [
  | inl same ↦ ap (flat_map ended) (newline b [] same.1)
      ∙ ap (λ c. cond c (10 ∷ []) (b ∷ 10 ∷ [])) (sym (eq-eqb b 10 same.1))
  | inr apart ↦ ap (flat_map ended) (other_byte b [] apart.1)
      ∙ ap (λ c. cond c (10 ∷ []) (b ∷ 10 ∷ [])) (sym apart.0)
]
lines_whole (b ∷ c ∷ xs) = elim (eqb_tells b 10) [
  | inl same ↦ ap (flat_map ended) (newline b (c ∷ xs) same.1)
      ∙ ap (λ ys. 10 ∷ ys) (lines_whole (c ∷ xs)) ∙ ap (λ d. d ∷ closed (c ∷ xs)) (sym same.1)
  | inr apart ↦ ap (flat_map ended) (other_byte b (c ∷ xs) apart.1)
      ∙ laid_before b (lines_of (c ∷ xs)) (some_line (c ∷ xs) (omega arith))
      ∙ ap (λ ys. b ∷ ys) (lines_whole (c ∷ xs))
]

line_first : (line rest : List ℕ) → HasNoNewline line
    → lines_of (line ++ 10 ∷ rest) ≡ line ∷ lines_of rest
line_first [] rest h = refl
line_first (b ∷ line) rest h =
    other_byte b (line ++ 10 ∷ rest) h.0 ∙ ap (before_first b) (line_first line rest h.1)

lines_of_laid : (ls : List (List ℕ)) → AllByRecursion HasNoNewline ls → lines_of
    (flat_map ended ls) ≡ ls
lines_of_laid [] all = refl
lines_of_laid (l ∷ ls) all =
    ap lines_of (append_assoc l (10 ∷ []) (flat_map ended ls))
    ∙ line_first l (flat_map ended ls) all.0 ∙ ap (λ t. l ∷ t) (lines_of_laid ls all.1)

lines_of_closed : (xs : List ℕ) → lines_of (closed xs) ≡ lines_of xs
lines_of_closed [] = refl
lines_of_closed (b ∷ []) = elim (eqb_tells b 10) [
  | inl same ↦ ap lines_of (ap (λ c. cond c (10 ∷ []) (b ∷ 10 ∷ [])) (eq-eqb b 10 same.1))
      ∙ sym (newline b [] same.1)
  | inr apart ↦ ap lines_of (ap (λ c. cond c (10 ∷ []) (b ∷ 10 ∷ [])) apart.0)
      ∙ other_byte b (10 ∷ []) apart.1 ∙ sym (other_byte b [] apart.1)
]
lines_of_closed (b ∷ c ∷ xs) =
    ap (λ (t : List (List ℕ)). cond (eqb b 10) ([] ∷ t) (before_first b t))
    (lines_of_closed (c ∷ xs))

pub lines_alone : (file : List ℕ) (ls : List (List ℕ)) → AreLines file ls → ls ≡ lines_of file
lines_alone file ls are =
    sym (lines_of_laid ls are.unbroken) ∙ ap lines_of are.whole ∙ lines_of_closed file

-- ---- the line that starts at a place, by the first 0A behind it

is_newline : (b : ℕ) → eqb b 10 ≡ true → b ≡ 10
is_newline b h = elim (eqb_tells b 10) [
  | inl same ↦ same.1
  | inr apart ↦ cc
]

pub line_found : (xs : List ℕ) (i k : ℕ) → IsFirstByte (is_byte 10) (drop i xs) (Some k)
    → lines_of (drop i xs) ≡ piece_of xs (i, i + k) ∷ lines_of (drop (i + k + 1) xs)
line_found xs i k found =
    let none : HasNone (drop i xs) k = λ j l is. found.0.before j (omega arith) l (eq-eqb _ 10 is)
    in
    let length_is : i + k - i ≡ k = omega arith in
    let next_is : i + suc k ≡ i + k + 1 = omega arith in
    first_ended (drop i xs) k found.0.high (is_newline _ found.1) none
    ∙ ap (λ n. take n (drop i xs) ∷ lines_of (drop (suc k) (drop i xs))) (sym length_is)
    ∙ ap (λ (l : List ℕ). piece_of xs (i, i + k) ∷ lines_of l)
    (drop-drop (suc k) i xs ∙ ap (λ n. drop n xs) next_is)

pub line_last : (xs : List ℕ) (i : ℕ) → i < length xs → IsFirstByte (is_byte 10) (drop i xs) None
    → lines_of (drop i xs) ≡ piece_of xs (i, length xs) ∷ lines_of (drop (length xs + 1) xs)
line_last xs i h found =
    let len = length-drop i xs in
    let none : HasNone (drop i xs) (length (drop i xs)) = λ j l is. found j (omega arith) l
    (eq-eqb _ 10 is) in
    first_alone (drop i xs) (omega (arith, len)) none
    ∙ ap (λ (l : List ℕ). l ∷ []) (sym (take_all (length xs - i) (drop i xs) (omega (arith, len))))
    ∙ ap (λ (l : List ℕ). piece_of xs (i, length xs) ∷ lines_of l)
    (sym (drop_all (length xs + 1) xs (omega arith)))

-- lines are left behind so many that were found
pub more_lines : (xs : List ℕ) (i : ℕ) (found all : List (List ℕ)) → i < length xs
    → found ++ lines_of (drop i xs) ≡ all → length found < length all
more_lines xs i found all h is =
    let left = some_line (drop i xs) (omega (arith, length-drop i xs)) in
    subst (λ (l : List (List ℕ)). length found < length l) is
    (omega (arith, left, length-append found (lines_of (drop i xs))))
