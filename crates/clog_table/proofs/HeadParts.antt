-- Bytes begin with the head that its numbers make up, where its version and check are right.
use Rattle.std.proofs.Common.{
  ◌≡◌,
  ℕ,
  zero,
  suc,
  ◌+◌,
  ◌≤◌,
  List,
  [],
  ◌∷◌,
  ◌++◌,
  length,
  take,
  drop,
  get_or,
  refl,
  sym,
  ap,
  ◌∙◌,
  Bool,
  true,
  false,
  arith,
  length-drop,
}
use Rattle.std.specs.Prelude.{◌<◌, ◌&&◌, ◌==◌, nat_lt}
use Rattle.std.specs.Int.{w32, w64, to_be_bytes, from_be_bytes}
use Rattle.std.proofs.lemmas.List.{get_or-drop, length-take}
use Rattle.std.proofs.lemmas.Bool.Decides.{nat_tests}
use Rattle.std.proofs.lemmas.Bool.{eqb-true, ltb-true}
use Rattle.clog_base.specs.declared.cell.Table.{Table}
use Rattle.clog_spec.specs.Crc.{IsBytes}
use Rattle.clog_spec.proofs.Bytes.{drop-IsBytes}
use Rattle.clog_spec.specs.Sizes.{most_tables}
use Rattle.clog_table.specs.declared.head.Head.{Head}
use Rattle.clog_table.specs.Format.{
  position_bytes,
  head_front,
  head_bytes,
  head_size,
  check_bytes,
  head_front_size,
}
use Rattle.clog_table.specs.Limits.{IsStoredPosition, IsThisTable, is_this_table}
use Rattle.clog_table.specs.Heads.{BeginsWithHead, position_at, head_at}
use Rattle.clog_table.proofs.Numbers.{
  four_spelled,
  eight_spelled,
  four_below,
  eight_below,
}

take_none : (k : ℕ) → take {A = ℕ} k [] ≡ []
take_none zero = refl
take_none (suc k) = refl

drop_none : (k : ℕ) → drop {A = ℕ} k [] ≡ []
drop_none zero = refl
drop_none (suc k) = refl

take_parts : (m n : ℕ) (xs : List ℕ) → take (m + n) xs ≡ take m xs ++ take n (drop m xs)
take_parts zero n xs = ap (λ k. take k xs) (let e : 0 + n ≡ n = omega arith in e)
take_parts (suc m) n [] = take_none (suc m + n) ∙ sym (take_none n)
take_parts (suc m) n (x ∷ xs) =
    ap (λ k. take k (x ∷ xs)) (let e : suc m + n ≡ suc (m + n) = omega arith in e)
    ∙ ap (λ (l : List ℕ). x ∷ l) (take_parts m n xs)

drop_parts : (m n : ℕ) (xs : List ℕ) → drop n (drop m xs) ≡ drop (m + n) xs
drop_parts zero n xs = ap (λ k. drop k xs) (let e : n ≡ 0 + n = omega arith in e)
drop_parts (suc m) n [] = drop_none n ∙ sym (drop_none (suc m + n))
drop_parts (suc m) n (x ∷ xs) =
    drop_parts m n xs ∙ ap (λ k. drop k (x ∷ xs))
    (let e : suc (m + n) ≡ suc m + n = omega arith in e)

position_spelled : (bs : List ℕ) → 12 ≤ length bs → IsBytes bs
    → take 12 bs ≡ position_bytes (position_at bs)
position_spelled bs long fits =
    let behind : 4 ≤ length (drop 8 bs) = omega (arith, length-drop 8 bs) in
    let before : 8 ≤ length bs = omega arith in
    take_parts 8 4 bs
    ∙ ap (λ (l : List ℕ). l ++ take 4 (drop 8 bs)) (eight_spelled bs before fits)
    ∙ ap (λ (l : List ℕ). to_be_bytes w64 (from_be_bytes w64 bs) ++ l)
    (four_spelled (drop 8 bs) behind (drop-IsBytes 8 bs fits))

position_stored : (bs : List ℕ) → IsBytes bs → IsStoredPosition (position_at bs)
position_stored bs fits = record {
  id = eight_below bs fits;
  offset = four_below (drop 8 bs) (drop-IsBytes 8 bs fits);
}

one_spelled : (bs : List ℕ) → 1 ≤ length bs → take 1 bs ≡ get_or bs 0 0 ∷ []
one_spelled [] long = absurd (omega arith)
one_spelled (b ∷ bs) long = refl

five_same : {a a' b b' c c' d d' e e' : List ℕ} → a ≡ a' → b ≡ b' → c ≡ c' → d ≡ d' → e ≡ e'
    → (((a ++ b) ++ c) ++ d) ++ e ≡ (((a' ++ b') ++ c') ++ d') ++ e'
five_same p q r s t i = (((p i ++ q i) ++ r i) ++ s i) ++ t i

-- five pieces of a head without its check
front_parts : (bs : List ℕ)
    → take head_front_size bs
    ≡ (((take 4 bs ++ take 1 (drop 4 bs)) ++ take 12 (drop 5 bs)) ++ take 12
    (drop 17 bs))
    ++ take 4 (drop 29 bs)
front_parts bs =
    take_parts 29 4 bs ∙ ap (λ (l : List ℕ). l ++ take 4 (drop 29 bs))
    (take_parts 17 12 bs ∙ ap (λ (l : List ℕ). l ++ take 12 (drop 17 bs))
    (take_parts 5 12 bs ∙ ap (λ (l : List ℕ). l ++ take 12 (drop 5 bs)) (take_parts 4 1 bs)))

front_spelled : (bs : List ℕ) → head_size ≤ length bs → IsBytes bs → from_be_bytes w32 bs ≡ 1
    → take head_front_size bs ≡ head_front (head_at bs)
front_spelled bs long fits version =
    let four : 4 ≤ length bs = omega arith in
    let at4 : 1 ≤ length (drop 4 bs) = omega (arith, length-drop 4 bs) in
    let at5 : 12 ≤ length (drop 5 bs) = omega (arith, length-drop 5 bs) in
    let at17 : 12 ≤ length (drop 17 bs) = omega (arith, length-drop 17 bs) in
    let at29 : 4 ≤ length (drop 29 bs) = omega (arith, length-drop 29 bs) in
    let v : take 4 bs ≡ to_be_bytes w32 1 = four_spelled bs four fits
    ∙ ap (to_be_bytes w32) version in
    let t : take 1 (drop 4 bs) ≡ get_or bs 4 0 ∷ [] =
    one_spelled (drop 4 bs) at4 ∙ ap (λ n. n ∷ []) (get_or-drop 4 bs 0 0) in
    let l : take 12 (drop 5 bs) ≡ position_bytes (position_at (drop 5 bs)) =
    position_spelled (drop 5 bs) at5 (drop-IsBytes 5 bs fits) in
    let u : take 12 (drop 17 bs) ≡ position_bytes (position_at (drop 17 bs)) =
    position_spelled (drop 17 bs) at17 (drop-IsBytes 17 bs fits) in
    let n : take 4 (drop 29 bs) ≡ to_be_bytes w32 (from_be_bytes w32 (drop 29 bs)) =
    four_spelled (drop 29 bs) at29 (drop-IsBytes 29 bs fits) in
    front_parts bs ∙ five_same v t l u n

-- the bytes begin with a head
pub begins_with : (bs : List ℕ) → head_size ≤ length bs → IsBytes bs → from_be_bytes w32 bs ≡ 1
    → take 4 (drop head_front_size bs) ≡ check_bytes (take head_front_size bs)
    → BeginsWithHead bs (head_at bs)
begins_with bs long fits version check =
    let front = front_spelled bs long fits version in
    record {
      stored = record {
        table = fits 4;
        lower = position_stored (drop 5 bs) (drop-IsBytes 5 bs fits);
        upper = position_stored (drop 17 bs) (drop-IsBytes 17 bs fits);
        count = four_below (drop 29 bs) (drop-IsBytes 29 bs fits);
      };
      spelled = take_parts head_front_size 4 bs
          ∙ ap (λ (l : List ℕ). take head_front_size bs ++ l) check
          ∙ ap (λ (l : List ℕ). l ++ check_bytes l) front;
    }

-- bytes that begin with a head are as long as it
pub head_is_long : (bs : List ℕ) (head : Head) → BeginsWithHead bs head → head_size ≤ length bs
head_is_long bs head h =
    let whole : length (head_bytes head) ≡ head_size = refl in
    let e : length (take head_size bs) ≡ head_size =
    ap (λ (l : List ℕ). length l) h.spelled ∙ whole in
    omega (arith, e, length-take head_size bs)

both_of : (a b : Bool) → true ≡ (a && b) → (a ≡ true) × (b ≡ true)
both_of true true e = (refl, refl)
both_of true false e = absurd cc
both_of false b e = absurd cc

pub this_table : (a b : Table) → true ≡ is_this_table a b → IsThisTable a b
this_table a b e =
    let both = both_of (nat_lt a.0 most_tables) (a.0 == b.0) e in
    let same : a.0 ≡ b.0 = eqb-true a.0 b.0 both.1 in
    (ltb-true a.0 most_tables both.0, λ i. record { 0 = same i })

pub other_table : (a b : Table) → false ≡ is_this_table a b → IsThisTable a b → ⊥
other_table a b e h =
    let same : a.0 ≡ b.0 = ap (λ (t : Table). t.0) h.1 in
    let known : a.0 < most_tables = h.0 in
    grind (arith, nat_tests)
