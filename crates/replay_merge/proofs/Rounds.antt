-- A batch that is taken in three rounds is taken whole.
use Rattle.std.proofs.Common.{◌≡◌, ℕ, zero, suc, ◌+◌, ◌<◌, ◌≤◌, List, [], ◌∷◌, ◌++◌, length, map}
use Rattle.std.proofs.Common.{drop, get_or, IsPermutation, refl, sym, ap, subst, arith}
use Rattle.std.proofs.Common.{append_assoc, ◌∙◌}
use Rattle.std.proofs.lemmas.List.{append-nil}
use Rattle.std.proofs.lemmas.List.Sorted.{IsPermutation-append, IsPermutation-append_comm}
use Rattle.std.proofs.lemmas.List.Sorted.{IsPermutation-cons, IsPermutation-refl}
use Rattle.std.proofs.lemmas.List.Sorted.{IsPermutation-trans}
use Rattle.clog_folder.specs.declared.tables.TableHeld.{TableHeld}
use Rattle.replay_merge.specs.declared.piped.Piped.{Piped}
use Rattle.replay_merge.specs.Entries.{Entry, thirds}
use Rattle.replay_merge.specs.Piped.{IsDone, TakesItems, TakesPiped}
use Rattle.replay_merge.proofs.DoneSo.{piped_more, reordered}

thirds_drop : {A : Type 0} (k : ℕ) (xs : List A) → thirds k xs ≡ thirds 0 (drop k xs)
thirds_drop zero xs = refl
thirds_drop (suc k) [] = refl
thirds_drop (suc k) (x ∷ xs) = thirds_drop k xs

-- the next one stands at this place
third_at : {A B : Type 0} (f : A → B) (xs : List A) (at : ℕ) (d : A) → at < length xs
    → thirds 0 (drop at (map f xs)) ≡ f (get_or xs at d) ∷ thirds 0 (drop (at + 3) (map f xs))
third_at f [] at d below = absurd (omega arith)
third_at f (x ∷ xs) zero d below = ap (λ l. f x ∷ l) (thirds_drop 2 (map f xs))
third_at f (x ∷ xs) (suc at) d below =
    let behind : suc (at + 3) ≡ suc at + 3 = omega arith in
    third_at f xs at d (omega arith)
    ∙ ap (λ n. f (get_or xs at d) ∷ thirds 0 (drop n (map f (x ∷ xs)))) behind

past_end : {A B : Type 0} (f : A → B) (xs : List A) (at : ℕ) → length xs ≤ at
    → thirds 0 (drop at (map f xs)) ≡ []
past_end f [] zero beyond = refl
past_end f [] (suc at) beyond = refl
past_end f (x ∷ xs) zero beyond = absurd (omega arith)
past_end f (x ∷ xs) (suc at) beyond = past_end f xs at (omega arith)

all_thirds : {A : Type 0} (xs : List A)
    → IsPermutation (thirds 0 xs ++ (thirds 1 xs ++ thirds 2 xs)) xs
all_thirds [] = IsPermutation-refl []
all_thirds (x ∷ xs) =
    let a = thirds 0 xs in
    let b = thirds 1 xs in
    let c = thirds 2 xs in
    let turned = IsPermutation-append_comm c (a ++ b) in
    IsPermutation-cons x (c ++ (a ++ b)) xs
    (IsPermutation-trans (c ++ (a ++ b)) ((a ++ b) ++ c) xs turned
    (subst (λ l. IsPermutation l xs) (sym (append_assoc a b c)) (all_thirds xs)))

module _ (tables : List TableHeld) where
  -- so much of a round was taken, from the one state to the other
  pub record HasTaken {A : Type 0} (f : A → Entry) (xs : List A) (first at : ℕ) (old new : Piped)
      : Type 0 where
    pub items : List Entry
    pub left : items ++ thirds 0 (drop at (map f xs)) ≡ thirds first (map f xs)
    pub takes : TakesItems tables items old new

  pub round_begun : {A : Type 0} (f : A → Entry) (xs : List A) (first : ℕ) (s : Piped)
      → HasTaken f xs first first s s
  round_begun f xs first s = record {
    items = [];
    left = sym (thirds_drop first (map f xs));
    takes = λ before is.
        subst (λ (es : List Entry). IsDone tables es s) (sym (append-nil before)) is;
  }

  pub round_goes_on : {A : Type 0} (f : A → Entry) (xs : List A) (first at : ℕ) (d : A)
      (old mid new : Piped) → at < length xs → HasTaken f xs first at old mid
      → TakesPiped tables (f (get_or xs at d)) mid new → HasTaken f xs first (at + 3) old new
  round_goes_on f xs first at d old mid new below has takes =
      let e = f (get_or xs at d) in
      record {
        items = has.items ++ e ∷ [];
        left = append_assoc has.items (e ∷ []) (thirds 0 (drop (at + 3) (map f xs)))
            ∙ ap (λ l. has.items ++ l) (sym (third_at f xs at d below)) ∙ has.left;
        takes = λ before is.
            subst (λ (es : List Entry). IsDone tables es new)
            (append_assoc before has.items (e ∷ []))
            (piped_more tables (before ++ has.items) e mid new takes (has.takes before is));
      }

  pub round_done : {A : Type 0} (f : A → Entry) (xs : List A) (first at : ℕ) (old new : Piped)
      → length xs ≤ at → HasTaken f xs first at old new
      → TakesItems tables (thirds first (map f xs)) old new
  round_done f xs first at old new beyond has =
      subst (λ (es : List Entry). TakesItems tables es old new)
      (sym (append-nil has.items) ∙ ap (λ l. has.items ++ l) (sym (past_end f xs at beyond))
      ∙ has.left) has.takes

  pub all_taken : (items : List Entry) (a b c d : Piped)
      → TakesItems tables (thirds 0 items) a b → TakesItems tables (thirds 1 items) b c
      → TakesItems tables (thirds 2 items) c d → TakesItems tables items a d
  all_taken items a b c d one two three before is =
      let p = thirds 0 items in
      let q = thirds 1 items in
      let r = thirds 2 items in
      let taken = three ((before ++ p) ++ q) (two (before ++ p) (one before is)) in
      let joined : ((before ++ p) ++ q) ++ r ≡ before ++ (p ++ (q ++ r)) =
      append_assoc (before ++ p) q r ∙ append_assoc before p (q ++ r) in
      reordered tables d (before ++ (p ++ (q ++ r))) (before ++ items)
      (IsPermutation-append before before (p ++ (q ++ r)) items (IsPermutation-refl before)
      (all_thirds items))
      (subst (λ (es : List Entry). IsDone tables es d) joined taken)
