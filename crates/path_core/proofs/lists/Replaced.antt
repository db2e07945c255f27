-- Lists in which one element is replaced or one is added.
use Rattle.std.proofs.Common.{
  ◌≡◌,
  ◌≢◌,
  ℕ,
  zero,
  suc,
  ◌<◌,
  List,
  [],
  ◌∷◌,
  ◌++◌,
  length,
  get_or,
  set,
  refl,
  sym,
  ap,
  ◌∙◌,
  subst,
  replicate,
  Bool,
  true,
  false,
  cond,
  arith,
  length-append,
  get_or-set_same,
  get_or-set_other,
}
use Rattle.std.proofs.lemmas.List.{get_or_append_left, get_or_push, get_or_default}
use Rattle.std.proofs.lemmas.Bool.{false≢true}
use Rattle.std.proofs.lemmas.List.Sums.{sum_by-cons}
use Rattle.std.specs.List.{count_by, Contains}
use mathlib.Core.Logic.{dite}
use native.Mathlib.Decide.{ℕ_discrete}

-- what holds at each index after one element was replaced
pub put_at : {A : Type 0} (l : List A) (i : ℕ) (a d : A) → i < length l → (P : ℕ → A → Type 0)
    → P i a → ((j : ℕ) → j ≢ i → P j (get_or l j d)) → (j : ℕ) → P j (get_or (set l i a) j d)
put_at l i a d inside P here other j = dite (ℕ_discrete j i)
    (λ e. subst (λ k. P k (get_or (set l i a) k d)) (sym e)
    (subst (P i) (sym (get_or-set_same l i a d inside)) here))
    (λ n. subst (P j) (sym (get_or-set_other l i j a d n)) (other j n))

-- what holds at each index after one element was added at the end
pub push_at : {A : Type 0} (l : List A) (a d : A) (P : ℕ → A → Type 0)
    → ((i : ℕ) → i < length l → P i (get_or l i d)) → P (length l) a
    → (i : ℕ) → i < length (l ++ a ∷ []) → P i (get_or (l ++ a ∷ []) i d)
push_at l a d P old new i inside = dite (ℕ_discrete i (length l))
    (λ e. subst (λ k. P k (get_or (l ++ a ∷ []) k d)) (sym e)
    (subst (P (length l)) (sym (get_or_push l a d (length l) refl)) new))
    (λ n. let long = length-append l (a ∷ []) in let below : i < length l = omega arith in
    subst (P i) (sym (get_or_append_left l (a ∷ []) d i below)) (old i below))

-- an element that is the default is no change
pub default_put : {A : Type 0} (l : List A) (d : A) (j : ℕ)
    → get_or (l ++ d ∷ []) j d ≡ get_or l j d
default_put [] d zero = refl
default_put [] d (suc j) = refl
default_put (x ∷ xs) d zero = refl
default_put (x ∷ xs) d (suc j) = default_put xs d j

-- where the default does not count, an element that counts is counted
pub counted_some : {A : Type 0} (p : A → Bool) (l : List A) (d : A) → p d ≡ false → (i : ℕ)
    → p (get_or l i d) ≡ true → 0 < count_by p l
counted_some p [] d not_default i counts = absurd (false≢true (sym not_default ∙ counts))
counted_some p (x ∷ xs) d not_default zero counts =
    let s = sum_by-cons (λ a. cond (p a) 1 0) x xs in
    let c : cond {A = ℕ} (p x) 1 0 ≡ 1 = ap (λ (b : Bool). cond {A = ℕ} b 1 0) counts in
    omega arith
counted_some p (x ∷ xs) d not_default (suc i) counts =
    let s = sum_by-cons (λ a. cond (p a) 1 0) x xs in
    let c : 0 < count_by p xs = counted_some p xs d not_default i counts in
    omega arith

-- where no element counts, none is counted
pub none_counted_in : {A : Type 0} (p : A → Bool) (l : List A)
    → ((a : A) → Contains l a → p a ≡ false) → count_by p l ≡ 0
none_counted_in p [] out = refl
none_counted_in p (x ∷ xs) out =
    let s = sum_by-cons (λ a. cond (p a) 1 0) x xs in
    let c : cond {A = ℕ} (p x) 1 0 ≡ 0
    = ap (λ (b : Bool). cond {A = ℕ} b 1 0) (out x (zero, omega arith, refl)) in
    let r : count_by p xs ≡ 0 = none_counted_in p xs
    (λ a h. out a (suc h.0, (let l = h.1 in omega arith), h.2)) in
    omega arith

pub none_counted : {A : Type 0} (p : A → Bool) (l : List A) (d : A)
    → ((i : ℕ) → p (get_or l i d) ≡ false) → count_by p l ≡ 0
none_counted p l d out = none_counted_in p l
    (λ a h. subst (λ b. p b ≡ false) (get_or_default l h.0 d a h.1 ∙ h.2) (out h.0))

-- an element that counts is counted
pub counted_in : {A : Type 0} (p : A → Bool) (l : List A) (a : A) → Contains l a → p a ≡ true
    → 0 < count_by p l
counted_in p [] a h counts = absurd (let l = h.1 in omega arith)
counted_in p (x ∷ xs) a (zero, inside, is) counts =
    let s = sum_by-cons (λ b. cond (p b) 1 0) x xs in
    let c : cond {A = ℕ} (p x) 1 0 ≡ 1
    = ap (λ (b : Bool). cond {A = ℕ} b 1 0) (subst (λ y. p y ≡ true) (sym is) counts) in
    omega arith
counted_in p (x ∷ xs) a (suc k, inside, is) counts =
    let s = sum_by-cons (λ b. cond (p b) 1 0) x xs in
    let c : 0 < count_by p xs = counted_in p xs a (k, omega arith, is) counts in
    omega arith

-- an element that passes, where some are counted
pub counted_from : {A : Type 0} (p : A → Bool) (l : List A) → 0 < count_by p l
    → (a : A) × Contains l a × (p a ≡ true)
counted_from p [] some = absurd (omega arith)
counted_from {A} p (x ∷ xs) some = choose (p x) refl (λ l. counted_from p xs l)
  where
    choose : (b : Bool) → p x ≡ b
        → (0 < count_by p xs → (a : A) × Contains xs a × (p a ≡ true))
        → (a : A) × Contains (x ∷ xs) a × (p a ≡ true)
    choose true e rest = (x, (zero, omega arith, refl), e)
    choose false e rest =
        let s = sum_by-cons (λ a. cond (p a) 1 0) x xs in
        let c : cond {A = ℕ} (p x) 1 0 ≡ 0 = ap (λ (b : Bool). cond {A = ℕ} b 1 0) e in
        let r = rest (omega arith) in
        (r.0, (suc r.1.0, (let l = r.1.1 in omega arith), r.1.2), r.2)

-- each read of a list of one element is that element, past its end too
pub replicated : {A : Type 0} (n i : ℕ) (a : A) → get_or (replicate n a) i a ≡ a
replicated zero i a = refl
replicated (suc n) zero a = refl
replicated (suc n) (suc i) a = replicated n i a
