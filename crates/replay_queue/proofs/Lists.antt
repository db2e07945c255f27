-- What many passes have, as one list, while one or two of them change.
use Rattle.std.proofs.Common.{◌≡◌, ◌≢◌, ℕ, zero, suc, ◌+◌, ◌≤◌, List, [], ◌∷◌, ◌++◌, set, refl, sym}
use Rattle.std.proofs.Common.{◌∙◌, ap, subst, arith, append_assoc, IsPermutation}
use Rattle.std.specs.List.{flat_map}
use Rattle.std.proofs.lemmas.List.Sorted.{IsPermutation-refl, IsPermutation-sym}
use Rattle.std.proofs.lemmas.List.Sorted.{IsPermutation-trans, IsPermutation-append}
use Rattle.std.proofs.lemmas.List.Sorted.{IsPermutation-append_comm}
use mathlib.Core.Option.{some, some-injective, some-ne-none}
use lib.ListN.{get_elem?}
use Rattle.replay_queue.specs.Fair.{total}

module _ {A : Type 0} where
  -- equal lists are in one order
  pub same_order : (xs ys : List A) → xs ≡ ys → IsPermutation xs ys
  same_order xs ys e = subst (IsPermutation xs) e (IsPermutation-refl xs)

  to_end : (a n r : List A) → IsPermutation ((a ++ n) ++ r) ((a ++ r) ++ n)
  to_end a n r =
      let p : IsPermutation (a ++ (n ++ r)) (a ++ (r ++ n)) =
      IsPermutation-append a a (n ++ r) (r ++ n) (IsPermutation-refl a)
      (IsPermutation-append_comm n r) in
      subst (λ l. IsPermutation l ((a ++ r) ++ n)) (sym (append_assoc a n r))
      (subst (λ l. IsPermutation (a ++ (n ++ r)) l) (sym (append_assoc a r n)) p)

module _ {V A : Type 0} (f : V → List A) where
  -- one pass changes, and its list stays
  pub same_lists : (views : List V) (port : ℕ) (v w : V) → get_elem? views port ≡ some v
      → f w ≡ f v → flat_map f (set views port w) ≡ flat_map f views
  same_lists [] port v w e same = absurd (some-ne-none v (sym e))
  same_lists (x ∷ xs) zero v w e same =
      ap (λ l. l ++ flat_map f xs) (same ∙ ap f (sym (some-injective x v e)))
  same_lists (x ∷ xs) (suc port) v w e same =
      ap (λ l. f x ++ l) (same_lists xs port v w e same)

  -- one pass has more
  pub more_lists : (views : List V) (port : ℕ) (v w : V) (new : List A)
      → get_elem? views port ≡ some v → f w ≡ f v ++ new
      → IsPermutation (flat_map f (set views port w)) (flat_map f views ++ new)
  more_lists [] port v w new e is = absurd (some-ne-none v (sym e))
  more_lists (x ∷ xs) zero v w new e is =
      let here : f w ≡ f x ++ new = is ∙ ap (λ y. f y ++ new) (sym (some-injective x v e)) in
      subst (λ l. IsPermutation (l ++ flat_map f xs) ((f x ++ flat_map f xs) ++ new)) (sym here)
      (to_end (f x) new (flat_map f xs))
  more_lists (x ∷ xs) (suc port) v w new e is =
      subst (λ l. IsPermutation (f x ++ flat_map f (set xs port w)) l)
      (sym (append_assoc (f x) (flat_map f xs) new))
      (IsPermutation-append (f x) (f x) (flat_map f (set xs port w)) (flat_map f xs ++ new)
      (IsPermutation-refl (f x)) (more_lists xs port v w new e is))

  -- one pass has nothing more
  pub less_lists : (views : List V) (port : ℕ) (w u : V) → get_elem? views port ≡ some w
      → f u ≡ [] → IsPermutation (flat_map f views) (flat_map f (set views port u) ++ f w)
  less_lists [] port w u e none = absurd (some-ne-none w (sym e))
  less_lists (x ∷ xs) zero w u e none =
      let r = flat_map f xs in
      subst (λ l. IsPermutation (f x ++ r) ((l ++ r) ++ f w)) (sym none)
      (subst (λ l. IsPermutation (f x ++ r) (r ++ l)) (ap f (some-injective x w e))
      (IsPermutation-append_comm (f x) r))
  less_lists (x ∷ xs) (suc port) w u e none =
      let r = flat_map f (set xs port u) in
      subst (λ l. IsPermutation (f x ++ flat_map f xs) l) (sym (append_assoc (f x) r (f w)))
      (IsPermutation-append (f x) (f x) (flat_map f xs) (r ++ f w) (IsPermutation-refl (f x))
      (less_lists xs port w u e none))

  -- one pass takes in what another has
  pub moved_lists : (views : List V) (port other : ℕ) (v w both u : V)
      → get_elem? views port ≡ some v → other ≢ port → get_elem? views other ≡ some w
      → f both ≡ f v ++ f w → f u ≡ []
      → IsPermutation (flat_map f views) (flat_map f (set (set views port both) other u))
  moved_lists [] port other v w both u at apart there is none =
      absurd (some-ne-none v (sym at))
  moved_lists (x ∷ xs) zero zero v w both u at apart there is none = absurd (apart refl)
  moved_lists (x ∷ xs) zero (suc other) v w both u at apart there is none =
      let r = flat_map f (set xs other u) in
      let here : f both ≡ f x ++ f w =
      is ∙ ap (λ y. f y ++ f w) (sym (some-injective x v at)) in
      let less = less_lists xs other w u there none in
      let turned = IsPermutation-trans (flat_map f xs) (r ++ f w) (f w ++ r) less
      (IsPermutation-append_comm r (f w)) in
      let all = IsPermutation-append (f x) (f x) (flat_map f xs) (f w ++ r)
      (IsPermutation-refl (f x)) turned in
      subst (λ l. IsPermutation (f x ++ flat_map f xs) (l ++ r)) (sym here)
      (subst (λ l. IsPermutation (f x ++ flat_map f xs) l) (sym (append_assoc (f x) (f w) r)) all)
  moved_lists (x ∷ xs) (suc port) zero v w both u at apart there is none =
      let r = flat_map f (set xs port both) in
      let more = more_lists xs port v both (f w) at is in
      let turned = IsPermutation-append_comm (f x) (flat_map f xs) in
      let named : IsPermutation (f x ++ flat_map f xs) (flat_map f xs ++ f w) =
      subst (λ l. IsPermutation (f x ++ flat_map f xs) (flat_map f xs ++ l))
      (ap f (some-injective x w there)) turned in
      let all = IsPermutation-trans (f x ++ flat_map f xs) (flat_map f xs ++ f w) r named
      (IsPermutation-sym r (flat_map f xs ++ f w) more) in
      subst (λ l. IsPermutation (f x ++ flat_map f xs) (l ++ r)) (sym none) all
  moved_lists (x ∷ xs) (suc port) (suc other) v w both u at apart there is none =
      IsPermutation-append (f x) (f x) (flat_map f xs)
      (flat_map f (set (set xs port both) other u)) (IsPermutation-refl (f x))
      (moved_lists xs port other v w both u at (λ e. apart (ap suc e)) there is none)

  -- a new pass has nothing
  pub new_list : (views : List V) (r : V) → f r ≡ []
      → flat_map f (views ++ r ∷ []) ≡ flat_map f views
  new_list [] r none = ap (λ l. l ++ []) none
  new_list (x ∷ xs) r none = ap (λ l. f x ++ l) (new_list xs r none)

module _ {V : Type 0} (f : V → ℕ) where
  pub total_set : (views : List V) (port : ℕ) (v w : V) → get_elem? views port ≡ some v
      → total f (set views port w) + f v ≡ total f views + f w
  total_set [] port v w e = absurd (some-ne-none v (sym e))
  total_set (x ∷ xs) zero v w e = let same = ap f (some-injective x v e) in omega (arith, same)
  total_set (x ∷ xs) (suc port) v w e = omega (arith, total_set xs port v w e)

  pub total_new : (views : List V) (r : V) → total f (views ++ r ∷ []) ≡ total f views + f r
  total_new [] r = omega arith
  total_new (x ∷ xs) r = omega (arith, total_new xs r)

  -- none has more than all have
  pub at_most_all : (views : List V) (port : ℕ) (v : V) → get_elem? views port ≡ some v
      → f v ≤ total f views
  at_most_all [] port v e = absurd (some-ne-none v (sym e))
  at_most_all (x ∷ xs) zero v e = let same = ap f (some-injective x v e) in omega (arith, same)
  at_most_all (x ∷ xs) (suc port) v e = omega (arith, at_most_all xs port v e)
