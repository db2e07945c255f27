-- Each step keeps the queue's rule.
use Rattle.std.proofs.Common.{◌≡◌, ℕ, zero, suc, ◌+◌, ◌-◌, ◌<◌, List, [], ◌∷◌, ◌++◌, length, set}
use Rattle.std.proofs.Common.{refl, sym, ◌∙◌, ap, ap₂, subst, ⊎_elim, arith, append_assoc}
use Rattle.std.proofs.Common.{IsPermutation}
use Rattle.std.specs.List.{flat_map}
use Rattle.std.proofs.lemmas.List.{append-nil}
use Rattle.std.proofs.lemmas.List.Sorted.{IsPermutation-refl, IsPermutation-sym}
use Rattle.std.proofs.lemmas.List.Sorted.{IsPermutation-trans, IsPermutation-append}
use mathlib.Core.Option.{some, some-injective, some-ne-none}
use lib.ListN.{get_elem?}
use Rattle.crossbeam_queue.specs.Fifo.{Pushes, Pops, Forks, Merges, Learns, Held}
use Rattle.crossbeam_queue.proofs.Lists.{at_set, at_snoc}
use Rattle.replay_queue.specs.declared.rule.Hand.{Hand}
use Rattle.replay_queue.specs.declared.rule.Job.{Job}
use Rattle.replay_queue.specs.Fair.{Balanced, IdleIsEmpty, hand, item_of, total}
use Rattle.replay_queue.proofs.Lists.{same_lists, more_lists, moved_lists, new_list, total_set}
use Rattle.replay_queue.proofs.Lists.{total_new, at_most_all}

module _ {T : Type 0} where
  abbrev pub parts_of : Hand T → ℕ
  parts_of v = v.parts

  items_more : (items : List (Job T)) (x : Job T)
      → flat_map item_of (items ++ x ∷ []) ≡ flat_map item_of items ++ item_of x
  items_more [] x = append-nil (item_of x)
  items_more (y ∷ ys) x =
      ap (λ l. item_of y ++ l) (items_more ys x)
      ∙ sym (append_assoc (item_of y) (flat_map item_of ys) (item_of x))

  abbrev IsIdle : Hand T → Type 0
  IsIdle v = v.parts ≡ 0 → (v.put ≡ []) × (v.taken ≡ [])

  idle_set : (views : List (Hand T)) (port : ℕ) (w : Hand T) → IsIdle w → IdleIsEmpty views
      → IdleIsEmpty (set views port w)
  idle_set views port w mine idle j u e none = ⊎_elim
      (λ (x : (j ≡ port) × (w ≡ u)). subst IsIdle x.1 mine none)
      (λ x. idle j u x.1 none) (at_set views port j w u e)

  pub begins : Balanced {T = T} [] (hand 1024 [] [] ∷ [])
  begins = record {
    parts = refl;
    items_are = IsPermutation-refl [];
    idle = first;
  }
    where
      first : IdleIsEmpty {T = T} (hand 1024 [] [] ∷ [])
      first zero v e none =
          let same = ap (λ (x : Hand T). x.parts) (some-injective (hand 1024 [] []) v e) in
          absurd (omega (arith, same, none))
      first (suc j) v e none = absurd (some-ne-none v (sym e))

  pub puts : (n port : ℕ) (v : Hand T) (x : Job T) → 0 < v.parts
      → Pushes Balanced n port v x (λ w. w ≡ hand v.parts (v.put ++ item_of x) v.taken)
  puts n port v x some_part items views room b at =
      let new = item_of x in
      let w : Hand T = hand v.parts (v.put ++ new) v.taken in
      let p = flat_map (λ (u : Hand T). u.put) views in
      let p' = flat_map (λ (u : Hand T). u.put) (set views port w) in
      let t = flat_map (λ (u : Hand T). u.taken) views in
      let t' = flat_map (λ (u : Hand T). u.taken) (set views port w) in
      let i = flat_map item_of items in
      let more : IsPermutation p' (p ++ new) =
      more_lists (λ (u : Hand T). u.put) views port v w new at refl in
      let same : t' ≡ t = same_lists (λ (u : Hand T). u.taken) views port v w at refl in
      let is : (t ++ i) ++ new ≡ t' ++ flat_map item_of (items ++ x ∷ []) =
      append_assoc t i new ∙ ap₂ (λ (a b : List T). a ++ b) (sym same) (sym (items_more items x))
      in (
        w,
        record {
          parts = (let s = total_set parts_of views port v w at in let q = b.parts in omega arith);
          items_are = subst (IsPermutation p') is
              (IsPermutation-trans p' (p ++ new) ((t ++ i) ++ new) more
              (IsPermutation-append p (t ++ i) new new b.items_are (IsPermutation-refl new)));
          idle = idle_set views port w (λ none. absurd (omega (arith, some_part, none))) b.idle;
        },
        refl,
      )

  pub takes : (port : ℕ) (v : Hand T) → 0 < v.parts
      → Pops Balanced port v (λ x w. w ≡ hand v.parts v.put (v.taken ++ item_of x))
  takes port v some_part x items views b at =
      let new = item_of x in
      let w : Hand T = hand v.parts v.put (v.taken ++ new) in
      let p = flat_map (λ (u : Hand T). u.put) views in
      let p' = flat_map (λ (u : Hand T). u.put) (set views port w) in
      let t = flat_map (λ (u : Hand T). u.taken) views in
      let t' = flat_map (λ (u : Hand T). u.taken) (set views port w) in
      let i = flat_map item_of items in
      let more : IsPermutation t' (t ++ new) =
      more_lists (λ (u : Hand T). u.taken) views port v w new at refl in
      let same : p' ≡ p = same_lists (λ (u : Hand T). u.put) views port v w at refl in
      let now : IsPermutation ((t ++ new) ++ i) (t' ++ i) =
      IsPermutation-append (t ++ new) t' i i (IsPermutation-sym t' (t ++ new) more)
      (IsPermutation-refl i) in
      let was : IsPermutation p ((t ++ new) ++ i) =
      subst (IsPermutation p) (sym (append_assoc t new i)) b.items_are in (
        w,
        record {
          parts = (let s = total_set parts_of views port v w at in let q = b.parts in omega arith);
          items_are = subst (λ l. IsPermutation l (t' ++ i)) (sym same)
              (IsPermutation-trans p ((t ++ new) ++ i) (t' ++ i) was now);
          idle = idle_set views port w (λ none. absurd (omega (arith, some_part, none))) b.idle;
        },
        refl,
      )

  pub forks : (port : ℕ) (v : Hand T) → 1 < v.parts
      → Forks Balanced port v (hand (v.parts - 1) v.put v.taken) (hand 1 [] [])
  forks port v more items views b at =
      let l : Hand T = hand (v.parts - 1) v.put v.taken in
      let r : Hand T = hand 1 [] [] in
      let vs = set views port l in
      let i = flat_map item_of items in
      let puts_are : flat_map (λ (u : Hand T). u.put) (vs ++ r ∷ [])
      ≡ flat_map (λ (u : Hand T). u.put) views =
      new_list (λ (u : Hand T). u.put) vs r refl
      ∙ same_lists (λ (u : Hand T). u.put) views port v l at refl in
      let taken_are : flat_map (λ (u : Hand T). u.taken) (vs ++ r ∷ [])
      ≡ flat_map (λ (u : Hand T). u.taken) views =
      new_list (λ (u : Hand T). u.taken) vs r refl
      ∙ same_lists (λ (u : Hand T). u.taken) views port v l at refl in
      record {
        parts = (
            let s = total_set parts_of views port v l at in
            let k = total_new parts_of vs r in
            let q = b.parts in omega arith);
        items_are = subst
            (λ a. IsPermutation a (flat_map (λ (u : Hand T). u.taken) (vs ++ r ∷ []) ++ i))
            (sym puts_are)
            (subst (λ a. IsPermutation (flat_map (λ (u : Hand T). u.put) views) (a ++ i))
            (sym taken_are) b.items_are);
        idle = λ j u e none. ⊎_elim
            (λ (x : get_elem? vs j ≡ some u).
            idle_set views port l (λ nil. absurd (omega (arith, more, nil))) b.idle j u x none)
            (λ (is : r ≡ u).
            let one = ap (λ (y : Hand T). y.parts) is in absurd (omega (arith, one, none)))
            (at_snoc vs r u j e);
      }

  pub merges : (port : ℕ) (v : Hand T) (other : ℕ) (w : Hand T)
      → Merges Balanced port v other w
      (hand (v.parts + w.parts) (v.put ++ w.put) (v.taken ++ w.taken)) (hand 0 [] [])
  merges port v other w items views b at apart at' =
      let both : Hand T = hand (v.parts + w.parts) (v.put ++ w.put) (v.taken ++ w.taken) in
      let spent : Hand T = hand 0 [] [] in
      let vs = set views port both in
      let us = set vs other spent in
      let i = flat_map item_of items in
      let was : get_elem? views other ≡ some w = ⊎_elim
      (λ (x : (other ≡ port) × (both ≡ w)). absurd (apart x.0))
      (λ x. x.1) (at_set views port other both w at') in
      let p = flat_map (λ (u : Hand T). u.put) views in
      let t = flat_map (λ (u : Hand T). u.taken) views in
      let p' = flat_map (λ (u : Hand T). u.put) us in
      let t' = flat_map (λ (u : Hand T). u.taken) us in
      let puts_are : IsPermutation p p' =
      moved_lists (λ (u : Hand T). u.put) views port other v w both spent at apart was refl refl in
      let taken_are : IsPermutation t t' =
      moved_lists (λ (u : Hand T). u.taken) views port other v w both spent at apart was refl refl
      in
      record {
        parts = (
            let s = total_set parts_of views port v both at in
            let k = total_set parts_of vs other w spent at' in
            let q = b.parts in omega arith);
        items_are = IsPermutation-trans p' p (t' ++ i) (IsPermutation-sym p p' puts_are)
            (IsPermutation-trans p (t ++ i) (t' ++ i) b.items_are
            (IsPermutation-append t t' i i taken_are (IsPermutation-refl i)));
        idle = idle_set vs other spent (λ _. (refl, refl)) (idle_set views port both
            (λ none.
            let mine = b.idle port v at (omega (arith, none)) in
            let theirs = b.idle other w was (omega (arith, none)) in (
              ap₂ (λ (a c : List T). a ++ c) mine.0 theirs.0,
              ap₂ (λ (a c : List T). a ++ c) mine.1 theirs.1,
            )) b.idle);
      }

  nothing : (f : Hand T → List T)
      → ((u : Hand T) → (u.put ≡ []) × (u.taken ≡ []) → f u ≡ [])
      → (views : List (Hand T)) → total parts_of views ≡ 0 → IdleIsEmpty views
      → flat_map f views ≡ []
  nothing f empty [] none idle = refl
  nothing f empty (x ∷ xs) none idle =
      ap₂ (λ (a b : List T). a ++ b) (empty x (idle 0 x refl (omega (arith, none))))
      (nothing f empty xs (omega (arith, none)) (λ j. idle (suc j)))

  alone : (f : Hand T → List T)
      → ((u : Hand T) → (u.put ≡ []) × (u.taken ≡ []) → f u ≡ [])
      → (views : List (Hand T)) (port : ℕ) (v : Hand T) → get_elem? views port ≡ some v
      → total parts_of views ≡ v.parts → IdleIsEmpty views → flat_map f views ≡ f v
  alone f empty [] port v e all idle = absurd (some-ne-none v (sym e))
  alone f empty (x ∷ xs) zero v e all idle =
      let same : x ≡ v = some-injective x v e in
      let parts = ap parts_of same in
      ap (λ l. f x ++ l) (nothing f empty xs (omega (arith, all, parts)) (λ j. idle (suc j)))
      ∙ append-nil (f x) ∙ ap f same
  alone f empty (x ∷ xs) (suc port) v e all idle =
      let most = at_most_all parts_of xs port v e in
      ap₂ (λ (a b : List T). a ++ b) (empty x (idle 0 x refl (omega (arith, all, most))))
      (alone f empty xs port v e (omega (arith, all, most)) (λ j. idle (suc j)))

  pub learns : (port : ℕ) (v : Hand T) → v.parts ≡ 1024
      → Learns Balanced port v (λ items. IsPermutation v.put (v.taken ++ flat_map item_of items))
  learns port v all items views b at =
      let i = flat_map item_of items in
      let whole : total parts_of views ≡ v.parts = b.parts ∙ sym all in
      let puts_are = alone (λ (u : Hand T). u.put) (λ u e. e.0) views port v at whole b.idle in
      let taken_are = alone (λ (u : Hand T). u.taken) (λ u e. e.1) views port v at whole b.idle in
      subst (λ a. IsPermutation a (v.taken ++ i)) puts_are
      (subst (λ a. IsPermutation (flat_map (λ (u : Hand T). u.put) views) (a ++ i)) taken_are
      b.items_are)

  settled : (put taken : List T) (items : List (Job T)) → length items ≡ 0
      → IsPermutation put (taken ++ flat_map item_of items) → IsPermutation put taken
  settled put taken [] none is = subst (IsPermutation put) (append-nil taken) is
  settled put taken (x ∷ xs) none is = absurd (omega (arith, none))

  -- where the queue is empty, what was put was taken
  pub settles : (v : Hand T)
      → Held 0 (λ (items : List (Job T)). IsPermutation v.put (v.taken ++ flat_map item_of items))
      → IsPermutation v.taken v.put
  settles v held =
      IsPermutation-sym v.put v.taken (settled v.put v.taken held.0 held.1 held.2)
