-- Payloads that were taken in another order: what was merged of them is the same.
use Rattle.std.proofs.Common.{◌≡◌, ℕ, zero, suc, ◌<◌, List, [], ◌∷◌, ◌++◌, length, map, get_or, set}
use Rattle.std.proofs.Common.{IsPermutation, refl, sym, ap, subst, ◌∙◌, inl, inr, arith}
use Rattle.std.proofs.Common.{append_assoc}
use Rattle.std.specs.List.{flat_map, swap}
use Rattle.std.proofs.lemmas.Bool.{cases_lt}
use Rattle.std.proofs.lemmas.List.{set-get_or}
use Rattle.std.proofs.lemmas.List.Edits.{swap_is}
use Rattle.std.proofs.lemmas.List.Sorted.{Contains-permutation, IsPermutation-append}
use Rattle.std.proofs.lemmas.List.Sorted.{IsPermutation-append_comm, IsPermutation-cons}
use Rattle.std.proofs.lemmas.List.Sorted.{IsPermutation-keeps, IsPermutation-map}
use Rattle.std.proofs.lemmas.List.Sorted.{IsPermutation-middle, IsPermutation-refl}
use Rattle.std.proofs.lemmas.List.Sorted.{IsPermutation-sym, IsPermutation-trans}
use Rattle.std.proofs.lemmas.List.Sorted.{length_permutation}
use Rattle.clog_cells.proofs.Merging.{of_members}
use Rattle.clog_mutation.specs.Stored.{IsPayload}
use Rattle.clog_crash.specs.Counts.{LoggedMutation}
use Rattle.clog_folder.specs.declared.tables.TableHeld.{TableHeld}
use Rattle.clog_folder.specs.Folder.{PlacedPayload, Say}
use Rattle.clog_folder.specs.Listing.{Picks}
use Rattle.replay_merge.specs.declared.merged.Merged.{Merged}
use Rattle.replay_merge.specs.Merged.{IsMergedOf, IsSkippedBy, KeyedUpdate, pair_at, updates_of}
use Rattle.replay_merge.specs.Taking.{IsTakenOf}

-- one list from another by turning neighbours round
pub data Moved {A : Type 0} : List A → List A → Type 0 where
  none : Moved [] []
  skip : {a b : A} {xs ys : List A} → a ≡ b → Moved xs ys → Moved (a ∷ xs) (b ∷ ys)
  turn : {a b c d : A} {xs ys : List A} → a ≡ d → b ≡ c → Moved xs ys
      → Moved (a ∷ b ∷ xs) (c ∷ d ∷ ys)
  next : {xs zs : List A} (ys : List A) → Moved xs ys → Moved ys zs → Moved xs zs

unmoved : {A : Type 0} (xs : List A) → Moved xs xs
unmoved [] = none
unmoved (x ∷ xs) = skip refl (unmoved xs)

to_front : {A : Type 0} (x : A) (l : List A) (j : ℕ) (d : A) → j < length l
    → Moved (x ∷ l) (get_or l j d ∷ set l j x)
to_front x [] j d below = absurd (omega arith)
to_front x (y ∷ ys) zero d below = turn refl refl (unmoved ys)
to_front x (y ∷ ys) (suc j) d below =
    let g = get_or ys j d in
    let s = set ys j x in
    next (y ∷ x ∷ ys) (turn refl refl (unmoved ys))
    (next (y ∷ g ∷ s) (skip refl (to_front x ys j d (omega arith))) (turn refl refl (unmoved s)))

swapped : {A : Type 0} (l : List A) (i j : ℕ) (d : A) → i < j → j < length l
    → Moved l (set (set l i (get_or l j d)) j (get_or l i d))
swapped [] i j d order below = absurd (omega arith)
swapped (x ∷ xs) zero zero d order below = absurd (omega arith)
swapped (x ∷ xs) zero (suc j) d order below = to_front x xs j d (omega arith)
swapped (x ∷ xs) (suc i) zero d order below = absurd (omega arith)
swapped (x ∷ xs) (suc i) (suc j) d order below =
    skip refl (swapped xs i j d (omega arith) (omega arith))

swapped_back : {A : Type 0} (l : List A) (i j : ℕ) (d : A) → j < i → i < length l
    → Moved l (set (set l i (get_or l j d)) j (get_or l i d))
swapped_back [] i j d order below = absurd (omega arith)
swapped_back (x ∷ xs) zero j d order below = absurd (omega arith)
swapped_back (x ∷ xs) (suc i) zero d order below = to_front x xs i d (omega arith)
swapped_back (x ∷ xs) (suc i) (suc j) d order below =
    skip refl (swapped_back xs i j d (omega arith) (omega arith))

first_of : {A : Type 0} (l : List A) → 0 < length l → A
first_of [] some = absurd (omega arith)
first_of (x ∷ xs) some = x

flipped : {A : Type 0} (a b : A) (xs : List A) → IsPermutation (a ∷ b ∷ xs) (b ∷ a ∷ xs)
flipped a b xs =
    IsPermutation-sym (b ∷ a ∷ xs) (a ∷ b ∷ xs) (IsPermutation-middle (b ∷ []) a xs)

any_swap : {A : Type 0} (l : List A) (i j : ℕ) → i < length l → j < length l
    → Moved l (swap l i j)
any_swap l i j first second =
    let d = first_of l (omega arith) in
    elim (cases_lt i j) [
      | inl order ↦ subst (Moved l) (swap_is l i j d first second) (swapped l i j d order second)
      | inr other ↦ elim (cases_lt j i) [
        | inl order ↦
            subst (Moved l) (swap_is l i j d first second) (swapped_back l i j d order first)
        | inr both ↦
            let same : i ≡ j = omega arith in
            let here : set (set l i (get_or l i d)) i (get_or l i d) ≡ l =
            ap (λ m. set m i (get_or l i d)) (set-get_or l i d) ∙ set-get_or l i d in
            subst (Moved l)
            (sym here ∙ ap (λ k. set (set l i (get_or l k d)) k (get_or l i d)) same
            ∙ swap_is l i j d first second) (unmoved l)
      ]
    ]

pub moved_by : {A : Type 0} (xs ys : List A) → IsPermutation xs ys → Moved xs ys
moved_by xs ys is =
    IsPermutation-keeps xs (Moved xs) (unmoved xs)
    (λ l i j first second so. next l so (any_swap l i j first second)) ys is

pub order_of : {A : Type 0} (xs ys : List A) → Moved xs ys → IsPermutation xs ys
order_of [] [] none = IsPermutation-refl []
order_of (a ∷ xs) (b ∷ ys) (skip e m) =
    subst (λ x. IsPermutation (a ∷ xs) (x ∷ ys)) e
    (IsPermutation-cons a xs ys (order_of xs ys m))
order_of (a ∷ b ∷ xs) (c ∷ d ∷ ys) (turn e f m) =
    let rest = IsPermutation-cons b (a ∷ xs) (a ∷ ys)
    (IsPermutation-cons a xs ys (order_of xs ys m)) in
    subst (λ x. IsPermutation (a ∷ b ∷ xs) (x ∷ d ∷ ys)) f
    (subst (λ x. IsPermutation (a ∷ b ∷ xs) (b ∷ x ∷ ys)) e
    (IsPermutation-trans (a ∷ b ∷ xs) (b ∷ a ∷ xs) (b ∷ a ∷ ys) (flipped a b xs) rest))
order_of xs zs (next ys m n) =
    IsPermutation-trans xs ys zs (order_of xs ys m) (order_of ys zs n)

pub flat_order : {A B : Type 0} (f : A → List B) (xs ys : List A) → Moved xs ys
    → IsPermutation (flat_map f xs) (flat_map f ys)
flat_order f [] [] none = IsPermutation-refl []
flat_order f (a ∷ xs) (b ∷ ys) (skip e m) =
    subst (λ x. IsPermutation (f a ++ flat_map f xs) (f x ++ flat_map f ys)) e
    (IsPermutation-append (f a) (f a) (flat_map f xs) (flat_map f ys) (IsPermutation-refl (f a))
    (flat_order f xs ys m))
flat_order f (a ∷ b ∷ xs) (c ∷ d ∷ ys) (turn e g m) =
    let p = flat_map f xs in
    let q = flat_map f ys in
    let turned = IsPermutation-append (f a ++ f b) (f b ++ f a) p q
    (IsPermutation-append_comm (f a) (f b)) (flat_order f xs ys m) in
    let flat = subst (λ l. IsPermutation l ((f b ++ f a) ++ q)) (append_assoc (f a) (f b) p)
    turned in
    let all = subst (λ l. IsPermutation (f a ++ (f b ++ p)) l) (append_assoc (f b) (f a) q) flat in
    subst (λ x. IsPermutation (f a ++ (f b ++ p)) (f x ++ (f d ++ q))) g
    (subst (λ x. IsPermutation (f a ++ (f b ++ p)) (f b ++ (f x ++ q))) e all)
flat_order f xs zs (next ys m n) =
    IsPermutation-trans (flat_map f xs) (flat_map f ys) (flat_map f zs) (flat_order f xs ys m)
    (flat_order f ys zs n)

-- what the same payloads in another order say
record SaysSo (qs : List PlacedPayload) (log : List LoggedMutation) : Type 0 where
  now : List LoggedMutation
  say : Say qs now
  moved : Moved log now

says_moved : (ps qs : List PlacedPayload) → Moved ps qs → (log : List LoggedMutation)
    → Say ps log → SaysSo qs log
says_moved [] [] none log say =
    record { now = []; say = refl; moved = subst (λ l. Moved l []) (sym say) none }
says_moved (p ∷ ps) (q ∷ qs) (skip e m) log say =
    let l = say.0 in
    let more = says_moved ps qs m say.1.0 say.1.4 in
    record {
      now = l ∷ more.now;
      say = (
        l,
        (
          more.now,
          refl,
          say.1.2 ∙ ap (λ (x : PlacedPayload). x.0) e,
          subst (λ (x : PlacedPayload). IsPayload x.1 l.mutation) e say.1.3,
          more.say,
        ),
      );
      moved = subst (λ k. Moved k (l ∷ more.now)) (sym say.1.1) (skip refl more.moved);
    }
says_moved (a ∷ b ∷ ps) (c ∷ d ∷ qs) (turn e f m) log say =
    let l = say.0 in
    let second = say.1.4 in
    let k = second.0 in
    let more = says_moved ps qs m second.1.0 second.1.4 in
    let front : log ≡ l ∷ k ∷ second.1.0 = say.1.1 ∙ ap (λ r. l ∷ r) second.1.1 in
    record {
      now = k ∷ l ∷ more.now;
      say = (
        k,
        (
          l ∷ more.now,
          refl,
          second.1.2 ∙ ap (λ (x : PlacedPayload). x.0) f,
          subst (λ (x : PlacedPayload). IsPayload x.1 k.mutation) f second.1.3,
          (
            l,
            (
              more.now,
              refl,
              say.1.2 ∙ ap (λ (x : PlacedPayload). x.0) e,
              subst (λ (x : PlacedPayload). IsPayload x.1 l.mutation) e say.1.3,
              more.say,
            ),
          ),
        ),
      );
      moved = subst (λ r. Moved r (k ∷ l ∷ more.now)) (sym front) (turn refl refl more.moved);
    }
says_moved ps rs (next qs m n) log say =
    let one = says_moved ps qs m log say in
    let two = says_moved qs rs n one.now one.say in
    record { now = two.now; say = two.say; moved = next one.now one.moved two.moved }

-- what is picked of the same in another order
pub record PicksSo {A : Type 0} (P : A → Type 0) (vs kept : List A) : Type 0 where
  pub now : List A
  pub picks : Picks P vs now
  pub moved : Moved kept now

picks_more : {A : Type 0} (P : A → Type 0) (a b : A) (xs ys kept : List A) → a ≡ b
    → ((rest : List A) → Picks P xs rest → PicksSo P ys rest) → Picks P (a ∷ xs) kept
    → PicksSo P (b ∷ ys) kept
picks_more P a b xs ys kept e on (inl has) =
    let more = on has.1.0 has.1.2 in
    record {
      now = b ∷ more.now;
      picks = inl (subst P e has.0, (more.now, refl, more.picks));
      moved = subst (λ l. Moved l (b ∷ more.now)) (sym has.1.1) (skip e more.moved);
    }
picks_more P a b xs ys kept e on (inr lacks) =
    let more = on kept lacks.1 in
    record {
      now = more.now;
      picks = inr (subst (λ x. ¬ P x) e lacks.0, more.picks);
      moved = more.moved;
    }

-- two that stand first are picked the other way round
picks_turned : {A : Type 0} (P : A → Type 0) (a b : A) (xs kept : List A)
    → Picks P (a ∷ b ∷ xs) kept → PicksSo P (b ∷ a ∷ xs) kept
picks_turned P a b xs kept (inl (has, (rest, is, inl (too, (last, there, more))))) = record {
  now = b ∷ a ∷ last;
  picks = inl (too, (a ∷ last, refl, inl (has, (last, refl, more))));
  moved = subst (λ l. Moved l (b ∷ a ∷ last)) (sym (is ∙ ap (λ r. a ∷ r) there))
      (turn refl refl (unmoved last));
}
picks_turned P a b xs kept (inl (has, (rest, is, inr (lacks, more)))) = record {
  now = a ∷ rest;
  picks = inr (lacks, inl (has, (rest, refl, more)));
  moved = subst (λ l. Moved l (a ∷ rest)) (sym is) (unmoved (a ∷ rest));
}
picks_turned P a b xs kept (inr (lacks, inl (too, (last, there, more)))) = record {
  now = b ∷ last;
  picks = inl (too, (last, refl, inr (lacks, more)));
  moved = subst (λ l. Moved l (b ∷ last)) (sym there) (unmoved (b ∷ last));
}
picks_turned P a b xs kept (inr (lacks, inr (none_too, more))) = record {
  now = kept;
  picks = inr (none_too, inr (lacks, more));
  moved = unmoved kept;
}

pub picks_moved : {A : Type 0} (P : A → Type 0) (us vs : List A) → Moved us vs → (kept : List A)
    → Picks P us kept → PicksSo P vs kept
picks_moved P [] [] none kept picks =
    record { now = []; picks = refl; moved = subst (λ l. Moved l []) (sym picks) none }
picks_moved P (a ∷ xs) (b ∷ ys) (skip e m) kept picks =
    picks_more P a b xs ys kept e (picks_moved P xs ys m) picks
picks_moved P (a ∷ b ∷ xs) (c ∷ d ∷ ys) (turn e f m) kept picks =
    let one = picks_turned P a b xs kept picks in
    let two = picks_more P b c (a ∷ xs) (d ∷ ys) one.now f
    (λ rest. picks_more P a d xs ys rest e (picks_moved P xs ys m)) one.picks in
    record { now = two.now; picks = two.picks; moved = next one.now one.moved two.moved }
picks_moved P us ws (next vs m n) kept picks =
    let one = picks_moved P us vs m kept picks in
    let two = picks_moved P vs ws n one.now one.picks in
    record { now = two.now; picks = two.picks; moved = next one.now one.moved two.moved }

module _ (tables : List TableHeld) where
  merged_moved : (us vs : List KeyedUpdate) (m : Merged) → Moved us vs → IsMergedOf tables us m
      → IsMergedOf tables vs m
  merged_moved us vs m moved is =
      let kept = picks_moved (λ u. ¬ IsSkippedBy tables u) us vs moved is.kept is.picks_kept in
      let gone = picks_moved (IsSkippedBy tables) us vs moved is.gone is.picks_gone in
      let order = order_of is.kept kept.now kept.moved in
      let pairs = IsPermutation-map pair_at is.kept kept.now order in
      let left = order_of is.gone gone.now gone.moved in
      record {
        kept = kept.now;
        picks_kept = kept.picks;
        cells = of_members (map pair_at is.kept) (map pair_at kept.now) m.cells (λ pair. (
          Contains-permutation (map pair_at is.kept) (map pair_at kept.now) pair pairs,
          Contains-permutation (map pair_at kept.now) (map pair_at is.kept) pair
              (IsPermutation-sym (map pair_at is.kept) (map pair_at kept.now) pairs),
        )) is.cells;
        updates = is.updates ∙ sym (length_permutation is.kept kept.now order);
        gone = gone.now;
        picks_gone = gone.picks;
        skipped = is.skipped ∙ sym (length_permutation is.gone gone.now left);
      }

  -- what was merged of payloads is what would have been merged of them in any order
  pub taken_in_any_order : (ps qs : List PlacedPayload) (m : Merged) → IsPermutation ps qs
      → IsTakenOf tables ps m → IsTakenOf tables qs m
  taken_in_any_order ps qs m order is =
      let says = says_moved ps qs (moved_by ps qs order) is.log is.say in
      let us = flat_map updates_of is.log in
      let vs = flat_map updates_of says.now in
      record {
        log = says.now;
        say = says.say;
        taken = merged_moved us vs m
            (moved_by us vs (flat_order updates_of is.log says.now says.moved)) is.taken;
      }
