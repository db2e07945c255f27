-- What is undone, and how time goes on.
use Rattle.std.specs.Prelude.{◌↔◌}
use Rattle.std.proofs.Common.{
  ◌≡◌,
  ◌⊎◌,
  inl,
  inr,
  ⊎_elim,
  ℕ,
  zero,
  suc,
  ◌+◌,
  ◌≤◌,
  List,
  [],
  ◌∷◌,
  ◌++◌,
  length,
  take,
  drop,
  Option,
  Some,
  None,
  refl,
  sym,
  ◌∙◌,
  ap,
  subst,
  arith,
  length-append,
}
use Rattle.std.proofs.lemmas.List.{take_all, take_at}
use Rattle.std.specs.Prelude.{unwrap_or, option_map}
use Rattle.std.specs.FinMap as finmap
use Rattle.clog_disk.specs.declared.stored.Undo.{Undo}
use Rattle.clog_disk.specs.Images.{Elapses}
use Rattle.clog_disk.specs.Stored.{Stored, may_leave, cut_to, grown_at, settled}
use Rattle.clog_disk.specs.InMemory.{
  LastedAt,
  LastsWhole,
  with_file,
  undo_at,
  undone,
  back,
  Since,
  Steps,
  reading_at,
}
use Rattle.clog_disk.proofs.States.{with_here, with_same, with_twice}

-- where nothing was changed yet
pub undone_at_once : (state : List ℕ → Option Stored) (name : List ℕ) (was : Option Stored)
    → was ≡ state name → undone (undo_at name was) state ≡ state
undone_at_once state name None stood = with_same state name None stood
undone_at_once state name (Some file) stood =
    let whole : take (length file.bytes) file.bytes ≡ file.bytes =
    take_all (length file.bytes) file.bytes (omega arith) in
    let cut : cut_to (state name) (length file.bytes) file.synced file.sure ≡ Some file =
    ap (λ (f : Option Stored). cut_to f (length file.bytes) file.synced file.sure) (sym stood)
    ∙ ap (λ (l : List ℕ).
    Some (record { bytes = l; synced = file.synced; sure = file.sure })
    ) whole in
    with_same state name _ (cut ∙ stood)

-- a change at one name after which the file can be cut back to what it was
module _ (state : List ℕ → Option Stored) (name : List ℕ) where
  undone_cut : (was : Stored) (now : Stored) → Some was ≡ state name
      → take (length was.bytes) now.bytes ≡ was.bytes
      → undone (undo_at name (Some was)) (with_file state name (Some now)) ≡ state
  undone_cut was now stood front =
      let cut : cut_to (with_file state name (Some now) name) (length was.bytes) was.synced was.sure
      ≡ Some was =
      ap (λ (f : Option Stored). cut_to f (length was.bytes) was.synced was.sure) (
      with_here state name (Some now)
      )
      ∙ ap (λ (l : List ℕ).
      Some (record { bytes = l; synced = was.synced; sure = was.sure })
      ) front in
      with_twice state name (Some now) _ ∙ with_same state name _ (cut ∙ stood)

  pub undone_append : (was : Option Stored) (bytes : List ℕ) → was ≡ state name
      → undone (undo_at name was) (with_file state name (Some (grown_at was bytes))) ≡ state
  undone_append None bytes stood =
      with_twice state name _ None ∙ with_same state name None stood
  undone_append (Some was) bytes stood =
      undone_cut was (grown_at (Some was) bytes) stood (take_at was.bytes bytes _ refl)

  pub undone_settle : (was : Option Stored) → was ≡ state name
      → undone (undo_at name was) (with_file state name (option_map settled was)) ≡ state
  undone_settle None stood = with_twice state name _ None ∙ with_same state name None stood
  undone_settle (Some was) stood =
      undone_cut was (settled was) stood (take_all (length was.bytes) was.bytes (omega arith))

drop_push : {A : Type 0} (k : ℕ) (xs : List A) (x : A) → k ≤ length xs
    → drop k (xs ++ x ∷ []) ≡ drop k xs ++ x ∷ []
drop_push zero xs x le = refl
drop_push (suc k) [] x le = absurd (omega (arith, le))
drop_push (suc k) (y ∷ xs) x le = drop_push k xs x (omega (arith, le))

drop_all_of : {A : Type 0} (k : ℕ) (xs : List A) → length xs ≤ k → drop k xs ≡ []
drop_all_of k [] le = none k
  where
    none : {A : Type 0} (k : ℕ) → drop {A = A} k [] ≡ []
    none zero = refl
    none (suc k) = refl
drop_all_of zero (x ∷ xs) le = absurd (omega (arith, le))
drop_all_of (suc k) (x ∷ xs) le = drop_all_of k xs (omega (arith, le))

back-append : (us vs : List Undo) (state : List ℕ → Option Stored)
    → back (us ++ vs) state ≡ back us (back vs state)
back-append [] vs state = refl
back-append (u ∷ us) vs state = ap (undone u) (back-append us vs state)

-- one note more leads back to the same earlier states
module _ (old new : List ℕ → Option Stored) (undos now : List Undo) (u : Undo)
    (noted : now ≡ undos ++ u ∷ []) (leads : undone u new ≡ old) where
  pub same_before : (t : ℕ) → t ≤ length undos → back (drop t now) new ≡ back (drop t undos) old
  same_before t le =
      ap (λ (us : List Undo). back us new) (
      ap (λ (l : List Undo). drop t l) noted ∙ drop_push t undos u le
      )
      ∙ back-append (drop t undos) (u ∷ []) new
      ∙ ap (back (drop t undos)) leads

  pub longer : length now ≡ length undos + 1
  longer = ap (λ (l : List Undo). length l) noted ∙ length-append undos (u ∷ [])

split : (k n : ℕ) → (k ≤ n) ⊎ (n + 1 ≤ k)
split zero n = inl (omega arith)
split (suc k) zero = inr (omega arith)
split (suc k) (suc n) =
    ⊎_elim (λ x. inl (omega (arith, x))) (λ y. inr (omega (arith, y))) (split k n)

-- equal types imply each other
either_way : {A B : Type 0} → A ≡ B → A ↔ B
either_way same = (subst (λ (T : Type 0). T) same, subst (λ (T : Type 0). T) (sym same))

-- time goes on by a call that noted what it did, or did nothing
module _ {D : Type 0} (state : D → List ℕ → Option Stored) (undos : D → List Undo) where
  pub elapses : (old new : D) → Steps (state old) (state new) (undos old) (undos new)
      → Elapses (λ d. length (undos d)) (λ d t image. Since (state d) (undos d) t image) (
      λ d name left. may_leave (state d name) left
      ) (λ d t. Some (reading_at (state d) (undos d) t)) (
      λ d t. LastedAt (state d) (undos d) t
      ) old new
  elapses old new (inl same) = record {
    later = record {
      no_sooner = omega (arith, ap (λ (l : List Undo). length l) same.1);
      remembers = λ t le i. Some (reading_at (same.0 i) (same.1 i) t);
      lasted_then = λ t le.
          either_way (λ i. LastedAt (same.0 i) (same.1 i) t);
    };
    nothing_else = λ t image le since.
        inl (
        subst (λ (st : List ℕ → Option Stored). Since st (undos old) t image) same.0 (
        subst (λ (us : List Undo). Since (state new) us t image) same.1 since
        )
        );
    keeps = λ t image le since.
        subst (λ (us : List Undo). Since (state new) us t image) (sym same.1) (
        subst (λ (st : List ℕ → Option Stored). Since st (undos old) t image) (sym same.0) since
        );
  }
  elapses old new (inr step) =
      let u = step.0 in
      let before = same_before (state old) (state new) (undos old) (undos new) u step.1 step.2 in
      let more = longer (state old) (state new) (undos old) (undos new) u step.1 step.2 in
      record {
        later = record {
          no_sooner = omega (arith, more);
          remembers = λ t le.
              ap (λ (st : List ℕ → Option Stored).
              Some (λ (name : List ℕ).
              unwrap_or (option_map (λ (file : Stored). file.bytes) (st name)) [])
              ) (before t le);
          lasted_then = λ t le.
              either_way (ap (λ (st : List ℕ → Option Stored).
              (name : List ℕ) → LastsWhole (st name)) (before t le));
        };
        nothing_else = λ t image le since. elim (split since.0 (length (undos old))) [
          | inl early ↦ inl (
            since.0,
            since.1,
            early,
            λ name. subst (λ (st : List ℕ → Option Stored).
                may_leave (st name) (finmap.get image name)
                ) (before since.0 early) (since.3 name),
          )
          | inr late ↦ inr (λ name.
              subst (λ (us : List Undo).
              may_leave (back us (state new) name) (finmap.get image name)
              ) (drop_all_of since.0 (undos new) (omega (arith, more, late))) (since.3 name))
        ];
        keeps = λ t image le since. (
          since.0,
          since.1,
          omega (arith, since.2, more),
          λ name. subst (λ (st : List ℕ → Option Stored).
              may_leave (st name) (finmap.get image name)
              ) (sym (before since.0 since.2)) (since.3 name),
        );
      }
