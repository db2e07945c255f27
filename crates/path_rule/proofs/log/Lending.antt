-- The pending notes up to a marker, in the order of the log, are the notes between the synced key
-- and the marker.
use Rattle.std.proofs.Common.{
  ◌≡◌,
  ℕ,
  ◌+◌,
  ◌<◌,
  ◌≤◌,
  nat_lt,
  nat_le,
  ◌&&◌,
  cond,
  Bool,
  true,
  false,
  List,
  [],
  ◌∷◌,
  ◌++◌,
  refl,
  sym,
  ap,
  ◌∙◌,
  ⊎_elim,
  arith,
  eq-eqb,
}
use Rattle.std.specs.Prelude.{◌⊎◌}
use Rattle.std.proofs.lemmas.Bool.{ltb-true, lt-ltb, le-leb, leb-true}
use Rattle.std.proofs.lemmas.List.Elements.{
  Contains-append_left,
  Contains-append_right,
  Contains-append_cases,
}
use Rattle.std.proofs.lemmas.List.Kept.{AllPairs-filter}
use Rattle.std.proofs.lemmas.List.Sorted.{
  Contains-permutation,
  IsPermutation-sym,
  sum_by-IsPermutation,
}
use Rattle.std.proofs.lemmas.List.Sums.{sum_by-append, sum_by-cons}
use Rattle.std.specs.List.{Contains, AllPairs, filter}
use mathlib.Core.Logic.{dite}
use native.Mathlib.Decide.{dec_le}
use Rattle.path_core.specs.declared.note.EntryNote.{EntryNote}
use Rattle.path_core.specs.declared.state.PathState.{PathState}
use Rattle.path_core.specs.Keeper.{IsParted}
use Rattle.path_core.specs.Lawful.{IsLawfulPath}
use Rattle.path_core.specs.LawfulLog.{is_note_at, is_at_most}
use Rattle.path_core.specs.Next.{is_between}
use Rattle.path_core.proofs.lent.Beginnings.{notes_rise}
use Rattle.path_core.proofs.lists.Heads.{first_in, later_in, first_or_later, ahead, behind}
use Rattle.path_core.proofs.lists.Inserted.{map_old, map_from}
use Rattle.path_core.proofs.lists.Passing.{filter_from, kept_in}
use Rattle.path_core.proofs.lists.Replaced.{counted_in}
use Rattle.path_rule.specs.Boxed.{ends_at}
use Rattle.path_rule.specs.Lasts.{ends}

-- two lists in order, of the same notes
pub same_list : (xs ys : List EntryNote) → AllPairs (λ (a b : EntryNote). a.end.0 < b.end.0) xs
    → AllPairs (λ (a b : EntryNote). a.end.0 ≤ b.end.0) ys → ((k : ℕ) → ends_at k ys ≤ 1)
    → ((n : EntryNote) → Contains xs n → Contains ys n)
    → ((n : EntryNote) → Contains ys n → Contains xs n) → xs ≡ ys
same_list [] [] ox oy one to from = refl
same_list [] (y ∷ ys) ox oy one to from = absurd (let l = (from y (first_in y ys)).1 in omega arith)
same_list (x ∷ xs) [] ox oy one to from = absurd (let l = (to x (first_in x xs)).1 in omega arith)
same_list (x ∷ xs) (y ∷ ys) ox oy one to from = let tails =
    same_list xs ys (behind (λ (a b : EntryNote). a.end.0 < b.end.0) x xs ox)
    (behind (λ (a b : EntryNote). a.end.0 ≤ b.end.0) y ys oy) fewer
    (λ z h. ⊎_elim (λ s. absurd (let a = ahead
    (λ (a b : EntryNote). a.end.0 < b.end.0) x xs ox z h in
    let e = ap (λ (n : EntryNote). n.end.0) (same ∙ s) in omega arith)) (λ q. q)
    (first_or_later y z ys (to z (later_in x z xs h))))
    (λ z h. ⊎_elim (λ s. absurd (twice z (sym same ∙ s) h)) (λ q. q)
    (first_or_later x z xs (from z (later_in y z ys h)))) in (λ i. same i ∷ tails i)
  where
    same : x ≡ y
    same = ⊎_elim (λ s. s) (λ hy. ⊎_elim (λ s. sym s)
        (λ hx. absurd (let a = ahead (λ (a b : EntryNote). a.end.0 < b.end.0) x xs ox y hy in
        let b = ahead (λ (a b : EntryNote). a.end.0 ≤ b.end.0) y ys oy x hx in omega arith))
        (first_or_later y x ys (to x (first_in x xs))))
        (first_or_later x y xs (from y (first_in y ys)))

    fewer : (k : ℕ) → ends_at k ys ≤ 1
    fewer k = let o = one k in let c =
        sum_by-cons (λ (a : EntryNote). cond {A = ℕ} (is_note_at k a) 1 0) y ys in omega arith

    twice : (z : EntryNote) → y ≡ z → Contains ys z → ⊥
    twice z e h = let o = one z.end.0 in
        let u = sum_by-cons (λ (a : EntryNote). cond {A = ℕ} (is_note_at z.end.0 a) 1 0) y ys in
        let c = counted_in (is_note_at z.end.0) ys z h (eq-eqb z.end.0 z.end.0 refl) in
        let here : cond {A = ℕ} (is_note_at z.end.0 y) 1 0 ≡ 1 =
        ap (λ b. cond {A = ℕ} b 1 0) (eq-eqb y.end.0 z.end.0
        (ap (λ (n : EntryNote). n.end.0) e)) in absurd (omega arith)

pub both : (a b : Bool) → a ≡ true → b ≡ true → (a && b) ≡ true
both true true p q = refl
both true false p q = q
both false b p q = p

pub both_from : (a b : Bool) → (a && b) ≡ true → (a ≡ true) × (b ≡ true)
both_from true true p = (refl, refl)
both_from true false p = (refl, p)
both_from false b p = (p, absurd (let q : false ≡ true = p in cc))

module _ (upto : ℕ) (pending run left : List EntryNote) (P : IsParted upto pending run left) where
  pub parts_of : (n : EntryNote) → Contains pending n → Contains run n ⊎ Contains left n
  parts_of n h = Contains-append_cases run left n
      (Contains-permutation pending (run ++ left) n P.all h)

  pub run_pending : (n : EntryNote) → Contains run n → Contains pending n
  run_pending n h = Contains-permutation (run ++ left) pending n
      (IsPermutation-sym pending (run ++ left) P.all) (Contains-append_left run left n h)

  pub left_pending : (n : EntryNote) → Contains left n → Contains pending n
  left_pending n h = Contains-permutation (run ++ left) pending n
      (IsPermutation-sym pending (run ++ left) P.all) (Contains-append_right run left n h)

  pub counts : (k : ℕ) → ends_at k pending ≡ ends_at k run + ends_at k left
  counts k = sym (sum_by-IsPermutation
      (λ (a : EntryNote). cond {A = ℕ} (is_note_at k a) 1 0) pending (run ++ left) P.all)
      ∙ sum_by-append (λ (a : EntryNote). cond {A = ℕ} (is_note_at k a) 1 0) run left

-- where the entries end that are lasting
abbrev pub lasting_ends : PathState → List ℕ
lasting_ends x = ends (filter (is_at_most x.synced) x.notes)

module _ (x : PathState) (L : IsLawfulPath x) (upto : ℕ) (pending run left : List EntryNote)
    (P : IsParted upto pending run left)
    (sound : (n : EntryNote) → Contains pending n → Contains x.notes n)
    (unlogged : (n : EntryNote) → Contains pending n → ¬ Contains (lasting_ends x) n.end.0)
    (once : (k : ℕ) → ends_at k pending ≤ 1)
    (covered : (n : EntryNote) → Contains x.notes n → n.end.0 ≤ upto
    → Contains (lasting_ends x) n.end.0 ⊎ Contains pending n) where
  -- what is at or below the synced key is lasting
  low_logged : (n : EntryNote) → Contains x.notes n → n.end.0 ≤ x.synced
      → Contains (lasting_ends x) n.end.0
  low_logged n h l =
      map_old (λ (a : EntryNote). a.end.0) (filter (is_at_most x.synced) x.notes) n
      (kept_in (is_at_most x.synced) x.notes n h (le-leb n.end.0 x.synced l))

  logged_low : (n : EntryNote) → Contains (lasting_ends x) n.end.0 → n.end.0 ≤ x.synced
  logged_low n h = let t = map_from (λ (a : EntryNote). a.end.0)
      (filter (is_at_most x.synced) x.notes) n.end.0 h in
      let f = filter_from (is_at_most x.synced) x.notes t.0 t.1 in
      let l = leb-true t.0.end.0 x.synced f.1 in let e = t.2 in omega arith

  pub run_is : filter (is_between x.synced upto) x.notes ≡ run
  run_is = same_list (filter (is_between x.synced upto) x.notes) run
      (AllPairs-filter (λ (a b : EntryNote). a.end.0 < b.end.0) (is_between x.synced upto) x.notes
      (notes_rise x L)) P.in_order
      (λ k. let c = counts upto pending run left P k in let o = once k in omega arith)
      (λ n h. let f = filter_from (is_between x.synced upto) x.notes n h in
      let b = both_from (nat_lt x.synced n.end.0) (nat_le n.end.0 upto) f.1 in
      let lo = ltb-true x.synced n.end.0 b.0 in let hi = leb-true n.end.0 upto b.1 in
      ⊎_elim (λ old. absurd (let q = logged_low n old in omega arith))
      (λ p. ⊎_elim (λ r. r) (λ q. absurd (let up = P.high n q in omega arith))
      (parts_of upto pending run left P n p)) (covered n f.0 hi))
      (λ n h. let p = run_pending upto pending run left P n h in let real = sound n p in
      kept_in (is_between x.synced upto) x.notes n real
      (both (nat_lt x.synced n.end.0) (nat_le n.end.0 upto)
      (dite (dec_le n.end.0 x.synced) (λ l. absurd (unlogged n p (low_logged n real l)))
      (λ g. lt-ltb x.synced n.end.0 (omega arith))) (le-leb n.end.0 upto (P.low n h))))
