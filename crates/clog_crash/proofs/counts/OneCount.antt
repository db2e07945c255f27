-- A folder has one list of logged mutations, and one of each count.
use Rattle.std.proofs.Common.{
  ◌≡◌,
  ℕ,
  suc,
  inl,
  inr,
  List,
  [],
  ◌∷◌,
  length,
  map,
  refl,
  sym,
  ◌∙◌,
  ap,
  subst,
}
use Rattle.std.specs.Cmp.{IsTotalOrder}
use Rattle.std.specs.Cmp.Lexicographic.{slice_cmp, nat_list_cmp_total}
use Rattle.std.specs.List.{flat_map}
use Rattle.std.specs.List.Sorted.{IsStrictlySortedBy}
use Rattle.std.specs.Ordering.{nat_cmp}
use Rattle.std.proofs.lemmas.Cmp.{then_total, on_total, nat_cmp_total}
use Rattle.clog_base.specs.declared.position.Position.{Position}
use Rattle.clog_disk.specs.Files.{Files}
use Rattle.clog_crash.specs.Counts.{
  AreCounts,
  AreNames,
  HaveIt,
  IsLog,
  IsStoodFor,
  LoggedMutation,
  PlacedUpdate,
  position_cmp,
  updates_of,
}
use Rattle.clog_crash.proofs.counts.Sorted.{sorted_is_one}

position_total : IsTotalOrder position_cmp
position_total =
    then_total (on_total (λ (p : Position). p.id) nat_cmp_total)
    (on_total (λ (p : Position). p.offset) nat_cmp_total)

pub one_log : (files : Files) (log other : List LoggedMutation) → IsLog files log
    → IsLog files other → log ≡ other
one_log files log other a b =
    sorted_is_one (λ (l : LoggedMutation). l.at) position_cmp position_total log other a.ordered
    b.ordered (λ l. (λ h. (b.are l).0 ((a.are l).1 h), λ h. (a.are l).0 ((b.are l).1 h)))

mapped : (names : List (List ℕ)) → map (λ (n : List ℕ). n) names ≡ names
mapped [] = refl
mapped (n ∷ names) = ap (λ (l : List (List ℕ)). n ∷ l) (mapped names)

pub one_list_of_names : (files : Files) (P : List ℕ → Type 0) (names other : List (List ℕ))
    → AreNames files P names → AreNames files P other → names ≡ other
one_list_of_names files P names other a b =
    let Sorted : List (List ℕ) → Type 0 = IsStrictlySortedBy (slice_cmp nat_cmp) in
    sorted_is_one (λ (n : List ℕ). n) (slice_cmp nat_cmp) nat_list_cmp_total names other
    (subst Sorted (sym (mapped names)) a.ordered) (subst Sorted (sym (mapped other)) b.ordered)
    (λ n. (λ h. (b.are n).0 ((a.are n).1 h), λ h. (a.are n).0 ((b.are n).1 h)))

-- so many have P, and no more and no fewer
pub one_number : {A : Type 0} (P : A → Type 0) (xs : List A) (n m : ℕ) → HaveIt P xs n
    → HaveIt P xs m → n ≡ m
one_number P [] n m a b = a ∙ sym b
one_number P (x ∷ xs) n m (inl a) (inl b) =
    a.1.1 ∙ ap suc (one_number P xs a.1.0 b.1.0 a.1.2 b.1.2) ∙ sym b.1.1
one_number P (x ∷ xs) n m (inl a) (inr b) = absurd (b.0 a.0)
one_number P (x ∷ xs) n m (inr a) (inl b) = absurd (a.0 b.0)
one_number P (x ∷ xs) n m (inr a) (inr b) = one_number P xs n m a.1 b.1

module _ (files : Files) (segments tables entries updates skipped segments' tables' entries'
    updates' skipped' : ℕ) (a : AreCounts files segments tables entries updates skipped)
    (b : AreCounts files segments' tables' entries' updates' skipped') where
  logs : b.log ≡ a.log
  logs = one_log files b.log a.log b.is_log a.is_log

  number : (P : PlacedUpdate → Type 0) (n m : ℕ) → HaveIt P (flat_map updates_of a.log) n
      → HaveIt P (flat_map updates_of b.log) m → n ≡ m
  number P n m one other =
      one_number P (flat_map updates_of a.log) n m one
      (subst (λ (l : List LoggedMutation). HaveIt P (flat_map updates_of l) m) logs other)

  pub one_count : (segments ≡ segments') × (tables ≡ tables') × (entries ≡ entries')
      × (updates ≡ updates') × (skipped ≡ skipped')
  one_count = (
    a.segments_are ∙ ap length (one_list_of_names files _ a.segment_names b.segment_names
        a.segments_all b.segments_all) ∙ sym b.segments_are,
    a.tables_are ∙ ap length (one_list_of_names files _ a.table_names b.table_names
        a.tables_all b.tables_all) ∙ sym b.tables_are,
    a.entries_are ∙ ap length (sym logs) ∙ sym b.entries_are,
    number (λ (u : PlacedUpdate). ¬ IsStoodFor files u) updates updates' a.updates_are
        b.updates_are,
    number (IsStoodFor files) skipped skipped' a.skipped_are b.skipped_are,
  )
