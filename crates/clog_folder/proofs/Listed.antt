-- What a disk lists is there, and what is there is listed.
use Rattle.std.proofs.Common.{◌≡◌, ℕ, List, Bool, true, Contains, sym, subst, ◌∙◌}
use Rattle.std.specs.FinMap as finmap
use Rattle.std.specs.FinMap.{contains_key-keys}
use Rattle.std.specs.Ordering.{nat_cmp, eq_by_cmp}
use Rattle.std.specs.Cmp.{IsEquivalence, eq_by_cmp_equiv}
use Rattle.std.specs.Cmp.Lexicographic.{slice_cmp, nat_list_cmp_total}
use Rattle.std.proofs.lemmas.Map.Lookups.{exact_bytes}
use Rattle.std.proofs.lemmas.Map.Views.{
  Contains-from_any,
  list_any-from_Contains,
  tells_apart,
}
use Rattle.clog_disk.specs.Files.{Files}
use Rattle.clog_crash.specs.Folder.{IsHeld}

abbrev name_cmp_eq : List ℕ → List ℕ → Bool
name_cmp_eq = eq_by_cmp (slice_cmp nat_cmp)

name_equiv : IsEquivalence name_cmp_eq
name_equiv = eq_by_cmp_equiv nat_list_cmp_total

one_name : (a b : List ℕ) → name_cmp_eq a b ≡ true → a ≡ b
one_name = tells_apart exact_bytes

pub held_of : (files : Files) (names : List (List ℕ)) → names ≡ finmap.keys files
    → (name : List ℕ) → Contains names name → IsHeld files name
held_of files names lists name there =
    contains_key-keys files name
    ∙ list_any-from_Contains name_equiv name (finmap.keys files)
    (subst (λ (l : List (List ℕ)). Contains l name) lists there)

pub listed_of : (files : Files) (names : List (List ℕ)) → names ≡ finmap.keys files
    → (name : List ℕ) → IsHeld files name → Contains names name
listed_of files names lists name held =
    subst (λ (l : List (List ℕ)). Contains l name) (sym lists)
    (Contains-from_any one_name name (finmap.keys files)
    (sym (contains_key-keys files name) ∙ held))
