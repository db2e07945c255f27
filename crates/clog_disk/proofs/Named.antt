-- What a map of files holds at a name after one change.
use Rattle.std.proofs.Common.{
  ◌≡◌,
  ◌⊎◌,
  inl,
  inr,
  ℕ,
  List,
  Bool,
  true,
  false,
  cond,
  Some,
  None,
  refl,
  sym,
  ◌∙◌,
  ap,
}
use Rattle.std.proofs.lemmas.Bool.{false≢true}
use Rattle.std.specs.FinMap as map
use Rattle.std.specs.FinMap.{
  get-insert,
  get-remove,
  same_map,
  nat_cmp-IsAntisymmetric,
  slice_cmp-IsAntisymmetric,
}
use Rattle.std.specs.Cmp.{eq_by_cmp_equiv}
use Rattle.std.specs.Cmp.Lexicographic.{slice_cmp, nat_list_cmp_total}
use Rattle.std.specs.Ordering.{nat_cmp, eq_by_cmp}
use Rattle.std.proofs.lemmas.Map.Lookups.{exact_bytes}
use Rattle.std.proofs.lemmas.Map.Views.{tells_apart}
use Rattle.clog_disk.specs.Files.{Files}

-- names compare equal just where they are
pub equal_names : (other name : List ℕ) → eq_by_cmp (slice_cmp nat_cmp) other name ≡ true
    → other ≡ name
equal_names = tells_apart exact_bytes

pub same_name : (name : List ℕ) → eq_by_cmp (slice_cmp nat_cmp) name name ≡ true
same_name name = (eq_by_cmp_equiv nat_list_cmp_total).refl name

decided : (other name : List ℕ) (b : Bool) → eq_by_cmp (slice_cmp nat_cmp) other name ≡ b
    → (other ≡ name) ⊎ (other ≡ name → ⊥)
decided other name true e = inl (equal_names other name e)
decided other name false e = inr (λ same. false≢true (sym e ∙ ap (λ (n : List ℕ).
    eq_by_cmp (slice_cmp nat_cmp) other n
    ) (sym same) ∙ same_name other))

pub same_or_other : (other name : List ℕ) → (other ≡ name) ⊎ (other ≡ name → ⊥)
same_or_other other name = decided other name _ refl

tied : (other name : List ℕ) (b : Bool) → eq_by_cmp (slice_cmp nat_cmp) other name ≡ b
    → (other ≡ name → ⊥) → eq_by_cmp (slice_cmp nat_cmp) other name ≡ false
tied other name true e apart = absurd (apart (equal_names other name e))
tied other name false e apart = e

pub other_name : (other name : List ℕ) → (other ≡ name → ⊥)
    → eq_by_cmp (slice_cmp nat_cmp) other name ≡ false
other_name other name apart = tied other name _ refl apart

pub put_here : (files : Files) (name bytes : List ℕ)
    → map.get (map.insert files name bytes) name ≡ Some bytes
put_here files name bytes =
    get-insert nat_list_cmp_total files name bytes name
    ∙ ap (λ b. cond b (Some bytes) (map.get files name)) (same_name name)

pub put_there : (files : Files) (name bytes other : List ℕ) → (other ≡ name → ⊥)
    → map.get (map.insert files name bytes) other ≡ map.get files other
put_there files name bytes other apart =
    get-insert nat_list_cmp_total files name bytes other
    ∙ ap (λ b. cond b (Some bytes) (map.get files other)) (other_name other name apart)

pub gone_here : (files : Files) (name : List ℕ) → map.get (map.remove files name) name ≡ None
gone_here files name =
    get-remove nat_list_cmp_total files name name
    ∙ ap (λ b. cond b None (map.get files name)) (same_name name)

pub gone_there : (files : Files) (name other : List ℕ) → (other ≡ name → ⊥)
    → map.get (map.remove files name) other ≡ map.get files other
gone_there files name other apart =
    get-remove nat_list_cmp_total files name other
    ∙ ap (λ b. cond b None (map.get files other)) (other_name other name apart)

-- two maps that hold the same at each name are one
pub same_files : (a b : Files) → ((name : List ℕ) → map.get a name ≡ map.get b name) → a ≡ b
same_files a b same =
    same_map nat_list_cmp_total (slice_cmp-IsAntisymmetric nat_cmp-IsAntisymmetric) a b same
