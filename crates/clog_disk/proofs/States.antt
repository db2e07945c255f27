-- What stands at each name after one change, and the files that are then read.
use Rattle.std.proofs.Common.{
  ◌≡◌,
  ◌≢◌,
  inl,
  inr,
  ℕ,
  List,
  [],
  ◌∷◌,
  Bool,
  cond,
  Option,
  Some,
  None,
  map,
  refl,
  sym,
  ◌∙◌,
  ap,
  subst,
}
use Rattle.std.specs.Prelude.{option_map, T}
use Rattle.std.specs.Map.{keys_of}
use Rattle.std.specs.List.{AllByRecursion}
use Rattle.std.specs.List.Sorted.{IsStrictlySortedBy}
use Rattle.std.specs.FinMap.Entries.{is_sorted, below_all}
use Rattle.std.specs.FinMap as finmap
use Rattle.std.specs.FinMap.{
  get-from_entries,
  get-from_sorted,
  entries-from_sorted,
  same_map,
  nat_cmp-IsAntisymmetric,
  slice_cmp-IsAntisymmetric,
}
use Rattle.std.specs.declared.cmp.Ordering.TheVariants.{Less}
use Rattle.std.specs.Ordering.{is_lt, nat_cmp}
use Rattle.std.specs.Cmp.Lexicographic.{slice_cmp, nat_list_cmp_total}
use Rattle.clog_disk.specs.Stored.{Stored}
use Rattle.clog_disk.specs.InMemory.{files_of, state_of, with_file}
use Rattle.clog_disk.specs.InMemoryLaws.{get-files_of}
use Rattle.clog_disk.proofs.Named.{
  same_name,
  other_name,
  same_or_other,
  put_here,
  put_there,
  same_files,
}
use Rattle.clog_base.proofs.Orderings.{both_hold}

abbrev Entries : Type 0
Entries = List (List ℕ × Stored)

pub with_here : (state : List ℕ → Option Stored) (name : List ℕ) (file : Option Stored)
    → with_file state name file name ≡ file
with_here state name file = ap (λ (b : Bool). cond b file (state name)) (same_name name)

pub with_there : (state : List ℕ → Option Stored) (name : List ℕ) (file : Option Stored)
    (other : List ℕ) → other ≢ name → with_file state name file other ≡ state other
with_there state name file other apart =
    ap (λ (b : Bool). cond b file (state other)) (other_name name other (λ same. apart (sym same)))

-- what is put where it stood changes nothing
pub with_same : (state : List ℕ → Option Stored) (name : List ℕ) (file : Option Stored)
    → file ≡ state name → with_file state name file ≡ state
with_same state name file stood = λ i other. point other i
  where
    point : (other : List ℕ) → with_file state name file other ≡ state other
    point other = elim (same_or_other other name) [
      | inl same ↦ ap (with_file state name file) same ∙ with_here state name file ∙ stood
          ∙ sym (ap state same)
      | inr apart ↦ with_there state name file other apart
    ]

-- the last of two changes of one name counts
pub with_twice : (state : List ℕ → Option Stored) (name : List ℕ) (first next : Option Stored)
    → with_file (with_file state name first) name next ≡ with_file state name next
with_twice state name first next = λ i other. point other i
  where
    point : (other : List ℕ)
        → with_file (with_file state name first) name next other ≡ with_file state name next other
    point other = elim (same_or_other other name) [
      | inl same ↦ ap (with_file (with_file state name first) name next) same
          ∙ with_here (with_file state name first) name next
          ∙ sym (ap (with_file state name next) same ∙ with_here state name next)
      | inr apart ↦ with_there (with_file state name first) name next other apart
          ∙ with_there state name first other apart
          ∙ sym (with_there state name next other apart)
    ]

-- one file more, as it is read
pub now_holds : (es fs : Entries) (name : List ℕ) (file : Stored)
    → state_of fs ≡ with_file (state_of es) name (Some file)
    → files_of fs ≡ finmap.insert (files_of es) name file.bytes
now_holds es fs name file put = same_files _ _ (λ other.
    get-files_of fs other
    ∙ ap (λ (state : List ℕ → Option Stored). bytes_in (state other)) put
    ∙ point other)
  where
    bytes_in : Option Stored → Option (List ℕ)
    bytes_in o = option_map (λ (f : Stored). f.bytes) o

    point : (other : List ℕ) → bytes_in (with_file (state_of es) name (Some file) other)
        ≡ finmap.get (finmap.insert (files_of es) name file.bytes) other
    point other = elim (same_or_other other name) [
      | inl same ↦ ap (λ (n : List ℕ). bytes_in (with_file (state_of es) name (Some file) n)) same
          ∙ ap bytes_in (with_here (state_of es) name (Some file))
          ∙ sym (put_here (files_of es) name file.bytes)
          ∙ ap (finmap.get (finmap.insert (files_of es) name file.bytes)) (sym same)
      | inr apart ↦ ap bytes_in (with_there (state_of es) name (Some file) other apart)
          ∙ sym (get-files_of es other)
          ∙ sym (put_there (files_of es) name file.bytes other apart)
    ]

pub stands : (es : Entries) (name : List ℕ) (file : Stored) → Some file ≡ state_of es name
    → finmap.get (files_of es) name ≡ Some file.bytes
stands es name file stood =
    get-files_of es name ∙ ap (option_map (λ (f : Stored). f.bytes)) (sym stood)

pub absent : (es : Entries) (name : List ℕ) → state_of es name ≡ None
    → finmap.get (files_of es) name ≡ None
absent es name none = get-files_of es name ∙ ap (option_map (λ (f : Stored). f.bytes)) none

below_rest : (name : List ℕ) (es : Entries)
    → AllByRecursion (λ other. slice_cmp nat_cmp name other ≡ Less) (keys_of es)
    → T (below_all (slice_cmp nat_cmp) name (map (λ (e : List ℕ × Stored). (e.0, e.1.bytes)) es))
below_rest name [] below = tt
below_rest name (e ∷ es) below =
    both_hold (is_lt (slice_cmp nat_cmp name e.0)) _ (
    subst (λ r. T (is_lt r)) (sym below.0) tt
    ) (below_rest name es below.1)

rises : (es : Entries) → IsStrictlySortedBy (slice_cmp nat_cmp) (keys_of es)
    → T (is_sorted (slice_cmp nat_cmp) (map (λ (e : List ℕ × Stored). (e.0, e.1.bytes)) es))
unfolding IsStrictlySortedBy
rises [] sorted = tt
rises (e ∷ es) sorted = both_hold _ _ (below_rest e.0 es sorted.0) (rises es sorted.1)

keys_are : (es : Entries)
    → map (λ (e : List ℕ × List ℕ). e.0) (map (λ (e : List ℕ × Stored). (e.0, e.1.bytes)) es)
    ≡ keys_of es
keys_are [] = refl
keys_are (e ∷ es) = ap (λ (l : List (List ℕ)). e.0 ∷ l) (keys_are es)

pub keys-files_of : (es : Entries) → IsStrictlySortedBy (slice_cmp nat_cmp) (keys_of es)
    → keys_of es ≡ finmap.keys (files_of es)
keys-files_of es sorted =
    let xs : List (List ℕ × List ℕ) = map (λ (e : List ℕ × Stored). (e.0, e.1.bytes)) es in
    let same : finmap.from_entries {R = slice_cmp nat_cmp} xs
    ≡ finmap.from_sorted {R = slice_cmp nat_cmp} xs =
    same_map nat_list_cmp_total (slice_cmp-IsAntisymmetric nat_cmp-IsAntisymmetric) _ _ (λ name.
    get-from_entries nat_list_cmp_total xs name
    ∙ sym (get-from_sorted (slice_cmp nat_cmp) xs name (rises es sorted))) in
    sym (
    ap finmap.keys same
    ∙ ap (map (λ (e : List ℕ × List ℕ). e.0)) (
    entries-from_sorted (slice_cmp nat_cmp) xs (rises es sorted)
    )
    ∙ keys_are es
    )
