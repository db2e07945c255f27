-- A name that is listed is there, and one that is not listed is not; why a segment's file is not
-- read.
use Rattle.std.proofs.Common.{
  ◌≡◌,
  List,
  ℕ,
  ◌≤◌,
  [],
  ◌∷◌,
  Option,
  Some,
  None,
  Bool,
  true,
  false,
  ◌||◌,
  ap₂,
  sym,
  ap,
  ◌∙◌,
  refl,
  subst,
  arith,
}
use Rattle.std.specs.Prelude.{IfSome, is_some}
use Rattle.std.specs.List.{list_any}
use Rattle.std.specs.FinMap as finmap
use Rattle.std.specs.FinMap.{contains_key-keys}
use Rattle.std.specs.Ordering.{nat_cmp, eq_by_cmp}
use Rattle.std.specs.Str.{bytes_eq}
use Rattle.std.specs.Cmp.Lexicographic.{slice_cmp, nat_list_eq_equiv}
use Rattle.std.proofs.lemmas.Map.Text.{is_eq-slice_cmp}
use Rattle.clog_base.specs.declared.fault.Quantity.TheVariants.{SegmentBytes}
use Rattle.clog_disk.specs.Files.{Files, Lists, IsThere}
use Rattle.clog_folder.specs.declared.fault.OpenFault.{OpenFault}
use Rattle.clog_folder.specs.declared.fault.OpenFault.TheVariants.{Disk, Limit, OutOfMemory}
use Rattle.clog_folder.specs.Segments.{BytesRefused, IsTooLong}
use Rattle.clog_engine.specs.declared.status.Status.{Status}
use Rattle.clog_engine.specs.Refusal.{folder_status}
use Rattle.clog_engine.specs.Scanning.{ReadRefused}

same_test : (name : List ℕ) (names : List (List ℕ))
    → list_any (eq_by_cmp (slice_cmp nat_cmp) name) names
    ≡ list_any (λ y. bytes_eq y name) names
same_test name [] = refl
same_test name (other ∷ names) =
    ap₂ (λ (a b : Bool). a || b)
    (is_eq-slice_cmp name other ∙ nat_list_eq_equiv.symm name other) (same_test name names)

key_test : (files : Files) (name : List ℕ)
    → is_some (finmap.get files name) ≡ list_any (λ y. bytes_eq y name) (finmap.keys files)
key_test files name = contains_key-keys files name ∙ same_test name (finmap.keys files)

none_is : {A : Type 0} (o : Option A) → is_some o ≡ false → o ≡ None
none_is None is = refl
none_is (Some x) is = cc

-- a name that is listed is there
pub listed : (files : Option Files) (names : List (List ℕ)) (name : List ℕ) → Lists files names
    → list_any (λ y. bytes_eq y name) names ≡ true → IsThere files name
listed None names name lists found = tt
listed (Some files) names name lists found =
    key_test files name ∙ ap (list_any (λ y. bytes_eq y name)) (sym lists) ∙ found

-- a name that is not listed is not there
pub unlisted : (files : Option Files) (names : List (List ℕ)) (name : List ℕ) → Lists files names
    → list_any (λ y. bytes_eq y name) names ≡ false
    → IfSome files (λ held. finmap.get held name ≡ None)
unlisted None names name lists found = tt
unlisted (Some files) names name lists found =
    none_is (finmap.get files name)
    (key_test files name ∙ ap (list_any (λ y. bytes_eq y name)) (sym lists) ∙ found)

-- the same refusal, by the disk as it was
refused_before : (files now : Option Files) (f g k : ℕ) (name : List ℕ) (refusal : OpenFault)
    → now ≡ files → f ≤ g → BytesRefused now g k name refusal
    → ReadRefused files f k name (folder_status refusal)
refused_before files now f g k name Disk same later refused = omega (arith, later, refused)
refused_before files now f g k name OutOfMemory same later refused = tt
refused_before files now f g k name (Limit SegmentBytes most) same later refused = (
  refused.0,
  subst (λ (o : Option Files). IfSome o (λ held. IsTooLong held name)) same refused.1,
)
refused_before files now f g k name other same later refused = absurd refused

pub segment_refused : (files now : Option Files) (f g k : ℕ) (name : List ℕ) (refusal : OpenFault)
    (status : Status) → status ≡ folder_status refusal → now ≡ files → f ≤ g
    → BytesRefused now g k name refusal → ReadRefused files f k name status
segment_refused files now f g k name refusal status is same later refused =
    subst (ReadRefused files f k name) (sym is)
    (refused_before files now f g k name refusal same later refused)
