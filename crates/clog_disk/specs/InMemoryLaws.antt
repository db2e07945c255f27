-- The laws of a disk in memory.
use Rattle.std.specs.Prelude.{
  ◌≡◌,
  ◌↔◌,
  ℕ,
  ◌≤◌,
  List,
  [],
  ◌∷◌,
  length,
  drop,
  map,
  Option,
  Some,
  None,
  option_map,
  unwrap_or,
  Bool,
  true,
  false,
  cond,
}
use Rattle.std.proofs.Common.{refl, sym, ◌∙◌, ap, subst, arith}
use Rattle.std.specs.FinMap as finmap
use Rattle.std.specs.Ordering.{nat_cmp, is_eq}
use Rattle.std.specs.Cmp.Lexicographic.{slice_cmp, nat_list_cmp_total}
use Rattle.clog_disk.specs.declared.stored.Undo.{Undo}
use Rattle.clog_disk.specs.Files.{Files, bytes_at}
use Rattle.clog_disk.specs.Images.{LastsAll}
use Rattle.clog_disk.specs.Stored.{Stored, may_leave}
use Rattle.clog_disk.specs.InMemory.{
  files_of,
  state_of,
  back,
  LastsWhole,
  LastedAt,
  Since,
  reading_at,
}

pub none_left : {A : Type 0} (xs : List A) → drop (length xs) xs ≡ []
none_left [] = refl
none_left (x ∷ xs) = none_left xs

pub counts_this_moment : (state : List ℕ → Option Stored) (undos : List Undo) (t : ℕ)
    (image : Files) → t ≤ length undos
    → ((name : List ℕ) → may_leave (state name) (finmap.get image name)) → Since state undos t image
counts_this_moment state undos t image le left = (
  length undos,
  le,
  omega arith,
  λ name. subst (λ (us : List Undo). may_leave (back us state name) (finmap.get image name)) (
      sym (none_left undos)
      ) (left name),
)

pub only_this_moment : (state : List ℕ → Option Stored) (undos : List Undo) (image : Files)
    → Since state undos (length undos) image → (name : List ℕ)
    → may_leave (state name) (finmap.get image name)
only_this_moment state undos image since name =
    let last : since.0 ≡ length undos = omega (arith, since.1, since.2) in
    subst (λ (us : List Undo). may_leave (back us state name) (finmap.get image name)) (
    ap (λ (k : ℕ). drop k undos) last ∙ none_left undos
    ) (since.3 name)

mapped_cond : (b : Bool) (x : Stored) (y : Option Stored)
    → option_map (λ (f : Stored). f.bytes) (cond b (Some x) y)
    ≡ cond b (Some x.bytes) (option_map (λ (f : Stored). f.bytes) y)
mapped_cond true x y = refl
mapped_cond false x y = refl

find_file : (es : List (List ℕ × Stored)) (name : List ℕ)
    → finmap.find (slice_cmp nat_cmp) name (map (λ (e : List ℕ × Stored). (e.0, e.1.bytes)) es)
    ≡ option_map (λ (f : Stored). f.bytes) (state_of es name)
find_file [] name = refl
find_file (e ∷ es) name =
    ap (cond (is_eq (slice_cmp nat_cmp name e.0)) (Some e.1.bytes)) (find_file es name)
    ∙ sym (mapped_cond (is_eq (slice_cmp nat_cmp name e.0)) e.1 (state_of es name))

-- what is read at a name
pub get-files_of : (es : List (List ℕ × Stored)) (name : List ℕ)
    → finmap.get (files_of es) name ≡ option_map (λ (f : Stored). f.bytes) (state_of es name)
get-files_of es name =
    finmap.get-from_entries nat_list_cmp_total (
    map (λ (e : List ℕ × Stored). (e.0, e.1.bytes)) es
    ) name
    ∙ find_file es name

as_read : (file : Option Stored) → may_leave file (option_map (λ (f : Stored). f.bytes) file)
as_read None = refl
as_read (Some file) = (refl, omega arith)

pub reads_now_an_image : (es : List (List ℕ × Stored)) (name : List ℕ)
    → may_leave (state_of es name) (finmap.get (files_of es) name)
reads_now_an_image es name =
    subst (may_leave (state_of es name)) (sym (get-files_of es name)) (as_read (state_of es name))

pub lasting_now : (es : List (List ℕ × Stored)) (undos : List Undo)
    → LastedAt (state_of es) undos (length undos)
    ↔ LastsAll (files_of es) (λ name left. may_leave (state_of es name) left)
lasting_now es undos = (
  λ lasted name left leaves.
      subst (λ (us : List Undo). LastsWhole (back us (state_of es) name)) (none_left undos) (
      lasted name
      ) left leaves
      ∙ sym (get-files_of es name),
  λ lasts name.
      subst (λ (us : List Undo). LastsWhole (back us (state_of es) name)) (
      sym (none_left undos)
      ) (λ left leaves. lasts name left leaves ∙ get-files_of es name),
)

pub reading_now : (es : List (List ℕ × Stored)) (undos : List Undo)
    → Some (reading_at (state_of es) undos (length undos)) ≡ Some (bytes_at (files_of es))
reading_now es undos = λ i. Some (λ name. point name i)
  where
    point : (name : List ℕ)
        → reading_at (state_of es) undos (length undos) name ≡ bytes_at (files_of es) name
    point name =
        ap (λ (us : List Undo).
        unwrap_or (option_map (λ (f : Stored). f.bytes) (back us (state_of es) name)) []
        ) (none_left undos)
        ∙ sym (ap (λ (left : Option (List ℕ)). unwrap_or left []) (get-files_of es name))
