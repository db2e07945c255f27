-- The images of a sample: they are made file by file, and are what a crash may leave.
use Rattle.std.proofs.Common.{
  ◌≡◌,
  ◌≢◌,
  inl,
  inr,
  ℕ,
  zero,
  suc,
  ◌-◌,
  ◌≤◌,
  List,
  [],
  ◌∷◌,
  ◌++◌,
  length,
  take,
  drop,
  replicate,
  Bool,
  true,
  false,
  cond,
  Option,
  Some,
  None,
  refl,
  sym,
  ◌∙◌,
  ap,
  subst,
  arith,
  length-append,
}
use Rattle.std.proofs.lemmas.Bool.{false≢true}
use Rattle.std.proofs.lemmas.List.{length-replicate, length-take, take-take}
use Rattle.std.proofs.lemmas.List.Elements.{All-cons}
use Rattle.std.specs.Prelude.{option_map, IsSome, is_some}
use Rattle.std.specs.FinMap as finmap
use Rattle.std.specs.Map.{keys_of}
use Rattle.std.specs.List.{All, AllByRecursion, AllZip}
use Rattle.std.specs.List.Sorted.{IsStrictlySortedBy}
use Rattle.std.specs.Str.{bytes_eq}
use Rattle.std.specs.declared.cmp.Ordering.TheVariants.{Less}
use Rattle.std.specs.Ordering.{nat_cmp, is_eq}
use Rattle.std.specs.Cmp.Lexicographic.{slice_cmp}
use Rattle.clog_disk.specs.declared.memory.MemDisk.{MemDisk}
use Rattle.clog_disk.specs.declared.stored.Undo.{Undo}
use Rattle.clog_disk.specs.declared.stored.sample.Left.{Left}
use Rattle.clog_disk.specs.declared.stored.sample.Left.TheVariants.{Written, Lasting, Cut, Zeroed}
use Rattle.clog_disk.specs.Images.{LastsAs, IsRestarted}
use Rattle.clog_disk.specs.InMemory.{files_of, state_of, with_file, back, Since}
use Rattle.clog_disk.specs.InMemoryLaws.{get-files_of}
use Rattle.clog_disk.specs.Sample.{lasting_part, zeroed, left_of, left_at, IsMadeFrom}
use Rattle.clog_disk.specs.Stored.{Stored, may_leave, lasting_of}
use Rattle.clog_disk.proofs.MovedFiles.{lasting_leaves}
use Rattle.clog_disk.proofs.Named.{same_name, other_name, same_or_other}
use Rattle.clog_disk.proofs.States.{with_here, with_there}

abbrev Entries : Type 0
Entries = List (List ℕ × Stored)

-- what stands at the first name of entries, and at another
first_here : (name : List ℕ) (file : Stored) (rest : Entries)
    → state_of ((name, file) ∷ rest) name ≡ Some file
first_here name file rest = ap (λ b. cond b (Some file) (state_of rest name)) (same_name name)

first_there : (name : List ℕ) (file : Stored) (rest : Entries) (other : List ℕ) → other ≢ name
    → state_of ((name, file) ∷ rest) other ≡ state_of rest other
first_there name file rest other apart =
    ap (λ b. cond b (Some file) (state_of rest other)) (other_name other name apart)

-- a name below those of the rest does not stand there
gone_on : (name : List ℕ) (rest : Entries)
    → AllByRecursion (λ other. slice_cmp nat_cmp name other ≡ Less) (keys_of rest)
    → state_of rest name ≡ None
gone_on name [] below = refl
gone_on name (e ∷ rest) below =
    ap (λ r. cond (is_eq r) (Some e.1) (state_of rest name)) below.0 ∙ gone_on name rest below.1

-- what is made at a name, where the rest still has this there
abbrev pub to_come : Left → (List ℕ → Option Stored) → List ℕ → Option Stored → Option Stored
to_come left image name None = image name
to_come left image name (Some file) = left_at left name (Some file)

-- An image is being made of whole entries: these are still to come, and nothing stands yet at their
-- names.
pub record IsMaking (left : Left) (whole rest : Entries)
    (image : List ℕ → Option Stored) : Type 0 where
  pub sorted : IsStrictlySortedBy (slice_cmp nat_cmp) (keys_of rest)
  pub made : (name : List ℕ)
      → to_come left image name (state_of rest name) ≡ left_at left name (state_of whole name)
  pub apart : (name : List ℕ) → IsSome (state_of rest name) → image name ≡ None

all_to_come : (left : Left) (image : List ℕ → Option Stored) (name : List ℕ)
    (file : Option Stored) → image name ≡ None
    → to_come left image name file ≡ left_at left name file
all_to_come left image name None none = none
all_to_come left image name (Some file) none = refl

pub making_begins : (left : Left) (whole : Entries) (image : List ℕ → Option Stored)
    → IsStrictlySortedBy (slice_cmp nat_cmp) (keys_of whole)
    → ((name : List ℕ) → image name ≡ None) → IsMaking left whole whole image
making_begins left whole image sorted none = record {
  sorted = sorted;
  made = λ name. all_to_come left image name (state_of whole name) (none name);
  apart = λ name some. none name;
}

pub is_free : (left : Left) (whole rest : Entries) (image : List ℕ → Option Stored)
    (name : List ℕ) (file : Stored) → IsMaking left whole ((name, file) ∷ rest) image
    → image name ≡ None
is_free left whole rest image name file making =
    making.apart name (subst (λ o. IsSome o) (sym (first_here name file rest)) refl)

module _ (left : Left) (whole rest : Entries) (image new : List ℕ → Option Stored)
    (name : List ℕ) (file : Stored) (making : IsMaking left whole ((name, file) ∷ rest) image)
    (put : new ≡ with_file image name (left_at left name (Some file))) where
  gone : state_of rest name ≡ None
  unfolding IsStrictlySortedBy
  gone = gone_on name rest making.sorted.0

  new_here : new name ≡ left_at left name (Some file)
  new_here = ap (λ st. st name) put ∙ with_here image name (left_at left name (Some file))

  new_there : (other : List ℕ) → other ≢ name → new other ≡ image other
  new_there other apart =
      ap (λ st. st other) put
      ∙ with_there image name (left_at left name (Some file)) other apart

  same_to_come : (other : List ℕ) (o : Option Stored) → new other ≡ image other
      → to_come left new other o ≡ to_come left image other o
  same_to_come other None same = same
  same_to_come other (Some f) same = refl

  made_at : (other : List ℕ)
      → to_come left new other (state_of rest other) ≡ left_at left other (state_of whole other)
  made_at other = elim (same_or_other other name) [
    | inl same ↦ subst (λ n.
        to_come left new n (state_of rest n) ≡ left_at left n (state_of whole n)
        ) (sym same) (
        ap (to_come left new name) gone
        ∙ new_here
        ∙ sym (ap (to_come left image name) (first_here name file rest))
        ∙ making.made name
        )
    | inr apart ↦ same_to_come other (state_of rest other) (new_there other apart)
        ∙ sym (ap (to_come left image other) (first_there name file rest other apart))
        ∙ making.made other
  ]

  apart_at : (other : List ℕ) → IsSome (state_of rest other) → new other ≡ None
  apart_at other some = elim (same_or_other other name) [
    | inl same ↦ absurd (
        false≢true (
        subst (λ o. is_some o ≡ true) (ap (state_of rest) same ∙ gone) some
        )
        )
    | inr apart ↦ new_there other apart
        ∙ making.apart other
        (subst (λ o. IsSome o) (sym (first_there name file rest other apart)) some)
  ]

  pub making_goes_on : IsMaking left whole rest new
  unfolding IsStrictlySortedBy
  making_goes_on = record {
    sorted = making.sorted.1;
    made = made_at;
    apart = apart_at;
  }

-- ---- what is left may be left

zeros_behind : (n : ℕ) (bytes : List ℕ)
    → take n (take n bytes ++ replicate (length bytes - length (take n bytes)) 0) ≡ take n bytes
zeros_behind zero bytes = refl
zeros_behind (suc n) [] = refl
zeros_behind (suc n) (b ∷ bytes) =
    let less : length (b ∷ bytes) - length (b ∷ take n bytes)
    ≡ length bytes - length (take n bytes) = omega arith in
    ap (λ l. b ∷ l) (
    ap (λ k. take n (take n bytes ++ replicate k 0)) less ∙ zeros_behind n bytes
    )

long_zeroed : (file : Stored) → length (zeroed file) ≤ length file.bytes
long_zeroed file =
    let part = lasting_part file in
    let none : ℕ = 0 in
    omega (
      arith,
      length-take file.synced file.bytes,
      length-append part (replicate (length file.bytes - length part) none),
      length-replicate (length file.bytes - length part) none,
    )

all_left : (file : Stored) → may_leave (Some file) (Some file.bytes)
all_left file = (refl, omega arith)

part_left : (file : Stored) → may_leave (Some file) (Some (lasting_part file))
part_left file = (
  take-take file.synced file.synced file.bytes (omega arith),
  omega (arith, length-take file.synced file.bytes),
)

zeroed_left : (file : Stored) → may_leave (Some file) (Some (zeroed file))
zeroed_left file = (zeros_behind file.synced file.bytes, long_zeroed file)

one_of : (file : Stored) (b : Bool) (x y : List ℕ) → may_leave (Some file) (Some x)
    → may_leave (Some file) (Some y) → may_leave (Some file) (Some (cond b x y))
one_of file true x y p q = p
one_of file false x y p q = q

abbrev pub bytes_in : Option Stored → Option (List ℕ)
bytes_in o = option_map (λ (f : Stored). f.bytes) o

lasting_or_gone : (file : Stored) (b : Bool) → b ≡ file.sure → may_leave (Some file) (
    bytes_in (option_map lasting_of (cond b (Some (lasting_part file)) None))
    )
lasting_or_gone file true is = part_left file
lasting_or_gone file false is = sym is

pub may_be_left : (left : Left) (name : List ℕ) (file : Option Stored)
    → may_leave file (bytes_in (left_at left name file))
may_be_left left name None = refl
may_be_left Written name (Some file) = all_left file
may_be_left Lasting name (Some file) = lasting_or_gone file file.sure refl
may_be_left (Cut at) name (Some file) =
    one_of file (bytes_eq at name) _ _ (part_left file) (all_left file)
may_be_left (Zeroed at) name (Some file) =
    one_of file (bytes_eq at name) _ _ (zeroed_left file) (all_left file)

-- what was left lasts
lasting_lasts : (bytes : Option (List ℕ)) (left : Option (List ℕ))
    → may_leave (option_map lasting_of bytes) left → left ≡ bytes_in (option_map lasting_of bytes)
lasting_lasts None left m = m
lasting_lasts (Some bytes) left m = lasting_leaves bytes left m

pub left_lasts : (how : Left) (name : List ℕ) (file : Option Stored) (left : Option (List ℕ))
    → may_leave (left_at how name file) left → left ≡ bytes_in (left_at how name file)
left_lasts how name None left m = m
left_lasts how name (Some file) left m = lasting_lasts (left_of how name file) left m

-- ---- the disks of a sample

module _ (past : Entries) (left : Left) (image : MemDisk) (made : IsMadeFrom past left image) where
  reads : (name : List ℕ) → finmap.get (files_of image.files.entries) name
      ≡ bytes_in (left_at left name (state_of past name))
  reads name = get-files_of image.files.entries name ∙ ap bytes_in (made.files name)

  pub restarted_lasts : (name : List ℕ)
      → LastsAs (λ n. may_leave (state_of image.files.entries n)) name
      (finmap.get (files_of image.files.entries) name)
  restarted_lasts name other m =
      left_lasts left name (state_of past name) other
      (subst (λ (o : Option Stored). may_leave o other) (made.files name) m)
      ∙ sym (reads name)

  pub is_restarted : (state : List ℕ → Option Stored) (undos : List Undo) (t : ℕ)
      → state_of past ≡ back (drop t undos) state → t ≤ length undos
      → IsRestarted (Since state undos t) (Some (files_of image.files.entries))
      (λ name other. may_leave (state_of image.files.entries name) other)
  is_restarted state undos t then le = record {
    image = (
      t,
      omega arith,
      le,
      λ name. subst (λ (st : List ℕ → Option Stored).
          may_leave (st name) (finmap.get (files_of image.files.entries) name)
          ) then (
          subst (may_leave (state_of past name)) (sym (reads name))
          (may_be_left left name (state_of past name))
          ),
    );
    lasts = restarted_lasts;
  }

-- what is so of each pair is so of all
pub all_zipped : {A B : Type 0} (R : A → B → Type 0) (P : B → Type 0) (xs : List A) (ys : List B)
    → ((x : A) (y : B) → R x y → P y) → AllZip R xs ys → All P ys
all_zipped R P [] [] each zip = λ k d less. absurd (omega (arith, less))
all_zipped R P [] (y ∷ ys) each zip = absurd zip
all_zipped R P (x ∷ xs) [] each zip = absurd zip
all_zipped R P (x ∷ xs) (y ∷ ys) each zip =
    All-cons P y ys (each x y zip.0) (all_zipped R P xs ys each zip.1)

pub zip_push : {A B : Type 0} (R : A → B → Type 0) (xs : List A) (ys : List B) (x : A) (y : B)
    → AllZip R xs ys → R x y → AllZip R (xs ++ x ∷ []) (ys ++ y ∷ [])
zip_push R [] [] x y zip r = (r, tt)
zip_push R [] (z ∷ ys) x y zip r = absurd zip
zip_push R (z ∷ xs) [] x y zip r = absurd zip
zip_push R (z ∷ xs) (w ∷ ys) x y zip r = (zip.0, zip_push R xs ys x y zip.1 r)
