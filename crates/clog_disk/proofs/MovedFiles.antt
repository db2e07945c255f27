-- What stands at a name is replaced whole, or goes.
use Rattle.std.proofs.Common.{
  ◌≡◌,
  inl,
  inr,
  ℕ,
  List,
  [],
  ◌∷◌,
  ◌++◌,
  Option,
  Some,
  None,
  Result,
  Ok,
  Err,
  refl,
  sym,
  ◌∙◌,
  ap,
  subst,
}
use Rattle.std.specs.Prelude.{option_map, OnOk, OnErr}
use Rattle.std.specs.FinMap as finmap
use Rattle.clog_disk.specs.declared.stored.Undo.{Undo}
use Rattle.clog_disk.specs.Files.{with_at}
use Rattle.clog_disk.specs.Images.{LastsAs, TurnsTo}
use Rattle.clog_disk.specs.Stored.{Stored, may_leave, made_of, lasting_of}
use Rattle.clog_disk.specs.InMemory.{
  files_of,
  state_of,
  with_file,
  undo_at,
  moved_at,
  undone,
  Steps,
}
use Rattle.clog_disk.specs.InMemoryLaws.{get-files_of}
use Rattle.clog_disk.proofs.Calls.{settled_leaves}
use Rattle.clog_disk.proofs.Named.{same_or_other, gone_here, gone_there, same_files}
use Rattle.clog_disk.proofs.States.{
  with_here,
  with_there,
  with_same,
  with_twice,
  now_holds,
}
use Rattle.clog_disk.proofs.Undoing.{undone_at_once}

abbrev Entries : Type 0
Entries = List (List ℕ × Stored)

-- ---- what a crash leaves

-- where a file stands of which a crash leaves just this
module _ (es fs : Entries) (name : List ℕ) (file : Option Stored) (what : Option (List ℕ))
    (put : state_of fs ≡ with_file (state_of es) name file)
    (only : (left : Option (List ℕ)) → may_leave file left → left ≡ what) where
  pub lasts_as : LastsAs (λ n. may_leave (state_of fs n)) name what
  lasts_as left now =
      let stood : state_of fs name ≡ file =
      ap (λ (st : List ℕ → Option Stored). st name) put ∙ with_here (state_of es) name file in
      only left (subst (λ (o : Option Stored). may_leave o left) stood now)

  pub turns_to : TurnsTo (λ n. may_leave (state_of es n)) (λ n. may_leave (state_of fs n)) name what
  turns_to other left now = elim (same_or_other other name) [
    | inl same ↦ inr (
      same,
      lasts_as left
          (subst (λ (n : List ℕ). may_leave (state_of fs n) left) same now),
    )
    | inr apart ↦
        let stood : state_of fs other ≡ state_of es other =
        ap (λ (st : List ℕ → Option Stored). st other) put
        ∙ with_there (state_of es) name file other apart in
        inl (subst (λ (o : Option Stored). may_leave o left) stood now)
  ]

pub lasting_leaves : (bytes : List ℕ) (left : Option (List ℕ))
    → may_leave (Some (lasting_of bytes)) left → left ≡ Some bytes
lasting_leaves bytes left m = settled_leaves (Some (made_of bytes)) left m

pub none_leaves : (left : Option (List ℕ)) → may_leave None left → left ≡ None
none_leaves left m = m

-- ---- what is read

pub put_reads : (es fs : Entries) (name bytes : List ℕ)
    → state_of fs ≡ with_file (state_of es) name (Some (lasting_of bytes))
    → files_of fs ≡ finmap.insert (files_of es) name bytes
put_reads es fs name bytes put = now_holds es fs name (lasting_of bytes) put

pub gone_reads : (es fs : Entries) (name : List ℕ)
    → state_of fs ≡ with_file (state_of es) name None
    → files_of fs ≡ finmap.remove (files_of es) name
gone_reads es fs name put = same_files _ _ (λ other.
    get-files_of fs other
    ∙ ap (λ (state : List ℕ → Option Stored). bytes_in (state other)) put
    ∙ point other)
  where
    bytes_in : Option Stored → Option (List ℕ)
    bytes_in o = option_map (λ (f : Stored). f.bytes) o

    point : (other : List ℕ) → bytes_in (with_file (state_of es) name None other)
        ≡ finmap.get (finmap.remove (files_of es) name) other
    point other = elim (same_or_other other name) [
      | inl same ↦ ap (λ (n : List ℕ). bytes_in (with_file (state_of es) name None n)) same
          ∙ ap bytes_in (with_here (state_of es) name None)
          ∙ sym (gone_here (files_of es) name)
          ∙ ap (finmap.get (finmap.remove (files_of es) name)) (sym same)
      | inr apart ↦ ap bytes_in (with_there (state_of es) name None other apart)
          ∙ sym (get-files_of es other)
          ∙ sym (gone_there (files_of es) name other apart)
    ]

-- where what is put at a name stands at another too
module _ (es fs : Entries) (name second bytes : List ℕ)
    (put : state_of fs ≡ with_file (state_of es) second (Some (lasting_of bytes)))
    (holds : Some bytes ≡ finmap.get (files_of es) name) where
  pub linked_reads : files_of fs ≡ with_at (files_of es) second (finmap.get (files_of es) name)
  linked_reads =
      put_reads es fs second bytes put ∙ ap (with_at (files_of es) second) holds

  pub linked_lasts : LastsAs (λ n. may_leave (state_of fs n)) second
      (finmap.get (files_of es) name)
  linked_lasts =
      subst (LastsAs (λ n. may_leave (state_of fs n)) second) holds
      (lasts_as es fs second (Some (lasting_of bytes)) (Some bytes) put (lasting_leaves bytes))

  pub linked_turns : TurnsTo (λ n. may_leave (state_of es n)) (λ n. may_leave (state_of fs n))
      second (finmap.get (files_of es) name)
  linked_turns =
      subst (TurnsTo (λ n. may_leave (state_of es n)) (λ n. may_leave (state_of fs n)) second) holds
      (turns_to es fs second (Some (lasting_of bytes)) (Some bytes) put (lasting_leaves bytes))

-- ---- how it is undone

pub undone_moved : (state : List ℕ → Option Stored) (name : List ℕ) (was now : Option Stored)
    → was ≡ state name → undone (moved_at name was) (with_file state name now) ≡ state
undone_moved state name None now stood =
    with_twice state name now None ∙ with_same state name None stood
undone_moved state name (Some file) now stood =
    with_twice state name now (Some file) ∙ with_same state name (Some file) stood

pub steps_moved : {E : Type 0} (old new : List ℕ → Option Stored) (undos mid now : List Undo)
    (name : List ℕ) (file : Option Stored) (u : Undo) (result : Result Unit E)
    → u ≡ undo_at name (old name) → mid ≡ undos ++ u ∷ []
    → OnOk result (new ≡ with_file old name file) → OnErr result (new ≡ old)
    → OnOk result (now ≡ undos ++ moved_at name (old name) ∷ []) → OnErr result (now ≡ mid)
    → Steps old new undos now
steps_moved old new undos mid now name file u (Ok x) is pushed ok err noted kept = inr (
  moved_at name (old name),
  noted,
  ap (undone (moved_at name (old name))) ok ∙ undone_moved old name (old name) file refl,
)
steps_moved old new undos mid now name file u (Err e) is pushed ok err noted kept = inr (
  u,
  kept ∙ pushed,
  ap (λ (v : Undo). undone v new) is ∙ ap (undone (undo_at name (old name))) err
      ∙ undone_at_once old name (old name) refl,
)

pub on_err_map : {T E A B : Type 0} (f : A → B) (x y : A) (result : Result T E)
    → OnErr result (x ≡ y) → OnErr result (f x ≡ f y)
on_err_map f x y (Ok v) e = tt
on_err_map f x y (Err v) e = ap f e
