-- What a call leaves to be read, and what a crash may then leave.
use Rattle.std.proofs.Common.{
  ◌≡◌,
  ◌⊎◌,
  inl,
  inr,
  ⊎_elim,
  ℕ,
  zero,
  suc,
  ◌≤◌,
  List,
  [],
  ◌∷◌,
  ◌++◌,
  length,
  take,
  true,
  false,
  Option,
  Some,
  None,
  refl,
  sym,
  ◌∙◌,
  ap,
  subst,
  arith,
  length-append,
}
use Rattle.std.proofs.lemmas.Bool.{false≢true}
use Rattle.std.proofs.lemmas.List.{take_all, take_at}
use Rattle.std.specs.Prelude.{option_map, unwrap_or, is_some, IsSome}
use Rattle.std.specs.FinMap as finmap
use Rattle.clog_disk.specs.Files.{bytes_at}
use Rattle.clog_disk.specs.Images.{LastsAll, LastsAs, Within, Tears, Torn}
use Rattle.clog_disk.specs.Stored.{Stored, may_leave, grown_at, settled}
use Rattle.clog_disk.specs.InMemory.{AllSettled, files_of, state_of, with_file}
use Rattle.clog_disk.specs.InMemoryLaws.{get-files_of}
use Rattle.clog_disk.proofs.Named.{same_or_other, same_files}
use Rattle.clog_disk.proofs.States.{with_here, with_there, now_holds, absent}

abbrev Entries : Type 0
Entries = List (List ℕ × Stored)

abbrev bytes_in : Option Stored → Option (List ℕ)
bytes_in file = option_map (λ (f : Stored). f.bytes) file

take_commute : (k m : ℕ) (l : List ℕ) → take k (take m l) ≡ take m (take k l)
take_commute zero zero l = refl
take_commute zero (suc m) [] = refl
take_commute zero (suc m) (x ∷ l) = refl
take_commute (suc k) zero [] = refl
take_commute (suc k) zero (x ∷ l) = refl
take_commute (suc k) (suc m) [] = refl
take_commute (suc k) (suc m) (x ∷ l) = ap (λ (r : List ℕ). x ∷ r) (take_commute k m l)

short_take : (m : ℕ) (l : List ℕ) → length (take m l) ≤ m
short_take zero l = omega arith
short_take (suc m) [] = omega arith
short_take (suc m) (x ∷ l) = omega (arith, short_take m l)

-- bytes were put behind the end of a file, which was made where it was absent
module _ (es fs : Entries) (name more : List ℕ)
    (put : state_of fs ≡ with_file (state_of es) name (Some (grown_at (state_of es name) more)))
  where
    torn_of : (was : Option Stored) (left : Option (List ℕ)) → was ≡ state_of es name
        → may_leave (Some (grown_at was more)) left
        → may_leave was left ⊎ ((bytes : List ℕ) × (left ≡ Some bytes)
        × Torn (files_of es) (λ n. may_leave (state_of es n)) name (length more) bytes)
    torn_of None None stood m = inl refl
    torn_of None (Some b) stood m =
        let none : finmap.get (files_of es) name ≡ None = absent es name (sym stood) in
        let empty : length (bytes_at (files_of es) name) ≡ 0 =
        ap (λ (o : Option (List ℕ)). length (unwrap_or o [])) none in
        inr (b, refl, record { size = omega (arith, m.1, empty); front = inr none })
    torn_of (Some f) None stood m = inl m
    torn_of (Some f) (Some b) stood m =
        let held : bytes_at (files_of es) name ≡ f.bytes =
        ap (λ (o : Option (List ℕ)). unwrap_or o []) (
        get-files_of es name ∙ ap bytes_in (sym stood)
        ) in
        let n = length f.bytes in
        let kept : take f.synced (take n b) ≡ take f.synced f.bytes =
        take_commute f.synced n b ∙ ap (take n) m.0 ∙ take_commute n f.synced (f.bytes ++ more)
        ∙ ap (take f.synced) (take_at f.bytes more n refl) in
        let was : may_leave (Some f) (Some (take n b)) = (kept, short_take n b) in
        let front : may_leave (state_of es name) (
        Some (take (length (bytes_at (files_of es) name)) b)
        ) = subst (λ (o : Option Stored).
        may_leave o (Some (take (length (bytes_at (files_of es) name)) b))
        ) stood (
        subst (λ (l : List ℕ). may_leave (Some f) (Some (take (length l) b))) (sym held) was
        ) in
        inr (
          b,
          refl,
          record {
            size = omega (arith, m.1, length-append f.bytes more, ap length held);
            front = inl front;
          },
        )

    pub tears : Tears (Some (files_of es)) (λ n. may_leave (state_of es n)) (
        λ n. may_leave (state_of fs n)
        ) name (length more)
    tears other left now = elim (same_or_other other name) [
      | inl same ↦
          let file = Some (grown_at (state_of es name) more) in
          let stood : state_of fs other ≡ file =
          ap (λ (st : List ℕ → Option Stored). st other) put
          ∙ ap (with_file (state_of es) name file) same
          ∙ with_here (state_of es) name file in
          let here = subst (λ (o : Option Stored). may_leave o left) stood now in
          ⊎_elim (λ old.
          inl (subst (λ (n : List ℕ). may_leave (state_of es n) left) (sym same) old)
          ) (λ torn. inr (same, torn)) (torn_of (state_of es name) left refl here)
      | inr apart ↦
          let stood : state_of fs other ≡ state_of es other =
          ap (λ (st : List ℕ → Option Stored). st other) put
          ∙ with_there (state_of es) name (Some (grown_at (state_of es name) more)) other apart in
          inl (subst (λ (o : Option Stored). may_leave o left) stood now)
    ]

    pub appended : files_of fs
        ≡ finmap.insert (files_of es) name (bytes_at (files_of es) name ++ more)
    appended =
        now_holds es fs name (grown_at (state_of es name) more) put
        ∙ ap (finmap.insert (files_of es) name) (all_bytes (state_of es name) refl)
      where
        all_bytes : (was : Option Stored) → was ≡ state_of es name
            → (grown_at was more).bytes ≡ bytes_at (files_of es) name ++ more
        all_bytes None stood =
            sym (
            ap (λ (o : Option (List ℕ)). unwrap_or o [] ++ more) (
            get-files_of es name ∙ ap bytes_in (sym stood)
            )
            )
        all_bytes (Some f) stood =
            sym (
            ap (λ (o : Option (List ℕ)). unwrap_or o [] ++ more) (
            get-files_of es name ∙ ap bytes_in (sym stood)
            )
            )

settled_reads : (file : Option Stored) → bytes_in (option_map settled file) ≡ bytes_in file
settled_reads None = refl
settled_reads (Some f) = refl

-- a file that lasts leaves what is read
pub settled_leaves : (file : Option Stored) (left : Option (List ℕ))
    → may_leave (option_map settled file) left → left ≡ bytes_in file
settled_leaves None left m = m
settled_leaves (Some f) None m = absurd (false≢true (sym m))
settled_leaves (Some f) (Some b) m =
    let n = length f.bytes in
    ap (λ (l : List ℕ). Some l) (
    sym (take_all n b m.1) ∙ m.0 ∙ take_all n f.bytes (omega arith)
    )

as_read : (file : Option Stored) → may_leave file (bytes_in file)
as_read None = refl
as_read (Some f) = (refl, omega arith)

-- a file was made to last
module _ (es fs : Entries) (name : List ℕ)
    (put : state_of fs ≡ with_file (state_of es) name (option_map settled (state_of es name)))
  where
    stands_here : (other : List ℕ) → other ≡ name
        → state_of fs other ≡ option_map settled (state_of es other)
    stands_here other same =
        ap (λ (st : List ℕ → Option Stored). st other) put
        ∙ ap (with_file (state_of es) name (option_map settled (state_of es name))) same
        ∙ with_here (state_of es) name (option_map settled (state_of es name))
        ∙ ap (λ (n : List ℕ). option_map settled (state_of es n)) (sym same)

    stands_there : (other : List ℕ) → (other ≡ name → ⊥) → state_of fs other ≡ state_of es other
    stands_there other apart =
        ap (λ (st : List ℕ → Option Stored). st other) put
        ∙ with_there (state_of es) name (option_map settled (state_of es name)) other apart

    pub same_read : files_of fs ≡ files_of es
    same_read = same_files _ _ (λ other.
        get-files_of fs other ∙ point other ∙ sym (get-files_of es other))
      where
        point : (other : List ℕ) → bytes_in (state_of fs other) ≡ bytes_in (state_of es other)
        point other = elim (same_or_other other name) [
          | inl same ↦ ap bytes_in (stands_here other same) ∙ settled_reads (state_of es other)
          | inr apart ↦ ap bytes_in (stands_there other apart)
        ]

    pub lasts : LastsAs (λ n. may_leave (state_of fs n)) name (finmap.get (files_of es) name)
    lasts left now =
        settled_leaves (state_of es name) left (
        subst (λ (o : Option Stored). may_leave o left) (stands_here name refl) now
        )
        ∙ sym (get-files_of es name)

    pub within_old : Within (λ n. may_leave (state_of es n)) (λ n. may_leave (state_of fs n))
    within_old other left now = elim (same_or_other other name) [
      | inl same ↦
          let is = settled_leaves (state_of es other) left (
          subst (λ (o : Option Stored). may_leave o left) (stands_here other same) now
          ) in
          subst (may_leave (state_of es other)) (sym is) (as_read (state_of es other))
      | inr apart ↦ subst (λ (o : Option Stored). may_leave o left) (stands_there other apart) now
    ]

-- all files were made to last
module _ (es fs : Entries) (all : AllSettled (state_of es) (state_of fs)) where
  leaves_read : (name : List ℕ) (left : Option (List ℕ)) → may_leave (state_of fs name) left
      → left ≡ bytes_in (state_of es name)
  leaves_read name left now =
      settled_leaves (state_of es name) left (
      subst (λ (o : Option Stored). may_leave o left) (all name) now
      )

  pub all_read : files_of fs ≡ files_of es
  all_read = same_files _ _ (λ name.
      get-files_of fs name ∙ ap bytes_in (all name) ∙ settled_reads (state_of es name)
      ∙ sym (get-files_of es name))

  pub all_last : LastsAll (files_of es) (λ n. may_leave (state_of fs n))
  all_last name left now = leaves_read name left now ∙ sym (get-files_of es name)

  pub all_within : Within (λ n. may_leave (state_of es n)) (λ n. may_leave (state_of fs n))
  all_within name left now =
      subst (may_leave (state_of es name)) (sym (leaves_read name left now)) (
      as_read (state_of es name)
      )

none_there : (file : Option Stored) → is_some file ≡ false → file ≡ None
none_there None e = refl
none_there (Some f) e = absurd (false≢true (sym e))

some_there : (file : Option Stored) → is_some file ≡ true → IsSome (bytes_in file)
some_there None e = absurd (false≢true e)
some_there (Some f) e = refl

pub absent_by : (es : Entries) (name : List ℕ) → is_some (state_of es name) ≡ false
    → finmap.get (files_of es) name ≡ None
absent_by es name e = absent es name (none_there (state_of es name) e)

pub there_by : (es : Entries) (name : List ℕ) → is_some (state_of es name) ≡ true
    → IsSome (finmap.get (files_of es) name)
there_by es name e =
    subst (λ (o : Option (List ℕ)). IsSome o) (sym (get-files_of es name)) (
    some_there (state_of es name) e
    )

pub there : (es : Entries) (name : List ℕ) (file : Stored) → Some file ≡ state_of es name
    → IsSome (finmap.get (files_of es) name)
there es name file stood = there_by es name (ap is_some (sym stood))
