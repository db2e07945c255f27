-- Runs over an empty folder: its opening, and a segment that is all that is appended to.
use Rattle.std.proofs.Common.{
  ◌≡◌,
  ◌<◌,
  ◌^◌,
  ℕ,
  zero,
  suc,
  inl,
  inr,
  List,
  [],
  ◌∷◌,
  length,
  Some,
  sym,
  ◌∙◌,
  subst,
  arith,
}
use Rattle.std.specs.Prelude.{Contains}
use Rattle.std.specs.FinMap as finmap
use Rattle.std.specs.FinMap.{get-empty}
use Rattle.std.specs.Cmp.Lexicographic.{slice_cmp}
use Rattle.std.specs.Ordering.{nat_cmp}
use Rattle.std.specs.List.{AllPairs}
use Rattle.std.specs.List.Sorted.{IsStrictlySortedBy}
use Rattle.std.proofs.lemmas.Option.{none-some}
use Rattle.clog_spec.specs.Names.{segment_name_of, table_name_of}
use Rattle.clog_base.proofs.Members.{first_or_further, here, nothing_there, only_one}
use Rattle.clog_disk.specs.declared.change.Change.{Change}
use Rattle.clog_disk.specs.Files.{bytes_at, no_files}
use Rattle.clog_scan.specs.declared.answer.End.TheVariants.{Clean}
use Rattle.clog_scan.specs.Segment.{IsSegment}
use Rattle.clog_crash.specs.Folder.{IsHeld}
use Rattle.clog_crash.specs.Grown.{Append, GrownSegment, HasGrown, HoldsGrown, appends_of}
use Rattle.clog_crash.specs.Readings.{RestoresIn}
use Rattle.clog_crash.specs.Recovery.{NamesAny}
use Rattle.clog_crash.proofs.OneMore.{bytes_of}
use Rattle.clog_crash.proofs.changes.Covering.{exactly}
use Rattle.clog_crash.proofs.changes.Names.{one_id}
use Rattle.clog_crash.proofs.changes.Nothing.{no_table, there_or_nothing}
use Rattle.clog_applied.specs.Appended.{IsAppended, appended, entries_in}
use Rattle.clog_applied.specs.History.{LoggedLine}
use Rattle.clog_applied.specs.Opening.{IsOpening}

-- ---- lists of one and two

pub all_of_one : {A : Type 0} (P : A → Type 0) (x : A) → P x → (y : A) → Contains (x ∷ []) y
    → P y
all_of_one P x p y h = subst P (only_one x y h) p

pub all_of_two : {A : Type 0} (P : A → Type 0) (x z : A) → P x → P z → (y : A)
    → Contains (x ∷ z ∷ []) y → P y
all_of_two P x z p q y h = elim (first_or_further x (z ∷ []) y h) [
  | inl same ↦ subst P same p
  | inr more ↦ all_of_one P z q y more
]

pub one_apart : {A : Type 0} (R : A → A → Type 0) (a : A) → AllPairs R (a ∷ [])
one_apart R a i zero d low high = absurd (omega (arith, low))
one_apart R a i (suc j) d low high = absurd (omega (arith, high))

pub two_apart : {A : Type 0} (R : A → A → Type 0) (a b : A) → R a b → AllPairs R (a ∷ b ∷ [])
two_apart R a b r zero zero d low high = absurd (omega (arith, low))
two_apart R a b r zero (suc zero) d low high = r
two_apart R a b r zero (suc (suc j)) d low high = absurd (omega (arith, high))
two_apart R a b r (suc i) zero d low high = absurd (omega (arith, low))
two_apart R a b r (suc i) (suc j) d low high = absurd (omega (arith, low, high))

-- ---- nothing is there

pub none_there : (name bytes : List ℕ) → finmap.get no_files name ≡ Some bytes → ⊥
none_there name bytes there =
    none-some bytes (sym (get-empty (slice_cmp nat_cmp) name) ∙ there)

pub none_held : (name : List ℕ) → IsHeld no_files name → ⊥
none_held name held =
    let found = bytes_of (finmap.get no_files name) held in none_there name found.0 found.1

pub no_id : (id : ℕ) → NamesAny no_files id → ⊥
no_id id named = elim named [
  | inl segment ↦ none_held segment.0 segment.1.2
  | inr more ↦ elim more [
    | inl archive ↦ none_held archive.0 archive.1
    | inr table ↦
        let t = table.1 in
        let name = table_name_of table.0.table.0 t.sequence in
        elim (there_or_nothing no_files name) [
          | inl there ↦ none_there name (bytes_at no_files name) there
          | inr none ↦ no_table table.0.table table.0 (bytes_at no_files name) none t.spelled
        ]
  ]
]

pub opened_empty : IsOpening no_files no_files [] 1000
opened_empty = record {
  same = record {
    same = exactly (RestoresIn (bytes_at no_files)) (RestoresIn (bytes_at no_files))
        (λ pair. (λ a. a, λ a. a));
    undamaged = record {
      tables = λ place name named held. absurd (none_held name held);
      segments = λ name version id named held. absurd (none_held name held);
    };
  };
  no_segment = λ has. none_held has.0 has.1;
  others = λ name bytes none there. there;
  came = λ name bytes there absent. absurd (none_there name bytes there);
  base_above = λ id named. absurd (no_id id named);
  changes = λ c h. absurd (nothing_there c h);
}

-- ---- one segment

one_in_order : (id : ℕ) → IsStrictlySortedBy nat_cmp (id ∷ [])
unfolding IsStrictlySortedBy
one_in_order id = (tt, tt)

module _ (id : ℕ) (fits : id < 2 ^ 63) (changes : List Change) (history : List LoggedLine)
    (bytes part : List ℕ) (grows : appended changes id ≡ bytes)
    (holds : IsSegment bytes id (entries_in id history) (Clean (length bytes)))
    (first : Contains (appends_of changes) (segment_name_of 6 id, part))
    (only : (a : Append) → Contains (appends_of changes) a → a.0 ≡ segment_name_of 6 id)
    (there : (w : LoggedLine) → Contains history w → w.id ≡ id) where
  abbrev its : GrownSegment
  its = (id, entries_in id history)

  abbrev Kept : GrownSegment → Type 0
  Kept s = HasGrown (appends_of changes) s.0 × HoldsGrown (appends_of changes) s.0 s.1

  pub one_appended : IsAppended changes (id ∷ []) history
  one_appended = record {
    kept = record {
      ordered = one_in_order id;
      each = all_of_one Kept its (
        record { fits = fits; bytes = part; listed = first },
        subst (λ (b : List ℕ). IsSegment b id (entries_in id history) (Clean (length b)))
            (sym grows) holds,
      );
      every = λ other g.
          let same : other ≡ id =
          one_id id other fits g.fits (only (segment_name_of 6 other, g.bytes) g.listed) in (
            entries_in id history,
            subst (λ (i : ℕ). Contains (its ∷ []) (i, entries_in id history)) (sym same)
                (here its []),
          );
    };
    only = λ a h. record { id = id; listed = here id []; named = only a h };
    no_other = λ w h. subst (λ (i : ℕ). Contains (id ∷ []) i) (sym (there w h)) (here id []);
  }
