-- The test of a table's files: the span of the segment's positions decides it.
use Rattle.std.proofs.Common.{
  ◌≡◌,
  ℕ,
  ◌+◌,
  ◌-◌,
  ◌<◌,
  ◌≤◌,
  Bool,
  true,
  false,
  List,
  length,
  get_or,
  None,
  refl,
  sym,
  ◌∙◌,
  subst,
  arith,
}
use Rattle.std.specs.List.{list_all, filter, Contains}
use Rattle.std.proofs.lemmas.Bool.{
  false≢true,
  and_parts,
  and_from,
  ltb-true,
  lt-ltb,
  leb-true,
  le-leb,
}
use Rattle.std.proofs.lemmas.List.Elements.{Contains-get_or}
use Rattle.std.proofs.lemmas.List.Folds.{list_any_at, list_any_none}
use Rattle.std.proofs.lemmas.List.Sums.{list_all-from_AllPass}
use Rattle.path_core.specs.declared.note.EntryNote.{EntryNote}
use Rattle.path_core.specs.declared.state.PathState.{PathState}
use Rattle.path_core.specs.declared.state.WrittenFile.{WrittenFile}
use Rattle.path_core.specs.Droppable.{is_of, is_in_file, is_filed, are_filed, is_table_filed}
use Rattle.path_core.proofs.lists.Passing.{all_to, kept_in, filter_from}
use Rattle.path_core.proofs.lists.Ranges.{range_all, in_range}
use Rattle.path_machine.specs.declared.table_files.Span.{Span}
use Rattle.path_machine.specs.Spans.{AreFiledTo, Spans, IsSpan}

all_from : {X : Type 0} (p : X → Bool) (xs : List X)
    → ((x : X) → Contains xs x → p x ≡ true) → list_all p xs ≡ true
all_from p xs each = list_all-from_AllPass p xs (λ k d inside.
    each (get_or xs k d) (Contains-get_or xs k d inside))

-- two tests that follow from one another
same_test : (a b : Bool) → (a ≡ true → b ≡ true) → (b ≡ true → a ≡ true) → a ≡ b
same_test true true there back = refl
same_test true false there back = sym (there refl)
same_test false true there back = back refl
same_test false false there back = refl

pub are_filed_from : (files : List WrittenFile) (t from to : ℕ)
    → ((key : ℕ) → from ≤ key → key ≤ to → is_filed files t key ≡ true)
    → are_filed files t from to ≡ true
are_filed_from files t from to each = range_all (is_filed files t) from (to + 1 - from)
    (λ key above below. each key above (omega arith))

-- no entry of the segment touches the table
pub none_are_filed : (x : PathState) (o t : ℕ) → IsSpan o t x.notes None
    → is_table_filed x o t ≡ true
none_are_filed x o t none =
    all_from (λ (a : EntryNote). list_all (λ (b : EntryNote).
    are_filed x.files t a.end.0 b.end.0) (filter (is_of o t) x.notes)) (filter (is_of o t) x.notes)
    (λ a among. let is = filter_from (is_of o t) x.notes a among in
    absurd (false≢true (sym (none a is.0) ∙ is.1)))

-- The keys of the span are filed exactly where those between each two positions are.
pub span_decides : (x : PathState) (o t : ℕ) (span : Span) → Spans o t x.notes span
    → are_filed x.files t span.least span.greatest ≡ is_table_filed x o t
span_decides x o t span spans = same_test _ _ narrowed widest
  where
    narrowed : are_filed x.files t span.least span.greatest ≡ true → is_table_filed x o t ≡ true
    narrowed wide =
        all_from (λ (a : EntryNote). list_all (λ (b : EntryNote).
        are_filed x.files t a.end.0 b.end.0) (filter (is_of o t) x.notes))
        (filter (is_of o t) x.notes) (λ a first.
        all_from (λ (b : EntryNote). are_filed x.files t a.end.0 b.end.0)
        (filter (is_of o t) x.notes) (λ b last.
        let from = filter_from (is_of o t) x.notes a first in
        let to = filter_from (is_of o t) x.notes b last in
        let low = (spans.each a from.0 from.1).0 in
        let high = (spans.each b to.0 to.1).1 in
        are_filed_from x.files t a.end.0 b.end.0 (λ key above below.
        in_range (is_filed x.files t) span.least span.greatest key wide
        (omega arith) (omega arith))))

    widest : is_table_filed x o t ≡ true → are_filed x.files t span.least span.greatest ≡ true
    widest each =
        let least = spans.least in
        let greatest = spans.greatest in
        subst (λ n. are_filed x.files t n span.greatest ≡ true) least.end
        (subst (λ n. are_filed x.files t least.note.end.0 n ≡ true) greatest.end
        (all_to (λ (b : EntryNote). are_filed x.files t least.note.end.0 b.end.0)
        (filter (is_of o t) x.notes) greatest.note
        (all_to (λ (a : EntryNote). list_all (λ (b : EntryNote).
        are_filed x.files t a.end.0 b.end.0) (filter (is_of o t) x.notes))
        (filter (is_of o t) x.notes) least.note each
        (kept_in (is_of o t) x.notes least.note least.among least.is))
        (kept_in (is_of o t) x.notes greatest.note greatest.among greatest.is)))

pub file_reaches : (files : List WrittenFile) (t key i : ℕ) (d : WrittenFile)
    → i < length files → is_in_file t key (get_or files i d) ≡ true
    → AreFiledTo files t key (get_or files i d).upper
file_reaches files t key i d inside holds =
    let file = get_or files i d in
    let outer = and_parts _ _ holds in
    let inner = and_parts _ _ outer.0 in
    let lower = ltb-true file.lower key inner.1 in
    record {
      ahead = leb-true key file.upper outer.1;
      each = λ k from to. list_any_at (is_in_file t k) files i d inside
          (and_from _ _ (and_from _ _ inner.0 (lt-ltb file.lower k (omega arith)))
          (le-leb k file.upper to));
    }

pub no_file : (files : List WrittenFile) (t key : ℕ)
    → ((k : ℕ) (d : WrittenFile) → k < length files → is_in_file t key (get_or files k d) ≡ false)
    → is_filed files t key ≡ false
no_file files t key none = list_any_none (is_in_file t key) files (λ k d inside. none k d inside)
