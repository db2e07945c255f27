-- The span of a segment's positions at a table, with one note more.
use Rattle.std.proofs.Common.{
  ◌≡◌,
  ℕ,
  ◌+◌,
  ◌<◌,
  zero,
  suc,
  min,
  max,
  true,
  false,
  List,
  [],
  ◌∷◌,
  ◌++◌,
  length,
  take,
  get_or,
  Option,
  Some,
  None,
  refl,
  sym,
  ap,
  ◌∙◌,
  subst,
  arith,
  ◌⊎◌,
}
use mathlib.Core.Logic.{dite, inl, inr}
use native.Mathlib.Decide.{dec_le}
use Rattle.std.specs.List.{Contains}
use Rattle.std.proofs.lemmas.Bool.{false≢true}
use Rattle.std.proofs.lemmas.List.{take_more}
use Rattle.std.proofs.lemmas.List.Elements.{
  Contains-append_left,
  Contains-append_right,
  Contains-append_cases,
}
use Rattle.path_core.specs.declared.note.EntryNote.{EntryNote}
use Rattle.path_core.specs.Droppable.{is_of}
use Rattle.path_machine.specs.declared.table_files.Span.{Span}
use Rattle.path_machine.specs.Spans.{EndsAt, Spans, IsSpan, widened}

last_or_before : (front : List EntryNote) (n m : EntryNote) → Contains (front ++ n ∷ []) m
    → Contains front m ⊎ (n ≡ m)
last_or_before front n m among = elim (Contains-append_cases front (n ∷ []) m among) [
  | inl before ↦ inl before
  | inr (zero, inside, is) ↦ inr is
  | inr (suc k, inside, is) ↦ absurd (omega arith)
]

ends_here : (o t : ℕ) (front : List EntryNote) (n : EntryNote) → is_of o t n ≡ true
    → EndsAt o t (front ++ n ∷ []) n.end.0
ends_here o t front n is = record {
  note = n;
  among = Contains-append_right front (n ∷ []) n (0, omega arith, refl);
  is = is;
  end = refl;
}

ends_before : (o t : ℕ) (front : List EntryNote) (n : EntryNote) (position : ℕ)
    → EndsAt o t front position → EndsAt o t (front ++ n ∷ []) position
ends_before o t front n position before = record {
  note = before.note;
  among = Contains-append_left front (n ∷ []) before.note before.among;
  is = before.is;
  end = before.end;
}

least_of : (o t : ℕ) (front : List EntryNote) (n : EntryNote) (least : ℕ) → is_of o t n ≡ true
    → EndsAt o t front least → EndsAt o t (front ++ n ∷ []) (min least n.end.0)
least_of o t front n least is before = dite (dec_le least n.end.0)
    (λ low. subst (EndsAt o t (front ++ n ∷ []))
    (let e : least ≡ min least n.end.0 = omega arith in e)
    (ends_before o t front n least before))
    (λ high. subst (EndsAt o t (front ++ n ∷ []))
    (let e : n.end.0 ≡ min least n.end.0 = omega arith in e) (ends_here o t front n is))

greatest_of : (o t : ℕ) (front : List EntryNote) (n : EntryNote) (greatest : ℕ)
    → is_of o t n ≡ true → EndsAt o t front greatest
    → EndsAt o t (front ++ n ∷ []) (max greatest n.end.0)
greatest_of o t front n greatest is before = dite (dec_le n.end.0 greatest)
    (λ low. subst (EndsAt o t (front ++ n ∷ []))
    (let e : greatest ≡ max greatest n.end.0 = omega arith in e)
    (ends_before o t front n greatest before))
    (λ high. subst (EndsAt o t (front ++ n ∷ []))
    (let e : n.end.0 ≡ max greatest n.end.0 = omega arith in e) (ends_here o t front n is))

grown : (o t : ℕ) (front : List EntryNote) (n : EntryNote) (span : Option Span)
    → IsSpan o t front span → is_of o t n ≡ true
    → Spans o t (front ++ n ∷ []) (widened span n.end.0)
grown o t front n None none is = record {
  least = ends_here o t front n is;
  greatest = ends_here o t front n is;
  each = λ m among of. elim (last_or_before front n m among) [
    | inl before ↦ absurd (false≢true (sym (none m before) ∙ of))
    | inr last ↦ let e = ap (λ (k : EntryNote). k.end.0) last in (omega arith, omega arith)
  ];
}
grown o t front n (Some span) spans is = record {
  least = least_of o t front n span.least is spans.least;
  greatest = greatest_of o t front n span.greatest is spans.greatest;
  each = λ m among of. elim (last_or_before front n m among) [
    | inl before ↦ let within = spans.each m before of in
        let low = within.0 in let high = within.1 in (omega arith, omega arith)
    | inr last ↦ let e = ap (λ (k : EntryNote). k.end.0) last in (omega arith, omega arith)
  ];
}

left_out : (o t : ℕ) (front : List EntryNote) (n : EntryNote) (span : Option Span)
    → IsSpan o t front span → is_of o t n ≡ false → IsSpan o t (front ++ n ∷ []) span
left_out o t front n None none is = λ m among. elim (last_or_before front n m among) [
  | inl before ↦ none m before
  | inr last ↦ subst (λ k. is_of o t k ≡ false) last is
]
left_out o t front n (Some span) spans is = record {
  least = ends_before o t front n span.least spans.least;
  greatest = ends_before o t front n span.greatest spans.greatest;
  each = λ m among of. elim (last_or_before front n m among) [
    | inl before ↦ spans.each m before of
    | inr last ↦ absurd (false≢true (sym is ∙ (ap (is_of o t) last ∙ of)))
  ];
}

pub span_more : (o t : ℕ) (notes : List EntryNote) (i : ℕ) (d : EntryNote) (span : Option Span)
    → i < length notes → IsSpan o t (take i notes) span → is_of o t (get_or notes i d) ≡ true
    → Spans o t (take (i + 1) notes) (widened span (get_or notes i d).end.0)
span_more o t notes i d span inside spans is =
    subst (λ l. Spans o t l (widened span (get_or notes i d).end.0))
    (sym (take_more notes i d inside)) (grown o t (take i notes) (get_or notes i d) span spans is)

pub span_same : (o t : ℕ) (notes : List EntryNote) (i : ℕ) (d : EntryNote) (span : Option Span)
    → i < length notes → IsSpan o t (take i notes) span → is_of o t (get_or notes i d) ≡ false
    → IsSpan o t (take (i + 1) notes) span
span_same o t notes i d span inside spans is =
    subst (λ l. IsSpan o t l span)
    (sym (take_more notes i d inside))
    (left_out o t (take i notes) (get_or notes i d) span spans is)
