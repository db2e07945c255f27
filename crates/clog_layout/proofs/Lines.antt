-- Notes as lines of the log.
use Rattle.std.proofs.Common.{
  ◌≡◌,
  ℕ,
  ◌+◌,
  ◌≤◌,
  inl,
  inr,
  List,
  [],
  ◌∷◌,
  length,
  IsTrue,
  refl,
  sym,
  ◌∙◌,
  ap,
  subst,
  arith,
}
use Rattle.std.specs.Prelude.{Contains, ◌↔◌}
use Rattle.std.specs.List.{AllPairs}
use Rattle.std.proofs.lemmas.Bool.{cases_lt}
use Rattle.clog_spec.specs.Segment.{entry_bytes}
use Rattle.clog_spec.specs.Sizes.{frame_size, greatest_capacity}
use Rattle.clog_spec.proofs.Lengths.{length-entry_bytes}
use Rattle.clog_base.specs.declared.cell.Table.{Table}
use Rattle.clog_base.specs.Positions.{position_of}
use Rattle.clog_base.proofs.Members.{first_or_further, further, here, nothing_there}
use Rattle.clog_mutation.specs.declared.mutation.Mutation.{Mutation}
use Rattle.clog_mutation.specs.Payload.{payload_of}
use Rattle.clog_mutation.proofs.Decoding.{one_mutation}
use Rattle.clog_scan.specs.Segment.{entry_from}
use Rattle.clog_crash.specs.Droppable.{Touches}
use Rattle.path_core.specs.declared.note.EntryNote.{EntryNote}
use Rattle.path_core.specs.History.{IsHistory, IsInSegment}
use Rattle.path_core.specs.Keys.{offset_of, ordinal_of}
use Rattle.path_core.specs.Parts.{touches}
use Rattle.path_core.specs.Whole.{IsWhole}
use Rattle.path_core.proofs.lists.Heads.{ahead, behind}
use Rattle.clog_applied.specs.History.{
  IsBefore,
  IsLawful,
  IsPlaced,
  LoggedLine,
  entry_of,
  logged_at,
}
use Rattle.clog_layout.specs.Logged.{AreNotesOf, IsNoteOf}
use Rattle.clog_layout.proofs.Pairs.{pairs_cons, pairs_none}

-- ---- a line of a note

abbrev pub line_for : ℕ → EntryNote → Mutation → LoggedLine
line_for base n m = record {
  writer = n.writer.0;
  number = n.line;
  id = base + ordinal_of n.start.0;
  start = offset_of n.start.0;
  end = offset_of n.start.0 + length n.bytes;
  mutation = m;
}

abbrev pub lines_for : (notes : List EntryNote) → ℕ
    → ((n : EntryNote) → Contains notes n → IsWhole n) → List LoggedLine
lines_for [] = λ base whole. []
lines_for (n ∷ ns) = λ base whole.
    line_for base n (whole n (here n ns)).mutation
    ∷ lines_for ns base (λ o h. whole o (further n ns o h))

pub are_notes : (notes : List EntryNote) (base : ℕ)
    → (whole : (n : EntryNote) → Contains notes n → IsWhole n)
    → AreNotesOf base notes (lines_for notes base whole)
are_notes [] base whole = tt
are_notes (n ∷ ns) base whole =
    let w = whole n (here n ns) in (
      record {
        writer = refl;
        number = refl;
        id = refl;
        start = refl;
        end = refl;
        bytes = w.bytes;
        stored = w.stored;
        tables = w.tables;
      },
      are_notes ns base (λ o h. whole o (further n ns o h)),
    )

-- ---- where it stands

long_as : (n : EntryNote) (p : List ℕ) → n.bytes ≡ entry_bytes p
    → length n.bytes ≡ frame_size + length p
long_as n p is = ap length is ∙ length-entry_bytes p

pub is_entry : (base : ℕ) (n : EntryNote) (w : LoggedLine) → IsNoteOf base n w
    → entry_of w ≡ entry_from (offset_of n.start.0) (payload_of w.mutation)
is_entry base n w is =
    let long = long_as n (payload_of w.mutation) is.bytes in
    let a = is.start in
    let b = is.end in
    let end : w.end ≡ offset_of n.start.0 + frame_size + length (payload_of w.mutation) =
    omega (arith, a, b, long) in
    λ i. record { start = a i; end = end i; payload = payload_of w.mutation }

one_segment : (start long capacity : ℕ) → offset_of start + long ≤ capacity
    → capacity ≤ greatest_capacity
    → (offset_of (start + long) ≡ offset_of start + long)
    × (ordinal_of (start + long) ≡ ordinal_of start)
one_segment start long capacity inside few = (omega arith, omega arith)

pub is_position : (base capacity : ℕ) (n : EntryNote) (w : LoggedLine)
    → capacity ≤ greatest_capacity → IsInSegment capacity n → IsNoteOf base n w
    → logged_at w ≡ position_of base n.end.0
is_position base capacity n w few s is =
    let one = one_segment n.start.0 (length n.bytes) capacity s.inside few in
    let long = s.long in
    let id : w.id ≡ base + ordinal_of n.end.0 =
    is.id ∙ ap (λ (k : ℕ). base + k) (sym one.1 ∙ ap ordinal_of (sym long)) in
    let end : w.end ≡ offset_of n.end.0 =
    is.end ∙ ap (λ (k : ℕ). k + length n.bytes) is.start ∙ sym one.0 ∙ ap offset_of (sym long) in
    λ i. record { id = id i; offset = end i }

-- ---- which tables it touches

pub touches_it : (base : ℕ) (n : EntryNote) (w : LoggedLine) → IsNoteOf base n w
    → (table : Table)
    → Touches (entry_of w) table ↔ IsTrue (touches n.tables table.0)
touches_it base n w is table = (
  λ t.
      let same : w.mutation ≡ t.mutation =
      one_mutation w.mutation t.mutation is.stored t.said.stored t.said.spelled in
      (is.tables table.0).1 (record {
        update = t.update;
        among = subst (λ (m : Mutation). Contains m.updates t.update) (sym same) t.listed;
        table = ap (λ (x : Table). x.0) t.same_table;
      }),
  λ bit.
      let u = (is.tables table.0).0 bit in
      let number = u.table in
      record {
        mutation = w.mutation;
        said = record { stored = is.stored; spelled = refl };
        update = u.update;
        listed = u.among;
        same_table = λ i. record { 0 = number i };
      },
)

-- ---- a history

module _ (base capacity : ℕ) (few : capacity ≤ greatest_capacity) where
  placed : (n : EntryNote) (w : LoggedLine) → IsInSegment capacity n → IsNoteOf base n w
      → IsPlaced capacity w
  placed n w s is =
      let long = long_as n (payload_of w.mutation) is.bytes in
      let a = is.start in
      let b = is.end in
      let front = s.behind_front in
      let inside = s.inside in
      record {
        behind_front = omega (arith, a, front);
        long = omega (arith, b, long);
        inside = omega (arith, a, b, inside);
        stored = is.stored;
      }

  before : (n o : EntryNote) (w v : LoggedLine) → IsInSegment capacity n → IsInSegment capacity o
      → IsNoteOf base n w → IsNoteOf base o v → n.end.0 ≤ o.start.0 → IsBefore w v
  before n o w v s t is io apart =
      let one = one_segment n.start.0 (length n.bytes) capacity s.inside few in
      let long = s.long in
      by_key (n.end.0) (o.start.0) apart
      (is.id ∙ ap (λ (k : ℕ). base + k) (sym one.1 ∙ ap ordinal_of (sym long)))
      (is.end ∙ ap (λ (k : ℕ). k + length n.bytes) is.start ∙ sym one.0
      ∙ ap offset_of (sym long)) io.id io.start
    where
      by_key : (end start : ℕ) → end ≤ start → w.id ≡ base + ordinal_of end
          → w.end ≡ offset_of end → v.id ≡ base + ordinal_of start
          → v.start ≡ offset_of start → IsBefore w v
      by_key end start up a b c d = elim (cases_lt (ordinal_of end) (ordinal_of start)) [
        | inl less ↦ inl (omega (arith, less, a, c))
        | inr not ↦
            let same : ordinal_of end ≡ ordinal_of start = omega (arith, not, up) in
            inr (omega (arith, same, a, c), omega (arith, same, up, b, d))
      ]

  each_placed : (notes : List EntryNote) (history : List LoggedLine)
      → ((n : EntryNote) → Contains notes n → IsInSegment capacity n)
      → AreNotesOf base notes history → (w : LoggedLine) → Contains history w
      → IsPlaced capacity w
  each_placed [] [] in_one are w h = absurd (nothing_there w h)
  each_placed [] (v ∷ vs) in_one are w h = absurd are
  each_placed (n ∷ ns) [] in_one are w h = absurd are
  each_placed (n ∷ ns) (v ∷ vs) in_one are w h = elim (first_or_further v vs w h) [
    | inl same ↦ subst (IsPlaced capacity) same (placed n v (in_one n (here n ns)) are.0)
    | inr more ↦ each_placed ns vs (λ o g. in_one o (further n ns o g)) are.1 w more
  ]

  all_before : (n : EntryNote) (v : LoggedLine) → IsInSegment capacity n → IsNoteOf base n v
      → (ns : List EntryNote) (vs : List LoggedLine)
      → ((o : EntryNote) → Contains ns o → IsInSegment capacity o)
      → ((o : EntryNote) → Contains ns o → n.end.0 ≤ o.start.0)
      → AreNotesOf base ns vs → (w : LoggedLine) → Contains vs w → IsBefore v w
  all_before n v s is [] [] in_one up are w h = absurd (nothing_there w h)
  all_before n v s is [] (x ∷ vs) in_one up are w h = absurd are
  all_before n v s is (o ∷ ns) [] in_one up are w h = absurd are
  all_before n v s is (o ∷ ns) (x ∷ vs) in_one up are w h = elim (first_or_further x vs w h) [
    | inl same ↦ subst (IsBefore v) same
        (before n o v x s (in_one o (here o ns)) is are.0 (up o (here o ns)))
    | inr more ↦ all_before n v s is ns vs (λ q g. in_one q (further o ns q g))
        (λ q g. up q (further o ns q g)) are.1 w more
  ]

  apart_so : (notes : List EntryNote) (history : List LoggedLine)
      → ((n : EntryNote) → Contains notes n → IsInSegment capacity n)
      → AllPairs (λ (a b : EntryNote). a.end.0 ≤ b.start.0) notes
      → AreNotesOf base notes history → AllPairs IsBefore history
  apart_so [] [] in_one apart are = pairs_none IsBefore
  apart_so [] (v ∷ vs) in_one apart are = absurd are
  apart_so (n ∷ ns) [] in_one apart are = absurd are
  apart_so (n ∷ ns) (v ∷ vs) in_one apart are =
      let R = λ (a b : EntryNote). a.end.0 ≤ b.start.0 in
      pairs_cons IsBefore v vs
      (all_before n v (in_one n (here n ns)) are.0 ns vs (λ o g. in_one o (further n ns o g))
      (ahead R n ns apart) are.1)
      (apart_so ns vs (λ o g. in_one o (further n ns o g)) (behind R n ns apart) are.1)

  pub lawful : (notes : List EntryNote) (history : List LoggedLine) → IsHistory capacity notes
      → AreNotesOf base notes history → IsLawful capacity history
  lawful notes history is are = record {
    each = each_placed notes history is.each are;
    apart = apart_so notes history is.each is.apart are;
  }
