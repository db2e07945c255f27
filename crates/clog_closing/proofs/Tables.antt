-- A table file that was put is true for the history of the notes that are logged.
use Rattle.std.proofs.Common.{◌≡◌, ℕ, ◌<◌, ◌≤◌, inl, inr, List, [], ◌∷◌, sym, ◌∙◌, ap, subst, arith}
use Rattle.std.specs.Prelude.{Contains}
use Rattle.std.proofs.lemmas.Bool.{cases_lt}
use Rattle.clog_spec.specs.Sizes.{greatest_capacity}
use Rattle.clog_base.specs.declared.cell.Cell.{Cell}
use Rattle.clog_base.specs.declared.cell.CellKey.{CellKey}
use Rattle.clog_base.specs.declared.cell.Table.{Table}
use Rattle.clog_base.specs.declared.position.Position.{Position}
use Rattle.clog_base.specs.Positions.{IsBelow, IsUpTo, ordinal_of, position_of}
use Rattle.clog_base.proofs.Members.{first_or_further, further, here, nothing_there}
use Rattle.clog_cells.specs.Merge.{IsMergeOf}
use Rattle.clog_cells.proofs.Merging.{of_same}
use Rattle.clog_mutation.specs.declared.mutation.Mutation.{Mutation}
use Rattle.clog_mutation.specs.Payload.{cells_of, payload_of}
use Rattle.clog_mutation.proofs.Decoding.{one_mutation}
use Rattle.path_core.specs.declared.note.EntryNote.{EntryNote}
use Rattle.path_core.specs.History.{IsHistory}
use Rattle.path_core.specs.Keeper.{Holding, IsLoggedCell, PutFile}
use Rattle.path_core.specs.Whole.{IsWhole}
use Rattle.clog_segments.specs.Notes.{payload_in}
use Rattle.clog_segments.specs.OnDisk.{file_on}
use Rattle.clog_applied.specs.Filed.{IsCellWithin, IsTrueFor}
use Rattle.clog_applied.specs.History.{LoggedLine, logged_at}
use Rattle.clog_layout.specs.Logged.{AreNotesOf, IsNoteOf}
use Rattle.clog_layout.proofs.Lines.{is_position}
use Rattle.clog_closing.proofs.Logs.{payload_is}

-- ---- places, and keys

pub below_from : (base a b : ℕ) → a < b → IsBelow (position_of base a) (position_of base b)
below_from base a b low = elim (cases_lt (ordinal_of a) (ordinal_of b)) [
  | inl lower ↦ inl (omega (arith, lower))
  | inr high ↦ inr (omega (arith, low, high), omega (arith, low, high))
]

pub up_to_from : (base a b : ℕ) → a ≤ b → IsUpTo (position_of base a) (position_of base b)
up_to_from base a b low = elim (cases_lt (ordinal_of a) (ordinal_of b)) [
  | inl lower ↦ inl (omega (arith, lower))
  | inr high ↦ inr (omega (arith, low, high), omega (arith, low, high))
]

pub below_key : (base a b : ℕ) → IsBelow (position_of base a) (position_of base b) → a < b
below_key base a b below = elim below [
  | inl lower ↦ omega (arith, lower)
  | inr same ↦ omega (arith, same.0, same.1)
]

pub up_to_key : (base a b : ℕ) → IsUpTo (position_of base a) (position_of base b) → a ≤ b
up_to_key base a b up_to = elim up_to [
  | inl lower ↦ omega (arith, lower)
  | inr same ↦ omega (arith, same.0, same.1)
]

-- ---- notes and their lines

pub record HasLine (base : ℕ) (history : List LoggedLine) (n : EntryNote) : Type 0 where
  pub line : LoggedLine
  pub listed : Contains history line
  pub is : IsNoteOf base n line

pub record HasNote (base : ℕ) (notes : List EntryNote) (w : LoggedLine) : Type 0 where
  pub note : EntryNote
  pub listed : Contains notes note
  pub is : IsNoteOf base note w

pub line_of_note : (base : ℕ) (notes : List EntryNote) (history : List LoggedLine)
    → AreNotesOf base notes history → (n : EntryNote) → Contains notes n
    → HasLine base history n
line_of_note base [] [] are n h = absurd (nothing_there n h)
line_of_note base [] (w ∷ ws) are n h = absurd are
line_of_note base (o ∷ ns) [] are n h = absurd are
line_of_note base (o ∷ ns) (w ∷ ws) are n h = elim (first_or_further o ns n h) [
  | inl same ↦ record {
    line = w;
    listed = here w ws;
    is = subst (λ (x : EntryNote). IsNoteOf base x w) same are.0;
  }
  | inr more ↦
      let rest = line_of_note base ns ws are.1 n more in
      record { line = rest.line; listed = further w ws rest.line rest.listed; is = rest.is }
]

pub note_of_line : (base : ℕ) (notes : List EntryNote) (history : List LoggedLine)
    → AreNotesOf base notes history → (w : LoggedLine) → Contains history w
    → HasNote base notes w
note_of_line base [] [] are w h = absurd (nothing_there w h)
note_of_line base [] (v ∷ vs) are w h = absurd are
note_of_line base (n ∷ ns) [] are w h = absurd are
note_of_line base (n ∷ ns) (v ∷ vs) are w h = elim (first_or_further v vs w h) [
  | inl same ↦ record {
    note = n;
    listed = here n ns;
    is = subst (IsNoteOf base n) same are.0;
  }
  | inr more ↦
      let rest = note_of_line base ns vs are.1 w more in
      record { note = rest.note; listed = further n ns rest.note rest.listed; is = rest.is }
]

-- a whole note's mutation is that of its line
one_said : (base : ℕ) (n : EntryNote) (w : LoggedLine) → IsNoteOf base n w → (whole : IsWhole n)
    → w.mutation ≡ whole.mutation
one_said base n w is whole =
    one_mutation w.mutation whole.mutation is.stored whole.stored
    (sym (payload_is (payload_of w.mutation)) ∙ ap payload_in (sym is.bytes ∙ whole.bytes)
    ∙ payload_is (payload_of whole.mutation))

module _ (h : Holding) (history : List LoggedLine)
    (few : h.sizes.capacity ≤ greatest_capacity)
    (is_history : IsHistory h.sizes.capacity h.logged)
    (are : AreNotesOf h.base h.logged history)
    (whole : (n : EntryNote) → Contains h.logged n → IsWhole n) (put : PutFile) where
  place : (n : EntryNote) (w : LoggedLine) → Contains h.logged n → IsNoteOf h.base n w
      → logged_at w ≡ position_of h.base n.end.0
  place n w listed is = is_position h.base h.sizes.capacity n w few (is_history.each n listed) is

  forth : (pair : CellKey × Cell) → IsLoggedCell h put pair
      → IsCellWithin history (file_on h.base put) pair
  forth pair c =
      let found = line_of_note h.base h.logged history are c.note c.among in
      let at = place c.note found.line c.among found.is in
      let number = c.of_table in
      record {
        line = found.line;
        listed = found.listed;
        inside = record {
          above = subst (IsBelow (position_of h.base put.lower)) (sym at)
              (below_from h.base put.lower c.note.end.0 c.above);
          up_to = subst (λ (p : Position). IsUpTo p (position_of h.base put.upper)) (sym at)
              (up_to_from h.base c.note.end.0 put.upper c.up_to);
        };
        cell = subst (λ (m : Mutation). Contains (cells_of m) pair)
            (sym (one_said h.base c.note found.line found.is c.whole)) c.listed;
        same_table = λ i. record { 0 = number i };
      }

  back : (pair : CellKey × Cell) → IsCellWithin history (file_on h.base put) pair
      → IsLoggedCell h put pair
  back pair c =
      let found = note_of_line h.base h.logged history are c.line c.listed in
      let at = place found.note c.line found.listed found.is in
      let its = whole found.note found.listed in
      record {
        note = found.note;
        among = found.listed;
        whole = its;
        listed = subst (λ (m : Mutation). Contains (cells_of m) pair)
            (one_said h.base found.note c.line found.is its) c.cell;
        of_table = ap (λ (t : Table). t.0) c.same_table;
        above = below_key h.base put.lower found.note.end.0
            (subst (IsBelow (position_of h.base put.lower)) at c.inside.above);
        up_to = up_to_key h.base found.note.end.0 put.upper
            (subst (λ (p : Position). IsUpTo p (position_of h.base put.upper)) at
            c.inside.up_to);
      }

  pub is_true : IsMergeOf (IsLoggedCell h put) put.cells
      → IsTrueFor history (file_on h.base put)
  is_true merge =
      of_same (IsLoggedCell h put) (IsCellWithin history (file_on h.base put)) put.cells
      (λ pair. (forth pair, back pair)) merge
