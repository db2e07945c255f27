-- A list of numbers without a gap, and the last line of notes.
use Rattle.std.proofs.Common.{
  ◌≡◌,
  ℕ,
  ◌+◌,
  ◌<◌,
  ◌≤◌,
  inl,
  inr,
  List,
  [],
  ◌∷◌,
  ◌++◌,
  length,
  refl,
  ◌∙◌,
  ap,
  arith,
}
use Rattle.std.specs.Prelude.{Contains}
use Rattle.std.specs.List.{AllPairs, range_with_len}
use Rattle.clog_base.proofs.Members.{first_or_further, further, here, nothing_there}
use Rattle.path_core.specs.declared.note.EntryNote.{EntryNote}
use Rattle.path_core.proofs.lists.Heads.{ahead, behind}
use Rattle.clog_layout.specs.Ends.{end_behind, synced_to}
use Rattle.clog_layout.specs.Logged.{AreNotesOf, IsNoteOf}
use Rattle.clog_applied.specs.History.{LoggedLine}

-- ---- numbers without a gap

-- an ascending list from a number on, without a gap, is a range
pub is_range : (base : ℕ) (xs : List ℕ) → AllPairs (λ (a b : ℕ). a < b) xs
    → ((x : ℕ) → Contains xs x → base ≤ x)
    → ((x : ℕ) → Contains xs x → (k : ℕ) → base ≤ k → k ≤ x → Contains xs k)
    → xs ≡ range_with_len base (length xs)
is_range base [] rise low down = refl
is_range base (x ∷ xs) rise low down =
    let R = λ (a b : ℕ). a < b in
    let first : x ≡ base = elim (first_or_further x xs base
    (down x (here x xs) base (omega arith) (low x (here x xs)))) [
      | inl same ↦ same
      | inr more ↦
          let less = ahead R x xs rise base more in
          let least = low x (here x xs) in
          absurd (omega (arith, less, least))
    ] in
    ap (λ (l : List ℕ). x ∷ l) (is_range (base + 1) xs (behind R x xs rise)
    (λ y h. let less = ahead R x xs rise y h in omega (arith, less, first))
    (λ y h k le up. elim (first_or_further x xs k
    (down y (further x xs y h) k (omega (arith, le)) up)) [
      | inl same ↦ absurd (omega (arith, same, first, le))
      | inr more ↦ more
    ]))
    ∙ ap (λ (n : ℕ). n ∷ range_with_len (base + 1) (length xs)) first

-- ---- the last line

-- a last line stands where notes end
pub record HasLast (base : ℕ) (laid : List EntryNote) (history : List LoggedLine) (key : ℕ)
    : Type 0 where
  pub front : List LoggedLine
  pub last : LoggedLine
  pub note : EntryNote
  pub among : Contains laid note
  pub parts : history ≡ front ++ last ∷ []
  pub is : IsNoteOf base note last
  pub ends : note.end.0 ≡ key

last_behind : (base : ℕ) (n : EntryNote) (ns : List EntryNote) (history : List LoggedLine)
    → AreNotesOf base (n ∷ ns) history → HasLast base (n ∷ ns) history (end_behind n.end.0 ns)
last_behind base n ns [] are = absurd are
last_behind base n [] (w ∷ []) are = record {
  front = [];
  last = w;
  note = n;
  among = here n [];
  parts = refl;
  is = are.0;
  ends = refl;
}
last_behind base n [] (w ∷ v ∷ ws) are = absurd are.1
last_behind base n (m ∷ ns) (w ∷ ws) are =
    let more = last_behind base m ns ws are.1 in
    record {
      front = w ∷ more.front;
      last = more.last;
      note = more.note;
      among = further n (m ∷ ns) more.note more.among;
      parts = ap (λ (l : List LoggedLine). w ∷ l) more.parts;
      is = more.is;
      ends = more.ends;
    }

pub has_last : (base : ℕ) (laid : List EntryNote) (history : List LoggedLine)
    → AreNotesOf base laid history → (n : EntryNote) → Contains laid n
    → HasLast base laid history (synced_to laid)
has_last base [] history are n h = absurd (nothing_there n h)
has_last base (m ∷ ms) history are n h = last_behind base m ms history are
