-- What writers have logged, as lines of a history.
use Rattle.std.proofs.Common.{
  ◌≡◌,
  ℕ,
  zero,
  suc,
  ◌+◌,
  ◌%◌,
  ◌<◌,
  ◌≤◌,
  ◌==◌,
  inl,
  inr,
  Bool,
  true,
  false,
  List,
  [],
  ◌∷◌,
  get_or,
  length,
  map,
  refl,
  sym,
  ap,
  ◌∙◌,
  subst,
  arith,
}
use Rattle.std.specs.Prelude.{Contains}
use Rattle.std.specs.List.{filter, range_with_len}
use Rattle.std.proofs.lemmas.Bool.{eq-eqb}
use Rattle.clog_spec.specs.Sizes.{greatest_capacity}
use Rattle.clog_base.proofs.Members.{first_or_further, further, here, nothing_there}
use Rattle.clog_mutation.specs.declared.mutation.Mutation.{Mutation}
use Rattle.clog_mutation.specs.Payload.{payload_of}
use Rattle.clog_mutation.proofs.Decoding.{one_mutation}
use Rattle.clog_applied.specs.History.{
  Line,
  LoggedLine,
  is_by,
  is_for,
  line_of,
  numbered,
  share_of,
  written_by,
}
use Rattle.clog_applied.specs.Printed.{number_of}
use Rattle.clog_applied.proofs.Lists.{from_filter, in_filter, kept_one, left_one}
use Rattle.clog_segments.specs.Notes.{payload_in}
use Rattle.path_core.specs.declared.note.EntryNote.{EntryNote}
use Rattle.path_core.specs.History.{IsHistory}
use Rattle.clog_layout.specs.Logged.{AreNotesOf, IsNoteOf}
use Rattle.clog_layout.proofs.Lines.{is_position}
use Rattle.clog_closing.proofs.Logs.{payload_is}
use Rattle.clog_closing.proofs.Tables.{line_of_note}
use Rattle.write_path.specs.declared.commit.Receipt.{Receipt}
use Rattle.clog_writers.specs.Logged.{HoldShares, is_note_of}
use Rattle.clog_writers.specs.Placed.{AreAtTheirLines, HasItsReceipt, receipt_of}
use Rattle.clog_shares.specs.Shares.{AreWritesOf, IsWriteOf}
use Rattle.clog_writers.specs.Written.{line_receipt}
use Rattle.clog_shares.proofs.SameLines.{entry_is}

-- ---- a writer's lines

module _ (base : ℕ) where
  one_writers : (k : ℕ) (n : EntryNote) (w : LoggedLine) (ns : List EntryNote)
      (ws : List LoggedLine) → IsNoteOf base n w
      → AreNotesOf base (filter (is_note_of k) ns) (filter (is_by k) ws)
      → AreNotesOf base (filter (is_note_of k) (n ∷ ns)) (filter (is_by k) (w ∷ ws))
  one_writers k n w ns ws is rest = by (n.writer.0 == k) refl
    where
      by : (b : Bool) → (n.writer.0 == k) ≡ b
          → AreNotesOf base (filter (is_note_of k) (n ∷ ns)) (filter (is_by k) (w ∷ ws))
      by true e =
          subst (AreNotesOf base (filter (is_note_of k) (n ∷ ns)))
          (sym (kept_one (is_by k) w ws (ap (λ (x : ℕ). x == k) is.writer ∙ e)))
          (subst (λ (l : List EntryNote). AreNotesOf base l (w ∷ filter (is_by k) ws))
          (sym (kept_one (is_note_of k) n ns e)) (is, rest))
      by false e =
          subst (AreNotesOf base (filter (is_note_of k) (n ∷ ns)))
          (sym (left_one (is_by k) w ws (ap (λ (x : ℕ). x == k) is.writer ∙ e)))
          (subst (λ (l : List EntryNote). AreNotesOf base l (filter (is_by k) ws))
          (sym (left_one (is_note_of k) n ns e)) rest)

  pub writers_notes : (k : ℕ) (ns : List EntryNote) (ws : List LoggedLine) → AreNotesOf base ns ws
      → AreNotesOf base (filter (is_note_of k) ns) (filter (is_by k) ws)
  writers_notes k [] [] are = tt
  writers_notes k [] (w ∷ ws) are = absurd are
  writers_notes k (n ∷ ns) [] are = absurd are
  writers_notes k (n ∷ ns) (w ∷ ws) are =
      one_writers k n w ns ws are.0 (writers_notes k ns ws are.1)

  one_line : (k : ℕ) (l : Line) (n : EntryNote) (w : LoggedLine) → IsWriteOf k l n
      → IsNoteOf base n w → line_of w ≡ l
  one_line k l n w wrote is =
      let number : w.number ≡ l.number = is.number ∙ wrote.is.told in
      let bytes = sym is.bytes ∙ (wrote.is.bytes ∙ entry_is l.mutation) in
      let payload = sym (payload_is (payload_of w.mutation)) ∙ (ap payload_in bytes
      ∙ payload_is (payload_of l.mutation)) in
      let said : w.mutation ≡ l.mutation =
      one_mutation w.mutation l.mutation is.stored wrote.is.stored payload in
      λ i. record { number = number i; mutation = said i }

  pub their_lines : (k : ℕ) (ls : List Line) (ns : List EntryNote) (ws : List LoggedLine)
      → AreWritesOf k ls ns → AreNotesOf base ns ws → map line_of ws ≡ ls
  their_lines k [] [] [] wrote are = refl
  their_lines k [] [] (w ∷ ws) wrote are = absurd are
  their_lines k [] (n ∷ ns) ws wrote are = absurd wrote
  their_lines k (l ∷ ls) [] ws wrote are = absurd wrote
  their_lines k (l ∷ ls) (n ∷ ns) [] wrote are = absurd are
  their_lines k (l ∷ ls) (n ∷ ns) (w ∷ ws) wrote are =
      let first = one_line k l n w wrote.0 are.0 in
      let rest = their_lines k ls ns ws wrote.1 are.1 in
      λ i. first i ∷ rest i

  pub shares_are : (k : ℕ) (ls : List Line) (ns : List EntryNote) (ws : List LoggedLine)
      → AreWritesOf k ls (filter (is_note_of k) ns) → AreNotesOf base ns ws
      → written_by k ws ≡ ls
  shares_are k ls ns ws wrote are =
      their_lines k ls (filter (is_note_of k) ns) (filter (is_by k) ws) wrote
      (writers_notes k ns ws are)

-- ---- each line has an entry

-- the line of a number
line_at : (from : ℕ) (ms : List Mutation) (i : ℕ) → i < length ms
    → (m : Mutation) × Contains (numbered from ms) (record { number = from + i; mutation = m })
line_at from [] i inside = absurd (omega (arith, inside))
line_at from (m ∷ ms) zero inside =
    let number : from ≡ from + 0 = omega arith in (
      m,
      subst (λ (k : ℕ). Contains (record { number = from; mutation = m } ∷ numbered (from + 1) ms)
          (record { number = k; mutation = m })) number
          (here (record { number = from; mutation = m }) (numbered (from + 1) ms)),
    )
line_at from (m ∷ ms) (suc i) inside =
    let rest = line_at (from + 1) ms i (omega (arith, inside)) in
    let number : from + 1 + i ≡ from + suc i = omega arith in (
      rest.0,
      subst (λ (k : ℕ). Contains (record { number = from; mutation = m } ∷ numbered (from + 1) ms)
          (record { number = k; mutation = rest.0 })) number
          (further (record { number = from; mutation = m }) (numbered (from + 1) ms)
          (record { number = from + 1 + i; mutation = rest.0 }) rest.1),
    )

-- a line of a share has its entry
entry_at : (k : ℕ) (ls : List Line) (ns : List EntryNote) → AreWritesOf k ls ns → (l : Line)
    → Contains ls l → (n : EntryNote) × Contains ns n × (n.line ≡ l.number)
entry_at k [] [] are l h = absurd (nothing_there l h)
entry_at k [] (n ∷ ns) are l h = absurd are
entry_at k (o ∷ ls) [] are l h = absurd are
entry_at k (o ∷ ls) (n ∷ ns) are l h = elim (first_or_further o ls l h) [
  | inl same ↦ (n, here n ns, are.0.is.told ∙ ap (λ (x : Line). x.number) same)
  | inr more ↦ let rest = entry_at k ls ns are.1 l more in
      (rest.0, further n ns rest.0 rest.1, rest.2)
]

module _ (capacity writers : ℕ) (some : 0 < writers) (mutations : List Mutation)
    (notes : List EntryNote) (h : HoldShares capacity writers mutations notes) where
  pub has_entry : (i : ℕ) → i < length mutations
      → (n : EntryNote) × Contains notes n × (n.line ≡ i + 1)
  has_entry i inside =
      let m = line_at 1 mutations i inside in
      let l : Line = record { number = 1 + i; mutation = m.0 } in
      let k = (1 + i) % writers in
      let mine = in_filter (is_for writers k) (numbered 1 mutations) l m.1 (eq-eqb k k refl) in
      let found = entry_at k (share_of writers k mutations) (filter (is_note_of k) notes)
      (h.shares k (omega (arith, some))) l mine in (
        found.0,
        (from_filter (is_note_of k) notes found.0 found.1).0,
        found.2 ∙ omega arith,
      )

  -- so each place has its line's receipt
  pub has_receipt : (base : ℕ) (receipts : List Receipt) → AreAtTheirLines base notes receipts
      → length receipts ≡ length mutations → (i : ℕ) → i < length receipts
      → HasItsReceipt base notes receipts i
  has_receipt base receipts placed long i inside =
      let n = has_entry i (omega (arith, inside, long)) in
      placed.each n.0 n.1 i n.2 inside

-- ---- receipts as lines

module _ (base capacity : ℕ) (few : capacity ≤ greatest_capacity) (notes : List EntryNote)
    (lawful : IsHistory capacity notes) (history : List LoggedLine)
    (are : AreNotesOf base notes history) where
  -- The receipts of lines from a number on.
  pub record AreReceiptsFrom (from : ℕ) (receipts : List Receipt) : Type 0 where
    pub logged : List LoggedLine
    pub numbers : map number_of logged ≡ range_with_len from (length receipts)
    pub each : (w : LoggedLine) → Contains logged w → Contains history w
    pub receipts_are : receipts ≡ map line_receipt logged

  -- the receipt is that of a logged line
  pub record IsOfLine (number : ℕ) (r : Receipt) : Type 0 where
    pub line : LoggedLine
    pub among : Contains history line
    pub number_is : line.number ≡ number
    pub is : r ≡ line_receipt line

  pub of_line : (number : ℕ) (r : Receipt) (n : EntryNote) → Contains notes n
      → n.line ≡ number → r ≡ receipt_of base n → IsOfLine number r
  of_line number r n among line is =
      let found = line_of_note base notes history are n among in
      let place = is_position base capacity n found.line few (lawful.each n among) found.is in
      record {
        line = found.line;
        among = found.listed;
        number_is = found.is.number ∙ line;
        is = is ∙ (λ i. record {
          line = sym found.is.number i;
          position = sym place i;
        });
      }

  pub receipts_from : (from : ℕ) (receipts : List Receipt)
      → ((i : ℕ) (d : Receipt) → i < length receipts
      → IsOfLine (from + i) (get_or receipts i d)) → AreReceiptsFrom from receipts
  receipts_from from [] each = record {
    logged = [];
    numbers = refl;
    each = λ w h. absurd (nothing_there w h);
    receipts_are = refl;
  }
  receipts_from from (r ∷ rs) all =
      let first = all 0 r (omega arith) in
      let rest = receipts_from (from + 1) rs (λ i d inside.
      subst (λ (k : ℕ). IsOfLine k (get_or rs i d)) (number i)
      (all (suc i) d (omega (arith, inside)))) in
      record {
        logged = first.line ∷ rest.logged;
        numbers = λ i. (first.number_is ∙ zero_more) i ∷ rest.numbers i;
        each = λ w h. elim (first_or_further first.line rest.logged w h) [
          | inl same ↦ subst (λ (v : LoggedLine). Contains history v) same first.among
          | inr more ↦ rest.each w more
        ];
        receipts_are = λ i. first.is i ∷ rest.receipts_are i;
      }
    where
      number : (i : ℕ) → from + suc i ≡ from + 1 + i
      number i = omega arith

      zero_more : from + 0 ≡ from
      zero_more = omega arith
