use Rattle.std.proofs.Common.{
  ◌≡◌,
  ◌⊎◌,
  ℕ,
  ◌≤◌,
  ◌<◌,
  inl,
  inr,
  List,
  [],
  ◌∷◌,
  ◌++◌,
  length,
  refl,
  sym,
  ◌∙◌,
  ap,
  subst,
  arith,
  append-nil,
  length-append,
}
use Rattle.std.specs.List.{Contains}
use Rattle.clog_spec.specs.Names.{segment_name_of}
use Rattle.clog_spec.specs.Segment.{header_bytes, marker_bytes}
use Rattle.clog_spec.proofs.Lengths.{length-marker_bytes}
use Rattle.clog_base.proofs.Members.{first_or_further, further, here, only_one}
use Rattle.clog_scan.specs.Cut.{Section, entries_bytes}
use Rattle.clog_crash.specs.Grown.{Append, grown}
use Rattle.clog_crash.specs.Log.{Write}
use Rattle.clog_crash.specs.Sections.{segment_bytes}
use Rattle.clog_crash.proofs.changes.Names.{one_id}
use Rattle.clog_crash.proofs.counts.Growing.{grown_elsewhere, grown_here}
use Rattle.clog_closing.specs.Worked.{brings, two_segments}
use Rattle.clog_closing.specs.Written.{IsWrittenBy, LacksLast}
use Rattle.clog_closing.proofs.rows.the_last_segment_alone_is_torn.Goals as goal

abbrev name : ℕ → List ℕ
name id = segment_name_of 6 id

apart : name 1001 ≡ name 1000 → ⊥
apart same =
    let ids : 1001 ≡ 1000 = one_id 1000 1001 (omega arith) (omega arith) same in
    omega (arith, ids)

-- what holds of both of two
both : {A : Type 0} (P : A → Type 0) (x y : A) → P x → P y → (z : A)
    → Contains (x ∷ y ∷ []) z → P z
both P x y one other z among = elim (first_or_further x (y ∷ []) z among) [
  | inl same ↦ subst P same one
  | inr more ↦ subst P (only_one y z more) other
]

-- ---- what two appends bring

grows_first : (a b : List ℕ) → grown ((name 1000, a) ∷ (name 1001, b) ∷ []) (name 1000) ≡ a
grows_first a b =
    grown_here (name 1000) a ((name 1001, b) ∷ [])
    ∙ ap (λ (l : List ℕ). a ++ l) (grown_elsewhere (name 1001) (name 1000) b [] apart)
    ∙ append-nil a

grows_second : (a b : List ℕ) → grown ((name 1000, a) ∷ (name 1001, b) ∷ []) (name 1001) ≡ b
grows_second a b =
    grown_elsewhere (name 1000) (name 1001) a ((name 1001, b) ∷ []) (λ same. apart (sym same))
    ∙ grown_here (name 1001) b [] ∙ append-nil b

-- a second section makes a segment longer
longer : (id : ℕ) (one two : Section)
    → segment_bytes id (one ∷ []) ≡ segment_bytes id (one ∷ two ∷ []) → ⊥
longer id one two same =
    let head = header_bytes id in
    let mark = marker_bytes id 20 one.until in
    let entries = entries_bytes one.payloads in
    let next = marker_bytes id one.until two.until in
    let rest = next ++ (entries_bytes two.payloads ++ []) in
    omega (
      arith,
      ap length same,
      length-append head (mark ++ (entries ++ [])),
      length-append mark (entries ++ []),
      length-append entries [],
      length-append head (mark ++ (entries ++ rest)),
      length-append mark (entries ++ rest),
      length-append entries rest,
      length-append next (entries_bytes two.payloads ++ []),
      length-marker_bytes id one.until two.until,
    )

module _ (one two : Section) where
  abbrev first : Write
  first = record { id = 1000; sections = one ∷ two ∷ [] }

  abbrev second : Write
  second = record { id = 1001; sections = one ∷ two ∷ [] }

  -- each of two appends is one to a segment of these
  only_two : (a b : List ℕ) (x : Append) → Contains ((name 1000, a) ∷ (name 1001, b) ∷ []) x
      → (w : Write) × Contains (two_segments one two) w × (0 < length w.sections)
      × (x.0 ≡ name w.id)
  only_two a b = both (λ (x : Append). (w : Write) × Contains (two_segments one two) w
      × (0 < length w.sections) × (x.0 ≡ name w.id)) (name 1000, a) (name 1001, b)
      (first, here first (second ∷ []), omega arith, refl)
      (second, further first (second ∷ []) second (here second []), omega arith, refl)

  -- the first is there whole, and the second so
  brought : (bytes : List ℕ)
      → ((bytes ≡ segment_bytes 1001 (one ∷ two ∷ []))
      ⊎ LacksLast (two_segments one two) second bytes)
      → IsWrittenBy (brings 1000 (one ∷ two ∷ []) ∷ (name 1001, bytes) ∷ [])
      (two_segments one two)
  brought bytes is =
      let all = segment_bytes 1000 (one ∷ two ∷ []) in
      let appends = (name 1000, all) ∷ (name 1001, bytes) ∷ [] in
      let At : Write → Type 0 = λ (w : Write). (grown appends (name w.id)
      ≡ segment_bytes w.id w.sections)
      ⊎ LacksLast (two_segments one two) w (grown appends (name w.id)) in
      record {
        each = both At first second (inl (grows_first all bytes))
            (subst (λ (l : List ℕ). (l ≡ segment_bytes 1001 (one ∷ two ∷ []))
            ⊎ LacksLast (two_segments one two) second l) (sym (grows_second all bytes)) is);
        only = only_two all bytes;
      }

pub returns-clause-whole : goal.returns-clause-whole
returns-clause-whole g one two = brought one two (segment_bytes 1001 (one ∷ two ∷ [])) (inl refl)

pub returns-clause-second : goal.returns-clause-second
returns-clause-second g one two =
    brought one two (segment_bytes 1001 (one ∷ [])) (inr (record {
      front = one ∷ [];
      torn = two;
      sections_are = refl;
      bytes_are = refl;
      last = both (λ (other : Write). other.id ≤ 1001) (first one two) (second one two)
          (omega arith) (omega arith);
    }))

pub returns-clause-first : goal.returns-clause-first
returns-clause-first g one two = λ held.
    let some = segment_bytes 1000 (one ∷ []) in
    let all = segment_bytes 1001 (one ∷ two ∷ []) in
    elim (held.each (first one two) (here (first one two) (second one two ∷ []))) [
      | inl whole ↦ longer 1000 one two (sym (grows_first some all) ∙ whole)
      | inr lacks ↦
          let low = lacks.last (second one two) (further (first one two) (second one two ∷ [])
          (second one two) (here (second one two) [])) in
          omega (arith, low)
    ]
