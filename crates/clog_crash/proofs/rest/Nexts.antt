-- One section more can be stored.
use Rattle.std.proofs.Common.{
  ◌≡◌,
  ℕ,
  ◌+◌,
  ◌<◌,
  ◌≤◌,
  ◌^◌,
  ◌==◌,
  inl,
  inr,
  Bool,
  true,
  false,
  List,
  [],
  ◌∷◌,
  ◌++◌,
  length,
  if◌then◌else◌,
  refl,
  sym,
  ◌∙◌,
  ap,
  subst,
  arith,
  append_assoc,
}
use Rattle.std.specs.Prelude.{Contains}
use Rattle.std.proofs.lemmas.Bool.Decides.{nat_tests}
use Rattle.std.proofs.lemmas.List.{length-append, append-nil}
use Rattle.std.proofs.lemmas.List.Elements.{Contains-append_cases}
use Rattle.clog_spec.specs.Sizes.{front_size, header_size, marker_size}
use Rattle.clog_spec.specs.Crc.{IsBytes}
use Rattle.clog_spec.specs.Segment.{header_bytes, marker_bytes, section_bytes}
use Rattle.clog_spec.proofs.Bytes.{append-IsBytes}
use Rattle.clog_spec.proofs.StoredBytes.{header-IsBytes, marker-IsBytes}
use Rattle.clog_mutation.specs.declared.mutation.Mutation.{Mutation}
use Rattle.clog_mutation.specs.Stored.{IsPayload}
use Rattle.clog_scan.specs.Cut.{
  Section,
  AreLong,
  entries_bytes,
  sections_bytes,
  last_until,
}
use Rattle.clog_scan.specs.Laws.{AreWhole}
use Rattle.clog_scan.specs.Segment.{Entry, entries_from, entries_of}
use Rattle.clog_scan.proofs.Appended.{
  sections_bytes-append,
  entries_of-append,
  whole-append,
  whole_longer,
}
use Rattle.clog_scan.proofs.EntryMembers.{payload_in}
use Rattle.clog_crash.specs.Sections.{
  segment_bytes,
  IsStored,
  Brings,
  next_bytes,
  next_section,
  IsNext,
}
use Rattle.clog_crash.proofs.rest.Sectioned.{ends_at, no_longer_than}
use Rattle.clog_crash.proofs.torn.Whole.{until_grows}

-- ---- how it is spelled

-- behind sections there is no header
no_header : (id size : ℕ) (entries : List ℕ) → header_size ≤ size
    → next_bytes id size entries ≡ section_bytes id size entries
no_header id size entries long =
    let test : (size == 0) ≡ false = grind (arith, nat_tests) in
    ap (λ (b : Bool). if b then header_bytes id ++ section_bytes id header_size entries
    else section_bytes id size entries) test

spelled_next : (id : ℕ) (ss : List Section) (payloads : List (List ℕ)) → IsStored id ss
    → segment_bytes id ss
    ++ next_bytes id (length (segment_bytes id ss)) (entries_bytes payloads)
    ≡ segment_bytes id (ss ++ next_section ss payloads ∷ [])
spelled_next id [] payloads st =
    let e = entries_bytes payloads in
    ap (λ (l : List ℕ). header_bytes id ++ (marker_bytes id header_size
    (front_size + length e) ++ l))
    (sym (append-nil e))
spelled_next id (s ∷ ss) payloads st =
    let all = s ∷ ss in
    let w = segment_bytes id all in
    let e = entries_bytes payloads in
    let at = last_until header_size all in
    let sec = next_section all payloads in
    let size : length w ≡ at = ends_at id (length w) s ss st.whole in
    let behind = no_header id (length w) e
    (omega (arith, size, until_grows (length w) header_size all st.whole)) in
    let here : section_bytes id (length w) e ≡ sections_bytes id at (sec ∷ []) =
    ap (λ k. marker_bytes id k (k + marker_size + length e) ++ e) size
    ∙ ap (λ l. marker_bytes id at (at + marker_size + length e) ++ l) (sym (append-nil e)) in
    ap (λ l. w ++ l) (behind ∙ here)
    ∙ append_assoc (header_bytes id) (sections_bytes id header_size all) (sections_bytes id at
    (sec ∷ []))
    ∙ ap (λ l. header_bytes id ++ l) (sym (sections_bytes-append id header_size all (sec ∷ [])))

-- where it ends
length_next : (id : ℕ) (ss : List Section) (payloads : List (List ℕ)) → IsStored id ss
    → length (next_bytes id (length (segment_bytes id ss)) (entries_bytes payloads))
    + length (segment_bytes id ss) ≡ (next_section ss payloads).until
length_next id [] payloads st = omega (
  arith,
  length-append (header_bytes id) (section_bytes id header_size (entries_bytes payloads)),
  length-append (marker_bytes id header_size (front_size + length (entries_bytes payloads)))
      (entries_bytes payloads),
)
length_next id (s ∷ ss) payloads st =
    let w = segment_bytes id (s ∷ ss) in
    let e = entries_bytes payloads in
    let size = ends_at id (length w) s ss st.whole in
    let behind = no_header id (length w) e
    (omega (arith, size, until_grows (length w) header_size (s ∷ ss) st.whole)) in
    omega (
      arith,
      ap length behind,
      size,
      length-append (marker_bytes id (length w) (length w + marker_size + length e)) e,
    )

ends_near : (id : ℕ) (ss : List Section) → IsStored id ss
    → last_until header_size ss ≤ length (segment_bytes id ss) + header_size
ends_near id [] st = omega arith
ends_near id (s ∷ ss) st =
    omega (arith, ends_at id (length (segment_bytes id (s ∷ ss))) s ss st.whole)

-- ---- it is stored

module _ (id : ℕ) (ss : List Section) (payloads : List (List ℕ)) (bytes : List ℕ)
    (stored : IsStored id ss) (fits : IsBytes bytes)
    (are : bytes ≡ next_bytes id (length (segment_bytes id ss)) (entries_bytes payloads))
    (long : AreLong payloads)
    (said : (payload : List ℕ) → Contains payloads payload
    → (mutation : Mutation) × IsPayload payload mutation)
    (room : length (segment_bytes id ss) + front_size + length
    (entries_bytes payloads) < 2 ^ 31) where
  abbrev sec : Section
  sec = next_section ss payloads

  abbrev now : List Section
  now = ss ++ sec ∷ []

  pub spelled_now : segment_bytes id ss ++ bytes ≡ segment_bytes id now
  spelled_now =
      ap (λ (l : List ℕ). segment_bytes id ss ++ l) are ∙ spelled_next id ss payloads stored

  length_is : length (segment_bytes id now) ≡ sec.until
  length_is = omega (
    arith,
    ap length spelled_now,
    ap length are,
    length-append (segment_bytes id ss) bytes,
    length_next id ss payloads stored,
  )

  new_whole : AreWhole (length (segment_bytes id now)) (last_until header_size ss) (sec ∷ [])
  new_whole = (
    record {
      behind = omega arith;
      within = omega (arith, length_is);
      fits = omega arith;
      least = long;
    },
    refl,
    tt,
  )

  pub stored_next : IsStored id now
  stored_next = record {
    fits = stored.fits;
    short = omega (arith, length_is, ends_near id ss stored, room);
    bytes = subst IsBytes spelled_now
        (append-IsBytes (segment_bytes id ss) bytes stored.bytes fits);
    whole = whole-append (length (segment_bytes id now)) header_size ss (sec ∷ [])
        (whole_longer (length (segment_bytes id ss)) (length (segment_bytes id now)) header_size ss
        (no_longer_than id ss (sec ∷ [])) stored.whole) new_whole;
    said = λ entry h.
        elim (Contains-append_cases (entries_of header_size ss) (entries_of
        (last_until header_size ss) (sec ∷ []))
        entry (subst (λ (es : List Entry). Contains es entry)
        (entries_of-append header_size ss (sec ∷ [])) h)) [
          | inl before ↦ stored.said entry before
          | inr new ↦ said entry.payload (payload_in
              (last_until header_size ss + marker_size) payloads entry
              (subst (λ (es : List Entry). Contains es entry)
              (append-nil (entries_from (last_until header_size ss + marker_size) payloads)) new))
        ];
  }

pub brings_next : (id : ℕ) (old kept : List Section) (payloads : List (List ℕ)) (size : ℕ)
    (bytes : List ℕ) → IsStored id (old ++ kept) → IsBytes bytes
    → IsNext id old kept payloads size bytes
    → Brings id old kept (next_section (old ++ kept) payloads ∷ []) bytes
brings_next id old kept payloads size bytes stored fits next =
    let ss = old ++ kept in
    let sec = next_section ss payloads in
    let are : bytes ≡ next_bytes id (length (segment_bytes id ss)) (entries_bytes payloads) =
    next.bytes_are ∙ ap (λ (k : ℕ). next_bytes id k (entries_bytes payloads)) next.size_is in
    let room : length (segment_bytes id ss) + front_size + length
    (entries_bytes payloads) < 2 ^ 31 =
    omega (arith, next.room, next.size_is) in
    let same : ss ++ sec ∷ [] ≡ old ++ (kept ++ sec ∷ []) = append_assoc old kept (sec ∷ []) in
    record {
      spelled = spelled_now id ss payloads bytes stored fits are next.long next.said room
          ∙ ap (segment_bytes id) same;
      stored = subst (IsStored id) same
          (stored_next id ss payloads bytes stored fits are next.long next.said room);
    }

-- ---- its bytes are bytes

of_section : (id at : ℕ) (entries : List ℕ) → IsBytes entries
    → IsBytes (section_bytes id at entries)
of_section id at entries fits =
    append-IsBytes (marker_bytes id at (at + marker_size + length entries)) entries
    (marker-IsBytes id at (at + marker_size + length entries)) fits

either_bytes : (b : Bool) (xs ys : List ℕ) → IsBytes xs → IsBytes ys
    → IsBytes (if b then xs else ys)
either_bytes true xs ys p q = p
either_bytes false xs ys p q = q

pub next-IsBytes : (id size : ℕ) (entries : List ℕ) → IsBytes entries
    → IsBytes (next_bytes id size entries)
next-IsBytes id size entries fits =
    either_bytes (size == 0) (header_bytes id ++ section_bytes id header_size entries)
    (section_bytes id size entries)
    (append-IsBytes (header_bytes id) (section_bytes id header_size entries) (header-IsBytes id)
    (of_section id header_size entries fits))
    (of_section id size entries fits)
