-- The bytes of a segment with sections, and which entries are logged where they stand.
use Rattle.std.proofs.Common.{
  ◌≡◌,
  ℕ,
  ◌+◌,
  ◌<◌,
  ◌≤◌,
  ◌^◌,
  inl,
  inr,
  List,
  [],
  ◌∷◌,
  ◌++◌,
  length,
  refl,
  sym,
  ◌∙◌,
  ap,
  subst,
  arith,
  append_assoc,
}
use Rattle.std.specs.Prelude.{Contains, ◌↔◌}
use Rattle.std.proofs.lemmas.List.{length-append}
use Rattle.std.proofs.lemmas.List.Elements.{Contains-append_left, Contains-append_cases}
use Rattle.clog_spec.specs.Sizes.{frame_size, header_size, marker_size}
use Rattle.clog_spec.specs.Crc.{IsBytes}
use Rattle.clog_spec.specs.Names.{segment_name_of}
use Rattle.clog_spec.specs.Segment.{header_bytes}
use Rattle.clog_spec.proofs.Bytes.{front-IsBytes}
use Rattle.clog_base.proofs.Members.{nothing_there, first_or_further}
use Rattle.clog_scan.specs.declared.answer.End.{End}
use Rattle.clog_scan.specs.declared.answer.End.TheVariants.{Clean}
use Rattle.clog_scan.specs.Cut.{Section, sections_bytes, last_until}
use Rattle.clog_scan.specs.Laws.{AreWhole, IsFile}
use Rattle.clog_scan.specs.Segment.{Entry, entry_from, entries_from, entries_of, IsSegment}
use Rattle.clog_scan.proofs.Appended.{sections_bytes-append, entries_of-append}
use Rattle.clog_scan.proofs.Theorems.{one_segment}
use Rattle.clog_scan.proofs.Written.{written, whole_until}
use Rattle.clog_crash.specs.Readings.{Reading, IsLoggedIn}
use Rattle.clog_crash.specs.Sections.{segment_bytes, IsStored}
use Rattle.clog_crash.proofs.changes.Nothing.{none_logged}
use Rattle.clog_crash.proofs.torn.Whole.{whole_front}

-- ---- the bytes

-- the bytes of the first sections, and what stands behind them
pub begins_with : (id : ℕ) (ss more : List Section)
    → (rest : List ℕ) × (segment_bytes id (ss ++ more) ≡ segment_bytes id ss ++ rest)
begins_with id [] more = (segment_bytes id more, refl)
begins_with id (s ∷ ss) more =
    let rest = sections_bytes id (last_until header_size (s ∷ ss)) more in (
      rest,
      ap (λ (l : List ℕ). header_bytes id ++ l) (sections_bytes-append id header_size (s ∷ ss) more)
          ∙ sym (append_assoc (header_bytes id) (sections_bytes id header_size (s ∷ ss)) rest),
    )

pub no_longer_than : (id : ℕ) (ss more : List Section)
    → length (segment_bytes id ss) ≤ length (segment_bytes id (ss ++ more))
no_longer_than id ss more =
    let parts = begins_with id ss more in
    omega (arith, ap length parts.1, length-append (segment_bytes id ss) parts.0)

-- where the sections end
pub ends_at : (id len : ℕ) (s : Section) (ss : List Section) → AreWhole len header_size (s ∷ ss)
    → length (segment_bytes id (s ∷ ss)) ≡ last_until header_size (s ∷ ss)
ends_at id len s ss whole =
    omega (
      arith,
      length-append (header_bytes id) (sections_bytes id header_size (s ∷ ss)),
      whole_until id len header_size (s ∷ ss) whole,
    )

whole_itself : (id len : ℕ) (ss more : List Section) → AreWhole len header_size (ss ++ more)
    → AreWhole (length (segment_bytes id ss)) header_size ss
whole_itself id len [] more whole = tt
whole_itself id len (s ∷ ss) more whole =
    let here = whole_front len (last_until header_size (s ∷ ss)) header_size (s ∷ ss) more whole
    (omega arith) in
    whole_front len (length (segment_bytes id (s ∷ ss))) header_size (s ∷ ss) more whole
    (omega (arith, ends_at id (last_until header_size (s ∷ ss)) s ss here))

-- the first sections can be stored too
pub stored_front : (id : ℕ) (ss more : List Section) → IsStored id (ss ++ more) → IsStored id ss
stored_front id ss more st =
    let parts = begins_with id ss more in
    record {
      fits = st.fits;
      short = omega (arith, st.short, no_longer_than id ss more);
      bytes = front-IsBytes (segment_bytes id ss) parts.0 (subst IsBytes parts.1 st.bytes);
      whole = whole_itself id (length (segment_bytes id (ss ++ more))) ss more st.whole;
      said = λ entry h. st.said entry
          (subst (λ (es : List Entry). Contains es entry) (sym
          (entries_of-append header_size ss more))
          (Contains-append_left (entries_of header_size ss) (entries_of
          (last_until header_size ss) more) entry h));
    }

pub is_file : (id : ℕ) (ss : List Section) → IsStored id ss → IsFile (segment_bytes id ss)
is_file id ss st = record { are_bytes = st.bytes; short = st.short }

pub stored_holds : (id : ℕ) (s : Section) (ss : List Section) → IsStored id (s ∷ ss)
    → IsSegment (segment_bytes id (s ∷ ss)) id (entries_of header_size (s ∷ ss))
    (Clean (length (segment_bytes id (s ∷ ss))))
stored_holds id s ss st =
    written (segment_bytes id (s ∷ ss)) id (s ∷ ss) (is_file id (s ∷ ss) st) refl st.whole

-- ---- what is logged

-- what is logged is what the bytes hold
pub logged_are : (r : Reading) (id : ℕ) (bytes : List ℕ) (entries : List Entry) (end : End)
    → id < 2 ^ 63 → IsFile bytes → r (segment_name_of 6 id) ≡ bytes
    → IsSegment bytes id entries end → (entry : Entry)
    → IsLoggedIn r id entry ↔ Contains entries entry
logged_are r id bytes entries end fits file is holds entry = (
  λ l. let one = one_segment bytes id l.entries l.end entries end file (omega (arith, fits))
      (subst (λ (b : List ℕ). IsSegment b id l.entries l.end) is l.holds) holds in
      subst (λ (es : List Entry). Contains es entry) one.entries_are l.listed,
  λ h. record {
    fits = fits;
    entries = entries;
    end = end;
    holds = subst (λ (b : List ℕ). IsSegment b id entries end) (sym is) holds;
    listed = h;
  },
)

-- no bytes hold no entries
pub nothing_logged_in : (r : Reading) (id : ℕ) (entry : Entry)
    → r (segment_name_of 6 id) ≡ [] → IsLoggedIn r id entry → ⊥
nothing_logged_in r id entry none l =
    none_logged id l.entries l.end (r (segment_name_of 6 id)) none l.holds entry l.listed

-- what is logged where these sections stand
pub logged_of : (r : Reading) (id : ℕ) (ss : List Section) → IsStored id ss
    → r (segment_name_of 6 id) ≡ segment_bytes id ss → (entry : Entry)
    → IsLoggedIn r id entry ↔ Contains (entries_of header_size ss) entry
logged_of r id [] st is entry = (
  λ l. absurd (nothing_logged_in r id entry is l),
  λ h. absurd (nothing_there entry h),
)
logged_of r id (s ∷ ss) st is entry =
    logged_are r id (segment_bytes id (s ∷ ss)) (entries_of header_size (s ∷ ss))
    (Clean (length (segment_bytes id (s ∷ ss)))) st.fits (is_file id (s ∷ ss) st) is
    (stored_holds id s ss st) entry

-- ---- where entries end

starts_above : (at : ℕ) (ps : List (List ℕ)) (e : Entry) → Contains (entries_from at ps) e
    → at + frame_size ≤ e.end
starts_above at [] e h = absurd (nothing_there e h)
starts_above at (p ∷ ps) e h =
    elim (first_or_further (entry_from at p) (entries_from (at + frame_size + length p) ps) e h) [
      | inl here ↦ omega (arith, ap (λ (x : Entry). x.end) here)
      | inr more ↦ omega (arith, starts_above (at + frame_size + length p) ps e more)
    ]

-- each entry ends behind the first marker
pub end_above : (len at : ℕ) (ss : List Section) (e : Entry) → AreWhole len at ss
    → Contains (entries_of at ss) e → at + marker_size < e.end
end_above len at [] e whole h = absurd (nothing_there e h)
end_above len at (s ∷ ss) e whole h =
    elim (Contains-append_cases (entries_from (at + marker_size) s.payloads)
    (entries_of s.until ss) e h) [
      | inl here ↦ omega (arith, starts_above (at + marker_size) s.payloads e here)
      | inr more ↦ omega (arith, whole.0.behind, end_above len s.until ss e whole.2 more)
    ]
