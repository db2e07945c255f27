-- A segment whose last sections are torn reads as the old entries and the first of the new ones.
use Rattle.std.proofs.Common.{
  ◌≡◌,
  ℕ,
  ◌+◌,
  ◌<◌,
  ◌≤◌,
  ◌^◌,
  inl,
  inr,
  List,
  [],
  ◌∷◌,
  ◌++◌,
  length,
  take,
  drop,
  Result,
  Ok,
  Err,
  Some,
  refl,
  sym,
  ◌∙◌,
  ap,
  subst,
  arith,
}
use Rattle.std.specs.Prelude.{Contains}
use Rattle.std.proofs.Math.Seq.{drop-append_seam}
use Rattle.std.proofs.lemmas.List.{length-append}
use Rattle.std.proofs.lemmas.List.Elements.{Contains-append_cases}
use Rattle.clog_spec.specs.Sizes.{frame_size, header_size, marker_size}
use Rattle.clog_entry.specs.declared.cause.Cause.{Cause}
use Rattle.clog_entry.specs.Reading.{header_read}
use Rattle.clog_entry.specs.Soft.{IsSoft, PassesAsHeader}
use Rattle.clog_entry.specs.Spelled.{IsHeaderAt}
use Rattle.clog_entry.proofs.Causes.{header_refused}
use Rattle.clog_entry.proofs.HeaderLaws.{header_found, header_again}
use Rattle.clog_scan.specs.declared.answer.End.TheVariants.{Torn}
use Rattle.clog_scan.specs.Cut.{Section, front_bytes, last_until, IsFront}
use Rattle.clog_scan.specs.Laws.{IsFile, AreWhole}
use Rattle.clog_scan.specs.Segment.{Entry, entry_from, entries_of, IsSegment}
use Rattle.clog_scan.proofs.Appended.{entries_of-append}
use Rattle.clog_scan.proofs.Behind.{held_from-append}
use Rattle.clog_scan.proofs.Sections.{items_of, held_from-items_of}
use Rattle.clog_scan.proofs.Theorems.{
  front_way,
  front_header,
  header_long,
  segment_by_way,
  segment_without_header,
}
use Rattle.clog_scan.proofs.Trace.{Item, Marked, Held, Trace, held_from}
use Rattle.clog_scan.proofs.Written.{whole_sections, whole_until}
use Rattle.clog_crash.specs.Chance.{marks_of, NoChance}
use Rattle.clog_crash.specs.Tail.{Written, Begins, ReadsFirst}
use Rattle.clog_crash.proofs.torn.Marks.{
  marks_from-items_of,
  marks_of-append,
  marks_below,
  held_below,
}
use Rattle.clog_crash.proofs.torn.Reading.{reads, MarksAmong, EntriesAmong}
use Rattle.clog_crash.proofs.torn.Whole.{whole_front, whole_back}

-- a header that is refused is so for a soft cause, where what passes as one is the segment's
header_soft : (bytes : List ℕ) (id : ℕ) (cause : Cause) → id < 2 ^ 64
    → (PassesAsHeader bytes → IsHeaderAt bytes id) → header_read bytes id ≡ Err cause
    → IsSoft cause
header_soft bytes id cause fits own refused = elim (header_refused bytes id cause refused) [
  | inl soft ↦ soft
  | inr right ↦ let there = header_again bytes id fits (own right.1) in absurd cc
]

-- a way behind another
joined_way : (bytes : List ℕ) (id at until : ℕ) (items more : List Item)
    (mid mid_until place end : ℕ) → Trace bytes id at until items mid mid_until
    → Trace bytes id mid mid_until more place end
    → Trace bytes id at until (items ++ more) place end
joined_way bytes id at until [] more mid mid_until place end one other =
    let Goes : ℕ → ℕ → Type 0 = λ a u. Trace bytes id a u more place end in
    subst (λ a. Goes a until) (sym one.0) (subst (Goes mid) (sym one.1) other)
joined_way bytes id at until (Marked next ∷ items) more mid mid_until place end one other = (
  one.0,
  one.1,
  joined_way bytes id (at + marker_size) next items more mid mid_until place end one.2 other,
)
joined_way bytes id at until (Held p ∷ items) more mid mid_until place end one other = (
  one.0,
  one.1,
  joined_way bytes id (at + frame_size + length p) until items more mid mid_until place end one.2
      other,
)

-- ---- behind old sections that stand

module _ (id : ℕ) (old new : List Section) (image : List ℕ) (file : IsFile image) (end : ℕ)
    (whole : AreWhole end header_size (old ++ new)) (no_chance : NoChance id
    (old ++ new) image) where
  abbrev at : ℕ
  at = last_until header_size old

  whole_old : AreWhole at header_size old
  whole_old = whole_front end at header_size old new whole (omega arith)

  whole_new : AreWhole end at new
  whole_new = whole_back end header_size old new whole

  marks : MarksAmong image id at (items_of new)
  marks q next far reached is =
      let among = no_chance.marker q next reached is in
      subst (λ (ms : List ℕ). Contains ms q) (sym (marks_from-items_of end at new whole_new))
      (elim (Contains-append_cases (marks_of header_size old) (marks_of at new) q
      (subst (λ (ms : List ℕ). Contains ms q) (marks_of-append header_size old new) among)) [
        | inl before ↦ absurd (omega (
          arith,
          far,
          marks_below at header_size old q whole_old
              before,
        ))
        | inr here ↦ here
      ])

  entries_are : held_from at (items_of new) ≡ entries_of at new
  entries_are = held_from-items_of end at new (whole_sections end at new whole_new)

  entries : EntriesAmong image id at (items_of new)
  entries q until p far less reached is =
      let among = no_chance.entry q until p less reached is in
      subst (λ (es : List Entry). Contains es (entry_from q p)) (sym entries_are)
      (elim (Contains-append_cases (entries_of header_size old) (entries_of at new) (entry_from q p)
      (subst (λ (es : List Entry). Contains es (entry_from q p))
      (entries_of-append header_size old new)
      among)) [
        | inl before ↦
            absurd (omega (
              arith,
              far,
              held_below at header_size old
                  (entry_from q p) whole_old before,
            ))
        | inr here ↦ here
      ])

  from_there : IsHeaderAt image id → at ≤ length image
      → Trace image id header_size header_size (items_of old) at at
      → held_from header_size (items_of old) ≡ entries_of header_size old
      → ReadsFirst id old new image
  from_there header long way old_are =
      let r = reads image id at at (items_of old) (items_of new) file header (omega arith) long way
      marks entries in
      let all = joined_way image id header_size header_size
      (items_of old) r.items at at r.place r.end way r.way in
      let are : held_from header_size (items_of old ++ r.items)
      ≡ entries_of header_size old ++ take r.n (entries_of at new) =
      held_from-append image id header_size header_size (items_of old) r.items at at way
      ∙ ap (λ (es : List Entry). es ++ held_from at r.items) old_are
      ∙ ap (λ (es : List Entry). entries_of header_size old ++ es) (r.first
      ∙ ap (take r.n) entries_are) in
      record {
        end = r.stop;
        n = r.n;
        some = omega (arith, r.some, ap length entries_are);
        holds = subst (λ (es : List Entry). IsSegment image id es r.stop) are
            (segment_by_way image id (items_of old ++ r.items) r.place r.end r.stop file header
            all r.stops);
        soft = r.soft;
      }

  behind_old : (rest : List ℕ) → image ≡ front_bytes id (Some old) ++ rest
      → ReadsFirst id old new image
  behind_old rest is =
      let front = front_bytes id (Some old) in
      let size : length front ≡ at = omega (arith, whole_until id at header_size old whole_old) in
      let long : length front ≤ length image =
      omega (arith, ap length is, length-append front rest) in
      let cut : drop (length front) image ≡ rest =
      ap (drop (length front)) is ∙ drop-append_seam front rest in
      let old_sections = whole_sections (length image) header_size old
      (whole_front end (length image) header_size old new whole (omega (arith, size, long))) in
      let front_is : IsFront image id (Some old) = record {
        cut = is ∙ ap (λ (l : List ℕ). front ++ l) (sym cut);
        sections = old_sections;
      } in
      from_there (front_header image id old front_is) (omega (arith, size, long))
      (subst (λ (k : ℕ). Trace image id header_size header_size (items_of old) k at) size
      (front_way image id old front_is))
      (held_from-items_of (length image) header_size old old_sections)

-- ---- where nothing lasts

anew : (id : ℕ) (new : List Section) (image : List ℕ) (end : ℕ) → id < 2 ^ 64 → IsFile image
    → AreWhole end header_size new → NoChance id new image
    → (read : Result Unit Cause) → header_read image id ≡ read → ReadsFirst id [] new image
unfolding items_of
anew id new image end fits file whole no_chance (Ok there) is =
    let header = header_found image id file.are_bytes is in
    from_there id [] new image file end whole no_chance header (header_long image id header)
    (refl, refl) refl
anew id new image end fits file whole no_chance (Err cause) is = record {
  end = Torn 0 cause;
  n = 0;
  some = omega arith;
  holds = segment_without_header image id cause fits is;
  soft = header_soft image id cause fits no_chance.header is;
}

pub torn : (id : ℕ) (old new : List Section) (image : List ℕ) → id < 2 ^ 64 → IsFile image
    → Written old new → Begins id old image → NoChance id (old ++ new) image
    → ReadsFirst id old new image
torn id old new image fits file w (inl begins) no_chance =
    behind_old id old new image file w.end w.whole no_chance begins.0 begins.1
torn id old new image fits file w (inr none) no_chance =
    let IsSo : List Section → Type 0 = λ ss. AreWhole w.end header_size (ss ++ new)
    → NoChance id (ss ++ new) image → ReadsFirst id ss new image in
    subst IsSo (sym none) (λ whole chance. anew id new image w.end fits file whole chance
    (header_read image id) refl) w.whole no_chance
