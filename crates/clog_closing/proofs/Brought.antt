-- What was appended are the segments of a log, but perhaps for the last section of the last one.
use Rattle.std.proofs.Common.{
  ◌≡◌,
  ◌⊎◌,
  ℕ,
  ◌<◌,
  ◌≤◌,
  inl,
  inr,
  List,
  [],
  ◌∷◌,
  length,
  refl,
  sym,
  ◌∙◌,
  ap,
  subst,
  arith,
  length-append,
}
use Rattle.std.specs.List.{Contains}
use Rattle.std.proofs.lemmas.List.Elements.{
  Contains-append_cases,
  Contains-append_left,
  Contains-append_right,
}
use Rattle.clog_spec.specs.Names.{segment_name_of}
use Rattle.clog_base.proofs.Members.{only_one}
use Rattle.clog_scan.specs.Cut.{Section}
use Rattle.clog_crash.specs.Grown.{Append, grown}
use Rattle.clog_crash.specs.Log.{Write}
use Rattle.clog_crash.specs.Sections.{segment_bytes}
use Rattle.clog_segments.specs.Grows.{AreBrought, IsGrown, segments_with}
use Rattle.clog_segments.specs.Life.{State}
use Rattle.clog_closing.specs.Written.{IsWrittenBy, LacksLast}

module _ {D : Type 0} (log : State D) (part : List Section) (appends : List Append)
    (brought : AreBrought log part) (grows : IsGrown appends log.past log.id part) where
  abbrev hand : List Section → Write
  hand sections = record { id = log.id; sections = sections }

  in_hand : (sections : List Section)
      → Contains (segments_with log.past log.id sections) (hand sections)
  in_hand sections =
      Contains-append_right log.past (hand sections ∷ []) (hand sections) (0, omega arith, refl)

  -- it is the last one
  is_last : (other : Write)
      → Contains (segments_with log.past log.id log.sections) other → other.id ≤ log.id
  is_last other listed =
      elim (Contains-append_cases log.past (hand log.sections ∷ []) other listed) [
        | inl past ↦ let below = grows.below other past in omega (arith, below)
        | inr last ↦
            let same : log.id ≡ other.id =
            ap (λ (v : Write). v.id) (only_one (hand log.sections) other last) in
            omega (arith, same)
      ]

  abbrev its_bytes : List ℕ
  its_bytes = grown appends (segment_name_of 6 log.id)

  -- all that it holds was appended, or all but its last section
  in_part : (its_bytes ≡ segment_bytes log.id log.sections)
      ⊎ LacksLast (segments_with log.past log.id log.sections) (hand log.sections) its_bytes
  in_part =
      let has = grows.each (hand part) (in_hand part) in
      elim brought [
        | inl same ↦ inl (has ∙ ap (segment_bytes log.id) (sym same))
        | inr torn ↦ inr (record {
          front = part;
          torn = torn.0;
          sections_are = torn.1;
          bytes_are = has;
          last = is_last;
        })
      ]

  some : 0 < length part → 0 < length log.sections
  some has = elim brought [
    | inl same ↦ let long = ap length same in omega (arith, long, has)
    | inr torn ↦
        let long = ap length torn.1 in
        let more = length-append part (torn.0 ∷ []) in
        omega (arith, long, more, has)
  ]

  pub written_by : IsWrittenBy appends (segments_with log.past log.id log.sections)
  written_by = record {
    each = λ w listed.
        elim (Contains-append_cases log.past (hand log.sections ∷ []) w listed) [
          | inl past ↦
              inl (grows.each w (Contains-append_left log.past (hand part ∷ []) w past))
          | inr last ↦
              subst (λ (v : Write). (grown appends (segment_name_of 6 v.id)
              ≡ segment_bytes v.id v.sections)
              ⊎ LacksLast (segments_with log.past log.id log.sections) v
              (grown appends (segment_name_of 6 v.id)))
              (only_one (hand log.sections) w last) in_part
        ];
    only = λ a listed.
        let o = grows.only a listed in
        elim (Contains-append_cases log.past (hand part ∷ []) o.0 o.1) [
          | inl past ↦ (
            o.0,
            Contains-append_left log.past (hand log.sections ∷ []) o.0 past,
            o.2,
            o.3,
          )
          | inr last ↦
              let is = sym (only_one (hand part) o.0 last) in (
                hand log.sections,
                in_hand log.sections,
                some (subst (λ (v : Write). 0 < length v.sections) is o.2),
                o.3 ∙ ap (λ (v : Write). segment_name_of 6 v.id) is,
              )
        ];
  }
