-- For which causes segments are torn.
use Rattle.std.proofs.Common.{
  ◌≡◌,
  ℕ,
  ◌^◌,
  ◌<◌,
  ◌⊎◌,
  inl,
  inr,
  List,
  Option,
  Some,
  None,
  subst,
  length,
}
use Rattle.clog_entry.specs.declared.cause.Cause.{Cause}
use Rattle.clog_entry.specs.declared.cause.Cause.TheVariants.{Version, Parameters, HeaderId}
use Rattle.clog_entry.specs.Soft.{IsSoft, IsOfHeader}
use Rattle.clog_entry.specs.Spelled.{IsHeaderAt}
use Rattle.clog_entry.proofs.Causes.{header_refused, marker_soft, entry_soft}
use Rattle.clog_entry.proofs.HeaderLaws.{header_again}
use Rattle.clog_scan.specs.declared.answer.End.TheVariants.{Torn}
use Rattle.clog_scan.specs.Cut.{Section, front_bytes, last_until}
use Rattle.clog_scan.specs.Laws.{IsForeign}
use Rattle.clog_scan.specs.Segment.{Entry, StopsAt, EndsBy, IsSegment}
use Rattle.clog_spec.specs.Sizes.{header_size}

stop_soft : (bytes : List ℕ) (id at until place : ℕ) (cause : Cause)
    → StopsAt bytes id at until (Torn place cause) → IsSoft cause
stop_soft bytes id at until place cause stops = elim stops.1 [
  | inl torn ↦ marker_soft bytes id at cause torn.1
  | inr torn ↦ entry_soft bytes at until cause torn.1
]

by_front : (bytes : List ℕ) (id place : ℕ) (cause : Cause) (front : Option (List Section))
    → EndsBy bytes id front (Torn place cause) → IsSoft cause ⊎ IsForeign bytes place cause
by_front bytes id place cause None ends =
    let torn = ends.2 in
    let same : ends.0 ≡ cause = cc in
    let start : place ≡ 0 = cc in
    elim (header_refused bytes id ends.0 ends.1) [
      | inl soft ↦ inl (subst IsSoft same soft)
      | inr right ↦ inr (record {
        start = start;
        cause_is = subst IsOfHeader same right.0;
        passes = right.1;
      })
    ]
by_front bytes id place cause (Some ss) ends =
    inl (stop_soft bytes id (length (front_bytes id (Some ss)))
    (last_until header_size ss) place cause ends)

-- a tear is soft, or the header is another's
pub tear : (bytes : List ℕ) (id : ℕ) (entries : List Entry) (place : ℕ) (cause : Cause)
    → IsSegment bytes id entries (Torn place cause) → IsSoft cause ⊎ IsForeign bytes place cause
tear bytes id entries place cause is = by_front bytes id place cause is.front is.ends

behind_header : (bytes : List ℕ) (id place : ℕ) (cause : Cause) (front : Option (List Section))
    → id < 2 ^ 64 → IsHeaderAt bytes id → EndsBy bytes id front (Torn place cause) → IsSoft cause
behind_header bytes id place cause None fits header ends =
    let there = header_again bytes id fits header in
    let torn = ends.1 in
    absurd cc
behind_header bytes id place cause (Some ss) fits header ends =
    stop_soft bytes id (length (front_bytes id (Some ss)))
    (last_until header_size ss) place cause ends

-- behind a header each tear is soft
pub soft_behind_header : (bytes : List ℕ) (id : ℕ) (entries : List Entry) (place : ℕ)
    (cause : Cause) → id < 2 ^ 64 → IsHeaderAt bytes id
    → IsSegment bytes id entries (Torn place cause) → IsSoft cause
soft_behind_header bytes id entries place cause fits header is =
    behind_header bytes id place cause is.front fits header is.ends

-- no cause is both
pub soft_is_not_of_header : (cause : Cause) → IsSoft cause → IsOfHeader cause → ⊥
soft_is_not_of_header (Version version) soft header = soft
soft_is_not_of_header Parameters soft header = soft
soft_is_not_of_header (HeaderId id) soft header = soft
soft_is_not_of_header other soft header = header
