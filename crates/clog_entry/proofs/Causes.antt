-- For which causes headers, markers and entries are refused.
use Rattle.std.proofs.Common.{
  ◌≡◌,
  ℕ,
  ◌+◌,
  ◌-◌,
  ◌==◌,
  ◌&&◌,
  ◌||◌,
  ◌⊎◌,
  inl,
  inr,
  Bool,
  true,
  false,
  not,
  cond,
  List,
  length,
  take,
  drop,
  codes,
  ◌++◌,
  nat_lt,
  Result,
  Ok,
  Err,
  refl,
  subst,
  arith,
}
use Rattle.std.specs.Str.{bytes_eq}
use Rattle.std.specs.Int.{w32, to_be_bytes}
use Rattle.std.proofs.lemmas.Bool.Decides.{nat_tests}
use Rattle.byteorder.specs.Endian.{big_number}
use Rattle.clog_spec.specs.Crc.{crc32_of}
use Rattle.clog_spec.specs.Segment.{marker_checked}
use Rattle.clog_entry.specs.declared.cause.Cause.{Cause}
use Rattle.clog_entry.specs.declared.cause.Cause.TheVariants.{
  Short,
  SizeUnder10,
  SizeCheck,
  BodyCheck,
  PastSection,
  Version,
  Parameters,
  HeaderCheck,
  MarkerCheck,
  MarkerTarget,
  HeaderId,
}
use Rattle.clog_entry.specs.declared.marker.Marker.{Marker}
use Rattle.clog_entry.specs.declared.marker.Marker.TheVariants.{End, Section}
use Rattle.clog_entry.specs.Fields.{header_fields}
use Rattle.clog_entry.specs.Reading.{
  number_at,
  then_ok,
  header_judged,
  header_read,
  marker_judged,
  marker_read,
  size_judged,
  body_judged,
  entry_read,
}
use Rattle.clog_entry.specs.Soft.{IsSoft, IsOfHeader, PassesAsHeader}
use Rattle.clog_entry.proofs.HeaderLaws.{all_fits}

-- ---- markers

abbrev no_more : Result Marker Cause
no_more = Ok End

soft_mark : (a b c d : Bool) (target : ℕ) (cause : Cause)
    → cond a no_more (cond b no_more (cond c (Err MarkerCheck)
    (cond d (Err (MarkerTarget target)) (Ok (Section target))))) ≡ Err cause → IsSoft cause
soft_mark true b c d target cause refused = absurd cc
soft_mark false true c d target cause refused = absurd cc
soft_mark false false true d target cause refused =
    let same : MarkerCheck ≡ cause = cc in subst IsSoft same tt
soft_mark false false false true target cause refused =
    let same : MarkerTarget target ≡ cause = cc in subst IsSoft same tt
soft_mark false false false false target cause refused = absurd cc

-- a marker is refused for soft causes alone
pub marker_soft : (bytes : List ℕ) (id at : ℕ) (cause : Cause)
    → marker_read bytes id at ≡ Err cause → IsSoft cause
unfolding marker_read marker_judged
marker_soft bytes id at cause refused =
    let target = number_at bytes at in
    let check = number_at bytes (at + 4) in
    soft_mark (nat_lt (length bytes) (at + 8)) ((target == 0) && (check == 0))
    (not (check == crc32_of (marker_checked id at)))
    (nat_lt target (at + 8) || nat_lt (length bytes) target) target cause refused

-- ---- entries

soft_rest : (a b c d : Bool) (size : ℕ) (cause : Cause)
    → then_ok (cond a (Err SizeUnder10) (cond b (Err SizeCheck) (cond c (Err PastSection) (Ok tt))))
    (cond d (Err BodyCheck) (Ok tt)) size ≡ Err cause → IsSoft cause
soft_rest true b c d size cause refused =
    let same : SizeUnder10 ≡ cause = cc in subst IsSoft same tt
soft_rest false true c d size cause refused =
    let same : SizeCheck ≡ cause = cc in subst IsSoft same tt
soft_rest false false true d size cause refused =
    let same : PastSection ≡ cause = cc in subst IsSoft same tt
soft_rest false false false true size cause refused =
    let same : BodyCheck ≡ cause = cc in subst IsSoft same tt
soft_rest false false false false size cause refused = absurd cc

soft_first : (a : Bool) (rest : Result ℕ Cause) (cause : Cause)
    → (rest ≡ Err cause → IsSoft cause) → cond a (Err Short) rest ≡ Err cause → IsSoft cause
soft_first true rest cause later refused =
    let same : Short ≡ cause = cc in subst IsSoft same tt
soft_first false rest cause later refused = later refused

-- an entry is refused for soft causes alone
pub entry_soft : (bytes : List ℕ) (at end : ℕ) (cause : Cause)
    → entry_read bytes at end ≡ Err cause → IsSoft cause
unfolding entry_read size_judged body_judged
entry_soft bytes at end cause refused =
    let size = number_at bytes at in
    let first = number_at bytes (at + 4) in
    let second = number_at bytes (at + 8 + size) in
    let payload = take size (drop (at + 8) bytes) in
    let a = nat_lt size 10 in
    let b = not (first == crc32_of (to_be_bytes w32 size)) in
    let c = nat_lt (end - at) (12 + size) in
    let d = not (second == crc32_of (to_be_bytes w32 size ++ payload)) in
    let rest = then_ok (cond a (Err SizeUnder10) (cond b (Err SizeCheck)
    (cond c (Err PastSection) (Ok tt)))) (cond d (Err BodyCheck) (Ok tt)) size in
    soft_first (nat_lt (end - at) 8) rest cause (soft_rest a b c d size cause) refused

-- ---- headers

-- with a wrong check the cause is soft, and with a right one it is of the header
judged_so : (a b c d : Bool) (version id : ℕ) (cause : Cause)
    → cond a (Err HeaderCheck) (cond b (Err (Version version)) (cond c (Err (HeaderId id))
    (cond d (Err Parameters) all_fits))) ≡ Err cause
    → IsSoft cause ⊎ (IsOfHeader cause × (a ≡ false))
judged_so true b c d version id cause refused =
    let same : HeaderCheck ≡ cause = cc in inl (subst IsSoft same tt)
judged_so false true c d version id cause refused =
    let same : Version version ≡ cause = cc in inr (subst IsOfHeader same tt, refl)
judged_so false false true d version id cause refused =
    let same : HeaderId id ≡ cause = cc in inr (subst IsOfHeader same tt, refl)
judged_so false false false true version id cause refused =
    let same : Parameters ≡ cause = cc in inr (subst IsOfHeader same tt, refl)
judged_so false false false false version id cause refused = absurd cc

long_enough : (a b : Bool) (judgement : Result Unit Cause) (cause : Cause)
    → cond a (Err Short) (cond b (Err Short) judgement) ≡ Err cause
    → IsSoft cause ⊎ ((b ≡ false) × (judgement ≡ Err cause))
long_enough true b judgement cause refused =
    let same : Short ≡ cause = cc in inl (subst IsSoft same tt)
long_enough false true judgement cause refused =
    let same : Short ≡ cause = cc in inl (subst IsSoft same tt)
long_enough false false judgement cause refused = inr (refl, refused)

-- a header is refused for a soft cause, or its check is right
pub header_refused : (bytes : List ℕ) (id : ℕ) (cause : Cause) → header_read bytes id ≡ Err cause
    → IsSoft cause ⊎ (IsOfHeader cause × PassesAsHeader bytes)
unfolding header_read header_judged
header_refused bytes id cause refused =
    let version = number_at bytes 0 in
    let found = big_number 8 (drop 4 bytes) in
    let size = big_number 2 (drop 12 bytes) in
    let parameters = take size (drop 14 bytes) in
    let check = number_at bytes (14 + size) in
    let wrong = not (check == crc32_of (header_fields version found parameters)) in
    let b = not (version == 6) in
    let c = not (found == id) in
    let d = not (bytes_eq parameters (codes "{}")) in
    let judgement = cond wrong (Err HeaderCheck) (cond b (Err (Version version))
    (cond c (Err (HeaderId found)) (cond d (Err Parameters) all_fits))) in
    let short = nat_lt (length bytes) (18 + size) in
    elim (long_enough (nat_lt (length bytes) 14) short judgement cause refused) [
      | inl soft ↦ inl soft
      | inr long ↦ elim (judged_so wrong b c d version found cause long.1) [
        | inl soft ↦ inl soft
        | inr right ↦ inr (
          right.0,
          record {
            fits = let t = long.0 in grind (arith, nat_tests);
            check = let t = right.1 in grind (arith, nat_tests);
          },
        )
      ]
    ]

passed_so : (few short a b c d : Bool) (version id : ℕ) (cause : Cause)
    → few ≡ false → short ≡ false → a ≡ false
    → cond few (Err Short) (cond short (Err Short) (cond a (Err HeaderCheck)
    (cond b (Err (Version version)) (cond c (Err (HeaderId id))
    (cond d (Err Parameters) all_fits))))) ≡ Err cause
    → IsOfHeader cause
passed_so true short a b c d version id cause few long right refused = absurd cc
passed_so false true a b c d version id cause few long right refused = absurd cc
passed_so false false true b c d version id cause few long right refused = absurd cc
passed_so false false false true c d version id cause few long right refused =
    let same : Version version ≡ cause = cc in subst IsOfHeader same tt
passed_so false false false false true d version id cause few long right refused =
    let same : HeaderId id ≡ cause = cc in subst IsOfHeader same tt
passed_so false false false false false true version id cause few long right refused =
    let same : Parameters ≡ cause = cc in subst IsOfHeader same tt
passed_so false false false false false false version id cause few long right refused = absurd cc

-- a header whose check is right is refused for a cause of the header alone
pub header_passed : (bytes : List ℕ) (id : ℕ) (cause : Cause) → PassesAsHeader bytes
    → header_read bytes id ≡ Err cause → IsOfHeader cause
unfolding header_read header_judged
header_passed bytes id cause passes refused =
    let version = number_at bytes 0 in
    let found = big_number 8 (drop 4 bytes) in
    let size = big_number 2 (drop 12 bytes) in
    let parameters = take size (drop 14 bytes) in
    let check = number_at bytes (14 + size) in
    let wrong = not (check == crc32_of (header_fields version found parameters)) in
    let fits = passes.fits in
    let right = passes.check in
    passed_so (nat_lt (length bytes) 14) (nat_lt (length bytes) (18 + size)) wrong
    (not (version == 6)) (not (found == id)) (not (bytes_eq parameters (codes "{}")))
    version found cause
    (grind (arith, nat_tests)) (grind (arith, nat_tests)) (grind (arith, nat_tests))
    refused
