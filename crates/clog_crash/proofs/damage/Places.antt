-- A segment is torn at one place for one cause at most, and a good one at none that is damage.
use Rattle.std.proofs.Common.{◌≡◌, ℕ, inl, inr, List, [], ◌∷◌, sym, ◌∙◌, ap, subst, arith}
use Rattle.clog_base.specs.declared.fault.PayloadFault.{PayloadFault}
use Rattle.clog_base.proofs.Members.{here, further}
use Rattle.clog_disk.specs.Files.{Files}
use Rattle.clog_entry.specs.declared.cause.Cause.{Cause}
use Rattle.clog_entry.specs.declared.cause.Cause.TheVariants.{Payload}
use Rattle.clog_entry.specs.Soft.{IsSoft}
use Rattle.clog_mutation.proofs.Decoding.{never_both, one_refusal}
use Rattle.clog_scan.specs.declared.answer.End.{End}
use Rattle.clog_scan.specs.declared.answer.End.TheVariants.{Clean, Torn}
use Rattle.clog_scan.specs.Laws.{AreOne}
use Rattle.clog_scan.specs.Segment.{Entry, IsSegment}
use Rattle.clog_scan.proofs.Theorems.{one_segment}
use Rattle.clog_crash.specs.Damage.{AreSegmentFiles, IsFirstRefused, IsTornAt, TearsAt}
use Rattle.clog_crash.specs.Restore.{
  AreMutations,
  HoldsSegment,
  IsGoodSegment,
  IsLastId,
  MayEnd,
}
use Rattle.clog_crash.proofs.OneMore.{some_is}

-- ---- payloads

-- one is the first that is refused, for one fault
first_is_one : (entries : List Entry) (at at' : ℕ) (fault fault' : PayloadFault)
    → IsFirstRefused entries at fault → IsFirstRefused entries at' fault'
    → (at ≡ at') × (fault ≡ fault')
first_is_one [] at at' fault fault' one other = absurd one
first_is_one (e ∷ es) at at' fault fault' one other = elim one [
  | inl here ↦ elim other [
    | inl here' ↦ (here.0 ∙ sym here'.0, one_refusal e.payload fault fault' here.1 here'.1)
    | inr later' ↦ absurd (never_both e.payload later'.0.0 fault later'.0.1 here.1)
  ]
  | inr later ↦ elim other [
    | inl here' ↦ absurd (never_both e.payload later.0.0 fault' later.0.1 here'.1)
    | inr later' ↦ first_is_one es at at' fault fault' later.1 later'.1
  ]
]

-- none is refused where all are mutations'
none_refused : (entries : List Entry) (at : ℕ) (fault : PayloadFault) → AreMutations entries
    → IsFirstRefused entries at fault → ⊥
none_refused [] at fault said refused = refused
none_refused (e ∷ es) at fault said refused = elim refused [
  | inl this ↦
      let m = said e (here e es) in
      never_both e.payload m.0 fault m.1 this.1
  | inr later ↦
      none_refused es at fault (λ entry h. said entry (further e es entry h)) later.1
]

-- ---- a segment that is there

tears_once : (entries : List Entry) (end : End) (at at' : ℕ) (cause cause' : Cause)
    → TearsAt entries end at cause → TearsAt entries end at' cause'
    → (at ≡ at') × (cause ≡ cause')
tears_once entries end at at' cause cause' (inl one) (inl other) =
    let same = first_is_one entries at at' one.0 other.0 one.1 other.1 in
    (same.0, one.2 ∙ ap Payload same.1 ∙ sym other.2)
tears_once entries end at at' cause cause' (inl one) (inr other) =
    absurd (none_refused entries at one.0 other.0 one.1)
tears_once entries end at at' cause cause' (inr one) (inl other) =
    absurd (none_refused entries at' other.0 one.0 other.1)
tears_once entries end at at' cause cause' (inr one) (inr other) =
    let both : Torn at cause ≡ Torn at' cause' = sym one.1 ∙ other.1 in
    (cc, cc)

-- two readings of one file are one
pub one_reading : (files : Files) (name : List ℕ) (id : ℕ) (entries entries' : List Entry)
    (end end' : End) → AreSegmentFiles files → HoldsSegment files name id entries end
    → HoldsSegment files name id entries' end' → AreOne entries end entries' end'
one_reading files name id entries entries' end end' are one other =
    let same : one.bytes ≡ other.bytes =
    some_is one.bytes other.bytes (sym one.there ∙ other.there) in
    let holds = subst (λ (b : List ℕ). IsSegment b id entries end) same one.holds in
    one_segment other.bytes id entries end entries' end'
    (are name other.bytes id other.named other.there) (omega (arith, other.named.id_fits)) holds
    other.holds

pub torn_once : (files : Files) (name : List ℕ) (version id at at' : ℕ) (cause cause' : Cause)
    → AreSegmentFiles files → IsTornAt files name version id at cause
    → IsTornAt files name version id at' cause' → (at ≡ at') × (cause ≡ cause')
torn_once files name version id at at' cause cause' are (inl one) (inl other) =
    (one.1 ∙ sym other.1, one.2 ∙ sym other.2)
torn_once files name version id at at' cause cause' are (inl one) (inr other) =
    absurd (one.0 other.0)
torn_once files name version id at at' cause cause' are (inr one) (inl other) =
    absurd (other.0 one.0)
torn_once files name version id at at' cause cause' are (inr one) (inr other) =
    let a = one.1 in
    let b = other.1 in
    let same = one_reading files name id a.entries b.entries a.end b.end are a.holds b.holds in
    tears_once b.entries b.end at at' cause cause'
    (subst (λ (e : End). TearsAt b.entries e at cause) same.ends_are
    (subst (λ (es : List Entry). TearsAt es a.end at cause) same.entries_are a.tears)) b.tears

-- ---- a good segment

may_end_torn : (files : Files) (id at : ℕ) (cause : Cause) (end : End) → end ≡ Torn at cause
    → MayEnd files id end → IsSoft cause × IsLastId files id
may_end_torn files id at cause (Clean place) is may = absurd cc
may_end_torn files id at cause (Torn place other) is may =
    let same : other ≡ cause = cc in
    (subst IsSoft same may.0, may.1)

-- a good segment is not torn but as a crash's tail
pub good_is_no_damage : (files : Files) (name : List ℕ) (version id at : ℕ) (cause : Cause)
    → AreSegmentFiles files → version ≡ 6 → IsGoodSegment files name id
    → IsTornAt files name version id at cause → IsSoft cause × IsLastId files id
good_is_no_damage files name version id at cause are six good (inl other) = absurd (other.0 six)
good_is_no_damage files name version id at cause are six good (inr inside) =
    let t = inside.1 in
    let same = one_reading files name id t.entries good.entries t.end good.end are t.holds
    good.holds in
    by_tear (subst (λ (e : End). TearsAt good.entries e at cause) same.ends_are
    (subst (λ (es : List Entry). TearsAt es t.end at cause) same.entries_are t.tears))
  where
    by_tear : TearsAt good.entries good.end at cause → IsSoft cause × IsLastId files id
    by_tear (inl refused) = absurd (none_refused good.entries at refused.0 good.payloads refused.1)
    by_tear (inr ends) = may_end_torn files id at cause good.end ends.1 good.may_end
