-- What decoding gives is a payload's mutation or a refusal, and no bytes have two of them.
use Rattle.std.proofs.Common.{◌≡◌, ℕ, List, [], ◌∷◌, Result, Ok, Err, refl, sym, subst, ◌∙◌, inl}
use Rattle.std.proofs.Common.{inr}
use Rattle.std.specs.Prelude.{IfOk, ◌⊎◌}
use Rattle.std.specs.List.{AllByRecursion}
use Rattle.clog_spec.specs.Crc.{IsBytes}
use Rattle.clog_base.specs.declared.cell.Kind.{Kind}
use Rattle.clog_base.specs.declared.cell.Kind.TheVariants.{Deletion, Live}
use Rattle.clog_base.specs.declared.fault.PayloadFault.{PayloadFault}
use Rattle.clog_base.specs.declared.fault.PayloadFault.TheVariants.{Short, BadTag, Count, NotUtf8}
use Rattle.clog_base.specs.declared.fault.PayloadFault.TheVariants.{Trailing, NameLength, BadTable}
use Rattle.clog_base.specs.declared.fault.PayloadFault.TheVariants.{OutOfMemory}
use Rattle.clog_mutation.specs.declared.mutation.Update.{Update}
use Rattle.clog_mutation.specs.declared.mutation.Mutation.{Mutation}
use Rattle.clog_mutation.specs.Limits.{IsValueOf, UpdateIsWithinLimits, IsWithinLimits}
use Rattle.clog_mutation.specs.Payload.{payload_of}
use Rattle.clog_mutation.specs.Stored.{IsStoredValue, IsStoredUpdate, IsStored, IsPayload}
use Rattle.clog_mutation.specs.Refusals.{IsRefused, Decodes}
use Rattle.clog_mutation.specs.Reading.{Gives, all_of}
use Rattle.clog_mutation.proofs.Payloads.{all_takes, all_again, all_fails, all_refused}

pub decodes : (bytes : List ℕ) (r : Result Mutation PayloadFault) → IsBytes bytes
    → Gives (λ m. m) r (all_of bytes) → Decodes bytes r
decodes bytes (Ok m) fits h = all_takes bytes m fits h
decodes bytes (Err OutOfMemory) fits h = tt
decodes bytes (Err (Short at)) fits h = all_fails bytes (Short at) fits h
decodes bytes (Err (BadTag at)) fits h = all_fails bytes (BadTag at) fits h
decodes bytes (Err Count) fits h = all_fails bytes Count fits h
decodes bytes (Err (NotUtf8 at)) fits h = all_fails bytes (NotUtf8 at) fits h
decodes bytes (Err (Trailing at)) fits h = all_fails bytes (Trailing at) fits h
decodes bytes (Err (NameLength at)) fits h = all_fails bytes (NameLength at) fits h
decodes bytes (Err (BadTable at)) fits h = all_fails bytes (BadTable at) fits h

-- ---- the limits
value_within : (kind : Kind) (value : List ℕ) → IsStoredValue kind value → IsValueOf kind value
value_within Deletion value h = h
value_within Live value h = tt

updates_within : (us : List Update) → AllByRecursion IsStoredUpdate us
    → AllByRecursion UpdateIsWithinLimits us
updates_within [] h = tt
updates_within (u ∷ us) h = (
  record {
    table = h.0.table;
    column = h.0.column.size;
    value = value_within u.cell.kind u.cell.value h.0.value;
  },
  updates_within us h.1,
)

pub stored_within : (m : Mutation) → IsStored m → IsWithinLimits m
stored_within m h =
    record {
      key = h.key.size;
      some = h.some;
      few = h.few;
      updates = updates_within m.updates h.updates;
    }

pub within : (bytes : List ℕ) (r : Result Mutation PayloadFault) → Decodes bytes r
    → IfOk r (λ m. IsWithinLimits m)
within bytes (Ok m) h = stored_within m h.stored
within bytes (Err f) h = tt

-- ---- one outcome
pub one_mutation : (m other : Mutation) → IsStored m → IsStored other
    → payload_of m ≡ payload_of other → m ≡ other
one_mutation m other p q e =
    let a : all_of (payload_of m) ≡ Ok m =
    all_again (payload_of m) m (record { stored = p; spelled = refl }) in
    let b : all_of (payload_of m) ≡ Ok other =
    all_again (payload_of m) other (record { stored = q; spelled = e }) in
    (let same : ◌≡◌ {A = Result Mutation PayloadFault} (Ok m) (Ok other) = sym a ∙ b in cc)

pub one_refusal : (bytes : List ℕ) (fault other : PayloadFault) → IsRefused bytes fault
    → IsRefused bytes other → fault ≡ other
one_refusal bytes fault other p q =
    let same : ◌≡◌ {A = Result Mutation PayloadFault} (Err fault) (Err other) =
    sym (all_refused bytes fault p) ∙ all_refused bytes other q in cc

pub never_both : (bytes : List ℕ) (m : Mutation) (fault : PayloadFault) → IsPayload bytes m
    → IsRefused bytes fault → ⊥
never_both bytes m fault p q =
    let clash : ◌≡◌ {A = Result Mutation PayloadFault} (Ok m) (Err fault) =
    sym (all_again bytes m p) ∙ all_refused bytes fault q in cc

outcome : (bytes : List ℕ) → IsBytes bytes → (r : Result Mutation PayloadFault) → all_of bytes ≡ r
    → ((m : Mutation) × IsPayload bytes m) ⊎ ((fault : PayloadFault) × IsRefused bytes fault)
outcome bytes fits (Ok m) e = inl (m, all_takes bytes m fits e)
outcome bytes fits (Err f) e = inr (f, all_fails bytes f fits e)

pub one_of_both : (bytes : List ℕ) → IsBytes bytes
    → ((m : Mutation) × IsPayload bytes m) ⊎ ((fault : PayloadFault) × IsRefused bytes fault)
one_of_both bytes fits = outcome bytes fits (all_of bytes) refl

pub reads : (bytes : List ℕ) (r : Result Mutation PayloadFault) → Gives (λ m. m) r (all_of bytes)
    → (m : Mutation) → IsPayload bytes m → Gives (λ x. x) r (Ok m)
reads bytes r given m h = subst (λ read. Gives (λ x. x) r read) (all_again bytes m h) given

pub refuses : (bytes : List ℕ) (r : Result Mutation PayloadFault) → Gives (λ m. m) r (all_of bytes)
    → (fault : PayloadFault) → IsRefused bytes fault → Gives (λ x. x) r (Err fault)
refuses bytes r given fault h =
    subst (λ read. Gives (λ x. x) r read) (all_refused bytes fault h) given
