-- What checking gives is what decoding gives, but that memory is never wanting.
use Rattle.std.proofs.Common.{◌≡◌, ℕ, zero, suc, List, length, Result, Ok, Err, refl, sym, ap}
use Rattle.std.proofs.Common.{subst, ◌∙◌, inl, inr}
use Rattle.std.specs.Prelude.{◌≢◌, IfErr}
use Rattle.clog_spec.specs.Crc.{IsBytes}
use Rattle.clog_base.specs.declared.fault.PayloadFault.{PayloadFault}
use Rattle.clog_base.specs.declared.fault.PayloadFault.TheVariants.{OutOfMemory}
use Rattle.clog_fields.specs.Reading.{Finds}
use Rattle.clog_fields.specs.Refusals.{Refusing, IsShort, TextIsRefused, NameIsRefused}
use Rattle.clog_fields.specs.Refusals.{UntaggedIsRefused, TaggedIsRefused}
use Rattle.clog_mutation.specs.declared.mutation.Mutation.{Mutation}
use Rattle.clog_mutation.specs.Stored.{IsPayload}
use Rattle.clog_mutation.specs.Refusals.{UpdateIsRefused, MutationIsRefused, IsRefused, Checks}
use Rattle.clog_mutation.specs.Reading.{judged, all_of}
use Rattle.clog_mutation.proofs.Payloads.{all_takes, all_again, all_fails, all_refused}

-- ---- no refusal is for want of memory

abbrev Never : Refusing → Type 0
Never refuses = (bytes : List ℕ) → refuses bytes OutOfMemory → ⊥

short_never : (end size : ℕ) → Never (IsShort end size)
short_never end size bytes h = let is = h.fault_is in absurd cc

text_never : (end n : ℕ) → Never (TextIsRefused end n)
text_never end n bytes (inl h) = short_never end n bytes h
text_never end n bytes (inr h) = let is = h.fault_is in absurd cc

name_never : (end : ℕ) → Never (NameIsRefused end)
name_never end bytes (inl (inl h)) = short_never end 2 bytes h
name_never end bytes (inl (inr h)) = let is = h.fault_is in absurd cc
name_never end bytes (inr h) = text_never end h.read h.rest h.refused

untagged_never : (end tag : ℕ) → Never (UntaggedIsRefused end tag)
untagged_never end zero bytes h = h
untagged_never end (suc tag) bytes (inl h) = short_never end 4 bytes h
untagged_never end (suc tag) bytes (inr h) = text_never end h.read h.rest h.refused

tagged_never : (end : ℕ) → Never (TaggedIsRefused end)
tagged_never end bytes (inl (inl h)) = short_never end 1 bytes h
tagged_never end bytes (inl (inr h)) = let is = h.fault_is in absurd cc
tagged_never end bytes (inr h) = untagged_never end h.read h.rest h.refused

update_never : (end : ℕ) → Never (UpdateIsRefused end)
update_never end bytes (inl (inl h)) = short_never end 1 bytes h
update_never end bytes (inl (inr h)) = let is = h.fault_is in absurd cc
update_never end bytes (inr h) = elim h.refused [
  | inl g ↦ name_never end h.rest g
  | inr g ↦
      elim g.refused [
        | inl k ↦ short_never end 8 g.rest k
        | inr k ↦ tagged_never end k.rest k.refused
      ]
]

mutation_never : (end : ℕ) → Never (MutationIsRefused end)
mutation_never end bytes (inl h) = name_never end bytes h
mutation_never end bytes (inr h) = elim h.refused [
  | inl (inl g) ↦ short_never end 2 h.rest g
  | inl (inr g) ↦ (let is = g.fault_is in absurd cc)
  | inr g ↦ update_never end g.refused.rest g.refused.refused
]

pub never : (bytes : List ℕ) → IsRefused bytes OutOfMemory → ⊥
never bytes (inl h) = mutation_never (length bytes) bytes h
never bytes (inr h) = let is = h.fault_is in absurd cc

-- ---- what is judged

abbrev Judges : List ℕ → Result (Unit {0}) PayloadFault → Type 0
Judges bytes r = Finds (λ done. done) r (judged (all_of bytes))

checks_from : (bytes : List ℕ) (read : Result Mutation PayloadFault)
    (r : Result (Unit {0}) PayloadFault) → IsBytes bytes → all_of bytes ≡ read
    → Finds (λ done. done) r (judged read) → Checks bytes r
checks_from bytes (Ok m) (Ok done) fits is h = (m, all_takes bytes m fits is)
checks_from bytes (Ok m) (Err f) fits is h = absurd cc
checks_from bytes (Err g) (Ok done) fits is h = absurd cc
checks_from bytes (Err g) (Err f) fits is h =
    let same : g ≡ f = cc in all_fails bytes f fits (is ∙ ap Err same)

pub checks : (bytes : List ℕ) (r : Result (Unit {0}) PayloadFault) → IsBytes bytes → Judges bytes r
    → Checks bytes r
checks bytes r fits h = checks_from bytes (all_of bytes) r fits refl h

-- as decoding does
judged_so : (r : Result (Unit {0}) PayloadFault) (read : Result (Unit {0}) PayloadFault)
    → Finds (λ done. done) r read → r ≡ read
judged_so (Ok done) read h = sym h
judged_so (Err f) read h = sym h

pub passes : (bytes : List ℕ) (r : Result (Unit {0}) PayloadFault) → Judges bytes r
    → (m : Mutation) → IsPayload bytes m → r ≡ Ok tt
passes bytes r h m is =
    judged_so r (judged (all_of bytes)) h
    ∙ ap (λ (read : Result Mutation PayloadFault). judged read) (all_again bytes m is)

pub refuses : (bytes : List ℕ) (r : Result (Unit {0}) PayloadFault) → Judges bytes r
    → (fault : PayloadFault) → IsRefused bytes fault → r ≡ Err fault
refuses bytes r h fault is =
    judged_so r (judged (all_of bytes)) h
    ∙ ap (λ (read : Result Mutation PayloadFault). judged read) (all_refused bytes fault is)

pub never_wanting : (bytes : List ℕ) (r : Result (Unit {0}) PayloadFault) → Checks bytes r
    → IfErr r (λ fault. fault ≢ OutOfMemory)
never_wanting bytes (Ok done) h = tt
never_wanting bytes (Err f) h = λ is. never bytes (subst (IsRefused bytes) is h)
