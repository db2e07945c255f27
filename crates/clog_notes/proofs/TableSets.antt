-- A set of tables that grows by those of updates.
use Rattle.std.proofs.Common.{◌≡◌, ℕ, ◌<◌, ◌⊎◌, inl, inr, List, [], ◌∷◌, sym, subst, arith, ◌∙◌, ap}
use Rattle.std.specs.Prelude.{Contains, IsTrue}
use Rattle.std.specs.Int.{w16, bit_at}
use Rattle.std.specs.List.{AllByRecursion}
use Rattle.std.proofs.lemmas.Bool.Decides.{eqb_tells, nat_tests}
use Rattle.std.proofs.lemmas.Nat.Bits.{bit_at_set_same, bit_at_set_other, bit_at-zero}
use Rattle.clog_base.proofs.Members.{nothing_there, here, further, first_or_further}
use Rattle.clog_mutation.specs.declared.mutation.Mutation.{Mutation}
use Rattle.clog_mutation.specs.declared.mutation.Update.{Update}
use Rattle.clog_mutation.specs.Limits.{UpdateIsWithinLimits}
use Rattle.path_core.specs.Parts.{touches}
use Rattle.path_core.specs.Whole.{Updates}
use Rattle.clog_notes.specs.Entries.{with_table, with_tables, HoldsTables}

-- one of the updates is of the table
abbrev pub Among : List Update → ℕ → Type 0
Among us t = (u : Update) × Contains us u × (u.table.0 ≡ t)

-- ---- one table more

one_put : (tables k t : ℕ) → k < 16 → (bit_at tables t ≡ 1) ⊎ (k ≡ t)
    → bit_at (with_table tables k) t ≡ 1
one_put tables k t small h = elim (eqb_tells t k) [
  | inl same ↦ subst (λ (n : ℕ). bit_at (with_table tables k) n ≡ 1) (sym same.1)
      (bit_at_set_same w16 tables k small)
  | inr other ↦ elim h [
    | inl old ↦ bit_at_set_other w16 tables k small t other.1 ∙ old
    | inr same ↦ absurd (other.1 (sym same))
  ]
]

one_found : (tables k t : ℕ) → k < 16 → bit_at (with_table tables k) t ≡ 1
    → (bit_at tables t ≡ 1) ⊎ (k ≡ t)
one_found tables k t small h = elim (eqb_tells t k) [
  | inl same ↦ inr (sym same.1)
  | inr other ↦ inl (sym (bit_at_set_other w16 tables k small t other.1) ∙ h)
]

-- ---- the tables of updates

put : (tables : ℕ) (us : List Update) (t : ℕ) → AllByRecursion UpdateIsWithinLimits us
    → (bit_at tables t ≡ 1) ⊎ Among us t → bit_at (with_tables tables us) t ≡ 1
put tables [] t all (inl old) = old
put tables [] t all (inr among) = absurd (nothing_there among.0 among.1)
put tables (u ∷ us) t all (inl old) =
    put (with_table tables u.table.0) us t all.1
    (inl (one_put tables u.table.0 t all.0.table (inl old)))
put tables (u ∷ us) t all (inr among) = elim (first_or_further u us among.0 among.1) [
  | inl same ↦ put (with_table tables u.table.0) us t all.1
      (inl (one_put tables u.table.0 t all.0.table
      (inr (ap (λ (v : Update). v.table.0) same ∙ among.2))))
  | inr more ↦ put (with_table tables u.table.0) us t all.1 (inr (among.0, more, among.2))
]

found : (tables : ℕ) (us : List Update) (t : ℕ) → AllByRecursion UpdateIsWithinLimits us
    → bit_at (with_tables tables us) t ≡ 1 → (bit_at tables t ≡ 1) ⊎ Among us t
found tables [] t all h = inl h
found tables (u ∷ us) t all h =
    elim (found (with_table tables u.table.0) us t all.1 h) [
      | inl joined ↦ elim (one_found tables u.table.0 t all.0.table joined) [
        | inl old ↦ inl old
        | inr same ↦ inr (u, here u us, same)
      ]
      | inr among ↦ inr (among.0, further u us among.0 among.1, among.2)
    ]

-- ---- a set holds a table, or not

pub touched : (tables t : ℕ) → bit_at tables t ≡ 1 → IsTrue (touches tables t)
touched tables t h = grind (arith, nat_tests)

pub untouched : (tables t : ℕ) → IsTrue (touches tables t) → bit_at tables t ≡ 1
untouched tables t h = grind (arith, nat_tests)

tables_put : (us : List Update) (t : ℕ) → AllByRecursion UpdateIsWithinLimits us
    → Among us t → IsTrue (touches (with_tables 0 us) t)
tables_put us t all among = touched (with_tables 0 us) t (put 0 us t all (inr among))

tables_found : (us : List Update) (t : ℕ) → AllByRecursion UpdateIsWithinLimits us
    → IsTrue (touches (with_tables 0 us) t) → Among us t
tables_found us t all h = elim (found 0 us t all (untouched (with_tables 0 us) t h)) [
  | inl old ↦ absurd (omega (arith, old, bit_at-zero t))
  | inr among ↦ among
]

-- The joined tables of a mutation's updates are exactly its tables.
pub joined_holds : (m : Mutation) (tables : ℕ) → AllByRecursion UpdateIsWithinLimits m.updates
    → tables ≡ with_tables 0 m.updates → HoldsTables m tables
joined_holds m tables all joined = subst (HoldsTables m) (sym joined) (λ t. (
  (λ h.
      let one = tables_found m.updates t all h in
      record { update = one.0; among = one.1; table = one.2 }),
  (λ (h : Updates m t). tables_put m.updates t all (h.update, h.among, h.table)),
))
