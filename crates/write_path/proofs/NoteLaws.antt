-- The note of a prepared write, once it is claimed.
use Rattle.std.proofs.Common.{
  ◌≡◌,
  ℕ,
  ◌+◌,
  ◌∙◌,
  ◌≤◌,
  inl,
  inr,
  ap,
  sym,
  arith,
}
use Rattle.std.specs.Int.{bit_at}
use Rattle.std.proofs.lemmas.Bool.Decides.{eqb_tells}
use Rattle.std.proofs.lemmas.Nat.Bits.{bit_at-lt}
use Rattle.clog_base.specs.declared.sizes.Sizes.{Sizes}
use Rattle.clog_mutation.specs.declared.mutation.Mutation.{Mutation}
use Rattle.clog_notes.proofs.TableSets.{touched}
use Rattle.clog_notes.proofs.WholeNotes.{is_whole}
use Rattle.path_core.specs.declared.event.ClaimKind.TheVariants.{Entry}
use Rattle.path_core.specs.Keys.{MovesLog, claimed_size, claim_start}
use Rattle.write_path.specs.declared.prepared.Prepared.{Prepared}
use Rattle.write_path.specs.Writes.{
  entry_size,
  HoldsTables,
  IsClaimed,
  IsDepositable,
  TablesBelow,
}
use Rattle.write_path.proofs.SmallSets.{below_power}

-- a table that is not below the bound is not in the set
not_held : (m : Mutation) (tables k t : ℕ) → HoldsTables m tables → TablesBelow m k → k ≤ t
    → bit_at tables t ≡ 0
not_held m tables k t holds below high = elim (eqb_tells (bit_at tables t) 1) [
  | inl held ↦ absurd (omega (arith, below t ((holds t).0 (touched tables t held.1)), high))
  | inr other ↦ omega (arith, other.1, bit_at-lt tables t)
]

pub is_depositable : (sizes : Sizes) (line start writer : ℕ) (m : Mutation) (p : Prepared)
    → (c : IsClaimed sizes line m start writer p) → IsDepositable sizes.tables c.prepared.note
is_depositable sizes line start writer m p c =
    let ready = c.prepared in
    let note = ready.note in
    record {
      whole = is_whole line m note ready.limits ready.of
          (c.ends ∙ ap (λ (n : ℕ). n + entry_size m) (sym c.begins));
      below = below_power sizes.tables note.tables
          (λ t high. not_held m note.tables sizes.tables t ready.of.tables ready.below high);
    }

pub ends_at_log : (capacity ordinals from to : ℕ) → MovesLog Entry capacity ordinals from to
    → claim_start Entry from to + claimed_size from to ≡ to
ends_at_log capacity ordinals from to moves = omega (arith, moves.2)
