-- A note of a mutation's entry is whole once it has its range.
use Rattle.std.proofs.Common.{
  ◌≡◌,
  ℕ,
  List,
  [],
  ◌∷◌,
  ◌+◌,
  ◌<◌,
  ◌≤◌,
  inl,
  inr,
  ap,
  refl,
  arith,
  length,
}
use Rattle.std.specs.Prelude.{Contains}
use Rattle.std.specs.Int.{bit_at}
use Rattle.std.proofs.lemmas.Bool.Decides.{eqb_tells}
use Rattle.std.proofs.lemmas.Nat.Bits.{bit_at-zero}
use Rattle.clog_base.proofs.Members.{here}
use Rattle.clog_spec.proofs.Lengths.{length-entry_bytes}
use Rattle.clog_mutation.specs.declared.mutation.Mutation.{Mutation}
use Rattle.clog_mutation.specs.declared.mutation.Update.{Update}
use Rattle.clog_mutation.specs.Limits.{IsWithinLimits}
use Rattle.clog_mutation.specs.Payload.{payload_of}
use Rattle.path_core.specs.declared.note.EntryNote.{EntryNote}
use Rattle.path_core.specs.Whole.{IsWhole}
use Rattle.clog_notes.specs.Entries.{HoldsTables, IsNoteOf, entry_of, entry_size}
use Rattle.clog_notes.proofs.TableSets.{untouched}

-- a list that is not empty has a first member
first_of : (us : List Update) → 1 ≤ length us → (u : Update) × Contains us u
first_of [] some = absurd (omega (arith, some))
first_of (u ∷ us) some = (u, here u us)

-- a set that holds a table is not empty
some_held : (tables t : ℕ) → bit_at tables t ≡ 1 → 0 < tables
some_held tables t held = elim (eqb_tells tables 0) [
  | inl none ↦ absurd (omega (arith, held, ap (λ (n : ℕ). bit_at n t) none.1, bit_at-zero t))
  | inr some ↦ omega (arith, some.1)
]

pub some_table : (m : Mutation) (tables : ℕ) → IsWithinLimits m → HoldsTables m tables
    → 0 < tables
some_table m tables limits holds =
    let first = first_of m.updates limits.some in
    let t = first.0.table.0 in
    some_held tables t (untouched tables t
    ((holds t).1 (record { update = first.0; among = first.1; table = refl })))

pub entry_length : (m : Mutation) → length (entry_of m) ≡ entry_size m
unfolding entry_of
entry_length m = omega (arith, length-entry_bytes (payload_of m))

pub is_whole : (line : ℕ) (m : Mutation) (n : EntryNote) → IsWithinLimits m
    → IsNoteOf line m n → n.end.0 ≡ n.start.0 + entry_size m → IsWhole n
unfolding entry_of
is_whole line m n limits note claimed = record {
  mutation = m;
  limits = limits;
  stored = note.stored;
  bytes = note.bytes;
  long = omega (
    arith,
    claimed,
    ap (λ (l : List ℕ). length l) note.bytes,
    length-entry_bytes (payload_of m),
  );
  tables = note.tables;
  some_table = some_table m n.tables limits note.tables;
}
