-- Whole notes: steps carry whole notes alone.
use Rattle.std.specs.Prelude.{◌≡◌, ℕ, ◌+◌, ◌<◌, ◌↔◌, length, IsTrue}
use Rattle.std.specs.List.{Contains}
use Rattle.clog_mutation.specs.declared.mutation.Mutation.{Mutation}
use Rattle.clog_mutation.specs.declared.mutation.Update.{Update}
use Rattle.clog_mutation.specs.Limits.{IsWithinLimits}
use Rattle.clog_mutation.specs.Payload.{payload_of}
use Rattle.clog_mutation.specs.Stored.{IsStored}
use Rattle.clog_spec.specs.Segment.{entry_bytes}
use Rattle.path_core.specs.declared.event.Carried.TheVariants.{Deposit}
use Rattle.path_core.specs.declared.event.Event.{Event}
use Rattle.path_core.specs.declared.event.Event.TheVariants.{Close}
use Rattle.path_core.specs.declared.note.EntryNote.{EntryNote}
use Rattle.path_core.specs.Parts.{touches}

-- The mutation updates the table.
pub record Updates (m : Mutation) (t : ℕ) : Type 0 where
  pub update : Update
  pub among : Contains m.updates update
  pub table : update.table.0 ≡ t

-- A note is whole: its bytes are the entry of a mutation's payload, which can be read back, as many
-- as its range has, and its tables are exactly those that the mutation updates, of which there is
-- one.
pub record IsWhole (n : EntryNote) : Type 0 where
  pub mutation : Mutation
  pub limits : IsWithinLimits mutation
  pub stored : IsStored mutation
  pub bytes : n.bytes ≡ entry_bytes (payload_of mutation)
  pub long : n.end.0 ≡ n.start.0 + length n.bytes
  pub tables : (t : ℕ) → IsTrue (touches n.tables t) ↔ Updates mutation t
  pub some_table : 0 < n.tables

-- The note that a step carries is whole.
abbrev pub CarriesWhole : Event → Type 0
CarriesWhole (Close by order group (Deposit note)) = IsWhole note
CarriesWhole _ = Unit {0}
