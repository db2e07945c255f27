-- A note joins others that stand in order, and they still do.
use Rattle.std.proofs.Common.{
  ◌≡◌,
  ℕ,
  ◌<◌,
  ◌≤◌,
  ◌-◌,
  nat_lt,
  not,
  List,
  [],
  length,
  get_or,
  sym,
  arith,
}
use Rattle.std.specs.List.{position_or_len}
use Rattle.std.proofs.lemmas.Bool.{ltb-true, ltb-false, lt-ltb, le-ltb}
use Rattle.std.proofs.lemmas.List.Sorted.{IsNonDecreasingBy-insert}
use Rattle.std.proofs.lemmas.List.Sums.{
  fails_before_first,
  passes_at_first,
  position_or_len_is,
  prefix_len-le-length,
}
use Rattle.path_core.specs.declared.event.Carried.TheVariants.{Nothing, Deposit, Applied}
use Rattle.path_core.specs.declared.event.Event.{Event}
use Rattle.path_core.specs.declared.event.Event.TheVariants.{
  Look,
  Register,
  Close,
  OpenGroup,
  MoveCurrent,
  Expire,
  Advance,
  Claim,
  Switch,
  Raise,
  Finalise,
  TakeTurn,
  GiveTurn,
  Put,
}
use Rattle.path_core.specs.declared.note.EntryNote.{EntryNote}
use Rattle.path_core.specs.Next.{joined, notes_after}
use Rattle.path_machine.specs.Steps.{StandInOrder}

joined_in_order : (note : EntryNote) (notes : List EntryNote) → StandInOrder notes
    → StandInOrder (joined note notes)
joined_in_order note notes order =
    let place = position_or_len (λ (n : EntryNote). nat_lt note.start.0 n.start.0) notes in
    IsNonDecreasingBy-insert (λ (n : EntryNote). n.start.0) notes place note order
    (prefix_len-le-length (λ (n : EntryNote). not (nat_lt note.start.0 n.start.0)) notes)
    (λ k d before. ltb-false note.start.0 (get_or notes k d).start.0
    (fails_before_first (λ (n : EntryNote). nat_lt note.start.0 n.start.0) notes k d before))
    (λ k d behind inside.
    let here = ltb-true note.start.0 (get_or notes place d).start.0
    (passes_at_first (λ (n : EntryNote). nat_lt note.start.0 n.start.0) notes d (omega arith)) in
    let up = order place k d behind inside in omega arith)

pub notes_stay_in_order : (notes : List EntryNote) (e : Event) → StandInOrder notes
    → StandInOrder (notes_after notes e)
notes_stay_in_order notes (Close by order group (Deposit note)) h = joined_in_order note notes h
notes_stay_in_order notes (Close by order group Nothing) h = h
notes_stay_in_order notes (Close by order group (Applied places)) h = h
notes_stay_in_order notes (Look by at) h = h
notes_stay_in_order notes (Register by order group) h = h
notes_stay_in_order notes (OpenGroup by order group) h = h
notes_stay_in_order notes (MoveCurrent by order group) h = h
notes_stay_in_order notes (Expire by order group) h = h
notes_stay_in_order notes (Advance by order group) h = h
notes_stay_in_order notes (Claim by from to what) h = h
notes_stay_in_order notes (Switch by table memtable part) h = h
notes_stay_in_order notes (Raise by table memtable to) h = h
notes_stay_in_order notes (Finalise by table memtable) h = h
notes_stay_in_order notes (TakeTurn by turn) h = h
notes_stay_in_order notes (GiveTurn by turn) h = h
notes_stay_in_order notes (Put by cursor value) h = h

-- read where there is no note
pub no_note : EntryNote
no_note = record {
  start = record { 0 = 0 };
  end = record { 0 = 0 };
  tables = 0;
  line = 0;
  writer = record { 0 = 0 };
  bytes = [];
}

-- The place is the first behind which all start later, and at or before it none does.
pub joins_at : (start : ℕ) (notes : List EntryNote) (place : ℕ) (d : EntryNote)
    → StandInOrder notes → place ≤ length notes
    → ((k : ℕ) (d : EntryNote) → place ≤ k → k < length notes → start < (get_or notes k d).start.0)
    → (0 < place → (get_or notes (place - 1) d).start.0 ≤ start)
    → place ≡ position_or_len (λ (n : EntryNote). nat_lt start n.start.0) notes
joins_at start notes place d order inside behind before =
    sym (position_or_len_is (λ (n : EntryNote). nat_lt start n.start.0) notes place d inside
    (λ k l. le-ltb start (get_or notes k d).start.0
    (let up = order k (place - 1) d (omega arith) (omega arith) in
    let last = before (omega arith) in omega arith))
    (λ l. lt-ltb start (get_or notes place d).start.0 (behind place d (omega arith) l)))
