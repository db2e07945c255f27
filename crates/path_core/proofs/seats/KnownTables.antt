-- What a seat found or put of a table's words still stands: each allowed step keeps it.
use Rattle.std.proofs.Common.{
  ◌≡◌,
  ℕ,
  suc,
  ◌<◌,
  ◌≤◌,
  length,
  Some,
  is_some,
  IsSome,
  refl,
  sym,
  ap,
  ◌∙◌,
  subst,
  arith,
}
use Rattle.path_core.specs.declared.seat.FlushTurn.{FlushTurn}
use Rattle.path_core.specs.declared.seat.FoundBound.{FoundBound}
use Rattle.path_core.specs.declared.seat.SeatTable.{SeatTable}
use Rattle.path_core.specs.declared.state.TableState.{TableState}
use Rattle.path_core.specs.Parts.{memtable_at}
use Rattle.path_core.specs.LawfulSeats.{BoundStays, BoundExact}
use Rattle.path_core.proofs.seats.KnownBounds.{
  stays_itself,
  exact_itself,
  stays_on,
  exact_on,
  exact_to_stays,
}

-- What is known of a memtable's bound, and what the holder of the table's turn knows.

pub record BoundIs (table : TableState) (found : FoundBound) : Type 0 where
  pub made : found.memtable < length table.memtables
  pub stays : BoundStays found.bound (memtable_at table found.memtable).bound

pub record TurnIs (table : TableState) (turn : FlushTurn) : Type 0 where
  pub newest : (n : ℕ) → turn.newest ≡ Some n → n ≡ table.newest
  pub oldest_live : (n : ℕ) → turn.oldest_live ≡ Some n → n ≡ table.oldest_live
  pub bound : (found : FoundBound) → turn.bound ≡ Some found
      → BoundExact found.bound (memtable_at table found.memtable).bound
  pub cleared : (m : ℕ) → turn.cleared ≡ Some m → m ≡ suc table.newest

-- What a seat knows of a table.
pub record KnowsTable (table : TableState) (st : SeatTable) : Type 0 where
  pub bounds : (found : FoundBound) → st.bound ≡ Some found → BoundIs table found
  pub flush : (turn : FlushTurn) → st.flush ≡ Some turn → TurnIs table turn

-- How a table goes forward in a step, and in one that is not its turn's holder's.

pub record TableGrows (table after : TableState) : Type 0 where
  pub made : length table.memtables ≤ length after.memtables
  pub bounds : (m : ℕ) → BoundStays (memtable_at table m).bound (memtable_at after m).bound

pub record TableLeft (table after : TableState) : Type 0 where
  pub made : length table.memtables ≤ length after.memtables
  pub newest : after.newest ≡ table.newest
  pub oldest_live : after.oldest_live ≡ table.oldest_live
  pub bounds : (m : ℕ) → BoundExact (memtable_at table m).bound (memtable_at after m).bound

-- a table that a step leaves
pub left_itself : (table : TableState) → TableLeft table table
left_itself table = record {
  made = omega arith;
  newest = refl;
  oldest_live = refl;
  bounds = λ m. exact_itself (memtable_at table m).bound;
}

-- what is left goes forward
pub left_grows : (table after : TableState) → TableLeft table after → TableGrows table after
left_grows table after M = record {
  made = M.made;
  bounds = λ m. exact_to_stays _ _ (M.bounds m);
}

-- a table whose bounds are what they were
pub same_grows : (table after : TableState) → length table.memtables ≤ length after.memtables
    → ((m : ℕ) → (memtable_at after m).bound ≡ (memtable_at table m).bound)
    → TableGrows table after
same_grows table after made same = record {
  made = made;
  bounds = λ m. subst (BoundStays (memtable_at table m).bound) (sym (same m))
      (stays_itself (memtable_at table m).bound);
}

-- a bound that was found is known still
pub bound_still : (table after : TableState) → TableGrows table after → (found : FoundBound)
    → BoundIs table found → BoundIs after found
bound_still table after M found B = record {
  made = let made = B.made in let more = M.made in omega arith;
  stays = stays_on found.bound _ _ B.stays (M.bounds found.memtable);
}

-- what is known still where the turn's holder does not act
pub known_still : (table after : TableState) → TableLeft table after → (st : SeatTable)
    → KnowsTable table st → KnowsTable after st
known_still table after M st K = record {
  bounds = λ found h. bound_still table after (left_grows table after M) found (K.bounds found h);
  flush = λ turn h. let F = K.flush turn h in record {
    newest = λ n h. F.newest n h ∙ sym M.newest;
    oldest_live = λ n h. F.oldest_live n h ∙ sym M.oldest_live;
    bound = λ found h. exact_on found.bound _ _ (F.bound found h) (M.bounds found.memtable);
    cleared = λ m h. F.cleared m h ∙ ap suc (sym M.newest);
  };
}

-- what a seat knows that holds no turn of the table
pub known_unheld : (table after : TableState) → TableGrows table after → (st : SeatTable)
    → (IsSome st.flush → ⊥) → KnowsTable table st → KnowsTable after st
known_unheld table after M st unheld K = record {
  bounds = λ found h. bound_still table after M found (K.bounds found h);
  flush = λ turn h. absurd (unheld (ap (λ o. is_some o) h));
}
