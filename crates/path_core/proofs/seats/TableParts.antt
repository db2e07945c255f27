-- What a seat knows of a table where a step changes its part of it.
use Rattle.std.proofs.Common.{
  ◌≡◌,
  ℕ,
  suc,
  ◌<◌,
  ◌≤◌,
  Bool,
  true,
  false,
  ◌&&◌,
  cond,
  length,
  Option,
  Some,
  None,
  refl,
  sym,
  ap,
  ◌∙◌,
  subst,
}
use Rattle.std.proofs.lemmas.Option.{none-some, same_Some}
use Rattle.path_core.specs.declared.seat.FlushTurn.{FlushTurn}
use Rattle.path_core.specs.declared.seat.FoundBound.{FoundBound}
use Rattle.path_core.specs.declared.seat.Switching.{Switching}
use Rattle.path_core.specs.declared.seat.SeatTable.{SeatTable}
use Rattle.path_core.specs.declared.state.Bound.{Bound}
use Rattle.path_core.specs.declared.state.TableState.{TableState}
use Rattle.path_core.specs.Parts.{memtable_at, is_at}
use Rattle.path_core.specs.SeatParts.{in_flush, bound_found, tries_bound, begins_at, is_raising}
use Rattle.path_core.specs.SeatAfter.{
  raised_as_writer,
  raised_as_holder,
  new_flush,
  place_cleared,
  newest_made,
}
use Rattle.path_core.specs.LawfulSeats.{BoundStays, BoundExact}
use Rattle.path_core.proofs.seats.KnownWords.{turn_mapped}
use Rattle.path_core.proofs.seats.KnownBounds.{stays_itself, exact_itself}
use Rattle.path_core.proofs.seats.KnownTables.{BoundIs, TurnIs, KnowsTable, same_grows, bound_still}
use Rattle.path_core.proofs.seats.TriesApart.{tries_apart, begins_apart}

-- the same bound, and the same turn
pub same_table : (table : TableState) (st after : SeatTable) → after.bound ≡ st.bound
    → after.flush ≡ st.flush → KnowsTable table st → KnowsTable table after
same_table table st after b f K = record {
  bounds = λ found h. K.bounds found (sym b ∙ h);
  flush = λ turn h. K.flush turn (sym f ∙ h);
}

-- the turn changes in its switch's stage alone
pub stage_known : (table : TableState) (st : SeatTable) (stage : FlushTurn → Switching)
    → KnowsTable table st
    → KnowsTable table (in_flush (λ (turn : FlushTurn). record turn { stage = stage turn }) st)
stage_known table st stage K = record {
  bounds = K.bounds;
  flush = turn_mapped (TurnIs table) st.flush
      (λ (turn : FlushTurn). record turn { stage = stage turn })
      (λ turn h. let F = K.flush turn h in
      record {
        newest = F.newest;
        oldest_live = F.oldest_live;
        bound = F.bound;
        cleared = F.cleared;
      });
}

-- The newest memtable is found.
pub newest_known : (table : TableState) (n : ℕ) (st : SeatTable) → n ≡ table.newest
    → KnowsTable table st
    → KnowsTable table (in_flush (λ (turn : FlushTurn). record turn { newest = Some n }) st)
newest_known table n st is K = record {
  bounds = K.bounds;
  flush = turn_mapped (TurnIs table) st.flush
      (λ (turn : FlushTurn). record turn { newest = Some n })
      (λ turn h. let F = K.flush turn h in record {
        newest = λ m h. sym (same_Some n m h) ∙ is;
        oldest_live = F.oldest_live;
        bound = F.bound;
        cleared = F.cleared;
      });
}

-- The place of the memtable to come is cleared.
pub cleared_known : (table : TableState) (n : ℕ) (st : SeatTable) → n ≡ suc table.newest
    → KnowsTable table st → KnowsTable table (place_cleared n st)
cleared_known table n st is K = record {
  bounds = K.bounds;
  flush = turn_mapped (TurnIs table) st.flush
      (λ (turn : FlushTurn). record turn { cleared = Some n })
      (λ turn h. let F = K.flush turn h in record {
        newest = F.newest;
        oldest_live = F.oldest_live;
        bound = F.bound;
        cleared = λ m h. sym (same_Some n m h) ∙ is;
      });
}

-- The newest memtable is made; bounds are what they were.
pub made_known : (table after : TableState) (n : ℕ) (st : SeatTable)
    → length table.memtables ≤ length after.memtables
    → ((m : ℕ) → (memtable_at after m).bound ≡ (memtable_at table m).bound)
    → n ≡ after.newest → after.oldest_live ≡ table.oldest_live → KnowsTable table st
    → KnowsTable after (newest_made n st)
made_known table after n st made same is oldest K = record {
  bounds = λ found h. bound_still table after (same_grows table after made same) found
      (K.bounds found h);
  flush = turn_mapped (TurnIs after) st.flush
      (λ (turn : FlushTurn). record turn { newest = Some n; cleared = None })
      (λ turn h. let F = K.flush turn h in record {
        newest = λ m h. sym (same_Some n m h) ∙ is;
        oldest_live = λ m h. F.oldest_live m h ∙ sym oldest;
        bound = λ found h. subst (BoundExact found.bound) (sym (same found.memtable))
            (F.bound found h);
        cleared = λ m h. absurd (none-some m h);
      });
}

-- The oldest live one is found or put.
pub oldest_known : (table after : TableState) (n : ℕ) (st : SeatTable)
    → length table.memtables ≤ length after.memtables
    → ((m : ℕ) → (memtable_at after m).bound ≡ (memtable_at table m).bound)
    → n ≡ after.oldest_live → after.newest ≡ table.newest → KnowsTable table st
    → KnowsTable after (in_flush (λ (turn : FlushTurn). record turn { oldest_live = Some n }) st)
oldest_known table after n st made same is newest K = record {
  bounds = λ found h. bound_still table after (same_grows table after made same) found
      (K.bounds found h);
  flush = turn_mapped (TurnIs after) st.flush
      (λ (turn : FlushTurn). record turn { oldest_live = Some n })
      (λ turn h. let F = K.flush turn h in record {
        newest = λ m h. F.newest m h ∙ sym newest;
        oldest_live = λ m h. sym (same_Some n m h) ∙ is;
        bound = λ found h. subst (BoundExact found.bound) (sym (same found.memtable))
            (F.bound found h);
        cleared = λ m h. F.cleared m h ∙ ap suc (sym newest);
      });
}

-- A bound is found or put: what was known of the table before it, but of bounds.
pub bound_known : (table after : TableState) (m : ℕ) (b : Bound) (st : SeatTable)
    → m < length after.memtables → (memtable_at after m).bound ≡ b
    → after.newest ≡ table.newest → after.oldest_live ≡ table.oldest_live
    → KnowsTable table st → KnowsTable after (bound_found m b st)
bound_known table after m b st made is newest oldest K = record {
  bounds = λ found h. subst (BoundIs after) (same_Some at found h)
      (record { made = made; stays = subst (BoundStays b) (sym is) (stays_itself b) });
  flush = turn_mapped (TurnIs after) st.flush
      (λ (turn : FlushTurn). record turn { bound = Some at })
      (λ turn h. let F = K.flush turn h in record {
        newest = λ n h. F.newest n h ∙ sym newest;
        oldest_live = λ n h. F.oldest_live n h ∙ sym oldest;
        bound = λ found h. subst
            (λ (f : FoundBound). BoundExact f.bound (memtable_at after f.memtable).bound)
            (same_Some at found h) (subst (BoundExact b) (sym is) (exact_itself b));
        cleared = λ m h. F.cleared m h ∙ ap suc (sym newest);
      });
}
  where
    at : FoundBound
    at = record { memtable = m; bound = b }

-- what a write tries, and its place, tell nothing of a table's words
pub tries_known : (table : TableState) (end : Option ℕ) (m : ℕ) (b : Bound) (st : SeatTable)
    → KnowsTable table st → KnowsTable table (tries_bound end m b st)
tries_known table end m b st K =
    let same = tries_apart end m b st in same_table table st _ same.0 same.1 K

-- so it is with the first memtable that it tries
pub begins_known : (table : TableState) (touched : Bool) (n : ℕ) (st : SeatTable)
    → KnowsTable table st → KnowsTable table (begins_at touched n st)
begins_known table touched n st K =
    let same = begins_apart touched n st in same_table table st _ same.0 same.1 K

-- so it is with a raise, once the bound is put
pub raises_known : (table : TableState) (deposited : Bool) (m to : ℕ) (b : Bound) (st : SeatTable)
    → KnowsTable table st
    → KnowsTable table (raised_as_holder m to (raised_as_writer deposited m b st))
raises_known table deposited m to b st K =
    choose (deposited && is_at st.trying m && is_raising b)
  where
    choose : (c : Bool) → KnowsTable table
        (raised_as_holder m to (cond c (record st { place = Some m }) st))
    choose true = stage_known table (record st { place = Some m }) _
        (same_table table st (record st { place = Some m }) refl refl K)
    choose false = stage_known table st _ K

-- A turn that was just taken knows nothing; one that is given back is not held.

-- a turn that was just taken
pub taken_known : (table : TableState) (st : SeatTable) → KnowsTable table st
    → KnowsTable table (record st { flush = Some new_flush })
taken_known table st K = record {
  bounds = K.bounds;
  flush = λ turn h. subst (TurnIs table) (same_Some new_flush turn h) (record {
    newest = λ n h. absurd (none-some n h);
    oldest_live = λ n h. absurd (none-some n h);
    bound = λ found h. absurd (none-some found h);
    cleared = λ m h. absurd (none-some m h);
  });
}

-- a turn that is given back
pub given_known : (table : TableState) (st : SeatTable) → KnowsTable table st
    → KnowsTable table (record st { flush = None })
given_known table st K = record {
  bounds = K.bounds;
  flush = λ turn h. absurd (none-some turn h);
}
