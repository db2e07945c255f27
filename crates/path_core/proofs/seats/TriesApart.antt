-- What a write tries at a table, and its place there, stand apart from what its seat found of the
-- table, and from its turn.
use Rattle.std.proofs.Common.{
  ◌≡◌,
  ℕ,
  ◌+◌,
  Bool,
  true,
  false,
  cond,
  Option,
  Some,
  None,
  is_some,
  refl,
}
use Rattle.path_core.specs.declared.seat.SeatTable.{SeatTable}
use Rattle.path_core.specs.Parts.{is_at}
use Rattle.path_core.specs.declared.state.Bound.{Bound as BoundOf}
use Rattle.path_core.specs.SeatParts.{tries_bound, takes, is_final_below, begins_at}

-- the bound that was found of the table, and its turn, are the same
abbrev pub HasSameWords : SeatTable → SeatTable → Type 0
HasSameWords st after = (after.bound ≡ st.bound) × (after.flush ≡ st.flush)

pub tries_apart : (end : Option ℕ) (m : ℕ) (b : BoundOf) (st : SeatTable)
    → HasSameWords st (tries_bound end m b st)
tries_apart None m b st = (refl, refl)
tries_apart (Some end) m b st = choose (is_at st.trying m) (takes end b) (is_final_below end b)
  where
    choose : (here takes below : Bool) → HasSameWords st (cond here
        (cond takes (record st { place = Some m })
        (cond below (record st { trying = Some (m + 1) }) st)) st)
    choose false takes below = (refl, refl)
    choose true true below = (refl, refl)
    choose true false true = (refl, refl)
    choose true false false = (refl, refl)

pub begins_apart : (touched : Bool) (n : ℕ) (st : SeatTable)
    → HasSameWords st (begins_at touched n st)
begins_apart false n st = (refl, refl)
begins_apart true n st = choose (is_some st.trying)
  where
    choose : (b : Bool) → HasSameWords st (cond b st (record st { trying = Some n }))
    choose true = (refl, refl)
    choose false = (refl, refl)
