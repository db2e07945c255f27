-- What a seat found as current: a Look at an order's current group alone changes it.
use Rattle.std.proofs.Common.{◌≡◌, ◌≢◌, ℕ, Bool, true, false, cond, Some, refl, ap, ◌⊎◌}
use Rattle.std.proofs.lemmas.Option.{same_Some}
use mathlib.Core.Logic.{inl, inr}
use Rattle.op_core.specs.declared.count.Order.{Order}
use Rattle.op_core.specs.declared.count.Order.TheVariants.{Write, Append}
use Rattle.path_core.specs.declared.event.Carried.TheVariants.{Nothing, Deposit, Applied}
use Rattle.path_core.specs.declared.event.ClaimKind.TheVariants.{Entry, Marker}
use Rattle.path_core.specs.declared.event.Cursor.TheVariants.{Synced, OldestLive, Stopped}
use Rattle.path_core.specs.declared.event.Event.{Event}
use Rattle.path_core.specs.declared.event.Event.TheVariants.{
  Look,
  Register,
  Close,
  MoveCurrent,
  Advance,
  Claim,
  Switch,
  Raise,
  Finalise,
  TakeTurn,
  GiveTurn,
  Put,
}
use Rattle.path_core.specs.declared.event.Place.{Place}
use Rattle.path_core.specs.declared.event.Place.TheVariants.{
  Count,
  Current,
  Oldest,
  Log,
  Newest,
  Bound,
  TurnWord,
  CursorWord,
}
use Rattle.path_core.specs.declared.event.Reading.{Reading}
use Rattle.path_core.specs.declared.event.Reading.TheVariants.{Operations, Number, Limit}
use Rattle.path_core.specs.declared.event.SwitchPart.TheVariants.{Clear, Open, Mark}
use Rattle.path_core.specs.declared.event.Turn.TheVariants.{Sync, Flush}
use Rattle.path_core.specs.declared.seat.Seat.{Seat}
use Rattle.path_core.specs.declared.state.PathState.{PathState}
use Rattle.path_core.specs.Parts.{groups_of, found_of}
use Rattle.path_core.specs.Words.{reading}
use Rattle.path_core.specs.SeatAfter.{Told, seat_after, looked}
use Rattle.path_core.specs.SeatParts.{keeps, finished_found}
use Rattle.op_core.specs.Tallies.{is_finished}

-- A Look at an order's current group is the one step that changes what a seat found as current.
pub record FindsSame (s after : Seat) : Type 0 where
  pub write : after.found.write.current ≡ s.found.write.current
  pub append : after.found.append.current ≡ s.found.append.current

abbrev pub LooksAtCurrent : Order → Place → Type 0
LooksAtCurrent Write (Current Write) = Unit {0}
LooksAtCurrent Append (Current Append) = Unit {0}
LooksAtCurrent _ _ = ⊥

same : {s after : Seat} → after.found.write.current ≡ s.found.write.current
    → after.found.append.current ≡ s.found.append.current → FindsSame s after
same w a = record { write = w; append = a }

-- what is found as current was found before, or is what stands there
pub looks_find : (s : Seat) (at : Place) (found : Reading) (order : Order) (g : ℕ)
    → (found_of order (looked s at found)).current ≡ Some g
    → ((found_of order s).current ≡ Some g) ⊎ ((at ≡ Current order) × (found ≡ Number g))
looks_find s (Count o group) (Operations k) order g h = by (is_finished k) o order h
  where
    by : (b : Bool) (o order : Order)
        → (found_of order (cond b (keeps o (finished_found group) s) s)).current ≡ Some g
        → ((found_of order s).current ≡ Some g)
        ⊎ ((Count o group ≡ Current order) × (Operations k ≡ Number g))
    by true Write Write h = inl h
    by true Write Append h = inl h
    by true Append Write h = inl h
    by true Append Append h = inl h
    by false Write Write h = inl h
    by false Write Append h = inl h
    by false Append Write h = inl h
    by false Append Append h = inl h
looks_find s (Current Write) (Number n) Write g h = inr (refl, ap Number (same_Some n g h))
looks_find s (Current Write) (Number n) Append g h = inl h
looks_find s (Current Append) (Number n) Write g h = inl h
looks_find s (Current Append) (Number n) Append g h = inr (refl, ap Number (same_Some n g h))
looks_find s (Oldest Write) (Number n) Write g h = inl h
looks_find s (Oldest Write) (Number n) Append g h = inl h
looks_find s (Oldest Append) (Number n) Write g h = inl h
looks_find s (Oldest Append) (Number n) Append g h = inl h
looks_find s (TurnWord turn) (Number n) order g h = inl h
looks_find s (TurnWord turn) (Limit b) order g h = inl h
looks_find s (TurnWord turn) (Operations k) order g h = inl h
looks_find s Log (Number n) Write g h = inl h
looks_find s Log (Number n) Append g h = inl h
looks_find s (Newest t) (Number n) Write g h = inl h
looks_find s (Newest t) (Number n) Append g h = inl h
looks_find s (Bound t m) (Limit b) Write g h = inl h
looks_find s (Bound t m) (Limit b) Append g h = inl h
looks_find s (CursorWord Synced) (Number n) Write g h = inl h
looks_find s (CursorWord Synced) (Number n) Append g h = inl h
looks_find s (CursorWord (OldestLive t)) (Number n) Write g h = inl h
looks_find s (CursorWord (OldestLive t)) (Number n) Append g h = inl h
looks_find s (CursorWord Stopped) (Number n) Write g h = inl h
looks_find s (CursorWord Stopped) (Number n) Append g h = inl h
looks_find s at found Write g h = inl h
looks_find s at found Append g h = inl h

pub finds_same : (e : Event) (s : Seat) (found : Reading) (told : Told)
    → ((by : ℕ) (at : Place) → e ≢ Look by at) → FindsSame s (seat_after s e found told)
finds_same (Look by at) s found told other = absurd (other by at refl)
finds_same (Register by Write group) s found told other = same refl refl
finds_same (Register by Append group) s found told other = same refl refl
finds_same (Close by Append group (Deposit note)) s found told other = same refl refl
finds_same (Close by Append group Nothing) s found told other = same refl refl
finds_same (Close by Append group (Applied places)) s found told other = same refl refl
finds_same (Close by Write group carried) s found told other = same refl refl
finds_same (MoveCurrent by Write group) s found told other = same refl refl
finds_same (MoveCurrent by Append group) s found told other = same refl refl
finds_same (Advance by Write group) s found told other = same refl refl
finds_same (Advance by Append group) s found told other = same refl refl
finds_same (Claim by from to Entry) s found told other = same refl refl
finds_same (Claim by from to Marker) s found told other = same refl refl
finds_same (Switch by table memtable Clear) s found told other = same refl refl
finds_same (Switch by table memtable Open) s found told other = same refl refl
finds_same (Switch by table memtable Mark) s found told other = same refl refl
finds_same (Raise by table memtable to) s (Limit b) told other = same refl refl
finds_same (Finalise by table memtable) s (Limit b) told other = same refl refl
finds_same (TakeTurn by Sync) s found told other = same refl refl
finds_same (TakeTurn by (Flush table)) s found told other = same refl refl
finds_same (GiveTurn by Sync) s found told other = same refl refl
finds_same (GiveTurn by (Flush table)) s found told other = same refl refl
finds_same (Put by Synced value) s found told other = same refl refl
finds_same (Put by (OldestLive table) value) s found told other = same refl refl
finds_same (Put by Stopped value) s found told other = same refl refl
finds_same e s found told other = same refl refl

-- a number that is found at an order's current group
pub current_read : (x : PathState) (o : Order) (g : ℕ) → reading x (Current o) ≡ Number g
    → g ≡ (groups_of x o).current
current_read x Write g e = cc
current_read x Append g e = cc
