-- What the holder of the Sync turn keeps of the last marker: which steps change it, and that all
-- others leave it.
use Rattle.std.proofs.Common.{
  ◌≡◌,
  Bool,
  true,
  false,
  cond,
  Option,
  Some,
  None,
  IsSome,
  refl,
  ap,
}
use Rattle.std.specs.Option.{option_map}
use Rattle.std.proofs.lemmas.Option.{none-some, same_Some}
use Rattle.op_core.specs.declared.count.Order.TheVariants.{Write, Append}
use Rattle.path_core.specs.declared.event.ClaimKind.TheVariants.{Entry, Marker}
use Rattle.path_core.specs.declared.event.Event.{Event}
use Rattle.path_core.specs.declared.event.Event.TheVariants.{
  Look,
  Register,
  Close,
  OpenGroup,
  MoveCurrent,
  Expire,
  Advance,
  Claim,
  Switch,
  Raise,
  Finalise,
  TakeTurn,
  GiveTurn,
  Put,
}
use Rattle.path_core.specs.declared.event.Carried.TheVariants.{Nothing, Deposit, Applied}
use Rattle.path_core.specs.declared.event.Cursor.TheVariants.{Synced, OldestLive, Stopped}
use Rattle.path_core.specs.declared.event.Place.{Place}
use Rattle.path_core.specs.declared.event.Place.TheVariants.{
  Count,
  Current,
  Oldest,
  Log,
  Newest,
  Bound,
  TurnWord,
  CursorWord,
}
use Rattle.path_core.specs.declared.event.Reading.{Reading}
use Rattle.path_core.specs.declared.event.Reading.TheVariants.{Operations, Number, Limit}
use Rattle.path_core.specs.declared.event.SwitchPart.TheVariants.{Clear, Open, Mark}
use Rattle.path_core.specs.declared.event.Turn.TheVariants.{Sync, Flush}
use Rattle.path_core.specs.declared.seat.LastMarker.{LastMarker}
use Rattle.path_core.specs.declared.seat.Seat.{Seat}
use Rattle.path_core.specs.declared.seat.SyncTurn.{SyncTurn}
use Rattle.path_core.specs.SeatAfter.{Told, seat_after, looked}
use Rattle.path_core.specs.SeatParts.{keeps, finished_found}
use Rattle.op_core.specs.Tallies.{is_finished}

-- What is kept under a Sync turn, and nothing where it is not held.
abbrev pub kept_under : Option SyncTurn → Option (Option LastMarker)
kept_under o = option_map (λ (turn : SyncTurn). turn.marker) o

-- a change of the turn that leaves it
marker_same : (o : Option SyncTurn) (f : SyncTurn → SyncTurn)
    → ((turn : SyncTurn) → (f turn).marker ≡ turn.marker)
    → kept_under (option_map f o) ≡ kept_under o
marker_same None f same = refl
marker_same (Some turn) f same = ap Some (same turn)

-- who keeps one holds the turn
pub marker_held : (o : Option SyncTurn) (kept : Option LastMarker) → kept_under o ≡ Some kept
    → IsSome o
marker_held None kept h = absurd (none-some kept h)
marker_held (Some turn) kept h = refl

-- the turn under which it is kept
pub kept_turn : (o : Option SyncTurn) (kept : Option LastMarker) → kept_under o ≡ Some kept
    → (turn : SyncTurn) × (o ≡ Some turn) × (turn.marker ≡ kept)
kept_turn None kept h = absurd (none-some kept h)
kept_turn (Some turn) kept h = (turn, refl, same_Some turn.marker kept h)

-- a change of the turn that changes it
pub marker_changed : (o : Option SyncTurn) (f : SyncTurn → SyncTurn)
    (g : Option LastMarker → Option LastMarker)
    → ((turn : SyncTurn) → (f turn).marker ≡ g turn.marker)
    → kept_under (option_map f o) ≡ option_map g (kept_under o)
marker_changed None f g is = refl
marker_changed (Some turn) f g is = ap Some (is turn)

-- Steps that change what is kept.
abbrev pub ChangesKept : Event → Type 0
ChangesKept (Claim by from to Marker) = Unit {0}
ChangesKept (MoveCurrent by Append group) = Unit {0}
ChangesKept (TakeTurn by Sync) = Unit {0}
ChangesKept (GiveTurn by Sync) = Unit {0}
ChangesKept _ = ⊥

looks_keep : (s : Seat) (at : Place) (found : Reading)
    → kept_under (looked s at found).sync ≡ kept_under s.sync
looks_keep s (Count Write group) (Operations k) = choose (is_finished k)
  where
    choose : (b : Bool) → kept_under (cond b (keeps Write (finished_found group) s) s).sync
        ≡ kept_under s.sync
    choose true = marker_same s.sync _ (λ turn. refl)
    choose false = refl
looks_keep s (Count Append group) (Operations k) = choose (is_finished k)
  where
    choose : (b : Bool) → kept_under (cond b (keeps Append (finished_found group) s) s).sync
        ≡ kept_under s.sync
    choose true = marker_same s.sync _ (λ turn. refl)
    choose false = refl
looks_keep s (Current Write) (Number n) = marker_same s.sync _ (λ turn. refl)
looks_keep s (Current Append) (Number n) = marker_same s.sync _ (λ turn. refl)
looks_keep s (Oldest Write) (Number n) = marker_same s.sync _ (λ turn. refl)
looks_keep s (Oldest Append) (Number n) = marker_same s.sync _ (λ turn. refl)
looks_keep s Log (Number n) = refl
looks_keep s (Newest t) (Number n) = refl
looks_keep s (Bound t m) (Limit b) = refl
looks_keep s (TurnWord turn) (Operations k) = refl
looks_keep s (TurnWord turn) (Number n) = refl
looks_keep s (TurnWord turn) (Limit b) = refl
looks_keep s (CursorWord Synced) (Number n) = marker_same s.sync _ (λ turn. refl)
looks_keep s (CursorWord (OldestLive t)) (Number n) = refl
looks_keep s (CursorWord Stopped) (Number n) = marker_same s.sync _ (λ turn. refl)
looks_keep s (Count order group) (Number n) = refl
looks_keep s (Count order group) (Limit b) = refl
looks_keep s (Current order) (Operations k) = refl
looks_keep s (Current order) (Limit b) = refl
looks_keep s (Oldest order) (Operations k) = refl
looks_keep s (Oldest order) (Limit b) = refl
looks_keep s at found = refl

-- any other step leaves what is kept
pub kept_stays : (e : Event) (s : Seat) (found : Reading) (told : Told) → (ChangesKept e → ⊥)
    → kept_under (seat_after s e found told).sync ≡ kept_under s.sync
kept_stays (Look by at) s found told other = looks_keep s at found
kept_stays (Register by Write group) s found told other = refl
kept_stays (Register by Append group) s found told other = refl
kept_stays (Close by Append group (Deposit note)) s found told other = refl
kept_stays (Close by Append group Nothing) s found told other = refl
kept_stays (Close by Append group (Applied places)) s found told other = refl
kept_stays (Close by Write group carried) s found told other = refl
kept_stays (OpenGroup by order group) s found told other = marker_same s.sync _ (λ turn. refl)
kept_stays (MoveCurrent by Write group) s found told other = marker_same s.sync _ (λ turn. refl)
kept_stays (MoveCurrent by Append group) s found told other = absurd (other tt)
kept_stays (Expire by order group) s found told other = marker_same s.sync _ (λ turn. refl)
kept_stays (Advance by Write group) s found told other = marker_same s.sync _ (λ turn. refl)
kept_stays (Advance by Append group) s found told other = marker_same s.sync _ (λ turn. refl)
kept_stays (Claim by from to Entry) s found told other = refl
kept_stays (Claim by from to Marker) s found told other = absurd (other tt)
kept_stays (TakeTurn by Sync) s found told other = absurd (other tt)
kept_stays (TakeTurn by (Flush table)) s found told other = refl
kept_stays (GiveTurn by Sync) s found told other = absurd (other tt)
kept_stays (GiveTurn by (Flush table)) s found told other = refl
kept_stays (Put by Synced value) s found told other = marker_same s.sync _ (λ turn. refl)
kept_stays (Put by (OldestLive table) value) s found told other =
    marker_same s.sync _ (λ turn. refl)
kept_stays (Put by Stopped value) s found told other = marker_same s.sync _ (λ turn. refl)
kept_stays (Raise by table m to) s (Operations k) told other = refl
kept_stays (Raise by table m to) s (Number n) told other = refl
kept_stays (Raise by table m to) s (Limit b) told other = refl
kept_stays (Finalise by table m) s (Operations k) told other = refl
kept_stays (Finalise by table m) s (Number n) told other = refl
kept_stays (Finalise by table m) s (Limit b) told other = refl
kept_stays (Switch by table m Clear) s found told other = refl
kept_stays (Switch by table m Open) s found told other = refl
kept_stays (Switch by table m Mark) s found told other = refl
