-- A holder of the Sync turn that has filed a memtable has filed one until it gives the turn back.
use Rattle.std.proofs.Common.{◌≡◌, ◌||◌, Bool, true, false, cond, Option, Some, None, ap}
use Rattle.std.specs.Option.{option_map, option_map_or}
use Rattle.op_core.specs.Tallies.{is_finished}
use Rattle.op_core.specs.declared.count.Order.{Order}
use Rattle.op_core.specs.declared.count.Order.TheVariants.{Write, Append}
use Rattle.path_core.specs.declared.event.Carried.TheVariants.{Nothing, Deposit, Applied}
use Rattle.path_core.specs.declared.event.ClaimKind.TheVariants.{Entry, Marker}
use Rattle.path_core.specs.declared.event.Cursor.TheVariants.{Synced, OldestLive, Stopped}
use Rattle.path_core.specs.declared.event.Event.{Event}
use Rattle.path_core.specs.declared.event.Event.TheVariants.{Look, Register, Close, OpenGroup}
use Rattle.path_core.specs.declared.event.Event.TheVariants.{MoveCurrent, Expire, Advance, Claim}
use Rattle.path_core.specs.declared.event.Event.TheVariants.{Switch, Raise, Finalise, TakeTurn}
use Rattle.path_core.specs.declared.event.Event.TheVariants.{GiveTurn, Put}
use Rattle.path_core.specs.declared.event.Place.{Place}
use Rattle.path_core.specs.declared.event.Place.TheVariants.{Count, Current, Oldest, Log, Newest}
use Rattle.path_core.specs.declared.event.Place.TheVariants.{Bound, TurnWord, CursorWord}
use Rattle.path_core.specs.declared.event.Reading.{Reading}
use Rattle.path_core.specs.declared.event.Reading.TheVariants.{Limit, Number, Operations}
use Rattle.path_core.specs.declared.event.SwitchPart.TheVariants.{Clear, Mark, Open}
use Rattle.path_core.specs.declared.event.Turn.TheVariants.{Flush, Sync}
use Rattle.path_core.specs.declared.seat.FoundGroups.{FoundGroups}
use Rattle.path_core.specs.declared.seat.Seat.{Seat}
use Rattle.path_core.specs.declared.seat.SyncTurn.{SyncTurn}
use Rattle.path_core.specs.Next.{has_filed}
use Rattle.path_core.specs.SeatAfter.{Told, looked, seat_after}
use Rattle.path_core.specs.SeatParts.{finished_found, keeps}

-- the step neither takes nor gives the Sync turn
abbrev pub LeavesTurn : Event → Type 0
LeavesTurn (TakeTurn by Sync) = ⊥
LeavesTurn (GiveTurn by Sync) = ⊥
LeavesTurn _ = Unit {0}

turn_stays : (f : SyncTurn → SyncTurn) → ((t : SyncTurn) → t.filed ≡ true → (f t).filed ≡ true)
    → (o : Option SyncTurn) → option_map_or (λ (t : SyncTurn). t.filed) o false ≡ true
    → option_map_or (λ (t : SyncTurn). t.filed) (option_map f o) false ≡ true
turn_stays f same None h = h
turn_stays f same (Some t) h = same t h

kept_filed : (o : Order) (f : FoundGroups → FoundGroups) (s : Seat) → has_filed s ≡ true
    → has_filed (keeps o f s) ≡ true
kept_filed Write f s h = turn_stays _ (λ t q. q) s.sync h
kept_filed Append f s h = turn_stays _ (λ t q. q) s.sync h

look_filed : (at : Place) (r : Reading) (s : Seat) → has_filed s ≡ true
    → has_filed (looked s at r) ≡ true
look_filed (Count o g) (Operations k) s h = choose (is_finished k)
  where
    choose : (b : Bool) → has_filed (cond b (keeps o (finished_found g) s) s) ≡ true
    choose true = kept_filed o (finished_found g) s h
    choose false = h
look_filed (Count o g) (Number n) s h = h
look_filed (Count o g) (Limit b) s h = h
look_filed (Current o) (Operations k) s h = h
look_filed (Current o) (Number n) s h = kept_filed o _ s h
look_filed (Current o) (Limit b) s h = h
look_filed (Oldest o) (Operations k) s h = h
look_filed (Oldest o) (Number n) s h = kept_filed o _ s h
look_filed (Oldest o) (Limit b) s h = h
look_filed Log (Operations k) s h = h
look_filed Log (Number n) s h = h
look_filed Log (Limit b) s h = h
look_filed (Newest t) (Operations k) s h = h
look_filed (Newest t) (Number n) s h = h
look_filed (Newest t) (Limit b) s h = h
look_filed (Bound t m) (Operations k) s h = h
look_filed (Bound t m) (Number n) s h = h
look_filed (Bound t m) (Limit b) s h = h
look_filed (TurnWord turn) (Operations k) s h = h
look_filed (TurnWord turn) (Number n) s h = h
look_filed (TurnWord turn) (Limit b) s h = h
look_filed (CursorWord Synced) (Operations k) s h = h
look_filed (CursorWord Synced) (Number n) s h = turn_stays _ (λ t q. q) s.sync h
look_filed (CursorWord Synced) (Limit b) s h = h
look_filed (CursorWord Stopped) (Operations k) s h = h
look_filed (CursorWord Stopped) (Number n) s h = turn_stays _ (λ t q. q) s.sync h
look_filed (CursorWord Stopped) (Limit b) s h = h
look_filed (CursorWord (OldestLive t)) (Operations k) s h = h
look_filed (CursorWord (OldestLive t)) (Number n) s h = h
look_filed (CursorWord (OldestLive t)) (Limit b) s h = h

pub filed_stays : (e : Event) (s : Seat) (found : Reading) (told : Told) → LeavesTurn e
    → has_filed s ≡ true → has_filed (seat_after s e found told) ≡ true
filed_stays (Look by at) s found told leaves h = look_filed at found s h
filed_stays (Register by Write g) s found told leaves h = h
filed_stays (Register by Append g) s found told leaves h = h
filed_stays (Close by Append g Nothing) s found told leaves h = h
filed_stays (Close by Append g (Deposit note)) s found told leaves h = h
filed_stays (Close by Append g (Applied places)) s found told leaves h = h
filed_stays (Close by Write g carried) s found told leaves h = h
filed_stays (OpenGroup by o g) s found told leaves h = turn_stays _ (λ t q. q) s.sync h
filed_stays (MoveCurrent by Write g) s found told leaves h = turn_stays _ (λ t q. q) s.sync h
filed_stays (MoveCurrent by Append g) s found told leaves h = turn_stays _ (λ t q. q) s.sync h
filed_stays (Expire by o g) s found told leaves h = turn_stays _ (λ t q. q) s.sync h
filed_stays (Advance by o g) s found told leaves h = kept_filed o _ s h
filed_stays (Claim by from to Entry) s found told leaves h = h
filed_stays (Claim by from to Marker) s found told leaves h = turn_stays _ (λ t q. q) s.sync h
filed_stays (Switch by t m Clear) s found told leaves h = h
filed_stays (Switch by t m Open) s found told leaves h = h
filed_stays (Switch by t m Mark) s found told leaves h = h
filed_stays (Raise by t m to) s (Operations k) told leaves h = h
filed_stays (Raise by t m to) s (Number n) told leaves h = h
filed_stays (Raise by t m to) s (Limit b) told leaves h = h
filed_stays (Finalise by t m) s (Operations k) told leaves h = h
filed_stays (Finalise by t m) s (Number n) told leaves h = h
filed_stays (Finalise by t m) s (Limit b) told leaves h = h
filed_stays (TakeTurn by Sync) s found told leaves h = absurd leaves
filed_stays (TakeTurn by (Flush t)) s found told leaves h = h
filed_stays (GiveTurn by Sync) s found told leaves h = absurd leaves
filed_stays (GiveTurn by (Flush t)) s found told leaves h = h
filed_stays (Put by Synced value) s found told leaves h = turn_stays _ (λ t q. q) s.sync h
filed_stays (Put by (OldestLive t) value) s found told leaves h =
    turn_stays _ (λ turn q. ap (λ (b : Bool). b || told.files) q) s.sync h
filed_stays (Put by Stopped value) s found told leaves h = turn_stays _ (λ t q. q) s.sync h
