-- The fields of a seat after a step, and what a change of one of its tables leaves.
use Rattle.std.proofs.Common.{
  ◌≡◌,
  ◌≢◌,
  ℕ,
  ◌<◌,
  ◌==◌,
  Bool,
  true,
  false,
  cond,
  List,
  length,
  get_or,
  Option,
  Some,
  None,
  is_some,
  refl,
  sym,
  ap,
  ◌∙◌,
  subst,
  arith,
  get_or-set_same,
  get_or-set_other,
}
use Rattle.std.specs.Option.{option_map}
use Rattle.std.proofs.lemmas.List.{set_past}
use mathlib.Core.Logic.{dite}
use native.Mathlib.Decide.{ℕ_discrete, dec_lt}
use Rattle.op_core.specs.declared.count.Order.TheVariants.{Write, Append}
use Rattle.path_core.specs.declared.event.Carried.TheVariants.{Deposit}
use Rattle.path_core.specs.declared.event.ClaimKind.TheVariants.{Entry}
use Rattle.path_core.specs.declared.event.Event.{Event}
use Rattle.path_core.specs.declared.event.Event.TheVariants.{
  Register,
  Close,
  OpenGroup,
  MoveCurrent,
  Expire,
  Claim,
  TakeTurn,
  GiveTurn,
}
use Rattle.path_core.specs.declared.event.Turn.{Turn}
use Rattle.path_core.specs.declared.event.Turn.TheVariants.{Sync, Flush}
use Rattle.path_core.specs.declared.seat.Issue.{Issue}
use Rattle.path_core.specs.declared.seat.Issue.TheVariants.{Rest, Opened, Moved}
use Rattle.path_core.specs.declared.seat.Range.{Range}
use Rattle.path_core.specs.declared.seat.Seat.{Seat}
use Rattle.path_core.specs.declared.seat.SeatTable.{SeatTable}
use Rattle.path_core.specs.declared.seat.SyncTurn.{SyncTurn}
use Rattle.path_core.specs.declared.state.PathState.{PathState}
use Rattle.path_core.specs.Keys.{claim_start}
use Rattle.path_core.specs.Parts.{fresh_seat, untouched, seat_of, seat_table, holds_turn}
use Rattle.path_core.specs.Words.{reading, by_of, place_of}
use Rattle.path_core.specs.SeatAfter.{seat_after}
use Rattle.path_core.specs.SeatParts.{at_table}
use Rattle.path_core.specs.Next.{next_of, told_of}
use Rattle.path_core.specs.Lawful.{IsSized}
use Rattle.path_core.proofs.lists.Replaced.{put_at, replicated}

-- the acting seat's part after its step
abbrev pub own_after : PathState → Event → Seat
own_after x e = seat_after (seat_of x (by_of e)) e (reading x (place_of e)) (told_of x e)

-- what holds of each seat after a step
pub each_seat : (x : PathState) (e : Event) → by_of e < length x.seats → (P : ℕ → Seat → Type 0)
    → P (by_of e) (own_after x e) → ((w : ℕ) → w ≢ by_of e → P w (seat_of x w))
    → (w : ℕ) → P w (seat_of (next_of x e) w)
each_seat x e inside P own other w =
    put_at x.seats (by_of e) (own_after x e) fresh_seat inside P own other w

-- A field of a seat after its step.

abbrev pub write_after : Option ℕ → Event → Option ℕ
write_after group (Register by Write g) = Some g
write_after group (Close by Write g carried) = None
write_after group _ = group

abbrev pub append_after : Option ℕ → Event → Option ℕ
append_after group (Register by Append g) = Some g
append_after group (Close by Append g carried) = None
append_after group _ = group

abbrev pub claim_after : Option Range → Event → Option Range
claim_after claim (Close by Write g carried) = None
claim_after claim (Claim by from to Entry) =
    Some (record { start = claim_start Entry from.0 to.0; end = to.0 })
claim_after claim _ = claim

abbrev pub note_after : Option ℕ → Event → Option ℕ
note_after kept (Close by Write g carried) = None
note_after kept (Close by Append g (Deposit n)) = Some n.tables
note_after kept _ = kept

-- the issue of the Sync turn, where it is held
abbrev pub issue_held : Seat → Option Issue
issue_held s = option_map (λ (turn : SyncTurn). turn.issue) s.sync

abbrev pub with_issue : Issue → Option Issue → Option Issue
with_issue issue held = option_map (λ (i : Issue). issue) held

abbrev pub issue_after : Option Issue → Event → Option Issue
issue_after held (OpenGroup by order g) = with_issue (Opened order) held
issue_after held (MoveCurrent by order g) = with_issue (Moved order) held
issue_after held (Expire by order g) = with_issue Rest held
issue_after held (TakeTurn by Sync) = Some Rest
issue_after held (GiveTurn by Sync) = None
issue_after held _ = held

-- whether the turn of a table is held
abbrev pub flush_after : ℕ → Bool → Event → Bool
flush_after t held (TakeTurn by (Flush table)) = cond (table.0 == t) true held
flush_after t held (GiveTurn by (Flush table)) = cond (table.0 == t) false held
flush_after t held _ = held

-- The fields of a seat's operation and of its turns.
pub record Columns (e : Event) (s after : Seat) : Type 0 where
  pub write : after.write ≡ write_after s.write e
  pub append : after.append ≡ append_after s.append e
  pub claim : after.claim ≡ claim_after s.claim e
  pub note : after.note ≡ note_after s.note e
  pub issue : issue_held after ≡ issue_after (issue_held s) e
  pub flush : (t : ℕ) → is_some (seat_table after t).flush
      ≡ flush_after t (is_some (seat_table s t).flush) e
  pub tables : length after.tables ≡ length s.tables

-- What a step leaves of a seat: all but what it found, tries, and keeps of its turns.
pub record Leaves (s after : Seat) : Type 0 where
  pub write : after.write ≡ s.write
  pub append : after.append ≡ s.append
  pub claim : after.claim ≡ s.claim
  pub note : after.note ≡ s.note
  pub issue : issue_held after ≡ issue_held s
  pub flush : (t : ℕ) → is_some (seat_table after t).flush ≡ is_some (seat_table s t).flush
  pub tables : length after.tables ≡ length s.tables

-- a table of a seat changed
pub at_table_same : (t : ℕ) (f : SeatTable → SeatTable) (s : Seat) → t < length s.tables
    → seat_table (at_table t f s) t ≡ f (seat_table s t)
at_table_same t f s inside = get_or-set_same s.tables t (f (seat_table s t)) untouched inside

pub at_table_other : (t u : ℕ) (f : SeatTable → SeatTable) (s : Seat) → u ≢ t
    → seat_table (at_table t f s) u ≡ seat_table s u
at_table_other t u f s other = get_or-set_other s.tables t u (f (seat_table s t)) untouched other

-- What each table's part keeps.
pub at_table_keeps : {A : Type 0} (t u : ℕ) (f : SeatTable → SeatTable) (s : Seat)
    (read : SeatTable → A) → read (f (seat_table s t)) ≡ read (seat_table s t)
    → read (seat_table (at_table t f s) u) ≡ read (seat_table s u)
at_table_keeps {A} t u f s read same = dite (ℕ_discrete u t)
    (λ e. dite (dec_lt t (length s.tables))
    (λ inside. subst (λ k. read (seat_table (at_table t f s) k) ≡ read (seat_table s k)) (sym e)
    (ap read (at_table_same t f s inside) ∙ same))
    (λ past. ap (λ (ts : List SeatTable). read (get_or ts u untouched))
    (set_past s.tables t (f (seat_table s t)) (omega arith))))
    (λ n. ap read (at_table_other t u f s n))

-- a table that there is is one of each seat's
pub seat_fits : (x : PathState) → IsSized x → (t w : ℕ) → t < length x.tables
    → t < length (seat_of x w).tables
seat_fits x sized t w inside =
    let long = sized.seats w in let few = sized.limits.few_tables in omega arith

-- A fresh seat did nothing at any table, and holds no turn.

pub untouched_there : (t : ℕ) → seat_table fresh_seat t ≡ untouched
untouched_there t = replicated 16 t untouched

pub fresh_holds_none : (turn : Turn) → holds_turn fresh_seat turn ≡ false
fresh_holds_none Sync = refl
fresh_holds_none (Flush t) = ap (λ (st : SeatTable). is_some st.flush) (untouched_there t.0)
