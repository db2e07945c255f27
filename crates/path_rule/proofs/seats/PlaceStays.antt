-- The place that a seat's write has at a table stays until the write is closed.
use Rattle.std.proofs.Common.{
  ◌≡◌,
  ℕ,
  ◌+◌,
  Bool,
  true,
  false,
  Option,
  Some,
  None,
  is_some,
  refl,
  sym,
  ap,
  ◌∙◌,
}
use Rattle.std.specs.Prelude.{◌&&◌, if◌then◌else◌}
use Rattle.std.proofs.lemmas.Bool.{eqb-true}
use mathlib.Core.Logic.{dite}
use native.Mathlib.Decide.{ℕ_discrete}
use Rattle.op_core.specs.declared.count.Order.TheVariants.{Write, Append}
use Rattle.path_core.specs.declared.event.Cursor.TheVariants.{Synced, OldestLive, Stopped}
use Rattle.path_core.specs.declared.event.Event.{Event}
use Rattle.path_core.specs.declared.event.Event.TheVariants.{Look, Close, Raise}
use Rattle.path_core.specs.declared.event.Place.TheVariants.{
  Count,
  Current,
  Oldest,
  Log,
  Newest,
  Bound,
  TurnWord,
  CursorWord,
}
use Rattle.path_core.specs.declared.event.Reading.{Reading}
use Rattle.path_core.specs.declared.event.Reading.TheVariants.{Operations, Number, Limit}
use Rattle.path_core.specs.declared.seat.FlushTurn.{FlushTurn}
use Rattle.path_core.specs.declared.seat.Seat.{Seat}
use Rattle.path_core.specs.declared.seat.SeatTable.{SeatTable}
use Rattle.path_core.specs.declared.state.Bound.{Bound as BoundOf}
use Rattle.path_core.specs.Parts.{is_at, seat_table}
use Rattle.path_core.specs.SeatAfter.{
  Told,
  raised_as_holder,
  raised_as_writer,
  seat_after,
}
use Rattle.path_core.specs.SeatParts.{
  at_table,
  begins_at,
  bound_found,
  deposited_end,
  has_note_of,
  in_flush,
  is_final_below,
  is_raising,
  raised_to,
  takes,
  tried,
  tries_bound,
}
use Rattle.path_core.proofs.places.Tries.{tries_same}
use Rattle.path_core.proofs.seats.Columns.{at_table_keeps, at_table_other}

-- one table of a seat changed, where its place stays
at_table_place : (u t k : ℕ) (f : SeatTable → SeatTable) (s : Seat)
    → (seat_table s t).trying ≡ Some k → (seat_table s t).place ≡ Some k
    → ((st : SeatTable) → st.trying ≡ Some k → st.place ≡ Some k → (f st).place ≡ Some k)
    → (seat_table (at_table u f s) t).place ≡ Some k
at_table_place u t k f s trying place keeps = dite (ℕ_discrete t u)
    (λ same. let trying' = ap (λ (n : ℕ). (seat_table s n).trying) (sym same) ∙ trying in
    let place' = ap (λ (n : ℕ). (seat_table s n).place) (sym same) ∙ place in
    at_table_keeps u t f s (λ st. st.place) (keeps (seat_table s u) trying' place' ∙ sym place')
    ∙ place)
    (λ apart. ap (λ (st : SeatTable). st.place) (at_table_other u t f s apart) ∙ place)

-- what is tried is the place
at_same : (o : Option ℕ) (m k : ℕ) → o ≡ Some k → is_at o m ≡ true → m ≡ k
at_same o m k e at = sym (eqb-true k m (ap (λ (p : Option ℕ). is_at p m) (sym e) ∙ at))

tried_keeps : (end m k : ℕ) (b : BoundOf) (st : SeatTable) → m ≡ k → st.place ≡ Some k
    → (tried end m b st).place ≡ Some k
tried_keeps end m k b st same place = by (takes end b) (is_final_below end b)
  where
    by : (c d : Bool) → (if c then record st { place = Some m }
        else (if d then record st { trying = Some (m + 1) } else st)).place ≡ Some k
    by true d = ap (λ (n : ℕ). Some n) same
    by false true = place
    by false false = place

bound_keeps : (o : Option ℕ) (m k : ℕ) (b : BoundOf) (st : SeatTable) → st.trying ≡ Some k
    → st.place ≡ Some k → (tries_bound o m b st).place ≡ Some k
bound_keeps None m k b st trying place = place
bound_keeps (Some end) m k b st trying place = by (is_at st.trying m) refl
  where
    by : (c : Bool) → is_at st.trying m ≡ c → (if c then tried end m b st else st).place ≡ Some k
    by true e = tried_keeps end m k b st (at_same st.trying m k trying e) place
    by false e = place

writer_keeps : (deposited : Bool) (m k : ℕ) (b : BoundOf) (st : SeatTable) → st.trying ≡ Some k
    → st.place ≡ Some k → (raised_as_writer deposited m b st).place ≡ Some k
writer_keeps deposited m k b st trying place = by deposited (is_at st.trying m) refl (is_raising b)
  where
    by : (c d : Bool) → is_at st.trying m ≡ d → (f : Bool)
        → (if c && d && f then record st { place = Some m } else st).place ≡ Some k
    by true true e true = ap (λ (n : ℕ). Some n) (at_same st.trying m k trying e)
    by true true e false = place
    by true false e f = place
    by false d e f = place

begins_keeps : (b : Bool) (n k : ℕ) (st : SeatTable) → st.place ≡ Some k
    → (begins_at b n st).place ≡ Some k
begins_keeps false n k st place = place
begins_keeps true n k st place = by (is_some st.trying)
  where
    by : (c : Bool) → (if c then st else record st { trying = Some n }).place ≡ Some k
    by true = place
    by false = place

-- The step does not close a write.
abbrev pub LeavesPlaces : Event → Type 0
LeavesPlaces (Close by Write g carried) = ⊥
LeavesPlaces _ = Unit {0}

pub place_stays : (s : Seat) (e : Event) (found : Reading) (told : Told) (t k : ℕ)
    → LeavesPlaces e → (seat_table s t).trying ≡ Some k → (seat_table s t).place ≡ Some k
    → (seat_table (seat_after s e found told) t).place ≡ Some k
place_stays s (Close by Write g carried) found told t k leaves trying place = absurd leaves
place_stays s (Look by (Bound u m)) (Limit b) told t k leaves trying place =
    at_table_place u.0 t k (λ (st : SeatTable).
    tries_bound (deposited_end s) m b (bound_found m b st)) s trying place
    (λ st e p. bound_keeps (deposited_end s) m k b (bound_found m b st) e p)
place_stays s (Look by (Bound u m)) (Number n) told t k leaves trying place = place
place_stays s (Look by (Bound u m)) (Operations c) told t k leaves trying place = place
place_stays s (Look by (CursorWord (OldestLive u))) (Number n) told t k leaves trying place =
    at_table_place u.0 t k (λ (st : SeatTable). begins_at (has_note_of s u.0) n
    (in_flush (λ (turn : FlushTurn). record turn { oldest_live = Some n }) st)) s trying place
    (λ st e p. begins_keeps (has_note_of s u.0) n k
    (in_flush (λ (turn : FlushTurn). record turn { oldest_live = Some n }) st) p)
place_stays s (Look by (CursorWord (OldestLive u))) (Limit b) told t k leaves trying place = place
place_stays s (Look by (CursorWord (OldestLive u))) (Operations c) told t k leaves trying place =
    place
place_stays s (Raise by u m to) (Limit b) told t k leaves trying place =
    at_table_place u.0 t k (λ (st : SeatTable). raised_as_holder m to.0
    (raised_as_writer (is_some s.note) m b (bound_found m (raised_to to.0 b) st))) s trying place
    (λ st e p. writer_keeps (is_some s.note) m k b (bound_found m (raised_to to.0 b) st) e p)
place_stays s (Raise by u m to) (Number n) told t k leaves trying place = place
place_stays s (Raise by u m to) (Operations c) told t k leaves trying place = place
place_stays s (Look by (Count o g)) found told t k leaves trying place =
    ap (λ (p : Option ℕ × Option ℕ). p.1) (tries_same (Look by (Count o g)) s found told t (λ c. c))
    ∙ place
place_stays s (Look by (Current o)) found told t k leaves trying place =
    ap (λ (p : Option ℕ × Option ℕ). p.1) (tries_same (Look by (Current o)) s found told t (λ c. c))
    ∙ place
place_stays s (Look by (Oldest o)) found told t k leaves trying place =
    ap (λ (p : Option ℕ × Option ℕ). p.1) (tries_same (Look by (Oldest o)) s found told t (λ c. c))
    ∙ place
place_stays s (Look by Log) found told t k leaves trying place =
    ap (λ (p : Option ℕ × Option ℕ). p.1) (tries_same (Look by Log) s found told t (λ c. c)) ∙ place
place_stays s (Look by (Newest u)) found told t k leaves trying place =
    ap (λ (p : Option ℕ × Option ℕ). p.1) (tries_same (Look by (Newest u)) s found told t (λ c. c))
    ∙ place
place_stays s (Look by (TurnWord turn)) found told t k leaves trying place =
    ap (λ (p : Option ℕ × Option ℕ). p.1)
    (tries_same (Look by (TurnWord turn)) s found told t (λ c. c)) ∙ place
place_stays s (Look by (CursorWord Synced)) found told t k leaves trying place =
    ap (λ (p : Option ℕ × Option ℕ). p.1)
    (tries_same (Look by (CursorWord Synced)) s found told t (λ c. c)) ∙ place
place_stays s (Look by (CursorWord Stopped)) found told t k leaves trying place =
    ap (λ (p : Option ℕ × Option ℕ). p.1)
    (tries_same (Look by (CursorWord Stopped)) s found told t (λ c. c)) ∙ place
place_stays s (Close by Append g carried) found told t k leaves trying place =
    ap (λ (p : Option ℕ × Option ℕ). p.1)
    (tries_same (Close by Append g carried) s found told t (λ c. c)) ∙ place
place_stays s e found told t k leaves trying place =
    ap (λ (p : Option ℕ × Option ℕ). p.1) (tries_same e s found told t (λ c. c)) ∙ place
