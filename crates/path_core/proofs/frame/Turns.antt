-- A step changes the word of one turn alone: the one that it takes or gives.
use Rattle.std.proofs.Common.{
  ◌≡◌,
  ◌≢◌,
  ℕ,
  zero,
  suc,
  ◌<◌,
  ◌||◌,
  Bool,
  true,
  false,
  cond,
  List,
  [],
  ◌∷◌,
  length,
  get_or,
  set,
  Option,
  is_some,
  refl,
  sym,
  ap,
  ◌∙◌,
  arith,
}
use Rattle.std.specs.Prelude.{if◌then◌else◌}
use Rattle.std.specs.List.{list_any}
use Rattle.std.proofs.lemmas.Bool.{false≢true, ne_eqb, eq-eqb}
use Rattle.std.proofs.lemmas.List.Folds.{list_any_at}
use Rattle.clog_base.specs.declared.cell.Table.{Table}
use Rattle.path_core.specs.declared.event.Event.{Event}
use Rattle.path_core.specs.declared.event.Event.TheVariants.{
  Look,
  OpenGroup,
  MoveCurrent,
  Expire,
  TakeTurn,
  GiveTurn,
}
use Rattle.path_core.specs.declared.event.Place.{Place}
use Rattle.path_core.specs.declared.event.Place.TheVariants.{TurnWord}
use Rattle.path_core.specs.declared.event.Reading.TheVariants.{Number}
use Rattle.path_core.specs.declared.event.Turn.{Turn}
use Rattle.path_core.specs.declared.event.Turn.TheVariants.{Sync, Flush}
use Rattle.path_core.specs.declared.seat.Issue.{Issue}
use Rattle.path_core.specs.declared.seat.Seat.{Seat}
use Rattle.path_core.specs.declared.state.PathState.{PathState}
use Rattle.path_core.specs.Parts.{fresh_seat, seat_of, seat_table, holds_turn}
use Rattle.path_core.specs.Words.{reading, by_of, place_of}
use Rattle.path_core.specs.Next.{next_of}
use Rattle.path_core.proofs.lists.Options.{still_some}
use Rattle.path_core.proofs.seats.Columns.{
  own_after,
  Columns,
  issue_held,
  issue_after,
  flush_after,
  fresh_holds_none,
}

or_parts : (a b : Bool) → (a || b) ≡ false → (a ≡ false) × (b ≡ false)
or_parts false b e = (refl, e)
or_parts true b e = absurd (false≢true (sym e))

-- one element replaced by another that passes a test alike
any_set : {A : Type 0} (p : A → Bool) (l : List A) (i : ℕ) (a d : A) → p a ≡ p (get_or l i d)
    → i < length l → list_any p (set l i a) ≡ list_any p l
any_set p [] i a d same inside = absurd (omega arith)
any_set p (x ∷ xs) zero a d same inside = ap (λ (b : Bool). b || list_any p xs) same
any_set p (x ∷ xs) (suc i) a d same inside =
    ap (λ (b : Bool). p x || b) (any_set p xs i a d same (omega arith))

none_any : {A : Type 0} (p : A → Bool) (l : List A) (d : A) → p d ≡ false
    → list_any p l ≡ false → (i : ℕ) → p (get_or l i d) ≡ false
none_any p [] d z e i = z
none_any p (x ∷ xs) d z e zero = (or_parts (p x) (list_any p xs) e).0
none_any p (x ∷ xs) d z e (suc i) = none_any p xs d z ((or_parts (p x) (list_any p xs) e).1) i

any_none : {A : Type 0} (p : A → Bool) (l : List A) (d : A)
    → ((i : ℕ) → p (get_or l i d) ≡ false) → list_any p l ≡ false
any_none p [] d h = refl
any_none p (x ∷ xs) d h =
    ap (λ (b : Bool). b || list_any p xs) (h zero) ∙ any_none p xs d (λ i. h (suc i))

is_some_held : (s : Seat) → is_some (issue_held s) ≡ is_some s.sync
is_some_held s = still_some s.sync _

sync_stays : (e : Event) (held : Option Issue) → TurnWord Sync ≢ place_of e
    → is_some (issue_after held e) ≡ is_some held
sync_stays (TakeTurn by Sync) held n = absurd (n refl)
sync_stays (GiveTurn by Sync) held n = absurd (n refl)
sync_stays (TakeTurn by (Flush t)) held n = refl
sync_stays (GiveTurn by (Flush t)) held n = refl
sync_stays (OpenGroup by o g) held n = still_some held _
sync_stays (MoveCurrent by o g) held n = still_some held _
sync_stays (Expire by o g) held n = still_some held _
sync_stays e held n = refl

flush_stays : (e : Event) (t : Table) (held : Bool) → TurnWord (Flush t) ≢ place_of e
    → flush_after t.0 held e ≡ held
flush_stays (TakeTurn by (Flush u)) t held n =
    ap (λ (b : Bool). cond b true held)
    (ne_eqb u.0 t.0 (λ s. n (λ i. TurnWord (Flush (record { 0 = sym s i })))))
flush_stays (GiveTurn by (Flush u)) t held n =
    ap (λ (b : Bool). cond b false held)
    (ne_eqb u.0 t.0 (λ s. n (λ i. TurnWord (Flush (record { 0 = sym s i })))))
flush_stays (TakeTurn by Sync) t held n = refl
flush_stays (GiveTurn by Sync) t held n = refl
flush_stays e t held n = refl

module _ (x : PathState) (e : Event) (C : Columns e (seat_of x (by_of e)) (own_after x e)) where
  -- the acting seat holds the other turns as before
  pub turn_stays : (turn : Turn) → TurnWord turn ≢ place_of e
      → holds_turn (own_after x e) turn ≡ holds_turn (seat_of x (by_of e)) turn
  turn_stays Sync n = sym (is_some_held (own_after x e))
      ∙ (ap (λ (o : Option Issue). is_some o) C.issue
      ∙ (sync_stays e (issue_held (seat_of x (by_of e))) n ∙ is_some_held (seat_of x (by_of e))))
  turn_stays (Flush t) n =
      C.flush t.0 ∙ flush_stays e t (is_some (seat_table (seat_of x (by_of e)) t.0).flush) n

  pub turn_left : by_of e < length x.seats → (turn : Turn) → TurnWord turn ≢ place_of e
      → reading (next_of x e) (TurnWord turn) ≡ reading x (TurnWord turn)
  turn_left inside turn n =
      ap (λ (b : Bool). Number (if b then 1 else 0))
      (any_set (λ (s : Seat). holds_turn s turn) x.seats (by_of e) (own_after x e) fresh_seat
      (turn_stays turn n) inside)

-- a look leaves the turns
pub look_leaves_turn : (x : PathState) (by : ℕ) (at : Place)
    → Columns (Look by at) (seat_of x by) (own_after x (Look by at)) → by < length x.seats
    → (turn : Turn) → reading (next_of x (Look by at)) (TurnWord turn) ≡ reading x (TurnWord turn)
look_leaves_turn x by at C inside turn =
    ap (λ (b : Bool). Number (if b then 1 else 0))
    (any_set (λ (s : Seat). holds_turn s turn) x.seats by (own_after x (Look by at)) fresh_seat
    (same turn) inside)
  where
    same : (turn : Turn)
        → holds_turn (own_after x (Look by at)) turn ≡ holds_turn (seat_of x by) turn
    same Sync = sym (is_some_held (own_after x (Look by at)))
        ∙ (ap (λ (o : Option Issue). is_some o) C.issue ∙ is_some_held (seat_of x by))
    same (Flush t) = C.flush t.0

-- Who holds a turn.

-- The word of a turn is 0 where nobody holds it, and 1 where a seat does.
pub unheld : (x : PathState) (turn : Turn) → reading x (TurnWord turn) ≡ Number 0
    → (w : ℕ) → holds_turn (seat_of x w) turn ≡ false
unheld x turn e =
    none_any (λ (s : Seat). holds_turn s turn) x.seats fresh_seat (fresh_holds_none turn)
    (by (list_any (λ (s : Seat). holds_turn s turn) x.seats) e)
  where
    by : (b : Bool) → Number (cond {A = ℕ} b 1 0) ≡ Number 0 → b ≡ false
    by false e = refl
    by true e = absurd (cc)

pub held_word : (x : PathState) (turn : Turn) (w : ℕ) → w < length x.seats
    → holds_turn (seat_of x w) turn ≡ true → reading x (TurnWord turn) ≡ Number 1
held_word x turn w inside e =
    ap (λ (b : Bool). Number (if b then 1 else 0))
    (list_any_at (λ (s : Seat). holds_turn s turn) x.seats w fresh_seat inside e)

pub unheld_word : (x : PathState) (turn : Turn)
    → ((w : ℕ) → holds_turn (seat_of x w) turn ≡ false) → reading x (TurnWord turn) ≡ Number 0
unheld_word x turn h =
    ap (λ (b : Bool). Number (if b then 1 else 0))
    (any_none (λ (s : Seat). holds_turn s turn) x.seats fresh_seat h)

-- What the acting seat holds of the turn that it takes or gives.

pub taken_here : (x : PathState) (by : ℕ) (turn : Turn)
    → Columns (TakeTurn by turn) (seat_of x by) (own_after x (TakeTurn by turn))
    → holds_turn (own_after x (TakeTurn by turn)) turn ≡ true
taken_here x by Sync C =
    sym (is_some_held (own_after x (TakeTurn by Sync)))
    ∙ ap (λ (o : Option Issue). is_some o) C.issue
taken_here x by (Flush t) C =
    C.flush t.0 ∙ ap (λ (b : Bool). cond b true (is_some (seat_table (seat_of x by) t.0).flush))
    (eq-eqb t.0 t.0 refl)

pub given_here : (x : PathState) (by : ℕ) (turn : Turn)
    → Columns (GiveTurn by turn) (seat_of x by) (own_after x (GiveTurn by turn))
    → holds_turn (own_after x (GiveTurn by turn)) turn ≡ false
given_here x by Sync C =
    sym (is_some_held (own_after x (GiveTurn by Sync)))
    ∙ ap (λ (o : Option Issue). is_some o) C.issue
given_here x by (Flush t) C =
    C.flush t.0 ∙ ap (λ (b : Bool). cond b false (is_some (seat_table (seat_of x by) t.0).flush))
    (eq-eqb t.0 t.0 refl)
