-- Each turn has at most one holder: each allowed step keeps it.
use Rattle.std.proofs.Common.{
  ◌≡◌,
  ◌≢◌,
  ℕ,
  ◌<◌,
  ◌==◌,
  Bool,
  true,
  false,
  cond,
  List,
  length,
  Option,
  Some,
  None,
  is_some,
  IsTrue,
  refl,
  sym,
  ap,
  ◌∙◌,
  get_or-set_same,
}
use Rattle.std.specs.Option.{option_map, option_map_or}
use Rattle.std.proofs.lemmas.Bool.{false≢true}
use Rattle.std.proofs.lemmas.Option.{none-some, same_Some}
use Rattle.path_core.specs.declared.event.Event.{Event}
use Rattle.path_core.specs.declared.event.Event.TheVariants.{
  OpenGroup,
  MoveCurrent,
  Expire,
  TakeTurn,
  GiveTurn,
}
use Rattle.path_core.specs.declared.event.Turn.{Turn}
use Rattle.path_core.specs.declared.event.Turn.TheVariants.{Sync, Flush}
use Rattle.path_core.specs.declared.seat.Issue.{Issue}
use Rattle.path_core.specs.declared.seat.Issue.TheVariants.{Rest}
use Rattle.path_core.specs.declared.seat.Seat.{Seat}
use Rattle.path_core.specs.declared.seat.SyncTurn.{SyncTurn}
use Rattle.path_core.specs.declared.state.PathState.{PathState}
use Rattle.path_core.specs.Parts.{fresh_seat, seat_of, seat_table, holds_turn, HoldsTurn, issue_of}
use Rattle.path_core.specs.Words.{by_of}
use Rattle.path_core.specs.Next.{next_of}
use Rattle.path_core.specs.LawfulOrders.{TurnsHeld, seat_in}
use Rattle.path_core.proofs.seats.Columns.{
  Columns,
  each_seat,
  own_after,
  issue_held,
  issue_after,
  flush_after,
  write_after,
  append_after,
}
use Rattle.path_core.proofs.lists.Options.{still_some}

-- whether a turn is held, told by the columns
abbrev pub holds_by : Turn → Option Issue → (ℕ → Bool) → Bool
holds_by Sync held flush = is_some held
holds_by (Flush t) held flush = flush t.0

pub holds_is : (turn : Turn) (s : Seat)
    → holds_turn s turn ≡ holds_by turn (issue_held s) (λ t. is_some (seat_table s t).flush)
holds_is Sync s = sym (still_some s.sync _)
holds_is (Flush t) s = refl

-- the issue of a seat that is at one is held
pub issue_is_held : (s : Seat) (issue : Issue) → issue_of s ≡ issue → IsTrue (is_some s.sync)
    → issue_held s ≡ Some issue
issue_is_held s issue is holds = by s.sync is holds
  where
    by : (o : Option SyncTurn) → option_map_or (λ (turn : SyncTurn). turn.issue) o Rest ≡ issue
        → IsTrue (is_some o) → option_map (λ (turn : SyncTurn). turn.issue) o ≡ Some issue
    by None is holds = absurd (false≢true holds)
    by (Some turn) is holds = ap Some is

-- an issue that is begun is held
pub begun_is_held : (s : Seat) (issue : Issue) → issue ≢ Rest → issue_of s ≡ issue
    → issue_held s ≡ Some issue
begun_is_held s issue begun is = by s.sync is
  where
    by : (o : Option SyncTurn) → option_map_or (λ (turn : SyncTurn). turn.issue) o Rest ≡ issue
        → option_map (λ (turn : SyncTurn). turn.issue) o ≡ Some issue
    by None is = absurd (begun (sym is))
    by (Some turn) is = ap Some is

-- A step that takes no turn: who holds one has held it.
abbrev pub TakesTurn : Event → Type 0
TakesTurn (TakeTurn by turn) = Unit {0}
TakesTurn _ = ⊥

cond_back : (b held : Bool) → IsTrue (cond b false held) → IsTrue held
cond_back true held h = absurd (false≢true h)
cond_back false held h = h

holds_back : (e : Event) (turn : Turn) (held : Option Issue) (flush : ℕ → Bool)
    → (TakesTurn e → ⊥)
    → IsTrue (holds_by turn (issue_after held e) (λ t. flush_after t (flush t) e))
    → IsTrue (holds_by turn held flush)
holds_back (TakeTurn by taken) turn held flush other h = absurd (other tt)
holds_back (GiveTurn by Sync) Sync held flush other h = absurd (false≢true h)
holds_back (GiveTurn by Sync) (Flush t) held flush other h = h
holds_back (GiveTurn by (Flush table)) Sync held flush other h = h
holds_back (GiveTurn by (Flush table)) (Flush t) held flush other h =
    cond_back (table.0 == t.0) (flush t.0) h
holds_back (OpenGroup by order group) Sync held flush other h = sym (still_some held _) ∙ h
holds_back (MoveCurrent by order group) Sync held flush other h = sym (still_some held _) ∙ h
holds_back (Expire by order group) Sync held flush other h = sym (still_some held _) ∙ h
holds_back (OpenGroup by order group) (Flush t) held flush other h = h
holds_back (MoveCurrent by order group) (Flush t) held flush other h = h
holds_back (Expire by order group) (Flush t) held flush other h = h
holds_back e Sync held flush other h = h
holds_back e (Flush t) held flush other h = h

module _ (x : PathState) (e : Event) (inside : by_of e < length x.seats)
    (C : Columns e (seat_of x (by_of e)) (own_after x e)) where
  abbrev own : Seat
  own = seat_of x (by_of e)

  pub own_holds : (turn : Turn) → holds_turn (own_after x e) turn
      ≡ holds_by turn (issue_after (issue_held own) e)
      (λ t. flush_after t (is_some (seat_table own t).flush) e)
  own_holds Sync = holds_is Sync (own_after x e) ∙ ap (λ o. is_some o) C.issue
  own_holds (Flush t) = C.flush t.0

  -- who holds a turn after a step that takes none has held it
  pub holders_were : (TakesTurn e → ⊥) → (turn : Turn) (w : ℕ)
      → HoldsTurn (seat_of (next_of x e) w) turn → HoldsTurn (seat_of x w) turn
  holders_were other turn = each_seat x e inside
      (λ w s. HoldsTurn s turn → HoldsTurn (seat_of x w) turn)
      (λ h. holds_is turn own ∙ holds_back e turn (issue_held own)
      (λ t. is_some (seat_table own t).flush) other (sym (own_holds turn) ∙ h))
      (λ w _ h. h)

  -- A step that takes no turn and changes no issue of the Sync turn's holder.
  module _ (i j : Issue) (T : TurnsHeld i x.seats) (other : TakesTurn e → ⊥)
      (issues : (k : Issue) → issue_after (issue_held own) e ≡ Some k → k ≡ j)
      (elsewhere : (w : ℕ) → w ≢ by_of e → (k : Issue) → issue_held (seat_of x w) ≡ Some k → k ≡ j)
      (released : ((w : ℕ) → issue_held (seat_of (next_of x e) w) ≡ None) → j ≡ Rest)
      (idle : (turn : Turn) → HoldsTurn own turn → (write_after own.write e ≡ None)
      × (append_after own.append e ≡ None)) where
    held_issue : (w : ℕ) (k : Issue) → issue_held (seat_of (next_of x e) w) ≡ Some k → k ≡ j
    held_issue = each_seat x e inside (λ w s. (k : Issue) → issue_held s ≡ Some k → k ≡ j)
        (λ k h. issues k (sym C.issue ∙ h)) elsewhere

    pub turns_stay : TurnsHeld j (next_of x e).seats
    turns_stay = record {
      one = λ turn v w a b. T.one turn v w (holders_were other turn v a)
          (holders_were other turn w b);
      issue_is = λ w turn is. held_issue w turn.issue
          (ap (λ o. option_map (λ (t : SyncTurn). t.issue) o) is);
      no_issue = λ none. released (λ w. ap (λ o. option_map (λ (t : SyncTurn). t.issue) o)
          (none w));
      holder_is_idle = λ turn. each_seat x e inside
          (λ w s. HoldsTurn s turn → (s.write ≡ None) × (s.append ≡ None))
          (λ h. let r = idle turn (own_held turn h) in (C.write ∙ r.0, C.append ∙ r.1))
          (λ w _ h. T.holder_is_idle turn w h);
    }
      where
        own_held : (turn : Turn) → HoldsTurn (own_after x e) turn → HoldsTurn own turn
        own_held turn h = holds_is turn own ∙ holds_back e turn (issue_held own)
            (λ t. is_some (seat_table own t).flush) other (sym (own_holds turn) ∙ h)

-- what is held of an issue, and what is not
pub held_none : (s : Seat) → issue_held s ≡ None → s.sync ≡ None
held_none s none = by s.sync none
  where
    by : (o : Option SyncTurn) → option_map (λ (turn : SyncTurn). turn.issue) o ≡ None → o ≡ None
    by None e = refl
    by (Some turn) e = absurd (none-some turn.issue (sym e))

pub issue_known : (i : Issue) (seats : List Seat) → TurnsHeld i seats → (w : ℕ) (k : Issue)
    → issue_held (seat_in seats w) ≡ Some k → k ≡ i
issue_known i seats T w k held = by (seat_in seats w).sync refl held
  where
    by : (o : Option SyncTurn) → (seat_in seats w).sync ≡ o
        → option_map (λ (turn : SyncTurn). turn.issue) o ≡ Some k → k ≡ i
    by None e held = absurd (none-some k held)
    by (Some turn) e held = same_Some k turn.issue (sym held) ∙ T.issue_is w turn e

pub held_holds : (s : Seat) (k : Issue) → issue_held s ≡ Some k → HoldsTurn s Sync
held_holds s k held = holds_is Sync s ∙ ap (λ o. is_some o) held

-- the turns after a step that takes none and leaves the issue
pub turns_left : (x : PathState) (e : Event) → by_of e < length x.seats
    → Columns e (seat_of x (by_of e)) (own_after x e) → (i : Issue) → TurnsHeld i x.seats
    → (TakesTurn e → ⊥)
    → issue_after (issue_held (seat_of x (by_of e))) e ≡ issue_held (seat_of x (by_of e))
    → ((turn : Turn) → HoldsTurn (seat_of x (by_of e)) turn
    → (write_after (seat_of x (by_of e)).write e ≡ None)
    × (append_after (seat_of x (by_of e)).append e ≡ None))
    → TurnsHeld i (next_of x e).seats
turns_left x e inside C i T other same idle = turns_stay x e inside C i i T other
    (λ k h. issue_known i x.seats T (by_of e) k (sym same ∙ h))
    (λ w _ k h. issue_known i x.seats T w k h)
    (λ none. T.no_issue (λ w. held_none (seat_of x w) (were_none none w))) idle
  where
    were_none : ((w : ℕ) → issue_held (seat_of (next_of x e) w) ≡ None) → (w : ℕ)
        → issue_held (seat_of x w) ≡ None
    were_none none w = each_seat x e inside (λ w s. issue_held s ≡ None
        → issue_held (seat_of x w) ≡ None)
        (λ h. sym same ∙ sym C.issue ∙ h) (λ _ _ h. h) w (none w)

-- the Sync turn's holder goes on with an issue
pub turns_go_on : (x : PathState) (e : Event) → by_of e < length x.seats
    → Columns e (seat_of x (by_of e)) (own_after x e) → (i j : Issue) → TurnsHeld i x.seats
    → (TakesTurn e → ⊥)
    → issue_held (seat_of x (by_of e)) ≡ Some i
    → ((k : Issue) → issue_after (Some i) e ≡ Some j)
    → ((turn : Turn) → HoldsTurn (seat_of x (by_of e)) turn
    → (write_after (seat_of x (by_of e)).write e ≡ None)
    × (append_after (seat_of x (by_of e)).append e ≡ None))
    → TurnsHeld j (next_of x e).seats
turns_go_on x e inside C i j T other held goes idle = turns_stay x e inside C i j T other
    (λ k h. same_Some k j (sym h ∙ now))
    (λ w n k h. absurd (n (T.one Sync w (by_of e) (held_holds (seat_of x w) k h)
    (held_holds (seat_of x (by_of e)) i held))))
    (λ none. absurd (none-some j (sym (none (by_of e)) ∙ here ∙ C.issue ∙ now)))
    idle
  where
    now : issue_after (issue_held (seat_of x (by_of e))) e ≡ Some j
    now = ap (λ o. issue_after o e) held ∙ goes j

    here : issue_held (seat_of (next_of x e) (by_of e)) ≡ issue_held (own_after x e)
    here = ap issue_held (get_or-set_same x.seats (by_of e) (own_after x e) fresh_seat inside)
