-- A turn is taken that nobody holds: it has one holder, and each other turn has the one it had.
use Rattle.std.proofs.Common.{
  ◌≡◌,
  ℕ,
  ◌<◌,
  ◌==◌,
  true,
  false,
  length,
  Option,
  Some,
  None,
  is_some,
  IsTrue,
  refl,
  sym,
  ap,
  ◌∙◌,
  subst,
  ◌⊎◌,
}
use Rattle.std.specs.Option.{option_map}
use Rattle.std.proofs.lemmas.Bool.{false≢true, cases_eq, cond-false, ne_eqb}
use Rattle.std.proofs.lemmas.Option.{none-some, same_Some}
use mathlib.Core.Logic.{inl, inr}
use Rattle.path_core.specs.declared.event.Event.TheVariants.{TakeTurn}
use Rattle.path_core.specs.declared.event.Turn.{Turn}
use Rattle.path_core.specs.declared.event.Turn.TheVariants.{Sync, Flush}
use Rattle.path_core.specs.declared.seat.Issue.{Issue}
use Rattle.path_core.specs.declared.seat.Issue.TheVariants.{Rest}
use Rattle.path_core.specs.declared.seat.SyncTurn.{SyncTurn}
use Rattle.path_core.specs.declared.state.PathState.{PathState}
use Rattle.path_core.specs.Parts.{seat_of, seat_table, holds_turn, HoldsTurn, IsIdle}
use Rattle.path_core.specs.Next.{next_of}
use Rattle.path_core.specs.LawfulOrders.{TurnsHeld}
use Rattle.path_core.proofs.seats.Columns.{
  Columns,
  each_seat,
  own_after,
  issue_held,
  issue_after,
  flush_after,
}
use Rattle.path_core.proofs.orders.HeldTurns.{holds_by, holds_is, own_holds, held_none, issue_known}

-- a turn is taken that nobody holds
module _ (x : PathState) (by : ℕ) (turn : Turn) (inside : by < length x.seats)
    (C : Columns (TakeTurn by turn) (seat_of x by) (own_after x (TakeTurn by turn)))
    (i : Issue) (T : TurnsHeld i x.seats)
    (idle : IsIdle (seat_of x by))
    (free : (w : ℕ) → holds_turn (seat_of x w) turn ≡ false) where
  abbrev taken : PathState
  taken = next_of x (TakeTurn by turn)

  own_takes : (t : Turn) → HoldsTurn (own_after x (TakeTurn by turn)) t
      → HoldsTurn (seat_of x by) t ⊎ ((w : ℕ) → holds_turn (seat_of x w) t ≡ false)
  own_takes t h = by_turn turn t (sym (own_holds x (TakeTurn by turn) inside C t) ∙ h) free
    where
      by_turn : (u t : Turn)
          → IsTrue (holds_by t (issue_after (issue_held (seat_of x by)) (TakeTurn by u))
          (λ v. flush_after v (is_some (seat_table (seat_of x by) v).flush) (TakeTurn by u)))
          → ((w : ℕ) → holds_turn (seat_of x w) u ≡ false)
          → HoldsTurn (seat_of x by) t ⊎ ((w : ℕ) → holds_turn (seat_of x w) t ≡ false)
      by_turn Sync Sync h free = inr free
      by_turn Sync (Flush t) h free = inl h
      by_turn (Flush u) Sync h free = inl (holds_is Sync (seat_of x by) ∙ h)
      by_turn (Flush u) (Flush t) h free = elim (cases_eq u.0 t.0) [
        | inl e ↦ inr (λ w. subst (λ k. is_some (seat_table (seat_of x w) k).flush ≡ false) e
            (free w))
        | inr n ↦ inl (sym (cond-false (u.0 == t.0) true _ (ne_eqb u.0 t.0 n)) ∙ h)
      ]

  takes : (t : Turn) (w : ℕ) → HoldsTurn (seat_of taken w) t → HoldsTurn (seat_of x w) t
      ⊎ ((w ≡ by) × ((v : ℕ) → holds_turn (seat_of x v) t ≡ false))
  takes t = each_seat x (TakeTurn by turn) inside
      (λ w s. HoldsTurn s t → HoldsTurn (seat_of x w) t
      ⊎ ((w ≡ by) × ((v : ℕ) → holds_turn (seat_of x v) t ≡ false)))
      (λ h. elim (own_takes t h) [ inl a ↦ inl a | inr f ↦ inr (refl, f) ])
      (λ w _ h. inl h)

  one : (t : Turn) (v w : ℕ) → HoldsTurn (seat_of taken v) t → HoldsTurn (seat_of taken w) t → v ≡ w
  one t v w a b = elim (takes t v a) [
    | inl p ↦ elim (takes t w b) [
      | inl q ↦ T.one t v w p q
      | inr q ↦ absurd (false≢true (sym (q.1 v) ∙ p))
    ]
    | inr p ↦ elim (takes t w b) [
      | inl q ↦ absurd (false≢true (sym (p.1 w) ∙ q))
      | inr q ↦ p.0 ∙ sym q.0
    ]
  ]

  own_issue : (u : Turn) → ((w : ℕ) → holds_turn (seat_of x w) u ≡ false) → (k : Issue)
      → issue_after (issue_held (seat_of x by)) (TakeTurn by u) ≡ Some k → k ≡ i
  own_issue Sync free k h = sym (same_Some Rest k h)
      ∙ sym (T.no_issue (λ w. held_none (seat_of x w) (unheld w)))
    where
      nothing : (o : Option Issue) → is_some o ≡ false → o ≡ None
      nothing None e = refl
      nothing (Some k) e = absurd (false≢true (sym e))

      unheld : (w : ℕ) → issue_held (seat_of x w) ≡ None
      unheld w = nothing (issue_held (seat_of x w))
          (sym (holds_is Sync (seat_of x w)) ∙ free w)
  own_issue (Flush t) free k h = issue_known i x.seats T by k h

  held_issue_taken : (w : ℕ) (k : Issue) → issue_held (seat_of taken w) ≡ Some k → k ≡ i
  held_issue_taken = each_seat x (TakeTurn by turn) inside
      (λ w s. (k : Issue) → issue_held s ≡ Some k → k ≡ i)
      (λ k h. own_issue turn free k (sym C.issue ∙ h))
      (λ w _ k h. issue_known i x.seats T w k h)

  were_unheld : ((w : ℕ) → issue_held (seat_of taken w) ≡ None) → (w : ℕ)
      → issue_held (seat_of x w) ≡ None
  were_unheld none w = each_seat x (TakeTurn by turn) inside
      (λ w s. issue_held s ≡ None → issue_held (seat_of x w) ≡ None)
      (λ h. by_turn turn (sym C.issue ∙ h)) (λ _ _ h. h) w (none w)
    where
      by_turn : (u : Turn) → issue_after (issue_held (seat_of x by)) (TakeTurn by u) ≡ None
          → issue_held (seat_of x by) ≡ None
      by_turn Sync h = absurd (none-some Rest (sym h))
      by_turn (Flush t) h = h

  pub turns_taken : TurnsHeld i taken.seats
  turns_taken = record {
    one = one;
    issue_is = λ w turn is. held_issue_taken w turn.issue
        (ap (λ o. option_map (λ (t : SyncTurn). t.issue) o) is);
    no_issue = λ none. T.no_issue (λ w. held_none (seat_of x w) (were_unheld
        (λ v. ap (λ o. option_map (λ (t : SyncTurn). t.issue) o) (none v)) w));
    holder_is_idle = λ t. each_seat x (TakeTurn by turn) inside
        (λ w s. HoldsTurn s t → (s.write ≡ None) × (s.append ≡ None))
        (λ _. (C.write ∙ idle.write, C.append ∙ idle.append))
        (λ w _ h. T.holder_is_idle t w h);
  }
