-- A switch that is not through has a holder: each step keeps it. One that is through stays so,
-- while no newer one is made.
use Rattle.std.proofs.Common.{
  ◌≡◌,
  ℕ,
  ◌-◌,
  ◌<◌,
  ◌==◌,
  Bool,
  true,
  false,
  cond,
  is_some,
  IsSome,
  IsTrue,
  refl,
  sym,
  ◌∙◌,
  subst,
  ◌⊎◌,
  get_or-set_same,
}
use Rattle.std.proofs.lemmas.Bool.{cond_both, eqb-true}
use mathlib.Core.Logic.{inl, inr}
use Rattle.op_core.specs.declared.count.Order.TheVariants.{Write, Append}
use Rattle.path_core.specs.declared.event.Cursor.TheVariants.{Synced, OldestLive, Stopped}
use Rattle.path_core.specs.declared.event.Event.{Event}
use Rattle.path_core.specs.declared.event.Event.TheVariants.{
  MoveCurrent,
  Switch,
  Raise,
  Finalise,
  TakeTurn,
  GiveTurn,
  Put,
}
use Rattle.path_core.specs.declared.event.SwitchPart.TheVariants.{Clear, Open, Mark}
use Rattle.path_core.specs.declared.event.Turn.TheVariants.{Sync, Flush}
use Rattle.path_core.specs.declared.state.PathState.{PathState}
use Rattle.path_core.specs.Parts.{
  fresh_seat,
  fresh_table,
  seat_of,
  seat_table,
  table_of,
  HasPassedBarrier,
}
use Rattle.path_core.specs.Words.{by_of}
use Rattle.path_core.specs.Allowed.{IsStep, IsSettled}
use Rattle.path_core.specs.Next.{next_of}
use Rattle.path_core.specs.Lawful.{IsSized}
use Rattle.path_core.specs.LawfulOrders.{IsOrderly, SwitchesHeld}
use Rattle.path_core.proofs.lists.Replaced.{put_at}
use Rattle.path_core.proofs.seats.Columns.{each_seat, own_after, flush_after}
use Rattle.path_core.proofs.orders.OtherSteps.{columns_of}
use Rattle.path_core.proofs.tables.WithBarriers.{barred_at}
use Rattle.path_core.proofs.runs.Sizes.{as_many_tables}
use Rattle.path_core.proofs.orders.GroupsMove.{passed_stays}

module _ (x : PathState) (sized : IsSized x) (O : IsOrderly x) where
  -- The acting seat after its step.
  own_is : (e : Event) → IsStep x e → own_after x e ≡ seat_of (next_of x e) (by_of e)
  own_is e a = sym (get_or-set_same x.seats (by_of e) (own_after x e) fresh_seat a.seat)

  -- what is newest stays, or the holder of the table's turn acts
  pub newest_is : (e : Event) → IsStep x e → (t : ℕ)
      → ((table_of (next_of x e) t).newest ≡ (table_of x t).newest)
      ⊎ IsSome (seat_table (seat_of (next_of x e) (by_of e)) t).flush
  newest_is (MoveCurrent by Write group) a t = inl (barred_at x.write.current
      (seat_of x by).tables x.tables (λ tb. tb.newest ≡ (table_of x t).newest) t refl refl)
  newest_is (MoveCurrent by Append group) a t = inl refl
  newest_is (Switch by table m Clear) a t = inl refl
  newest_is (Switch by table m Open) a t =
      let e = Switch by table m Open in
      put_at x.tables table.0 _ fresh_table a.is_there
      (λ u tb. (tb.newest ≡ (table_of x u).newest)
      ⊎ IsSome (seat_table (seat_of (next_of x e) by) u).flush)
      (inr (subst (λ s. IsSome (seat_table s table.0).flush) (own_is e a)
      ((columns_of x sized O e a.is_there).flush table.0 ∙ a.row.0)))
      (λ _ _. inl refl) t
  newest_is (Switch by table m Mark) a t = inl (put_at x.tables table.0 _ fresh_table a.is_there.0
      (λ u tb. tb.newest ≡ (table_of x u).newest) refl (λ _ _. refl) t)
  newest_is (Raise by table m to) a t = inl (put_at x.tables table.0 _ fresh_table a.is_there.0
      (λ u tb. tb.newest ≡ (table_of x u).newest) refl (λ _ _. refl) t)
  newest_is (Finalise by table m) a t = inl (put_at x.tables table.0 _ fresh_table a.is_there.0
      (λ u tb. tb.newest ≡ (table_of x u).newest) refl (λ _ _. refl) t)
  newest_is (Put by Synced value) a t = inl refl
  newest_is (Put by (OldestLive table) value) a t = inl
      (put_at x.tables table.0 _ fresh_table a.is_there
      (λ u tb. tb.newest ≡ (table_of x u).newest) refl (λ _ _. refl) t)
  newest_is (Put by Stopped value) a t = inl refl
  newest_is e a t = inl refl

  -- the holder of a table's turn keeps it, or the newest switch is through
  holder_stays : (e : Event) → IsStep x e → (t w : ℕ) → IsSome (seat_table (seat_of x w) t).flush
      → IsSome (seat_table (seat_of (next_of x e) w) t).flush ⊎ IsSettled x t
  holder_stays e a t w = each_seat x e a.seat
      (λ w s. IsSome (seat_table (seat_of x w) t).flush
      → IsSome (seat_table s t).flush ⊎ IsSettled x t)
      (λ h. elim (own e a h) [
        | inl q ↦ inl ((columns_of x sized O e a.is_there).flush t ∙ q)
        | inr q ↦ inr q
      ]) (λ _ _ h. inl h) w
    where
      own : (e : Event) → IsStep x e → IsSome (seat_table (seat_of x (by_of e)) t).flush
          → IsTrue (flush_after t (is_some (seat_table (seat_of x (by_of e)) t).flush) e)
          ⊎ IsSettled x t
      own (TakeTurn by (Flush table)) a h = inl (cond_both (table.0 == t) true
          (is_some (seat_table (seat_of x by) t).flush) IsTrue (λ _. refl) (λ _. h))
      own (TakeTurn by Sync) a h = inl h
      own (GiveTurn by (Flush table)) a h = choose (table.0 == t) refl
        where
          choose : (b : Bool) → (table.0 == t) ≡ b
              → IsTrue (cond b false (is_some (seat_table (seat_of x by) t).flush))
              ⊎ IsSettled x t
          choose true e = inr (subst (IsSettled x) (eqb-true table.0 t e) a.row.1)
          choose false e = inl h
      own (GiveTurn by Sync) a h = inl h
      own e a h = inl h

  -- a switch that is through stays so, while no newer one is made
  pub settled_stays : (e : Event) → IsStep x e → (t : ℕ)
      → (table_of (next_of x e) t).newest ≡ (table_of x t).newest → IsSettled x t
      → IsSettled (next_of x e) t
  settled_stays e a t same S l = subst (λ n. HasPassedBarrier (next_of x e) t (n - 1)) (sym same)
      (passed_stays x O e a t _ (S (subst (λ n. 0 < n) same l)))

  -- Each allowed step keeps that a switch that is not through has a holder.
  pub keeps_switches_held : SwitchesHeld x → (e : Event) → IsStep x e
      → SwitchesHeld (next_of x e)
  keeps_switches_held S e a t inside = elim (newest_is e a t) [
    | inr holds ↦ inr (by_of e, holds)
    | inl same ↦ elim (S t (subst (λ n. t < n) (as_many_tables x e) inside)) [
      | inl settled ↦ inl (settled_stays e a t same settled)
      | inr held ↦ elim (holder_stays e a t held.0 held.1) [
        | inl h ↦ inr (held.0, h)
        | inr settled ↦ inl (settled_stays e a t same settled)
      ]
    ]
  ]
