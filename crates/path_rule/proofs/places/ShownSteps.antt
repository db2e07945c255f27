-- Which places are shown after a step: those that were, and its own. What the word of a group
-- tells.
use Rattle.std.proofs.Common.{⊎_elim, refl, get_or-set_same, ◌≡◌, ◌≢◌, ℕ, suc, ◌+◌, ◌%◌, ◌<◌, ◌≤◌}
use Rattle.std.proofs.Common.{List, [], ◌∷◌, length, Some, sym, ap, ◌∙◌, subst, arith}
use Rattle.std.proofs.Common.{length-append}
use Rattle.std.specs.Prelude.{slice_index}
use mathlib.Core.Logic.{dite, inl, inr}
use native.Mathlib.Decide.{ℕ_discrete, dec_lt}
use Rattle.op_core.proofs.CountWords.{number_back}
use Rattle.op_core.specs.CountWords.{count_word, number_in}
use Rattle.op_core.specs.Tallies.{IsOpen}
use Rattle.op_core.specs.declared.count.Order.{Order}
use Rattle.op_core.specs.declared.count.Order.TheVariants.{Write, Append}
use Rattle.op_core.specs.declared.count.Tally.TheVariants.{Open as OpenTally}
use Rattle.path_core.specs.declared.event.Cursor.TheVariants.{Synced, OldestLive, Stopped}
use Rattle.path_core.specs.declared.event.Event.{Event}
use Rattle.path_core.specs.declared.event.Event.TheVariants.{Look, Register, Close, OpenGroup}
use Rattle.path_core.specs.declared.event.Event.TheVariants.{MoveCurrent, Expire, Advance, Claim}
use Rattle.path_core.specs.declared.event.Event.TheVariants.{Switch, Raise, Finalise, TakeTurn}
use Rattle.path_core.specs.declared.event.Event.TheVariants.{GiveTurn, Put}
use Rattle.path_core.specs.declared.event.Place.{Place}
use Rattle.path_core.specs.declared.event.Place.TheVariants.{Count, Current, Oldest, Log, Newest}
use Rattle.path_core.specs.declared.event.Place.TheVariants.{Bound, TurnWord, CursorWord}
use Rattle.path_core.specs.declared.event.SwitchPart.TheVariants.{Clear, Open, Mark}
use Rattle.path_core.specs.declared.event.Turn.TheVariants.{Sync, Flush}
use Rattle.path_core.specs.declared.state.PathState.{PathState}
use Rattle.path_core.specs.Parts.{cleared_of, fresh_seat, fresh_table, groups_of, tally_of}
use Rattle.path_core.specs.Parts.{table_of, seat_of, seat_table, stage_of, group_in}
use Rattle.path_core.specs.Words.{place_of, reading}
use Rattle.path_core.specs.Allowed.{IsStep}
use Rattle.path_core.specs.Lawful.{IsLawfulPath}
use Rattle.path_core.specs.Next.{next_of}
use Rattle.path_core.proofs.frame.Seats.{group_made}
use Rattle.path_core.proofs.orders.KeepsFew.{as_many_groups}
use Rattle.path_core.proofs.places.AtRest.{opens_new}
use Rattle.clog_base.specs.declared.cell.Table.{Table}
use Rattle.path_core.specs.declared.seat.Switching.{Switching}
use Rattle.path_core.specs.declared.seat.Switching.TheVariants.{Settled, Begun}
use Rattle.path_core.specs.declared.seat.Switching.TheVariants.{Marked as MarkedStage, Waiting}
use Rattle.path_core.specs.declared.seat.Switching.TheVariants.{WithBarrier}
use Rattle.path_core.specs.LawfulSeats.{StageIs}
use Rattle.path_core.specs.Words.{by_of}
use Rattle.path_core.proofs.lists.Replaced.{put_at}
use Rattle.path_core.proofs.places.NearTries.{near_newest}
use Rattle.path_core.proofs.seats.Columns.{each_seat, own_after}
use Rattle.path_core.proofs.tables.ClearedLeft.{IsClear, cleared_was, clears_now}
use Rattle.path_core.proofs.tables.StageTells.{stage_exact}
use Rattle.path_core.proofs.tables.WithBarriers.{barred_at}
use Rattle.path_rule.specs.Turns.{KnowsNear, StagedAt}
use Rattle.path_rule.proofs.places.SamePlace.{cleared_next}
use Rattle.path_rule.specs.Layout.{word_at, word_for, IsLate, IsNear, IsShown, ActsShown}
use Rattle.path_rule.specs.Rule.{HasRows}
use Rattle.path_rule.proofs.places.ReadBack.{count_small}
use Rattle.path_rule.proofs.places.SamePlace.{late_in}

-- a step that makes the newest memtable
abbrev OpensNewest : Event → Type 0
OpensNewest (Switch by t n Open) = Unit {0}
OpensNewest _ = ⊥

-- any other leaves it
newest_same : (x : PathState) (e : Event) → IsStep x e → (OpensNewest e → ⊥) → (t : ℕ)
    → (table_of (next_of x e) t).newest ≡ (table_of x t).newest
newest_same x (MoveCurrent by Write group) a other t =
    barred_at x.write.current (seat_of x by).tables x.tables
    (λ tb. tb.newest ≡ (table_of x t).newest) t refl refl
newest_same x (MoveCurrent by Append group) a other t = refl
newest_same x (Switch by table m Clear) a other t = refl
newest_same x (Switch by table m Open) a other t = absurd (other tt)
newest_same x (Switch by table m Mark) a other t =
    put_at x.tables table.0 _ fresh_table a.is_there.0
    (λ u tb. tb.newest ≡ (table_of x u).newest) refl (λ _ _. refl) t
newest_same x (Raise by table m to) a other t =
    put_at x.tables table.0 _ fresh_table a.is_there.0
    (λ u tb. tb.newest ≡ (table_of x u).newest) refl (λ _ _. refl) t
newest_same x (Finalise by table m) a other t =
    put_at x.tables table.0 _ fresh_table a.is_there.0
    (λ u tb. tb.newest ≡ (table_of x u).newest) refl (λ _ _. refl) t
newest_same x (Put by (OldestLive table) value) a other t =
    put_at x.tables table.0 _ fresh_table a.is_there
    (λ u tb. tb.newest ≡ (table_of x u).newest) refl (λ _ _. refl) t
newest_same x (Put by Synced value) a other t = refl
newest_same x (Put by Stopped value) a other t = refl
newest_same x e a other t = refl

-- the place that is cleared is the step's
clear_place : (e : Event) (t : Table) (m : ℕ) → IsClear e t.0 m → Bound t m ≡ place_of e
clear_place (Switch by u n Clear) t m k = λ i. Bound (record { 0 = k.0 i }) (k.1 i)
clear_place (Switch by u n Open) t m k = absurd k
clear_place (Switch by u n Mark) t m k = absurd k
clear_place e t m k = absurd k

module _ (x : PathState) (L : IsLawfulPath x) where
  late_write : (e : Event) → IsStep x e → (g : ℕ) → Count Write g ≢ place_of e
      → IsLate (next_of x e).write.tallies g → IsLate x.write.tallies g
  late_write (OpenGroup by Write h) a g apart l =
      let new = opens_new x L.sized L.orders by Write h a in
      let long = length-append x.write.tallies (OpenTally 0 ∷ []) in
      let low = l.0 in let high = l.1 in (
        dite (dec_lt g (length x.write.tallies)) (λ k. k)
            (λ n. absurd (let same : g ≡ h = omega arith in apart (ap (Count Write) same))),
        omega arith,
      )
  late_write (OpenGroup by Append h) a g apart l = l
  late_write e a g apart l = subst (λ k. (g < k) × (k ≤ g + 32))
      (as_many_groups Write x.write e (λ b. b)) l

  late_append : (e : Event) → IsStep x e → (g : ℕ) → Count Append g ≢ place_of e
      → IsLate (next_of x e).append.tallies g → IsLate x.append.tallies g
  late_append (OpenGroup by Append h) a g apart l =
      let new = opens_new x L.sized L.orders by Append h a in
      let long = length-append x.append.tallies (OpenTally 0 ∷ []) in
      let low = l.0 in let high = l.1 in (
        dite (dec_lt g (length x.append.tallies)) (λ k. k)
            (λ n. absurd (let same : g ≡ h = omega arith in apart (ap (Count Append) same))),
        omega arith,
      )
  late_append (OpenGroup by Write h) a g apart l = l
  late_append e a g apart l = subst (λ k. (g < k) × (k ≤ g + 32))
      (as_many_groups Append x.append e (λ b. b)) l

  -- Bounds.

  abbrev Among : ℕ → ℕ → Type 0
  Among newest m = (m ≤ newest) × (newest ≤ m + 2)

  opened_was : (by : ℕ) (u : Table) (n : ℕ) → IsStep x (Switch by u n Open) → (t m : ℕ)
      → Among (table_of (next_of x (Switch by u n Open)) t).newest m → IsNear x t m
  opened_was by u n a t m s = put_at x.tables u.0 _ fresh_table a.is_there
      (λ v tb. Among tb.newest m → IsNear x v m)
      (λ s. let low = s.0 in let high = s.1 in let up = a.row.2 in
      dite (ℕ_discrete m n)
      (λ is. inr (by, a.row.3 ∙ ap Some (sym is)))
      (λ other. inl (omega arith, omega arith)))
      (λ v _ s. inl s) t s

  among_was : (e : Event) → IsStep x e → (t m : ℕ)
      → Among (table_of (next_of x e) t).newest m → IsNear x t m
  among_was (Switch by u n Open) a t m s = opened_was by u n a t m s
  among_was (Switch by u n Clear) a t m s = inl s
  among_was (Switch by u n Mark) a t m s = inl (subst (λ k. (m ≤ k) × (k ≤ m + 2))
      (newest_same x (Switch by u n Mark) a (λ b. b) t) s)
  among_was e a t m s = inl (subst (λ k. (m ≤ k) × (k ≤ m + 2))
      (newest_same x e a (λ b. b) t) s)

  cleared_before : (e : Event) → IsStep x e → (t : Table) (m : ℕ) → Bound t m ≢ place_of e
      → (w : ℕ) → cleared_of (seat_of (next_of x e) w) t.0 ≡ Some m → IsNear x t.0 m
  cleared_before e a t m apart w h = each_seat x e a.seat
      (λ _ s. cleared_of s t.0 ≡ Some m → IsNear x t.0 m)
      (λ h. ⊎_elim (λ (b : cleared_of (seat_of x (by_of e)) t.0 ≡ Some m). inr (by_of e, b))
      (λ (k : IsClear e t.0 m). absurd (apart (clear_place e t m k)))
      (cleared_was x L.sized e a t.0 m h))
      (λ v _ h. inr (v, h)) w h

  near_was : (e : Event) → IsStep x e → (t : Table) (m : ℕ) → Bound t m ≢ place_of e
      → IsNear (next_of x e) t.0 m → IsNear x t.0 m
  near_was e a t m apart near = ⊎_elim
      (λ (s : Among (table_of (next_of x e) t.0).newest m). among_was e a t.0 m s)
      (λ (c : (w : ℕ) × (cleared_of (seat_of (next_of x e) w) t.0 ≡ Some m)).
      cleared_before e a t m apart c.0 c.1) near

  -- What is shown was shown, but for the step's own place.
  pub shown_was : (e : Event) → IsStep x e → (p : Place) → IsShown (next_of x e) p
      → p ≢ place_of e → IsShown x p
  shown_was e a (Count Write g) s apart = late_write e a g apart s
  shown_was e a (Count Append g) s apart = late_append e a g apart s
  shown_was e a (Newest t) s apart = s
  shown_was e a (TurnWord (Flush t)) s apart = s
  shown_was e a (TurnWord Sync) s apart = tt
  shown_was e a (CursorWord (OldestLive t)) s apart = s
  shown_was e a (CursorWord Synced) s apart = tt
  shown_was e a (CursorWord Stopped) s apart = tt
  shown_was e a (Bound t m) s apart = (s.0, near_was e a t m apart s.1)
  shown_was e a (Current o) s apart = tt
  shown_was e a (Oldest o) s apart = tt
  shown_was e a Log s apart = tt

  -- Its own is.

  near_now : (e : Event) → IsStep x e → (OpensNewest e → ⊥) → (t m : ℕ)
      → m ≤ (table_of x t).newest → IsNear x t m → IsNear (next_of x e) t m
  near_now e a other t m made near = let same = newest_same x e a other t in inl (⊎_elim
      (λ (s : Among (table_of x t).newest m). subst (λ k. (m ≤ k) × (k ≤ m + 2)) (sym same) s)
      (λ (c : (w : ℕ) × (cleared_of (seat_of x w) t ≡ Some m)).
      absurd (let is = cleared_next x L c.0 t m c.1 in omega arith)) near)

  made_low : (t m : ℕ) → m < length (table_of x t).memtables → m ≤ (table_of x t).newest
  made_low t m made = let long = (L.switches.tables t).bounds_rise.made in omega arith

  late_now : (e : Event) (g : ℕ) → length (next_of x e).write.tallies ≡ length x.write.tallies
      → IsLate x.write.tallies g → IsLate (next_of x e).write.tallies g
  late_now e g same l = subst (λ k. (g < k) × (k ≤ g + 32)) (sym same) l

  late_now_append : (e : Event) (g : ℕ)
      → length (next_of x e).append.tallies ≡ length x.append.tallies
      → IsLate x.append.tallies g → IsLate (next_of x e).append.tallies g
  late_now_append e g same l = subst (λ k. (g < k) × (k ≤ g + 32)) (sym same) l

  look_shown : (by : ℕ) (p : Place) → IsStep x (Look by p) → IsShown x p
      → IsShown (next_of x (Look by p)) p
  look_shown by (Count Write g) a s = s
  look_shown by (Count Append g) a s = s
  look_shown by (Bound t m) a s = (
    s.0,
    near_now (Look by (Bound t m)) a (λ b. b) t.0 m (made_low t.0 m a.is_there.1) s.1,
  )
  look_shown by (Newest t) a s = s
  look_shown by (TurnWord (Flush t)) a s = s
  look_shown by (TurnWord Sync) a s = tt
  look_shown by (CursorWord (OldestLive t)) a s = s
  look_shown by (CursorWord Synced) a s = tt
  look_shown by (CursorWord Stopped) a s = tt
  look_shown by (Current o) a s = tt
  look_shown by (Oldest o) a s = tt
  look_shown by Log a s = tt

  pub shown_own : (e : Event) → IsStep x e → ActsShown x e → IsShown (next_of x e) (place_of e)
  shown_own (Look by p) a s = look_shown by p a s
  shown_own (Register by Write g) a s = late_now (Register by Write g) g
      (as_many_groups Write x.write (Register by Write g) (λ b. b)) s
  shown_own (Register by Append g) a s = late_now_append (Register by Append g) g
      (as_many_groups Append x.append (Register by Append g) (λ b. b)) s
  shown_own (Close by Write g c) a s = late_now (Close by Write g c) g
      (as_many_groups Write x.write (Close by Write g c) (λ b. b)) s
  shown_own (Close by Append g c) a s = late_now_append (Close by Append g c) g
      (as_many_groups Append x.append (Close by Append g c) (λ b. b)) s
  shown_own (Expire by Write g) a s = late_now (Expire by Write g) g
      (as_many_groups Write x.write (Expire by Write g) (λ b. b)) s
  shown_own (Expire by Append g) a s = late_now_append (Expire by Append g) g
      (as_many_groups Append x.append (Expire by Append g) (λ b. b)) s
  shown_own (OpenGroup by Write g) a s = let new = opens_new x L.sized L.orders by Write g a in
      let long = length-append x.write.tallies (OpenTally 0 ∷ []) in (omega arith, omega arith)
  shown_own (OpenGroup by Append g) a s = let new = opens_new x L.sized L.orders by Append g a in
      let long = length-append x.append.tallies (OpenTally 0 ∷ []) in (omega arith, omega arith)
  shown_own (MoveCurrent by o g) a s = tt
  shown_own (Advance by o g) a s = tt
  shown_own (Claim by from to what) a s = tt
  shown_own (Switch by t n Clear) a s = let few = L.sized.limits.few_tables in
      let there = a.is_there in (
        omega arith,
        inr (
          by,
          ap (λ s. cleared_of s t.0) (get_or-set_same x.seats by
              (own_after x (Switch by t n Clear)) fresh_seat a.seat)
              ∙ clears_now x L.sized by t n a,
        ),
      )
  shown_own (Switch by t n Open) a s = s
  shown_own (Switch by t m Mark) a s = (
    s.0,
    near_now (Switch by t m Mark) a (λ b. b) t.0 m (made_low t.0 m a.is_there.1) s.1,
  )
  shown_own (Raise by t m to) a s = (
    s.0,
    near_now (Raise by t m to) a (λ b. b) t.0 m (made_low t.0 m a.is_there.1) s.1,
  )
  shown_own (Finalise by t m) a s = (
    s.0,
    near_now (Finalise by t m) a (λ b. b) t.0 m (made_low t.0 m a.is_there.1) s.1,
  )
  shown_own (TakeTurn by Sync) a s = tt
  shown_own (TakeTurn by (Flush t)) a s = s
  shown_own (GiveTurn by Sync) a s = tt
  shown_own (GiveTurn by (Flush t)) a s = s
  shown_own (Put by Synced v) a s = tt
  shown_own (Put by Stopped v) a s = tt
  shown_own (Put by (OldestLive t) v) a s = s

  -- A group that is not behind the oldest is shown: so is one in which a seat is, or that is open.

  pub from_oldest : (o : Order) (g : ℕ) → g < length (groups_of x o).tallies
      → (groups_of x o).oldest ≤ g → IsShown x (Count o g)
  from_oldest o g made old = let few = L.groups_are_few o in (made, omega arith)

  pub group_shown : (o : Order) (w g : ℕ) → group_in o (seat_of x w) ≡ Some g
      → IsShown x (Count o g)
  group_shown o w g is = from_oldest o g (group_made x L o w g is)
      ((L.orders.counts_stand_for_seats o).nobody_below w g is)

  pub open_shown : (o : Order) (g : ℕ) → g < length (groups_of x o).tallies
      → IsOpen (tally_of x o g) → IsShown x (Count o g)
  open_shown o g made unclosed = from_oldest o g made
      (dite (dec_lt g (groups_of x o).oldest)
      (λ low. absurd (subst IsOpen
      (((L.orders.counts_stand_for_seats o).each g).below_oldest low) unclosed))
      (λ n. omega arith))

-- Which memtables are near: those that writes try, the one below the newest, and the least that is
-- not retired.
module _ (x : PathState) (L : IsLawfulPath x) where
  pub tries_near : (w t m : ℕ) → (seat_table (seat_of x w) t).trying ≡ Some m → IsNear x t m
  tries_near w t m try = let T = L.places.tries w t in let n = T.of_note m try in
      let own = L.each_claim_noted_once.own w n.0 n.1 in
      inl ((T.above m _ try own.range).made, near_newest x L w t m try)

  pub below_near : (t m : ℕ) → suc m ≡ (table_of x t).newest → IsNear x t m
  below_near t m is = inl (omega arith, omega arith)

  pub least_near : (t m : ℕ) → m ≡ (table_of x t).oldest_live → IsNear x t m
  least_near t m is = let B = (L.switches.tables t).bounds_rise in let a = B.oldest_is_made in
      let b = B.one_behind in inl (omega arith, omega arith)

  staged_near : (t m : ℕ) (k : Switching) → StageIs x t k → StagedAt k m → IsNear x t m
  staged_near t m Settled S at = absurd at
  staged_near t m (Begun n) S at = let new = S.newest in below_near t m (omega arith)
  staged_near t m (MarkedStage k) S at = let new = S.below_newest in below_near t m (omega arith)
  staged_near t m (Waiting n) S at = let new = S.below_newest in below_near t m (omega arith)
  staged_near t m (WithBarrier n group) S at = let new = S.below_newest in
      below_near t m (omega arith)

  pub knows_near : (w t m : ℕ) → KnowsNear (seat_of x w) t m → IsNear x t m
  knows_near w t m known = ⊎_elim
      (λ (try : (seat_table (seat_of x w) t).trying ≡ Some m). tries_near w t m try)
      (λ (k : (k : Switching) × (stage_of (seat_of x w) t ≡ Some k) × StagedAt k m).
      staged_near t m k.0 (stage_exact x L w t k.0 k.1) k.2) known

same_word : (o : Order) (g h : ℕ) → g % 32 ≡ h % 32 → word_at (Count o g) ≡ word_at (Count o h)
same_word Write g h e = omega arith
same_word Append g h e = omega arith

-- What stands at the word of a group that was made: the count of the last group with this word.
pub record FoundGroup (x : PathState) (o : Order) (g n : ℕ) : Type 0 where
  pub group : ℕ
  pub shown : IsShown x (Count o group)
  pub later : g ≤ group
  pub same : word_at (Count o group) ≡ word_at (Count o g)
  pub tells : n ≡ count_word group (tally_of x o group)
  pub number : number_in n ≡ group

module _ (x : PathState) (L : IsLawfulPath x) (R : HasRows x) (words : List ℕ)
    (W : (at : Place) → IsShown x at
    → slice_index words (word_at at) ≡ word_for at (reading x at)) where
  pub found_group : (o : Order) (g : ℕ) → g < length (groups_of x o).tallies
      → FoundGroup x o g (slice_index words (word_at (Count o g)))
  found_group o g made =
      let all : ℕ = length (groups_of x o).tallies in
      let h : ℕ = late_in all (g % 32) in
      let below : h < all = omega arith in
      let above : all ≤ h + 32 = omega arith in
      let up : g ≤ h = omega arith in
      let same : g % 32 ≡ h % 32 = omega arith in
      let tells = ap (slice_index words) (same_word o g h same) ∙ W (Count o h) (below, above) in
      let few = count_small x L o h in let low = R.groups o in
      record {
        group = h;
        shown = (below, above);
        later = up;
        same = sym (same_word o g h same);
        tells = tells;
        number = ap number_in tells ∙ number_back h (tally_of x o h) (omega arith) (omega arith);
      }

  -- where it tells this group, this group is shown
  pub number_shows : (o : Order) (g : ℕ) → g < length (groups_of x o).tallies
      → number_in (slice_index words (word_at (Count o g))) ≡ g → IsShown x (Count o g)
  number_shows o g made is = let F = found_group o g made in
      let same : F.group ≡ g = sym F.number ∙ is in subst (λ h. IsShown x (Count o h)) same F.shown

  -- and where it is shown, it tells it
  pub shown_number : (o : Order) (g : ℕ) → IsShown x (Count o g)
      → number_in (slice_index words (word_at (Count o g))) ≡ g
  shown_number o g s = let few = count_small x L o g in let low = R.groups o in let made = s.0 in
      ap number_in (W (Count o g) s)
      ∙ number_back g (tally_of x o g) (omega arith) (omega arith)
