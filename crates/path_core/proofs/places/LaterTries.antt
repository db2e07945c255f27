-- Writes of the groups behind a memtable's barrier try it, or a later one: each allowed step keeps
-- it, since a try begins at the oldest live memtable, moves up, and ends with the write.
use Rattle.std.proofs.Common.{◌≡◌, ℕ, ◌+◌, ◌<◌, ◌≤◌, ◌⊎◌, Bool, true, false, ◌&&◌, cond, Option}
use Rattle.std.proofs.Common.{Some, None, is_some, IsSome, refl, sym, ap, ◌∙◌, arith}
use Rattle.std.proofs.lemmas.Bool.{false≢true, eqb-true}
use Rattle.std.proofs.lemmas.Option.{none-some, same_Some}
use Rattle.std.proofs.Math.ListN.{get_or-map as get_or-map_default}
use mathlib.Core.Logic.{inl, inr}
use Rattle.op_core.specs.declared.count.Order.TheVariants.{Write, Append}
use Rattle.path_core.specs.declared.event.Cursor.TheVariants.{Synced, OldestLive, Stopped}
use Rattle.path_core.specs.declared.event.Event.{Event}
use Rattle.path_core.specs.declared.event.Event.TheVariants.{Look, Register, Close, Raise}
use Rattle.path_core.specs.declared.event.Place.TheVariants.{Bound, CursorWord}
use Rattle.path_core.specs.declared.seat.FlushTurn.{FlushTurn}
use Rattle.path_core.specs.declared.seat.SeatTable.{SeatTable}
use Rattle.path_core.specs.declared.state.Bound.{Bound as BoundOf}
use Rattle.path_core.specs.declared.state.PathState.{PathState}
use Rattle.path_core.specs.Parts.{untouched, seat_of, seat_table, table_of, memtable_of, is_at}
use Rattle.path_core.specs.Words.{reading, by_of, place_of}
use Rattle.path_core.specs.Allowed.{IsStep}
use Rattle.path_core.specs.SeatParts.{in_flush, bound_found, raised_to, takes, is_final_below}
use Rattle.path_core.specs.SeatParts.{is_raising, tried, tries_bound, begins_at, deposited_end}
use Rattle.path_core.specs.SeatParts.{has_note_of}
use Rattle.path_core.specs.SeatAfter.{raised_as_writer, raised_as_holder, left_table}
use Rattle.path_core.specs.Next.{next_of, told_of}
use Rattle.path_core.specs.Lawful.{IsLawfulCore}
use Rattle.path_core.specs.LawfulPlaces.{PlacesAre, LaterTries}
use Rattle.path_core.proofs.seats.Columns.{each_seat, own_after, at_table_keeps, seat_fits}
use Rattle.path_core.proofs.seats.Columns.{write_after}
use Rattle.path_core.proofs.seats.KnownMoves.{at_each}
use Rattle.path_core.proofs.orders.NobodyAbove.{nobody_above_now}
use Rattle.path_core.proofs.orders.OtherSteps.{columns_of}
use Rattle.path_core.proofs.tables.KeepsBarriers.{memtable_barrier}
use Rattle.path_core.proofs.tables.TableBounds.{final_at, final_is_below}
use Rattle.path_core.proofs.places.Tries.{tries_same}

-- What was tried before is tried, or a later one, or the oldest live one.
abbrev pub TryMoves : Option ℕ → ℕ → ℕ → Type 0
TryMoves before oldest k = ((j : ℕ) × (before ≡ Some j) × (j ≤ k)) ⊎ (k ≡ oldest)

at_some : (o : Option ℕ) (m : ℕ) → is_at o m ≡ true → o ≡ Some m
at_some None m e = absurd (false≢true e)
at_some (Some n) m e = ap Some (eqb-true n m e)

-- a Look at a bound
bound_moves : (end : Option ℕ) (m : ℕ) (b : BoundOf) (st : SeatTable) (oldest k : ℕ)
    → (tries_bound end m b st).trying ≡ Some k → TryMoves st.trying oldest k
bound_moves None m b st oldest k h = inl (k, h, omega arith)
bound_moves (Some end) m b st oldest k h = here (is_at st.trying m) refl h
  where
    next : is_at st.trying m ≡ true → (c d : Bool) → (cond c (record st { place = Some m })
        (cond d (record st { trying = Some (m + 1) }) st)).trying ≡ Some k
        → TryMoves st.trying oldest k
    next e true d h = inl (k, h, omega arith)
    next e false true h = let same : m + 1 ≡ k = same_Some (m + 1) k h in
        inl (m, at_some st.trying m e, omega arith)
    next e false false h = inl (k, h, omega arith)

    here : (c : Bool) → is_at st.trying m ≡ c
        → (cond c (tried end m b st) st).trying ≡ Some k → TryMoves st.trying oldest k
    here false e h = inl (k, h, omega arith)
    here true e h = next e (takes end b) (is_final_below end b) h

-- a Look at the oldest live memtable
begins_moves : (c : Bool) (n : ℕ) (st : SeatTable) (k : ℕ) → (begins_at c n st).trying ≡ Some k
    → TryMoves st.trying n k
begins_moves false n st k h = inl (k, h, omega arith)
begins_moves true n st k h = by (is_some st.trying) h
  where
    by : (d : Bool) → (cond d st (record st { trying = Some n })).trying ≡ Some k
        → TryMoves st.trying n k
    by true h = inl (k, h, omega arith)
    by false h = inr (sym (same_Some n k h))

-- a raise
raises_same : (deposited : Bool) (m to : ℕ) (b : BoundOf) (st : SeatTable)
    → (raised_as_holder m to (raised_as_writer deposited m b st)).trying ≡ st.trying
raises_same deposited m to b st = by (deposited && is_at st.trying m && is_raising b)
  where
    by : (c : Bool)
        → (raised_as_holder m to (cond c (record st { place = Some m }) st)).trying ≡ st.trying
    by true = refl
    by false = refl

module _ (x : PathState) (C : IsLawfulCore x) (P : PlacesAre x) where
  -- A seat that tries is in the write order.
  pub tries_inside : (w t k : ℕ) → (seat_table (seat_of x w) t).trying ≡ Some k
      → IsSome (seat_of x w).write
  tries_inside w t k try = let N = (P.tries w t).of_note k try in
      let H = C.log.each_claim_noted_once.own w N.0 N.1 in
      (C.log.orders.orders_nest w).claim _ H.range

  -- what the acting seat tries after its step
  pub own_moves : (e : Event) → IsStep x e → (t k : ℕ)
      → (seat_table (own_after x e) t).trying ≡ Some k
      → TryMoves (seat_table (seat_of x (by_of e)) t).trying (table_of x t).oldest_live k
  own_moves (Look by (Bound table m)) a t k h = at_each table.0
      (λ (st : SeatTable). tries_bound (deposited_end (seat_of x by)) m
      (memtable_of x table.0 m).bound (bound_found m (memtable_of x table.0 m).bound st))
      (seat_of x by) (λ u st. (k : ℕ) → st.trying ≡ Some k
      → TryMoves (seat_table (seat_of x by) u).trying (table_of x u).oldest_live k)
      (seat_fits x C.log.sized table.0 by a.is_there.0)
      (λ k h. bound_moves (deposited_end (seat_of x by)) m (memtable_of x table.0 m).bound
      (bound_found m (memtable_of x table.0 m).bound (seat_table (seat_of x by) table.0))
      (table_of x table.0).oldest_live k h)
      (λ u k h. inl (k, h, omega arith)) t k h
  own_moves (Look by (CursorWord (OldestLive table))) a t k h = at_each table.0
      (λ (st : SeatTable). begins_at (has_note_of (seat_of x by) table.0)
      (table_of x table.0).oldest_live (in_flush (λ (turn : FlushTurn).
      record turn { oldest_live = Some (table_of x table.0).oldest_live }) st))
      (seat_of x by) (λ u st. (k : ℕ) → st.trying ≡ Some k
      → TryMoves (seat_table (seat_of x by) u).trying (table_of x u).oldest_live k)
      (seat_fits x C.log.sized table.0 by a.is_there)
      (λ k h. begins_moves (has_note_of (seat_of x by) table.0) (table_of x table.0).oldest_live
      (in_flush (λ (turn : FlushTurn).
      record turn { oldest_live = Some (table_of x table.0).oldest_live })
      (seat_table (seat_of x by) table.0)) k h)
      (λ u k h. inl (k, h, omega arith)) t k h
  own_moves (Raise by table m to) a t k h = inl (
    k,
    sym (at_table_keeps table.0 t
        (λ (st : SeatTable). raised_as_holder m to.0
        (raised_as_writer (is_some (seat_of x by).note) m (memtable_of x table.0 m).bound
        (bound_found m (raised_to to.0 (memtable_of x table.0 m).bound) st)))
        (seat_of x by) (λ (st : SeatTable). st.trying)
        (raises_same (is_some (seat_of x by).note) m to.0 (memtable_of x table.0 m).bound
        (bound_found m (raised_to to.0 (memtable_of x table.0 m).bound)
        (seat_table (seat_of x by) table.0)))) ∙ h,
    omega arith,
  )
  own_moves (Close by Write g carried) a t k h = absurd (none-some k (sym (ap
      (λ (st : SeatTable). st.trying)
      (get_or-map_default left_table (seat_of x by).tables t untouched)) ∙ h))
  own_moves (Close by Append g carried) a t k h = let e = Close by Append g carried in
      inl (
        k,
        sym (ap (λ (p : Option ℕ × Option ℕ). p.0)
            (tries_same e (seat_of x by) (reading x (place_of e)) (told_of x e) t (λ b. b))) ∙ h,
        omega arith,
      )
  own_moves (Look by (CursorWord Synced)) a t k h = inl (k, h, omega arith)
  own_moves (Look by (CursorWord Stopped)) a t k h = inl (k, h, omega arith)
  own_moves (Look by at) a t k h = let e = Look by at in
      inl (
        k,
        sym (ap (λ (p : Option ℕ × Option ℕ). p.0)
            (tries_same e (seat_of x by) (reading x (place_of e)) (told_of x e) t (λ b. b))) ∙ h,
        omega arith,
      )
  own_moves e a t k h = inl (
    k,
    sym (ap (λ (p : Option ℕ × Option ℕ). p.0)
        (tries_same e (seat_of x (by_of e)) (reading x (place_of e)) (told_of x e) t (λ b. b))) ∙ h,
    omega arith,
  )

  -- a memtable that has a barrier is not above the oldest live one
  pub barred_is_low : (t m g : ℕ) → (memtable_of x t m).barrier ≡ Some g
      → m ≤ (table_of x t).oldest_live
  barred_is_low t m g barrier =
      let f = final_at _ ((C.switches.tables t).barrier_means_final m g barrier) in
      let low = final_is_below x.log (table_of x t) (C.switches.tables t) m f.0 f.1 in
      let one = (C.switches.tables t).bounds_rise.one_behind in omega arith

  pub keeps_later_tries : LaterTries x → (e : Event) → IsStep x e → LaterTries (next_of x e)
  keeps_later_tries V e a t m g h w k barrier write less try = elim
      (memtable_barrier x C.log.sized C.log.claims_tile_the_log C.log.orders C.switches e a t m g
      barrier) [
        | inl old ↦ each_seat x e a.seat (λ _ s. (h k : ℕ) → s.write ≡ Some h → g < h
            → (seat_table s t).trying ≡ Some k → m ≤ k)
            (λ h k wr less tr. own e a old h k
            (sym (columns_of x C.log.sized C.log.orders e a.is_there).write ∙ wr) less
            (own_moves e a t k tr))
            (λ v _ h k wr less tr. V t m g h v k old wr less tr) w h k write less try
        | inr now ↦ absurd (let n = nobody_above_now x C.log.orders C.log.sized Write e a w h write
            in let is = now.0 in omega arith)
      ]
    where
      goes_on : (memtable_of x t m).barrier ≡ Some g → (v h k : ℕ)
          → (seat_of x v).write ≡ Some h → g < h
          → TryMoves (seat_table (seat_of x v) t).trying (table_of x t).oldest_live k → m ≤ k
      goes_on old v h k wr less T = elim T [
        | inl b ↦ (let low = V t m g h v b.0 old wr less b.1 in let up = b.2 in omega arith)
        | inr is ↦ (let low = barred_is_low t m g old in omega arith)
      ]

      own : (e : Event) → IsStep x e → (memtable_of x t m).barrier ≡ Some g → (h k : ℕ)
          → write_after (seat_of x (by_of e)).write e ≡ Some h → g < h
          → TryMoves (seat_table (seat_of x (by_of e)) t).trying (table_of x t).oldest_live k
          → m ≤ k
      own (Register by Write p) a old h k wr less T = elim T [
        | inl b ↦ absurd (false≢true (sym (ap (λ (o : Option ℕ). is_some o) a.row.1.write)
            ∙ tries_inside by t b.0 b.1))
        | inr is ↦ (let low = barred_is_low t m g old in omega arith)
      ]
      own (Register by Append p) a old h k wr less T = goes_on old by h k wr less T
      own (Close by Write p carried) a old h k wr less T = absurd (none-some h wr)
      own (Close by Append p carried) a old h k wr less T = goes_on old by h k wr less T
      own e a old h k wr less T = goes_on old (by_of e) h k wr less T
