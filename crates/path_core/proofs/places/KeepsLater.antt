-- What writes try and where they are placed: each allowed step keeps it.
use Rattle.std.proofs.Common.{
  ◌≡◌,
  ℕ,
  ◌<◌,
  Bool,
  true,
  Option,
  Some,
  None,
  is_some,
  refl,
  sym,
  ap,
  ◌∙◌,
  subst,
  arith,
  ◌⊎◌,
  ◌≤◌,
  IsTrue,
}
use Rattle.std.specs.Option.{option_map_or}
use Rattle.std.proofs.lemmas.Option.{none-some, same_Some}
use mathlib.Core.Logic.{dite, inl, inr}
use Rattle.op_core.specs.declared.count.Order.TheVariants.{Write, Append}
use Rattle.path_core.specs.declared.event.Carried.TheVariants.{Nothing, Deposit, Applied}
use Rattle.path_core.specs.declared.event.ClaimKind.TheVariants.{Entry, Marker}
use Rattle.path_core.specs.declared.event.Cursor.TheVariants.{Synced, OldestLive, Stopped}
use Rattle.path_core.specs.declared.event.Event.{Event}
use Rattle.path_core.specs.declared.event.Event.TheVariants.{
  Register,
  Close,
  MoveCurrent,
  Claim,
  Switch,
  Raise,
  Finalise,
  Put,
}
use Rattle.path_core.specs.declared.event.SwitchPart.TheVariants.{Clear, Open, Mark}
use Rattle.path_core.specs.declared.seat.Range.{Range}
use Rattle.path_core.specs.declared.state.PathState.{PathState}
use Rattle.path_core.specs.Parts.{
  seat_of,
  fresh_table,
  table_of,
  memtable_of,
  key_of_bound,
  HasPassedBarrier,
  touches,
}
use Rattle.path_core.specs.Words.{by_of}
use Rattle.path_core.specs.Next.{next_of}
use Rattle.clog_base.specs.declared.position.Key.{Key}
use Rattle.path_core.specs.declared.state.Bound.TheVariants.{Final}
use Rattle.path_core.specs.Allowed.{IsStep}
use Rattle.path_core.specs.LawfulOrders.{IsOrderly}
use Rattle.path_core.specs.LawfulTables.{SwitchesAre, may_touch}
use Rattle.std.proofs.lemmas.Bool.{false≢true}
use Rattle.path_core.proofs.lists.Replaced.{put_at}
use Rattle.path_core.proofs.seats.Columns.{each_seat, write_after, claim_after, note_after}
use Rattle.op_core.specs.Tallies.{running_of}
use Rattle.path_core.specs.Lawful.{IsLawfulLog, IsLawfulCore}
use Rattle.path_core.specs.LawfulPlaces.{NoneBelow, PlacesAre}
use Rattle.path_core.proofs.orders.OtherSteps.{columns_of}
use Rattle.path_core.proofs.log.OwnNotes.{not_yet}
use Rattle.path_core.proofs.orders.NobodyAbove.{in_group, nobody_above_now}
use Rattle.path_core.proofs.places.TableMoves.{table_moves}
use Rattle.path_core.proofs.tables.WithBarriers.{barred_at}
use Rattle.path_core.proofs.tables.TableBounds.{final_at}
use native.Mathlib.Decide.{dec_lt}
use Rattle.path_core.proofs.log.LogGrows.{claimed_above}

module _ (x : PathState) (C : IsLawfulCore x) (P : PlacesAre x) where
  abbrev L : IsLawfulLog x
  L = C.log

  abbrev O : IsOrderly x
  O = L.orders

  abbrev W : SwitchesAre x
  W = C.switches

  -- Later groups log above.

  pub keeps_later : (e : Event) → IsStep x e → (t m g h w : ℕ) (u : Key) (r : Range)
      → (memtable_of (next_of x e) t m).barrier ≡ Some g
      → (memtable_of (next_of x e) t m).bound ≡ Final u
      → (seat_of (next_of x e) w).write ≡ Some h → g < h
      → (seat_of (next_of x e) w).claim ≡ Some r → u.0 < r.end
  keeps_later e a t m g h w u r barrier bound write less claim =
      elim ((table_moves x L.sized L.claims_tile_the_log O W e a t).barriers m g barrier) [
        | inl old ↦ later old
        | inr now ↦ absurd (let n = nobody_above_now x O L.sized Write e a w h write in omega arith)
      ]
    where
      own : (e : Event) → IsStep x e → (v : Key) → v.0 ≤ x.log
          → ((h : ℕ) (r : Range) → (seat_of x (by_of e)).write ≡ Some h → g < h
          → (seat_of x (by_of e)).claim ≡ Some r → v.0 < r.end)
          → (h : ℕ) (r : Range) → write_after (seat_of x (by_of e)).write e ≡ Some h → g < h
          → claim_after (seat_of x (by_of e)).claim e ≡ Some r → v.0 < r.end
      own (Register by Write k) a v low before h r wr less cl = absurd (false≢true
          (sym (ap (λ o. is_some o) a.row.1.write) ∙ (O.orders_nest by).claim r cl))
      own (Register by Append k) a v low before h r wr less cl = before h r wr less cl
      own (Close by Write k carried) a v low before h r wr less cl = absurd (none-some h wr)
      own (Close by Append k carried) a v low before h r wr less cl = before h r wr less cl
      own (Claim by from to Entry) a v low before h r wr less cl =
          let high = claimed_above x L.sized L.claims_tile_the_log by from to a in
          let end = ap (λ (q : Range). q.end) (same_Some _ r cl) in omega arith
      own (Claim by from to Marker) a v low before h r wr less cl = before h r wr less cl
      own e a v low before h r wr less cl = before h r wr less cl

      later : (memtable_of x t m).barrier ≡ Some g → u.0 < r.end
      later old =
          let f = final_at _ ((W.tables t).barrier_means_final m g old) in
          let same : Final f.0 ≡ Final u
          = sym ((table_moves x L.sized L.claims_tile_the_log O
          W e a t).finals m f.0 f.1) ∙ bound in
          let key : f.0.0 ≡ u.0 = ap key_of_bound same in
          let low : f.0.0 ≤ x.log = subst (λ b. key_of_bound b ≤ x.log) f.1
          ((W.tables t).bounds_rise.below_log m) in
          let N = columns_of x L.sized O e a.is_there in
          let goal : f.0.0 < r.end = each_seat x e a.seat
          (λ _ s. (h : ℕ) (r : Range) → s.write ≡ Some h → g < h → s.claim ≡ Some r → f.0.0 < r.end)
          (λ h r wr less cl. own e a f.0 low
          (λ h r p q c. P.later_above t m g h (by_of e) f.0 r old f.1 p q c) h r
          (sym N.write ∙ wr) less (sym N.claim ∙ cl))
          (λ v _ h r p q c. P.later_above t m g h v f.0 r old f.1 p q c) w h r write less claim in
          omega arith

  -- No unfinished write ends at or below a retired memtable's bound.

  retired_were : (e : Event) → IsStep x e → (t m : ℕ)
      → m < (table_of (next_of x e) t).oldest_live
      → (m < (table_of x t).oldest_live) ⊎ HasPassedBarrier x t m
  retired_were (MoveCurrent by Write group) a t m l = inl (barred_at x.write.current
      (seat_of x by).tables x.tables (λ tb. m < tb.oldest_live → m < (table_of x t).oldest_live) t
      (λ h. h) (λ h. h) l)
  retired_were (MoveCurrent by Append group) a t m l = inl l
  retired_were (Switch by table k Clear) a t m l = inl l
  retired_were (Switch by table k Open) a t m l = inl
      (put_at x.tables table.0 _ fresh_table a.is_there
      (λ u tb. m < tb.oldest_live → m < (table_of x u).oldest_live) (λ h. h) (λ _ _ h. h) t l)
  retired_were (Switch by table k Mark) a t m l = inl
      (put_at x.tables table.0 _ fresh_table a.is_there.0
      (λ u tb. m < tb.oldest_live → m < (table_of x u).oldest_live) (λ h. h) (λ _ _ h. h) t l)
  retired_were (Raise by table k to) a t m l = inl
      (put_at x.tables table.0 _ fresh_table a.is_there.0
      (λ u tb. m < tb.oldest_live → m < (table_of x u).oldest_live) (λ h. h) (λ _ _ h. h) t l)
  retired_were (Finalise by table k) a t m l = inl
      (put_at x.tables table.0 _ fresh_table a.is_there.0
      (λ u tb. m < tb.oldest_live → m < (table_of x u).oldest_live) (λ h. h) (λ _ _ h. h) t l)
  retired_were (Put by Synced value) a t m l = inl l
  retired_were (Put by (OldestLive table) value) a t m l = put_at x.tables table.0 _ fresh_table
      a.is_there
      (λ u tb. m < tb.oldest_live → (m < (table_of x u).oldest_live) ⊎ HasPassedBarrier x u m)
      (λ h. let v = a.row.1 in dite (dec_lt m (table_of x table.0).oldest_live) (λ old. inl old)
      (λ new. inr (subst (λ k. HasPassedBarrier x table.0 k) (omega arith) a.row.2)))
      (λ _ _ h. inl h) t l
  retired_were (Put by Stopped value) a t m l = inl l
  retired_were e a t m l = inl l

  -- what a passed barrier tells of unfinished writes
  pub passed_above : (t m : ℕ) (u : Key) → (memtable_of x t m).bound ≡ Final u
      → HasPassedBarrier x t m
      → NoneBelow x t u.0
  passed_above t m u bound B w r claim touched = by (seat_of x w).write refl
      ((O.orders_nest w).claim r claim)
    where
      by : (write : Option ℕ) → (seat_of x w).write ≡ write → IsTrue (is_some (seat_of x w).write)
          → u.0 < r.end
      by None e some = absurd (false≢true (sym (ap (λ o. is_some o) e) ∙ some))
      by (Some h) e some = dite (dec_lt B.group h)
          (λ l. P.later_above t m B.group h w u r B.issued bound e l claim)
          (λ n. absurd (let s = in_group x O Write w h e in
          let z = ap running_of (B.passed.finished h (omega arith)) in omega arith))

  pub keeps_none_below : (e : Event) → IsStep x e → (t m : ℕ)
      → m < (table_of (next_of x e) t).oldest_live
      → NoneBelow (next_of x e) t (key_of_bound (memtable_of (next_of x e) t m).bound)
  keeps_none_below e a t m l = elim (retired_were e a t m l) [
    | inl old ↦ let f = final_at _ ((W.tables t).retired_is_final m old) in
        after f.0 f.1 (subst (λ b. NoneBelow x t (key_of_bound b)) f.1 (P.none_below t m old))
    | inr B ↦ let f = final_at _ ((W.tables t).barrier_means_final m B.group B.issued) in
        after f.0 f.1 (passed_above t m f.0 f.1 B)
  ]
    where
      may : ℕ → Option ℕ → Bool
      may t note = option_map_or (λ (tables : ℕ). touches tables t) note true

      own : (e : Event) → IsStep x e → (u : Key) → u.0 ≤ x.log → NoneBelow x t u.0 → (r : Range)
          → claim_after (seat_of x (by_of e)).claim e ≡ Some r
          → IsTrue (option_map_or (λ (tables : ℕ). touches tables t) (note_after (seat_of x
          (by_of e)).note e) true)
          → u.0 < r.end
      own (Close by Write k carried) a u low N r cl touched = absurd (none-some r cl)
      own (Close by Append k (Deposit note)) a u low N r cl touched = N by r cl
          (ap (λ (n : Option ℕ). option_map_or (λ (tables : ℕ). touches tables t) n true)
          (not_yet x O by k a.row.0))
      own (Close by Append k Nothing) a u low N r cl touched = N by r cl touched
      own (Close by Append k (Applied places)) a u low N r cl touched = absurd a.row.1
      own (Claim by from to Entry) a u low N r cl touched =
          let high = claimed_above x L.sized L.claims_tile_the_log by from to a in
          let end = ap (λ (q : Range). q.end) (same_Some _ r cl) in omega arith
      own (Claim by from to Marker) a u low N r cl touched = N by r cl touched
      own e a u low N r cl touched = N (by_of e) r cl touched

      after : (u : Key) → (memtable_of x t m).bound ≡ Final u → NoneBelow x t u.0
          → NoneBelow (next_of x e) t (key_of_bound (memtable_of (next_of x e) t m).bound)
      after u bound N w r claim touched =
          let low : u.0 ≤ x.log = subst (λ b. key_of_bound b ≤ x.log) bound
          ((W.tables t).bounds_rise.below_log m) in
          subst (λ b. key_of_bound b < r.end)
          (sym ((table_moves x L.sized L.claims_tile_the_log O W e a t).finals m u bound))
          (each_seat x e a.seat (λ _ s. (r : Range) → s.claim ≡ Some r → IsTrue (may_touch s t)
          → u.0 < r.end)
          (λ r cl touched. own e a u low N r (sym (columns_of x L.sized O e a.is_there).claim ∙ cl)
          (sym (ap (λ n. option_map_or (λ (tables : ℕ). touches tables t) n true)
          (columns_of x L.sized O e a.is_there).note) ∙ touched))
          (λ v _ r cl touched. N v r cl touched) w r claim touched)
