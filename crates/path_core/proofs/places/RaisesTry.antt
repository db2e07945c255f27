-- A Raise by a writer that found its try raising: its place there is good.
use Rattle.std.proofs.Common.{
  ◌≡◌,
  ℕ,
  Bool,
  ◌&&◌,
  true,
  false,
  cond,
  Option,
  Some,
  None,
  is_some,
  refl,
  sym,
  ap,
  ◌∙◌,
  subst,
  arith,
  max,
  get_or-set_same,
}
use Rattle.std.specs.Option.{option_and_then}
use Rattle.std.proofs.lemmas.Option.{none-some, same_Some}
use mathlib.Core.Logic.{inl, inr}
use Rattle.clog_base.specs.declared.cell.Table.{Table}
use Rattle.path_core.specs.declared.event.Event.TheVariants.{Raise}
use Rattle.path_core.specs.declared.event.Turn.TheVariants.{Flush}
use Rattle.path_core.specs.declared.seat.FlushTurn.{FlushTurn}
use Rattle.path_core.specs.declared.seat.Range.{Range}
use Rattle.path_core.specs.declared.state.PathState.{PathState}
use Rattle.path_core.specs.Parts.{
  seat_of,
  seat_table,
  is_at,
  fresh_memtable,
  fresh_table,
  table_of,
  memtable_at,
  memtable_of,
  key_of_bound,
  marked_in,
  marked_of,
}
use Rattle.path_core.specs.declared.state.Bound.{Bound as BoundOf}
use Rattle.path_core.specs.declared.state.Bound.TheVariants.{Raising, Live, Final}
use Rattle.path_core.specs.SeatParts.{bound_found, is_raising, raised_to}
use Rattle.path_core.specs.SeatAfter.{raised_as_holder}
use Rattle.path_core.specs.Next.{next_of}
use Rattle.path_core.specs.declared.seat.Marked.{Marked}
use Rattle.clog_base.specs.declared.position.Key.{Key}
use Rattle.path_core.specs.declared.state.Memtable.{Memtable}
use Rattle.path_core.specs.declared.state.TableState.{TableState}
use Rattle.path_core.specs.Allowed.{IsStep}
use Rattle.std.proofs.lemmas.Bool.{false≢true, and_parts}
use Rattle.path_core.specs.Lawful.{IsLawfulLog, IsLawfulCore}
use Rattle.path_core.specs.LawfulPlaces.{IsAccepted, PlacesAre}
use Rattle.path_core.proofs.places.Tries.{tried_in}
use Rattle.path_core.proofs.places.TriesStay.{Tries, moved}
use Rattle.path_core.proofs.places.LooksTry.{tried_there}

module _ (x : PathState) (C : IsLawfulCore x) (P : PlacesAre x) where
  abbrev L : IsLawfulLog x
  L = C.log

  -- the end to which a writer raises
  raised_end : (by : ℕ) (table : Table) (m : ℕ) (to : Key) → IsStep x (Raise by table m to)
      → (r : Range) → (seat_of x by).claim ≡ Some r → r.end ≡ to.0
  raised_end by table m to a r c = elim a.row.1 [
    | inl w ↦ sym (ap (λ (z : Range). z.end) (same_Some _ r (sym w.end ∙ c)))
    | inr h ↦ absurd (false≢true (sym (ap (λ o. is_some o)
        (L.orders.one_holder_a_turn.holder_is_idle (Flush table) by (holds h.marked)).0)
        ∙ (L.orders.orders_nest by).claim r c))
  ]
    where
      holds : {k : Marked} → marked_of (seat_of x by) table.0 ≡ Some k
          → is_some (seat_table (seat_of x by) table.0).flush ≡ true
      holds h = some_flush (seat_table (seat_of x by) table.0).flush h
        where
          some_flush : {k : Marked} (o : Option FlushTurn)
              → option_and_then (λ (turn : FlushTurn). marked_in turn.stage) o ≡ Some k
              → is_some o ≡ true
          some_flush {k} None e = absurd (none-some k e)
          some_flush (Some turn) e = refl

  -- A Raise: a writer that found its try raising has its place there.
  pub raise_tries : (by : ℕ) (table : Table) (m : ℕ) (to : Key) (a : IsStep x (Raise by table m to))
      → (b : BoundOf) → (memtable_of x table.0 m).bound ≡ b → (c : Bool)
      → (is_some (seat_of x by).note && is_at (seat_table (seat_of x by) table.0).trying m
      && is_raising b) ≡ c
      → Tries x (Raise by table m to) table.0 (seat_of x by).claim (seat_of x by).note
      (tried_in (cond c (record (seat_table (seat_of x by) table.0) { place = Some m })
      (seat_table (seat_of x by) table.0)))
  raise_tries by table m to a b at false is = moved x C P (Raise by table m to) a by table.0
  raise_tries by table m to a b at true is =
      let T = moved x C P (Raise by table m to) a by table.0 in
      let p = and_parts (is_some (seat_of x by).note
      && is_at (seat_table (seat_of x by) table.0).trying m) (is_raising b) is in
      let q = and_parts (is_some (seat_of x by).note)
      (is_at (seat_table (seat_of x by) table.0).trying m) p.0 in
      let try = tried_there x C P (seat_table (seat_of x by) table.0).trying m q.1 in
      let k = raising_at b p.1 in
      record {
        of_note = T.of_note;
        place_is_tried = λ j e. try ∙ e;
        above = T.above;
        accepted = λ j r e c. let A = T.above m r try c in
            subst (λ i. IsAccepted (table_of (next_of x (Raise by table m to)) table.0) i r.end)
            (same_Some m j e) (record {
              made = A.made;
              above_before = A.above_before;
              lets_in = record {
                final = λ u h. absurd (let f : Raising (record { 0 = max k.0.0 to.0 }) ≡ Final u
                    = sym (now k.0 (at ∙ k.1)) ∙ h in cc);
                raising = λ u mark h n.
                    let f : Raising (record { 0 = max k.0.0 to.0 }) ≡ Raising u
                    = sym (now k.0 (at ∙ k.1)) ∙ h in
                    let top : max k.0.0 to.0 ≡ u.0 = ap key_of_bound f in
                    let end = raised_end by table m to a r c in
                    omega arith;
              };
            });
      }
    where
      raising_at : (b : BoundOf) → is_raising b ≡ true → (k : Key) × (b ≡ Raising k)
      raising_at Live e = absurd (false≢true e)
      raising_at (Raising k) e = (k, refl)
      raising_at (Final k) e = absurd (false≢true e)

      now : (k : Key) → (memtable_of x table.0 m).bound ≡ Raising k
          → (memtable_at (table_of (next_of x (Raise by table m to)) table.0) m).bound
          ≡ Raising (record { 0 = max k.0 to.0 })
      now k e = ap (λ (tb : TableState). (memtable_at tb m).bound)
          (get_or-set_same x.tables table.0 _ fresh_table a.is_there.0)
          ∙ ap (λ (n : Memtable). n.bound)
          (get_or-set_same (table_of x table.0).memtables m _ fresh_memtable a.is_there.1)
          ∙ ap (raised_to to.0) e

  pub raise_again : (by : ℕ) (table : Table) (m : ℕ) (to : Key) (c : Bool)
      → Tries x (Raise by table m to) table.0 (seat_of x by).claim (seat_of x by).note
      (tried_in (cond c (record (seat_table (seat_of x by) table.0) { place = Some m })
      (seat_table (seat_of x by) table.0)))
      → Tries x (Raise by table m to) table.0 (seat_of x by).claim (seat_of x by).note
      (tried_in (raised_as_holder m to.0 (cond c
      (record (bound_found m (raised_to to.0 (memtable_of x table.0 m).bound)
      (seat_table (seat_of x by) table.0)) { place = Some m })
      (bound_found m (raised_to to.0 (memtable_of x table.0 m).bound)
      (seat_table (seat_of x by) table.0)))))
  raise_again by table m to true T = T
  raise_again by table m to false T = T
