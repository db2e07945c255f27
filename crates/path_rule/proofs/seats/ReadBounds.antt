-- What a seat has found behind a look at a bound that is final.
use Rattle.std.proofs.Common.{
  ◌≡◌,
  ℕ,
  ◌+◌,
  ◌-◌,
  ◌^◌,
  ◌<◌,
  Bool,
  true,
  false,
  cond,
  Option,
  Some,
  None,
  length,
  refl,
  ap,
  ◌∙◌,
  arith,
  ne_eqb,
}
use Rattle.std.specs.Prelude.{nat_lt}
use Rattle.std.proofs.lemmas.Bool.{le-ltb}
use Rattle.clog_base.specs.declared.cell.Table.{Table}
use Rattle.path_core.specs.declared.event.Event.TheVariants.{Look}
use Rattle.path_core.specs.declared.event.Place.TheVariants.{Bound}
use Rattle.path_core.specs.declared.seat.Seat.{Seat}
use Rattle.path_core.specs.declared.seat.SeatTable.{SeatTable}
use Rattle.path_core.specs.declared.state.Bound.{Bound as BoundOf}
use Rattle.path_core.specs.declared.state.Bound.TheVariants.{Final, Live, Raising}
use Rattle.path_core.specs.Parts.{is_at, seat_table}
use Rattle.path_core.specs.SeatParts.{
  bound_found,
  deposited_end,
  is_final_below,
  takes,
  tries_bound,
}
use Rattle.path_core.proofs.seats.Columns.{at_table_same}
use Rattle.path_rule.specs.declared.view.View.{View}
use Rattle.path_rule.specs.FilingTold.{FoundFinal}
use Rattle.path_rule.specs.Layout.{bound_in}
use Rattle.path_rule.specs.Rule.{Was, view_after}

final_in : (n b : ℕ) → n ≡ b + 2 ^ 63 → bound_in n ≡ Final (record { 0 = b })
final_in n b is = ap (λ (z : Bool). cond z Live (cond (nat_lt n (2 ^ 63))
    (Raising (record { 0 = n - 2 ^ 62 })) (Final (record { 0 = n - 2 ^ 63 }))))
    (ne_eqb n 0 (λ e. absurd (omega arith)))
    ∙ (ap (λ (z : Bool). cond z (Raising (record { 0 = n - 2 ^ 62 }))
    (Final (record { 0 = n - 2 ^ 63 }))) (le-ltb n (2 ^ 63) (omega arith))
    ∙ ap (λ (k : ℕ). Final (record { 0 = k })) (let e : n - 2 ^ 63 ≡ b = omega arith in e))

-- a write that tries the memtable leaves what was found
try_leaves : (end : Option ℕ) (m : ℕ) (b : BoundOf) (st : SeatTable)
    → (tries_bound end m b st).bound ≡ st.bound
try_leaves None m b st = refl
try_leaves (Some end) m b st = by (is_at st.trying m) (takes end b) (is_final_below end b)
  where
    by : (x y z : Bool) → (cond x (cond y (record st { place = Some m })
        (cond z (record st { trying = Some (m + 1) }) st)) st).bound ≡ st.bound
    by true true z = refl
    by true false true = refl
    by true false false = refl
    by false y z = refl

pub bound_after : (v : View) (w : ℕ) (t : Table) (k n b : ℕ) → Was v w (Look w (Bound t k))
    → t.0 < 16 → n ≡ b + 2 ^ 63
    → FoundFinal t.0 (view_after v (Look w (Bound t k)) n).part k b
bound_after v w t k n b was few is =
    let long : length v.part.tables ≡ 16 =
    ap (λ (p : Seat). length p.tables) was.part ∙ was.lawful.sized.seats w in
    ap (λ (st : SeatTable). st.bound) (at_table_same t.0 (λ (st : SeatTable).
    tries_bound (deposited_end v.part) k (bound_in n) (bound_found k (bound_in n) st)) v.part
    (omega arith))
    ∙ (try_leaves (deposited_end v.part) k (bound_in n)
    (bound_found k (bound_in n) (seat_table v.part t.0))
    ∙ ap (λ (f : BoundOf). Some (record { memtable = k; bound = f })) (final_in n b is))
