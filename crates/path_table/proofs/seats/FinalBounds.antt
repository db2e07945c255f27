-- Where nobody holds the turn of a table, its newest switch is through: the bound below the newest
-- memtable is final, and its barrier is passed.
use Rattle.std.proofs.Common.{◌≡◌, ℕ, suc, ◌<◌, ◌≤◌, length, Option, Some, None, refl, sym, ap, ◌∙◌}
use Rattle.std.proofs.Common.{subst, ⊎_elim, arith}
use Rattle.std.proofs.lemmas.Bool.{false≢true}
use Rattle.std.proofs.Math.ListN.{get_or-eq_default}
use Rattle.std.specs.Prelude.{IsSome, slice_index}
use mathlib.Core.Logic.{dite}
use native.Mathlib.Decide.{dec_lt}
use Rattle.path_core.specs.declared.seat.Seat.{Seat}
use Rattle.path_core.specs.declared.seat.SeatTable.{SeatTable}
use Rattle.path_core.specs.declared.state.Bound.{Bound}
use Rattle.path_core.specs.declared.state.Bound.TheVariants.{Live, Raising, Final}
use Rattle.path_core.specs.declared.state.PathState.{PathState}
use Rattle.path_core.specs.declared.state.TableState.{TableState}
use Rattle.path_core.specs.History.{bound_before}
use Rattle.path_core.specs.Lawful.{IsLawfulPath}
use Rattle.path_core.specs.Parts.{HasPassedBarrier, IsFinal, fresh_seat, fresh_table, key_of_bound}
use Rattle.path_core.specs.Parts.{memtable_of, seat_of, seat_table, table_of}
use Rattle.path_core.proofs.seats.Columns.{untouched_there}
use Rattle.path_table.specs.declared.bounds.TableBounds.{TableBounds}
use Rattle.path_table.specs.ClosedBounds.{TellsBounds}

-- nobody holds the turn of any table
abbrev pub NobodyFlushes : PathState → Type 0
NobodyFlushes x = (w t : ℕ) → (seat_table (seat_of x w) t).flush ≡ None

-- a fresh seat holds none
pub fresh_flushes : (p : Seat) → p ≡ fresh_seat → (t : ℕ) → (seat_table p t).flush ≡ None
fresh_flushes p fresh t = ap (λ (q : Seat). (seat_table q t).flush) fresh
    ∙ ap (λ (st : SeatTable). st.flush) (untouched_there t)

final_is : (b : Bound) → IsFinal b → b ≡ Final (record { 0 = key_of_bound b })
final_is Live f = absurd f
final_is (Raising k) f = absurd f
final_is (Final k) f = refl

none_there : {T : Type 0} (o : Option T) → o ≡ None → IsSome o → ⊥
none_there None is there = false≢true there
none_there (Some y) is there = cc

module _ (x : PathState) (L : IsLawfulPath x) (free : NobodyFlushes x) where
  -- only a table of the path has a second memtable
  there : (t m : ℕ) → (table_of x t).newest ≡ suc m → t < length x.tables
  there t m more = dite (dec_lt t (length x.tables)) (λ low. low) (λ high.
      let behind : length x.tables ≤ t = omega (arith, high) in
      let first = ap (λ (k : TableState). k.newest)
      (get_or-eq_default x.tables fresh_table behind) in absurd (omega (arith, more, first)))

  passed : (t m : ℕ) → (table_of x t).newest ≡ suc m → HasPassedBarrier x t m
  passed t m more = ⊎_elim
      (λ settled. subst (HasPassedBarrier x t) (omega (arith, more))
      (settled (omega (arith, more))))
      (λ held. absurd (none_there _ (free held.0 t) held.1))
      (L.a_switch_has_a_holder t (there t m more))

  pub bounds_final : (bounds : TableBounds)
      → ((t : ℕ) → t < 16 → slice_index bounds.keys t ≡ bound_before x t (table_of x t).newest)
      → TellsBounds x bounds
  bounds_final bounds keys = record {
    keys = keys;
    live = λ t. (L.switches.tables t).bounds_rise.newest_is_live;
    final = λ t m inside more. let P = passed t m more in
        final_is (memtable_of x t m).bound
        ((L.switches.tables t).barrier_means_final m P.group P.issued)
        ∙ ap (λ (k : ℕ). Final (record { 0 = k }))
        (sym (keys t inside ∙ ap (bound_before x t) more));
    passed = passed;
  }
