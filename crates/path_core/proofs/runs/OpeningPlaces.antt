-- The opening: each table has one live memtable, and nothing was placed.
use Rattle.std.proofs.Common.{
  ◌≡◌,
  ℕ,
  zero,
  suc,
  ◌≤◌,
  length,
  get_or,
  replicate,
  Some,
  None,
  refl,
  sym,
  ap,
  ◌∙◌,
  subst,
  arith,
}
use Rattle.std.proofs.lemmas.Option.{none-some}
use Rattle.clog_base.specs.Sizes.{IsWithinLimits}
use Rattle.path_core.specs.declared.seat.SeatTable.{SeatTable}
use Rattle.path_core.specs.Parts.{
  fresh_memtable,
  fresh_table,
  memtable_at,
  memtable_of,
  marked_in,
  marked_of,
  key_of_bound,
  fresh_seat,
  seat_table,
}
use Rattle.path_core.specs.Runs.{opening}
use Rattle.path_core.specs.Lawful.{IsLawfulPlacing}
use Rattle.path_core.specs.LawfulPlaces.{TriesAre, PlacesAre}
use Rattle.path_core.proofs.seats.Columns.{untouched_there}
use Rattle.path_core.specs.LawfulTables.{MemtablesAre, SwitchesAre}
use Rattle.path_core.specs.Keys.{first_offset}
use Rattle.path_core.specs.declared.seat.FlushTurn.{FlushTurn}
use Rattle.path_core.specs.declared.state.Bound.TheVariants.{Live, Raising, Final}
use Rattle.path_core.specs.declared.state.Memtable.{Memtable}
use Rattle.path_core.specs.declared.state.TableState.{TableState}
use Rattle.std.specs.Option.{option_and_then}
use Rattle.path_core.proofs.lists.Replaced.{replicated}
use Rattle.path_core.proofs.runs.OpeningLog.{at_first, opening_log}

-- Memtables at the opening.

fresh_memtables : (m : ℕ) → memtable_at fresh_table m ≡ fresh_memtable
fresh_memtables zero = refl
fresh_memtables (suc m) = refl

fresh_is : (log : ℕ) → MemtablesAre log fresh_table
fresh_is log = record {
  bounds_rise = record {
    made = refl;
    newest_is_live = refl;
    oldest_is_made = omega arith;
    one_behind = omega arith;
    others_are_final = λ m l. absurd (omega arith);
    rise = λ m n a b l p. absurd (let q : Live ≡ Final a
        = sym (ap (λ (k : Memtable). k.bound) (fresh_memtables m)) ∙ p in cc);
    below_log = λ m. subst (λ (k : Memtable). key_of_bound k.bound ≤ log) (sym (fresh_memtables m))
        (omega arith);
  };
  mark_key_in_range = λ m b p. absurd (let q : Live ≡ Raising b
      = sym (ap (λ (k : Memtable). k.bound) (fresh_memtables m)) ∙ p in cc);
  barrier_means_final = λ m g p. absurd (none-some g
      (sym (ap (λ (k : Memtable). k.barrier) (fresh_memtables m)) ∙ p));
  retired_is_final = λ m l. absurd (omega arith);
}

none_marked : (t : ℕ) → marked_of fresh_seat t ≡ None
none_marked t = ap (λ (st : SeatTable). option_and_then (λ
    (turn : FlushTurn). marked_in turn.stage) st.flush)
    (untouched_there t)

opening_switches : (tables seats capacity ordinals base : ℕ)
    → SwitchesAre (opening tables seats capacity ordinals base)
opening_switches tables seats capacity ordinals base = record {
  tables = λ t. subst (MemtablesAre first_offset) (sym (replicated tables t fresh_table))
      (fresh_is first_offset);
  marked = λ w t k h. absurd (at_first seats (λ s. marked_of s t ≡ Some k → ⊥)
      (λ q. none-some k (sym (none_marked t) ∙ q)) w h);
}

-- Places at the opening.

pub fresh_at : (tables seats capacity ordinals base t m : ℕ)
    → memtable_of (opening tables seats capacity ordinals base) t m ≡ fresh_memtable
fresh_at tables seats capacity ordinals base t m =
    ap (λ tb. memtable_at tb m) (replicated tables t fresh_table) ∙ fresh_memtables m

opening_places : (tables seats capacity ordinals base : ℕ)
    → PlacesAre (opening tables seats capacity ordinals base)
opening_places tables seats capacity ordinals base = record {
  later_above = λ t m g h w u r barrier. absurd (none-some g (sym (ap (λ (k : Memtable). k.barrier)
      (fresh_at tables seats capacity ordinals base t m)) ∙ barrier));
  none_below = λ t m l. absurd (let z : (get_or
      (replicate tables fresh_table) t fresh_table).oldest_live ≡ 0
      = ap (λ (tb : TableState). tb.oldest_live) (replicated tables t fresh_table) in omega arith);
  tries = λ w t. at_first seats (λ s. TriesAre (length (replicate tables fresh_table)) t
      (get_or (replicate tables fresh_table) t fresh_table) s.claim s.note (seat_table s t).trying
      (seat_table s t).place) (record {
        of_note = λ m e. absurd (none-some m (sym (ap (λ (st : SeatTable). st.trying)
            (untouched_there t)) ∙ e));
        place_is_tried = λ m e. absurd (none-some m
            (sym (ap (λ (st : SeatTable). st.place) (untouched_there t)) ∙ e));
        above = λ m r e. absurd (none-some m (sym (ap (λ (st : SeatTable). st.trying)
            (untouched_there t)) ∙ e));
        accepted = λ m r e. absurd (none-some m
            (sym (ap (λ (st : SeatTable). st.place) (untouched_there t)) ∙ e));
      }) w;
  placed = λ p h. absurd (let l = h.1 in omega arith);
  closed = λ n t h. absurd (let l = h.1 in omega arith);
}

pub opening_placing : (tables seats capacity ordinals base : ℕ)
    → IsWithinLimits tables seats capacity ordinals
    → IsLawfulPlacing (opening tables seats capacity ordinals base)
opening_placing tables seats capacity ordinals base limits = record {
  core = record {
    log = opening_log tables seats capacity ordinals base limits;
    switches = opening_switches tables seats capacity ordinals base;
  };
  places = opening_places tables seats capacity ordinals base;
}
