-- No write runs in a memtable whose barrier is passed: whether it is empty lies in what was placed
-- there alone.
use Rattle.std.proofs.Common.{
  ◌≡◌,
  ℕ,
  ◌<◌,
  Bool,
  false,
  true,
  List,
  length,
  Option,
  Some,
  None,
  refl,
  sym,
  ap,
  ◌∙◌,
  subst,
  arith,
}
use Rattle.std.specs.Prelude.{◌&&◌, ◌==◌, not}
use Rattle.std.specs.List.{list_any, Contains}
use Rattle.std.proofs.lemmas.Bool.{and_parts, eqb-true, false≢true}
use Rattle.std.proofs.lemmas.List.{get_or_default, get_or_past}
use mathlib.Core.Logic.{dite}
use native.Mathlib.Decide.{dec_lt}
use Rattle.path_core.specs.declared.seat.Seat.{Seat as SeatOf}
use Rattle.path_core.specs.declared.state.PathState.{PathState}
use Rattle.path_core.specs.declared.state.Placed.{Placed}
use Rattle.path_core.specs.declared.state.TableState.{TableState}
use Rattle.path_core.specs.Lawful.{IsLawfulPath}
use Rattle.path_core.specs.Parts.{
  fresh_seat,
  fresh_table,
  has_place,
  is_at,
  is_empty,
  is_placed_in,
  seat_table,
  table_of,
  HasPassedBarrier,
}
use Rattle.path_core.proofs.lists.Passing.{any_to}
use Rattle.path_core.proofs.places.AtRest.{none_runs}
use Rattle.path_core.proofs.runs.EveryRun.{placing_of}
use Rattle.path_rule.specs.Trails.{HoldsSome}

-- none of a list passes
none_pass : {A : Type 0} (p : A → Bool) (l : List A) → ((a : A) → Contains l a → p a ≡ true → ⊥)
    → list_any p l ≡ false
none_pass p l never = by (list_any p l) refl
  where
    by : (b : Bool) → list_any p l ≡ b → list_any p l ≡ false
    by false e = e
    by true e = let a = any_to p l e in absurd (never a.0 a.1 a.2)

is_there : (o : Option ℕ) (m : ℕ) → is_at o m ≡ true → o ≡ Some m
is_there None m e = absurd (false≢true e)
is_there (Some k) m e = ap (λ (n : ℕ). Some n) (eqb-true k m e)

module _ (x : PathState) (L : IsLawfulPath x) where
  -- a table with a retired memtable is there
  pub has_table : (t m : ℕ) → m < (table_of x t).oldest_live → t < length x.tables
  has_table t m old = dite (dec_lt t (length x.tables)) (λ low. low)
      (λ past. let none : (table_of x t).oldest_live ≡ 0 = ap (λ (tb : TableState). tb.oldest_live)
      (get_or_past x.tables t fresh_table (omega arith)) in absurd (omega arith))

  -- the barrier of a retired memtable is passed
  pub retired_passed : (t m : ℕ) → m < (table_of x t).oldest_live → HasPassedBarrier x t m
  retired_passed t m old = (L.retired_is_filed.each t m (has_table t m old) old).passed

  module _ (t m : ℕ) (passed : HasPassedBarrier x t m) where
    quiet : list_any (has_place t m) x.seats ≡ false
    quiet = none_pass (has_place t m) x.seats (λ p h is.
        none_runs x (placing_of x L) t m passed h.0
        (ap (λ (z : SeatOf). (seat_table z t).place)
        (get_or_default x.seats h.0 fresh_seat p h.1 ∙ h.2)
        ∙ is_there (seat_table p t).place m is))

    -- one that passes the test was placed there
    of_test : (p : Placed) → Contains x.placed p → is_placed_in t m p ≡ true
        → Contains x.placed (record { table = t; entry = p.entry; memtable = m })
    of_test p h is = let both = and_parts (p.table == t) (p.memtable == m) is in
        subst (λ (y : ℕ × ℕ).
        Contains x.placed (record { table = y.0; entry = p.entry; memtable = y.1 }))
        (λ i. (eqb-true p.table t both.0 i, eqb-true p.memtable m both.1 i)) h

    -- One in which nothing was placed is empty.
    pub rests_empty : ((entry : ℕ)
        → Contains x.placed (record { table = t; entry = entry; memtable = m }) → ⊥)
        → is_empty x t m ≡ true
    rests_empty never = let bare = none_pass (is_placed_in t m) x.placed
        (λ p h is. never p.entry (of_test p h is)) in
        (λ i. not (bare i) && not (quiet i))

    -- In one that is not empty something was placed.
    pub holds_some : is_empty x t m ≡ false → HoldsSome x t m
    holds_some full = by (list_any (is_placed_in t m) x.placed) refl
      where
        by : (b : Bool) → list_any (is_placed_in t m) x.placed ≡ b → HoldsSome x t m
        by true e = let a = any_to (is_placed_in t m) x.placed e in record {
          entry = a.0.entry;
          placed = of_test a.0 a.1 a.2;
        }
        by false e = let empty : is_empty x t m ≡ true = (λ i. not (e i) && not (quiet i)) in
            absurd (false≢true (sym full ∙ empty))
