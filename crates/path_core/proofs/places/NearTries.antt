-- Which memtables writes may still try: the oldest live one, the one below it, and later ones. So
-- the place of one that is three below a new one is free.
use Rattle.std.proofs.Common.{◌≡◌, ℕ, zero, suc, ◌+◌, ◌<◌, ◌≤◌, Option, Some, None, is_some, IsSome}
use Rattle.std.proofs.Common.{refl, sym, ap, ◌∙◌, arith}
use Rattle.std.proofs.lemmas.Bool.{false≢true}
use mathlib.Core.Logic.{dite}
use native.Mathlib.Decide.{dec_lt}
use Rattle.clog_base.specs.declared.cell.Table.{Table}
use Rattle.op_core.specs.declared.count.Order.{Order}
use Rattle.op_core.specs.declared.count.Order.TheVariants.{Write}
use Rattle.op_core.specs.declared.count.Tally.TheVariants.{Expired}
use Rattle.path_core.specs.declared.event.Event.TheVariants.{OpenGroup, Switch}
use Rattle.path_core.specs.declared.event.SwitchPart.TheVariants.{Clear, Open}
use Rattle.path_core.specs.declared.state.PathState.{PathState}
use Rattle.path_core.specs.Parts.{tally_of, seat_of, seat_table, table_of, group_in}
use Rattle.path_core.specs.Allowed.{IsStep}
use Rattle.path_core.specs.Lawful.{IsLawfulPath}
use Rattle.path_core.proofs.orders.NobodyAbove.{inhabited}
use Rattle.path_core.proofs.runs.EveryRun.{core_of}
use Rattle.path_core.proofs.places.LaterTries.{tries_inside}

module _ (x : PathState) (L : IsLawfulPath x) where
  -- a write tries no memtable below a retired one
  pub above_retired : (w t k r : ℕ) → (seat_table (seat_of x w) t).trying ≡ Some k
      → r < (table_of x t).oldest_live → r ≤ k
  above_retired w t k r try retired =
      by (seat_of x w).write refl (tries_inside x (core_of x L) L.places w t k try)
    where
      by : (o : Option ℕ) → (seat_of x w).write ≡ o → IsSome (seat_of x w).write → r ≤ k
      by None e some = absurd (false≢true (sym (ap (λ (o : Option ℕ). is_some o) e) ∙ some))
      by (Some h) e some =
          let N = (L.places.tries w t).of_note k try in
          let B = (L.retired_is_filed.each t r N.3 retired).passed in
          dite (dec_lt B.group h)
          (λ above. L.no_try_below_the_grace t r B.group h w k B.issued e above try)
          (λ n. absurd (inhabited x L.orders Write w h e (B.passed.finished h (omega arith))))

  -- so it tries the oldest live one, the one below it, or a later one
  pub near_oldest : (w t k : ℕ) → (seat_table (seat_of x w) t).trying ≡ Some k
      → (table_of x t).oldest_live ≤ k + 1
  near_oldest w t k try = by (table_of x t).oldest_live refl
    where
      by : (o : ℕ) → (table_of x t).oldest_live ≡ o → o ≤ k + 1
      by zero is = omega arith
      by (suc r) is = let low = above_retired w t k r try (omega arith) in omega arith

  -- one of the last three
  pub near_newest : (w t k : ℕ) → (seat_table (seat_of x w) t).trying ≡ Some k
      → (table_of x t).newest ≤ k + 2
  near_newest w t k try = let low = near_oldest w t k try in
      let one = (L.switches.tables t).bounds_rise.one_behind in omega arith

  -- When the place of a memtable is cleared for it, and when it is opened, none that is three below
  -- it, or more, is tried.
  pub clears_free : (by : ℕ) (table : Table) (n : ℕ) → IsStep x (Switch by table n Clear)
      → (w k : ℕ) → (seat_table (seat_of x w) table.0).trying ≡ Some k → n ≤ k + 2
  clears_free by table n a w k try = let low = near_oldest w table.0 k try in
      let alone = a.row.1 in let up = a.row.2 in omega arith

  pub opens_free : (by : ℕ) (table : Table) (n : ℕ) → IsStep x (Switch by table n Open)
      → (w k : ℕ) → (seat_table (seat_of x w) table.0).trying ≡ Some k → n ≤ k + 2
  opens_free by table n a w k try = let low = near_oldest w table.0 k try in
      let alone = a.row.1 in let up = a.row.2 in omega arith

  -- When a group is made, one that is 32 below it, or more, is finished, and nobody is in it.
  pub group_free : (by : ℕ) (o : Order) (g h : ℕ) → IsStep x (OpenGroup by o g) → h + 32 ≤ g
      → tally_of x o h ≡ Expired 0
  group_free by o g h a far = let free = a.row.3 in
      ((L.orders.counts_stand_for_seats o).each h).below_oldest (omega arith)

  pub group_left : (by : ℕ) (o : Order) (g h w : ℕ) → IsStep x (OpenGroup by o g) → h + 32 ≤ g
      → group_in o (seat_of x w) ≡ Some h → ⊥
  group_left by o g h w a far is = let free = a.row.3 in
      absurd (let low = (L.orders.counts_stand_for_seats o).nobody_below w h is in omega arith)
