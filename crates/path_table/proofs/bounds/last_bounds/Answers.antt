use Rattle.std.proofs.Common.{◌≡◌, ℕ, ◌∙◌, subst, arith, sym}
use Rattle.std.specs.Prelude.{slice_index, slice_set}
use Rattle.std.specs.Slots.{slots_items}
use mathlib.Core.Logic.{dite}
use native.Mathlib.Decide.{ℕ_discrete}
use Rattle.path_table.specs.ClosedBounds.{last_key}
use Rattle.path_table.proofs.seats.LastBounds.{set_here, set_long, set_there}
use Rattle.path_table.proofs.bounds.last_bounds.Goals as goal

pub loop-table-preserved : goal.loop-table-preserved
loop-table-preserved g c = let l = c.loop-table in let i = l.table in
    let words = slots_items c.args.closed.now.words in let keys = l.keys in
    let key = c.last_bound.result in
    let long = l.invariant.0 in let inside = c.loop-table-test.true in (
      set_long keys i key ∙ long,
      (λ t low. dite (ℕ_discrete t i)
          (λ same. subst (λ (k : ℕ). slice_index (slice_set keys i key) k ≡ last_key words k)
          (sym same) (set_here keys i key (omega (arith, long, inside)) ∙ c.last_bound.ensures))
          (λ apart. set_there keys i t key apart ∙ l.invariant.1 t (omega arith))),
    )
