use Rattle.std.proofs.Common.{Bool, false, List, get_or, ap, ◌∙◌, arith, get_or-set_other}
use Rattle.std.specs.Slots.{slots_filled}
use mathlib.Core.Logic.{dite}
use native.Mathlib.Decide.{ℕ_discrete}
use Rattle.path_table.proofs.seats.Ends.{set_false}
use Rattle.path_table.proofs.closing.keeper_and_log.Goals as goal

pub loop-i-preserved : goal.loop-i-preserved
loop-i-preserved g c = let I = c.loop-i.invariant in let T = c.take.ensures.others in
    let i = c.loop-i.i in let before = slots_filled c.loop-i.closed.slots in (
      T.2 ∙ I.0,
      (λ k low inside. ap (λ (l : List Bool). get_or l k false) T.1
          ∙ (get_or-set_other before i k false false (λ e. absurd (omega arith))
          ∙ I.1 k (omega arith) (let long = T.2 in omega arith))),
      (λ k low. ap (λ (l : List Bool). get_or l k false) T.1
          ∙ dite (ℕ_discrete k i)
          (λ same. set_false before i k same)
          (λ apart. get_or-set_other before i k false false apart
          ∙ I.2 k (omega arith))),
    )
