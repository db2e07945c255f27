-- All that a seat wrote ends at or below where its last write ends.
use Rattle.std.proofs.Common.{ℕ, ◌≤◌, List, [], ◌∷◌, arith}
use Rattle.path_core.specs.declared.event.Carried.TheVariants.{Nothing, Deposit, Applied}
use Rattle.path_core.specs.declared.event.Event.{Event}
use Rattle.path_core.specs.declared.event.Event.TheVariants.{Look, Register, Close, OpenGroup}
use Rattle.path_core.specs.declared.event.Event.TheVariants.{MoveCurrent, Expire, Advance, Claim}
use Rattle.path_core.specs.declared.event.Event.TheVariants.{Switch, Raise, Finalise, TakeTurn}
use Rattle.path_core.specs.declared.event.Event.TheVariants.{GiveTurn, Put}
use Rattle.path_rule.specs.declared.view.OwnStep.{OwnStep}
use Rattle.path_rule.specs.Rounds.{EndsBelow, WroteBelow}
use Rattle.path_rule.proofs.seats.Answering.{wrote_more}
use Rattle.path_table.specs.LastEnds.{last_end_in, with_end}

ends : (e : Event) (k : ℕ) → EndsBelow (with_end e k) e × (k ≤ with_end e k)
ends (Close by o g (Deposit note)) k = (omega arith, omega arith)
ends (Close by o g Nothing) k = (tt, omega arith)
ends (Close by o g (Applied places)) k = (tt, omega arith)
ends (Look by at) k = (tt, omega arith)
ends (Register by o g) k = (tt, omega arith)
ends (OpenGroup by o g) k = (tt, omega arith)
ends (MoveCurrent by o g) k = (tt, omega arith)
ends (Expire by o g) k = (tt, omega arith)
ends (Advance by o g) k = (tt, omega arith)
ends (Claim by from to what) k = (tt, omega arith)
ends (Switch by t m part) k = (tt, omega arith)
ends (Raise by t m to) k = (tt, omega arith)
ends (Finalise by t m) k = (tt, omega arith)
ends (TakeTurn by turn) k = (tt, omega arith)
ends (GiveTurn by turn) k = (tt, omega arith)
ends (Put by cursor value) k = (tt, omega arith)

pub wrote_below : (ts : List OwnStep) → WroteBelow (last_end_in ts) ts
wrote_below [] = tt
wrote_below (t ∷ ts) = let E = ends t.event (last_end_in ts) in
    (E.0, wrote_more (last_end_in ts) (last_end_in (t ∷ ts)) E.1 ts (wrote_below ts))
