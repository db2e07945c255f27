use Rattle.write_path.proofs.Answered.{answered}
use Rattle.write_path.proofs.seats.WritePath.try_start.Goals as goal

pub returns-clause-step : goal.returns-clause-step
returns-clause-step g c =
    answered _ _ _ _ c.try_start.result (λ b h. h.3)
    (λ r h. record { refused = h.2; acts_stay = h.3; group = h.4.0; found_now = h.4.1 })
    c.try_start.ensures
