use Rattle.path_core.proofs.frame.Seats.{group_made, some_left, open_is_current, rests}
use Rattle.path_core.proofs.state_law.where_a_seats_group_stands.Goals as goal

pub returns-clause-made : goal.returns-clause-made
returns-clause-made c = λ x order w g law is. group_made x law order w g is

pub returns-clause-counted : goal.returns-clause-counted
returns-clause-counted c = λ x order w g law is. some_left x law order w g is

pub returns-clause-current : goal.returns-clause-current
returns-clause-current c = λ x order w g law held rest low up.
    open_is_current x law (rests x law w held rest) order g low up
