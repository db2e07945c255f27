use Rattle.clog_crash.proofs.Good.{
  not_below_itself,
  upper_is_inside,
  behind_is_outside,
  empty_holds_none,
}
use Rattle.clog_crash.proofs.laws.intervals_hold_their_upper_end.Goals as goal

pub returns-clause-lower : goal.returns-clause-lower
returns-clause-lower c = not_below_itself

pub returns-clause-upper : goal.returns-clause-upper
returns-clause-upper c = upper_is_inside

pub returns-clause-behind : goal.returns-clause-behind
returns-clause-behind c = behind_is_outside

pub returns-clause-empty : goal.returns-clause-empty
returns-clause-empty c = empty_holds_none
