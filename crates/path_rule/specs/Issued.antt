-- How many barriers a seat has issued.
use Rattle.std.specs.Prelude.{ℕ, suc, ◌+◌, ◌^◌, ◌<◌, ◌≤◌, Bool, true, false, cond, List, [], ◌∷◌}
use Rattle.path_core.specs.declared.event.Event.{Event}
use Rattle.path_core.specs.declared.event.Event.TheVariants.{OpenGroup, Switch}
use Rattle.path_core.specs.declared.event.SwitchPart.TheVariants.{Open}
use Rattle.path_rule.specs.declared.view.OwnStep.{OwnStep}

-- A step by which a barrier is issued: it makes the next group of an order.
abbrev pub is_issue : Event → Bool
is_issue (OpenGroup by order group) = true
is_issue _ = false

-- how many of these steps are of that kind
abbrev pub issues_of : List Event → ℕ
issues_of [] = 0
issues_of (e ∷ es) = cond (is_issue e) 1 0 + issues_of es

-- the same of a seat's own steps
abbrev pub issued_in : List OwnStep → ℕ
issued_in [] = 0
issued_in (s ∷ ss) = cond (is_issue s.event) (suc (issued_in ss)) (issued_in ss)

-- How many a seat issues at most: a call begins where it has issued 2 ^ 40 or fewer, and issues
-- four or fewer.
abbrev pub most_issued : ℕ
most_issued = 2 ^ 40 + 4

-- A step by which a memtable is made.
abbrev pub is_open : Event → Bool
is_open (Switch by table memtable Open) = true
is_open _ = false

-- how many of these steps are of that kind
abbrev pub opens_of : List Event → ℕ
opens_of [] = 0
opens_of (e ∷ es) = cond (is_open e) 1 0 + opens_of es

-- the same of a seat's own steps
abbrev pub opened_in : List OwnStep → ℕ
opened_in [] = 0
opened_in (s ∷ ss) = cond (is_open s.event) (suc (opened_in ss)) (opened_in ss)

-- After these steps the seat may make this one: one that issues a barrier, where it has issued
-- fewer than that; and one that makes a memtable, where it has issued a barrier for each one
-- before.
abbrev pub MayIssue : List OwnStep → Event → Type 0
MayIssue trail (OpenGroup by order group) = issued_in trail < most_issued
MayIssue trail (Switch by table memtable Open) = opened_in trail ≤ issued_in trail
MayIssue trail _ = Unit {0}
