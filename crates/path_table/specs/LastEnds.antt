-- Where the last write of a seat ends.
use Rattle.std.specs.Prelude.{ℕ, max, List, [], ◌∷◌}
use Rattle.path_core.specs.declared.event.Carried.TheVariants.{Deposit}
use Rattle.path_core.specs.declared.event.Event.{Event}
use Rattle.path_core.specs.declared.event.Event.TheVariants.{Close}
use Rattle.path_rule.specs.declared.view.OwnStep.{OwnStep}

-- the greater of this log key and the one at which a deposited note ends
abbrev pub with_end : Event → ℕ → ℕ
with_end (Close by order g (Deposit note)) key = max note.end.0 key
with_end _ key = key

-- the greatest log key at which a note ends that was deposited at these steps, 0 where none was
abbrev pub last_end_in : List OwnStep → ℕ
last_end_in [] = 0
last_end_in (t ∷ ts) = with_end t.event (last_end_in ts)
