-- Values of the logic's own codes, as a ghost field may hold them.
use base.Stored.{Coded, Gv}

-- a code is its own
abbrev pub itself : Coded Gv
itself = record { code = λ code. code; inj = λ a b same. same }
