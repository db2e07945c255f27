-- A seat that had no turn reads no memtable.
use Rattle.std.proofs.Common.{◌≡◌, ℕ, Option, Some, is_some, IsTrue, sym, ap, ◌∙◌}
use Rattle.std.proofs.lemmas.Bool.{false≢true}
use Rattle.path_core.specs.declared.seat.FlushTurn.{FlushTurn}
use Rattle.path_core.specs.declared.seat.Seat.{Seat}
use Rattle.path_core.specs.Parts.{seat_table, HoldsNoTurn}
use Rattle.path_rule.specs.declared.view.FlushRead.{FlushRead}
use Rattle.path_rule.specs.declared.view.Hands.{Hands}
use Rattle.path_rule.specs.Switches.{ReadsNone}

pub nothing_read : (t : ℕ) (p : Seat) (h : Hands) → HoldsNoTurn p
    → ((q : FlushRead) → h.reading ≡ Some q → IsTrue (is_some (seat_table p q.table).flush))
    → ReadsNone t h
nothing_read t p h free reads q has same = false≢true
    (ap (λ (o : Option FlushTurn). is_some o) (sym (free.flush q.table)) ∙ reads q has)
