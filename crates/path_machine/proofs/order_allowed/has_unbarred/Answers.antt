use Rattle.std.proofs.Common.{◌≡◌, true, false, length, is_some, ap, ◌∙◌, arith}
use Rattle.std.specs.List.{list_any}
use Rattle.path_core.specs.declared.seat.Seat.{Seat}
use Rattle.path_core.specs.Parts.{seat_table, table_of}
use Rattle.path_core.specs.Allowed.{is_unbarred}
use Rattle.path_machine.proofs.steps.Asked.{both}
use Rattle.path_machine.proofs.order_allowed.has_unbarred.Goals as goal

pub returns : goal.returns
returns c =
    let x = c.args.state.now in
    let long = ap length c.as_slice-tables.ensures in (
      (λ e. absurd (let q : false ≡ true = e in cc)),
      (λ h. absurd (
          let there = h.is_there in
          let held = ap (λ (s : Seat). is_some (seat_table s h.table).flush) c.requires.seat
          ∙ h.held in
          both (is_some (seat_table c.args.seat.now h.table).flush)
          (list_any is_unbarred (table_of x h.table).memtables) held h.unbarred
          (c.loop-i.invariant h.table (omega arith)))),
    )
