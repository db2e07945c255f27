-- What the holder of a table's turn keeps while the barrier of its switch is issued and passed.
use Rattle.std.proofs.Common.{◌≡◌, ℕ, Option, Some, sym, ap, ◌∙◌, subst}
use Rattle.std.proofs.Math.ListN.{get_or-map as get_or-map_default}
use Rattle.std.proofs.lemmas.Option.{same_Some}
use Rattle.std.specs.Option.{option_map}
use Rattle.op_core.specs.declared.count.Order.{Order}
use Rattle.op_core.specs.declared.count.Order.TheVariants.{Write}
use Rattle.path_core.specs.declared.event.Event.TheVariants.{Expire, MoveCurrent, OpenGroup}
use Rattle.path_core.specs.declared.seat.FlushTurn.{FlushTurn}
use Rattle.path_core.specs.declared.seat.SeatTable.{SeatTable}
use Rattle.path_core.specs.declared.seat.Switching.{Switching}
use Rattle.path_core.specs.declared.seat.Switching.TheVariants.{WithBarrier}
use Rattle.path_core.specs.Parts.{seat_table, untouched}
use Rattle.path_core.specs.SeatParts.{barrier_issued, with_barrier}
use Rattle.path_rule.specs.declared.view.View.{View}
use Rattle.path_rule.specs.Calls.{Did}
use Rattle.path_rule.specs.Rounds.{IsQuiet, IsQuietStage}
use Rattle.path_rule.specs.Switches.{FlushOldest}

-- a switch with a barrier is quiet
pub barred_quiet : (m group : ℕ) (st : SeatTable)
    → option_map (λ (turn : FlushTurn). turn.stage) st.flush ≡ Some (WithBarrier m group)
    → IsQuiet st
barred_quiet m group st at = λ turn is. subst (λ (k : Switching). IsQuietStage k)
    (sym (same_Some turn.stage (WithBarrier m group)
    (sym (ap (λ (o : Option FlushTurn). option_map (λ (turn : FlushTurn). turn.stage) o) is) ∙ at)))
    tt

-- the least memtable that is not retired

pub least_opened : (v after : View) (w g n t k : ℕ) (o : Order)
    → Did v w (OpenGroup w o g) n after → FlushOldest t v.part k → FlushOldest t after.part k
least_opened v after w g n t k o d F =
    (F.0, ap (λ (u : View). (seat_table u.part t).flush) d.view ∙ F.1, F.2)

pub least_expired : (v after : View) (w g n t k : ℕ) (o : Order)
    → Did v w (Expire w o g) n after → FlushOldest t v.part k → FlushOldest t after.part k
least_expired v after w g n t k o d F =
    (F.0, ap (λ (u : View). (seat_table u.part t).flush) d.view ∙ F.1, F.2)

pub least_moved : (v after : View) (w g n t k : ℕ) → Did v w (MoveCurrent w Write g) n after
    → FlushOldest t v.part k → FlushOldest t after.part k
least_moved v after w g n t k d F = (
  record F.0 { stage = with_barrier n F.0.stage },
  ap (λ (u : View). (seat_table u.part t).flush) d.view
      ∙ (ap (λ (st : SeatTable). st.flush)
      (get_or-map_default (barrier_issued n) v.part.tables t untouched)
      ∙ ap (λ (o : Option FlushTurn). option_map (λ (turn : FlushTurn).
      record turn { stage = with_barrier n turn.stage }) o) F.1),
  F.2,
)

pub least_quiet : (t k : ℕ) (v after : View)
    → seat_table after.part t ≡ seat_table v.part t → FlushOldest t v.part k
    → FlushOldest t after.part k
least_quiet t k v after same F = (F.0, ap (λ (st : SeatTable). st.flush) same ∙ F.1, F.2)
