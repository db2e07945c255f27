-- A table's Flush turn, of whose switches none was begun, is given back.
use Rattle.std.proofs.Common.{◌≡◌, ◌≢◌, ℕ, ◌<◌, ap, ◌∙◌, get_or-set_same}
use mathlib.Core.Logic.{dite, inl}
use native.Mathlib.Decide.{ℕ_discrete}
use Rattle.clog_base.specs.declared.cell.Table.{Table}
use Rattle.path_core.specs.declared.event.Event.TheVariants.{GiveTurn}
use Rattle.path_core.specs.declared.event.Turn.TheVariants.{Flush}
use Rattle.path_core.specs.declared.seat.SeatTable.{SeatTable}
use Rattle.path_core.specs.Parts.{seat_table, untouched, HoldsNoTurn}
use Rattle.path_rule.specs.declared.view.View.{View}
use Rattle.path_rule.specs.Switches.{MayGiveFlush}
use Rattle.path_rule.proofs.seats.Accepting.{table_inside}
use Rattle.path_table.specs.declared.table.Member.{Member}
use Rattle.path_table.specs.Members.{part_of, Stepped}
use Rattle.path_flush.specs.Turned.{HoldsFlush}

module _ {K : Type 0} (t : Table) where
  -- it may be given back
  pub flush_may : (m : Member K) → HoldsFlush t.0 m.seat.me → MayGiveFlush t.0 m.seat.me.0
  flush_may m H = inl (H.settled, H.unread)

  -- the seat is idle then
  pub flush_given : (m m' : Member K) → t.0 < 16 → HoldsFlush t.0 m.seat.me
      → Stepped m (GiveTurn m.number (Flush t)) 0 m'
      → ((u : ℕ) → u ≢ t.0 → seat_table (part_of m') u ≡ seat_table (part_of m) u)
      → HoldsNoTurn (part_of m')
  flush_given m m' few H step apart = record {
    sync = ap (λ (v : View). v.part.sync) step.view ∙ H.unsynced;
    flush = λ u. dite (ℕ_discrete u t.0)
        (λ same. ap (λ k. (seat_table (part_of m') k).flush) same
        ∙ (ap (λ (v : View). (seat_table v.part t.0).flush) step.view
        ∙ ap (λ (st : SeatTable). st.flush) (get_or-set_same (part_of m).tables t.0 _ untouched
        (table_inside m.seat.me.0 m.number _ step.was t.0 few))))
        (λ other. ap (λ (st : SeatTable). st.flush) (apart u other) ∙ H.others u other);
  }
