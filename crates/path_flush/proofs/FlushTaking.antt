-- What a seat knows that has just taken a table's Flush turn, or the Sync turn beside it.
use Rattle.std.proofs.Common.{
  ◌≡◌,
  ◌≢◌,
  ℕ,
  ◌<◌,
  ◌≤◌,
  [],
  Option,
  Some,
  None,
  IsTrue,
  is_some,
  refl,
  sym,
  ap,
  ◌∙◌,
  subst,
  get_or-set_same,
  arith,
}
use mathlib.Core.Logic.{dite}
use native.Mathlib.Decide.{ℕ_discrete}
use Rattle.std.proofs.lemmas.Bool.{false≢true}
use Rattle.std.specs.Option.{option_map}
use Rattle.atomic_table.specs.Table.{Me}
use Rattle.clog_base.specs.declared.cell.Table.{Table}
use Rattle.op_core.specs.declared.count.Order.TheVariants.{Write}
use Rattle.path_core.specs.declared.event.Event.{Event}
use Rattle.path_core.specs.declared.event.Event.TheVariants.{GiveTurn, Look, TakeTurn}
use Rattle.path_core.specs.declared.event.Place.TheVariants.{Oldest, TurnWord}
use Rattle.path_core.specs.declared.event.Turn.TheVariants.{Sync, Flush}
use Rattle.path_core.specs.declared.seat.FlushTurn.{FlushTurn}
use Rattle.path_core.specs.declared.seat.Seat.{Seat}
use Rattle.path_core.specs.declared.seat.SeatTable.{SeatTable}
use Rattle.path_core.specs.declared.seat.Switching.TheVariants.{Settled}
use Rattle.path_core.specs.declared.seat.SyncTurn.{SyncTurn}
use Rattle.path_core.specs.Parts.{seat_table, stage_of, untouched, HoldsNoTurn, IsIdle}
use Rattle.path_core.specs.SeatAfter.{new_flush}
use Rattle.path_core.specs.SeatParts.{in_turn_groups, oldest_found}
use Rattle.path_rule.specs.declared.lasting.Lasting.{Lasting}
use Rattle.path_rule.specs.declared.slot.Slot.{Slot}
use Rattle.path_rule.specs.declared.view.FlushRead.{FlushRead}
use Rattle.path_rule.specs.declared.view.Hands.{Hands}
use Rattle.path_rule.specs.declared.view.View.{View}
use Rattle.path_rule.specs.Calls.{Did, DidAs, MayGive}
use Rattle.path_rule.specs.Rounds.{IsAtRest}
use Rattle.path_rule.specs.Rule.{Was}
use Rattle.path_rule.specs.Switches.{FlushNewest, FlushOldest}
use Rattle.path_rule.specs.TurnTold.{TookDesk}
use Rattle.path_rule.proofs.seats.Accepting.{table_inside}
use Rattle.path_rule.proofs.seats.SyncTaken.{taken_desk}
use Rattle.path_flush.specs.FlushTurns.{HasTable, HoldsBoth, HoldsTable, IsHolder}

none_read : (o : Option FlushRead) → ((q : FlushRead) → o ≡ Some q → ⊥) → o ≡ None
none_read None not = refl
none_read (Some q) not = absurd (not q refl)

-- a seat without turns reads no memtable behind the taking of one
unread : (v : View) (h : Hands) → HoldsNoTurn v.part
    → ((q : FlushRead) → h.reading ≡ Some q → IsTrue (is_some (seat_table v.part q.table).flush))
    → h.reading ≡ None
unread v h free reads = none_read h.reading (λ q has.
    false≢true (sym (ap (λ (o : Option FlushTurn). is_some o) (free.flush q.table)) ∙ reads q has))

module _ {K : Type 0} where
  pub holds_table : (m m' : Me (Slot K) View) (w : ℕ) (t : Table)
      → Did m.0 w (TakeTurn w (Flush t)) 1 m'.0 → t.0 < m.0.size.tables → IsIdle m.0.part
      → m.0.part.claim ≡ None → HoldsNoTurn m.0.part → m.1 ≡ [] → m'.1 ≡ m.1
      → (seat_table m'.0.part t.0).flush ≡ Some new_flush
      → ((u : ℕ) → u ≢ t.0 → seat_table m'.0.part u ≡ seat_table m.0.part u)
      → ((q : FlushRead) → m'.0.hands.reading ≡ Some q
      → IsTrue (is_some (seat_table m.0.part q.table).flush))
      → HoldsTable t.0 m' × (stage_of m'.0.part t.0 ≡ Some Settled)
  holds_table m m' w t d inside idle unclaimed free bare same held others reads = (
    record {
      holder = record {
        there = subst (λ z. t.0 < z.tables) (sym (ap (λ (u : View). u.size) d.view)) inside;
        held = ap (λ (o : Option FlushTurn). is_some o) held;
        others = λ u other. ap (λ st. st.flush) (others u other) ∙ free.flush u;
        idle = record {
          write = ap (λ (u : View). u.part.write) d.view ∙ idle.write;
          append = ap (λ (u : View). u.part.append) d.view ∙ idle.append;
        };
        unclaimed = ap (λ (u : View). u.part.claim) d.view ∙ unclaimed;
      };
      unsynced = ap (λ (u : View). u.part.sync) d.view ∙ free.sync;
      bare = same ∙ bare;
      unread = unread m.0 m'.0.hands free reads;
    },
    ap (λ (o : Option FlushTurn). option_map (λ (turn : FlushTurn). turn.stage) o) held,
  )

  -- it may have read a memtable
  pub of_table : (t : ℕ) (m : Me (Slot K) View) → HoldsTable t m → HasTable t m
  of_table t m H = record { holder = H.holder; unsynced = H.unsynced; bare = H.bare }

  -- a look that found the Sync turn taken leaves all that
  pub holds_still : (m m' : Me (Slot K) View) (w t n : ℕ)
      → Did m.0 w (Look w (TurnWord Sync)) n m'.0 → m'.1 ≡ m.1 → HasTable t m
      → HasTable t m'
  holds_still m m' w t n d same H = record {
    holder = record {
      there = subst (λ z. t < z.tables) (sym (ap (λ (u : View). u.size) d.view)) H.holder.there;
      held = ap (λ (u : View). is_some (seat_table u.part t).flush) d.view ∙ H.holder.held;
      others = λ u other.
          ap (λ (x : View). (seat_table x.part u).flush) d.view ∙ H.holder.others u other;
      idle = record {
        write = ap (λ (u : View). u.part.write) d.view ∙ H.holder.idle.write;
        append = ap (λ (u : View). u.part.append) d.view ∙ H.holder.idle.append;
      };
      unclaimed = ap (λ (u : View). u.part.claim) d.view ∙ H.holder.unclaimed;
    };
    unsynced = ap (λ (u : View). u.part.sync) d.view ∙ H.unsynced;
    bare = same ∙ H.bare;
  }

  -- so does a look at the oldest group of the write order
  pub holds_passed : (m m' : Me (Slot K) View) (w t n : ℕ)
      → Did m.0 w (Look w (Oldest Write)) n m'.0 → m'.1 ≡ m.1 → HasTable t m
      → HasTable t m'
  holds_passed m m' w t n d same H = record {
    holder = record {
      there = subst (λ z. t < z.tables) (sym (ap (λ (u : View). u.size) d.view)) H.holder.there;
      held = ap (λ (u : View). is_some (seat_table u.part t).flush) d.view ∙ H.holder.held;
      others = λ u other.
          ap (λ (x : View). (seat_table x.part u).flush) d.view ∙ H.holder.others u other;
      idle = record {
        write = ap (λ (u : View). u.part.write) d.view ∙ H.holder.idle.write;
        append = ap (λ (u : View). u.part.append) d.view ∙ H.holder.idle.append;
      };
      unclaimed = ap (λ (u : View). u.part.claim) d.view ∙ H.holder.unclaimed;
    };
    unsynced = ap (λ (u : View). u.part.sync) d.view
        ∙ ap (λ (o : Option SyncTurn). option_map (in_turn_groups Write (oldest_found n)) o)
        H.unsynced;
    bare = same ∙ H.bare;
  }

  -- the Sync turn was taken beside it
  pub holds_both : (shows : K → Lasting) (m m' : Me (Slot K) View) (w t : ℕ) (h : Hands)
      → DidAs m.0 w (TakeTurn w Sync) 1 h m'.0 → HasTable t m → MayGive m'.0
      → TookDesk shows m m' → HoldsBoth shows t m'
  holds_both shows m m' w t h d H gives desk = record {
    holder = record {
      there = subst (λ z. t < z.tables) (sym (ap (λ (u : View). u.size) d.view)) H.holder.there;
      held = ap (λ (u : View). is_some (seat_table u.part t).flush) d.view ∙ H.holder.held;
      others = λ u other.
          ap (λ (x : View). (seat_table x.part u).flush) d.view ∙ H.holder.others u other;
      idle = record {
        write = ap (λ (u : View). u.part.write) d.view ∙ H.holder.idle.write;
        append = ap (λ (u : View). u.part.append) d.view ∙ H.holder.idle.append;
      };
      unclaimed = ap (λ (u : View). u.part.claim) d.view ∙ H.holder.unclaimed;
    };
    gives = gives;
    desk = taken_desk shows m m' H.bare desk;
  }

-- the table's turn was given back
pub rests_given : (v after : View) (w : ℕ) (t : Table) → t.0 < 16 → IsHolder t.0 v
    → Did v w (GiveTurn w (Flush t)) 0 after
    → ((u : ℕ) → u ≢ t.0 → seat_table after.part u ≡ seat_table v.part u) → IsAtRest after.part
rests_given v after w t few H step apart = record {
  idle = record {
    write = ap (λ (u : View). u.part.write) step.view ∙ H.idle.write;
    append = ap (λ (u : View). u.part.append) step.view ∙ H.idle.append;
  };
  unclaimed = ap (λ (u : View). u.part.claim) step.view ∙ H.unclaimed;
  flush = λ u. dite (ℕ_discrete u t.0)
      (λ same. ap (λ k. (seat_table after.part k).flush) same
      ∙ (ap (λ (x : View). (seat_table x.part t.0).flush) step.view
      ∙ ap (λ (st : SeatTable). st.flush) (get_or-set_same v.part.tables t.0 _ untouched
      (table_inside v w _ step.was t.0 few))))
      (λ other. ap (λ (st : SeatTable). st.flush) (apart u other) ∙ H.others u other);
}

-- the least memtable that is not retired is at or below the newest
pub oldest_below : (v : View) (w : ℕ) (e : Event) (t m n : ℕ) → Was v w e
    → FlushOldest t v.part m → FlushNewest t v.part n → m ≤ n
oldest_below v w e t m n was O N = let L = was.lawful in
    let at = ap (λ (q : Seat). (seat_table q t).flush) (sym was.part) in
    let m_is = ((L.seats_know w).flush t O.0 (at ∙ O.1)).oldest_live m O.2 in
    let n_is = ((L.seats_know w).flush t N.0 (at ∙ N.1)).newest n N.2 in
    let low = (L.switches.tables t).bounds_rise.oldest_is_made in omega (arith, m_is, n_is, low)
