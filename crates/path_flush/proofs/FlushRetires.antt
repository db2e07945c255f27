-- What a seat with both turns knows behind the put that retires a memtable which holds nothing.
use Rattle.std.proofs.Common.{◌≡◌, ℕ, ◌<◌, Bool, true, false, ◌||◌, List, Option, Some, None}
use Rattle.std.proofs.Common.{is_some, refl, sym, ap, ◌∙◌, subst}
use Rattle.std.specs.Option.{option_map, option_map_or}
use Rattle.atomic_table.specs.Table.{Me}
use Rattle.clog_base.specs.declared.cell.Table.{Table}
use Rattle.path_core.specs.declared.event.Cursor.TheVariants.{OldestLive}
use Rattle.path_core.specs.declared.event.Event.TheVariants.{Put}
use Rattle.path_core.specs.declared.seat.FlushTurn.{FlushTurn}
use Rattle.path_core.specs.declared.seat.Issue.TheVariants.{Rest}
use Rattle.path_core.specs.declared.seat.SyncTurn.{SyncTurn}
use Rattle.path_core.specs.Parts.{seat_table, stage_of}
use Rattle.path_core.specs.SeatParts.{in_flush}
use Rattle.path_core.specs.Words.{place_of}
use Rattle.path_core.proofs.seats.Columns.{at_table_keeps, Columns}
use Rattle.path_core.proofs.seats.StepColumns.{columns}
use Rattle.path_rule.specs.declared.lasting.Lasting.{Lasting}
use Rattle.path_rule.specs.declared.slot.Slot.{Slot}
use Rattle.path_rule.specs.declared.view.FlushRead.{FlushRead}
use Rattle.path_rule.specs.declared.view.Hands.{Hands}
use Rattle.path_rule.specs.declared.view.View.{View}
use Rattle.path_rule.specs.Calls.{DidAs, MayGive}
use Rattle.path_rule.specs.Desks.{HasDesk}
use Rattle.path_rule.specs.HandsAfter.{with_reading}
use Rattle.path_rule.specs.Layout.{reading_at}
use Rattle.path_rule.specs.Rule.{told_by}
use Rattle.path_rule.proofs.seats.Staying.{none_is}
use Rattle.path_flush.specs.FlushTurns.{HoldsBoth, IsHolder}
use Rattle.path_flush.proofs.FlushReadSteps.{stage_in, staged}

-- the turn's holder has filed no more than before
or_none : (b : Bool) → (b || false) ≡ b
or_none true = refl
or_none false = refl

module _ (v after : View) (w n : ℕ) (t : Table) (value : ℕ) (q : Option FlushRead)
    (d : DidAs v w (Put w (OldestLive t) value) n (with_reading q v.hands) after) where
  sync_is : after.part.sync ≡ option_map (λ (turn : SyncTurn).
      record turn { filed = turn.filed || false }) v.part.sync
  sync_is = ap (λ (u : View). u.part.sync) d.view

  pub stage_put : (u : ℕ) → stage_of after.part u ≡ stage_of v.part u
  stage_put u = ap (λ (x : View). stage_of x.part u) d.view
      ∙ at_table_keeps t.0 u
      (in_flush (λ (turn : FlushTurn). record turn { oldest_live = Some value })) v.part stage_in
      (staged (λ (turn : FlushTurn). record turn { oldest_live = Some value }) (λ turn. refl)
      (seat_table v.part t.0).flush)

  cols : Columns (Put w (OldestLive t) value) v.part after.part
  cols = let e = Put w (OldestLive t) value in
      subst (λ (u : View). Columns e v.part u.part) (sym d.view)
      (columns e v.part (reading_at (place_of e) n) (told_by None (with_reading q v.hands)) tt)

  pub holder_put : (k : ℕ) → IsHolder k v → IsHolder k after
  holder_put k H = record {
    there = subst (λ z. k < z.tables) (sym (ap (λ (u : View). u.size) d.view)) H.there;
    held = cols.flush k ∙ H.held;
    others = λ u other. none_is (seat_table after.part u).flush
        (cols.flush u ∙ ap (λ o. is_some o) (H.others u other));
    idle = record {
      write = cols.write ∙ H.idle.write;
      append = cols.append ∙ H.idle.append;
    };
    unclaimed = cols.claim ∙ H.unclaimed;
  }

  gives_turn : (o : Option SyncTurn)
      → (is_some (option_map (λ (turn : SyncTurn). record turn { filed = turn.filed || false }) o)
      ≡ is_some o)
      × (option_map_or (λ (turn : SyncTurn). turn.issue) (option_map (λ (turn : SyncTurn).
      record turn { filed = turn.filed || false }) o) Rest
      ≡ option_map_or (λ (turn : SyncTurn). turn.issue) o Rest)
      × (option_map_or (λ (turn : SyncTurn). turn.filed) (option_map (λ (turn : SyncTurn).
      record turn { filed = turn.filed || false }) o) false
      ≡ option_map_or (λ (turn : SyncTurn). turn.filed) o false)
  gives_turn None = (refl, refl, refl)
  gives_turn (Some turn) = (refl, refl, or_none turn.filed)

  pub gives_put : MayGive v → MayGive after
  gives_put G = let same = gives_turn v.part.sync in record {
    holds = record {
      held = ap (λ (o : Option SyncTurn). is_some o) sync_is ∙ (same.0 ∙ G.holds.held);
      issue = ap (λ (o : Option SyncTurn). option_map_or (λ (turn : SyncTurn). turn.issue) o Rest)
          sync_is ∙ (same.1 ∙ G.holds.issue);
      empty = ap (λ (u : View). u.hands.box_taken) d.view ∙ G.holds.empty;
    };
    unfiled = ap (λ (o : Option SyncTurn). option_map_or (λ (turn : SyncTurn). turn.filed) o
        false) sync_is ∙ (same.2 ∙ G.unfiled);
  }

module _ {K : Type 0} (shows : K → Lasting) where
  pub both_put : (m m' : Me (Slot K) View) (w n : ℕ) (t : Table) (value : ℕ)
      (q : Option FlushRead)
      → DidAs m.0 w (Put w (OldestLive t) value) n (with_reading q m.0.hands) m'.0
      → m'.1 ≡ m.1 → HoldsBoth shows t.0 m → HoldsBoth shows t.0 m'
  both_put m m' w n t value q d boxes H = record {
    holder = holder_put m.0 m'.0 w n t value q d t.0 H.holder;
    gives = gives_put m.0 m'.0 w n t value q d H.gives;
    desk = subst (λ (h : Hands). HasDesk shows h.lasting h.pending h.progress m'.1)
        (sym (ap (λ (u : View). u.hands) d.view))
        (subst (λ (l : List (ℕ × Slot K)).
        HasDesk shows m.0.hands.lasting m.0.hands.pending m.0.hands.progress l) (sym boxes)
        H.desk);
  }
