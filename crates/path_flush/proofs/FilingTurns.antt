-- What a flush that may have filed a memtable knows of its turns and of the desk, behind its steps.
use Rattle.std.proofs.Common.{◌≡◌, ℕ, ◌<◌, List, [], ◌∷◌, Option, Some, None, is_some, inl, inr}
use Rattle.std.proofs.Common.{refl, sym, ap, ◌∙◌, subst, ⊎_elim}
use Rattle.std.proofs.lemmas.Option.{none-some, same_Some}
use Rattle.std.specs.Option.{option_map}
use Rattle.atomic_table.specs.Table.{Me, rest}
use Rattle.clog_base.specs.declared.cell.Cell.{Cell}
use Rattle.clog_base.specs.declared.cell.CellKey.{CellKey}
use Rattle.path_core.specs.declared.event.Cursor.TheVariants.{Stopped, Synced}
use Rattle.path_core.specs.declared.event.Event.{Event}
use Rattle.path_core.specs.declared.event.Event.TheVariants.{Look}
use Rattle.path_core.specs.declared.event.Place.TheVariants.{CursorWord, Log}
use Rattle.path_core.specs.declared.seat.FlushTurn.{FlushTurn}
use Rattle.path_core.specs.declared.seat.Issue.TheVariants.{Rest}
use Rattle.path_core.specs.declared.seat.Seat.{Seat}
use Rattle.path_core.specs.declared.seat.SeatTable.{SeatTable}
use Rattle.path_core.specs.declared.seat.Switching.{Switching}
use Rattle.path_core.specs.declared.seat.Switching.TheVariants.{WithBarrier}
use Rattle.path_core.specs.declared.seat.SyncTurn.{SyncTurn}
use Rattle.path_core.specs.Parts.{issue_of, seat_table, stage_of}
use Rattle.path_rule.specs.declared.lasting.Lasting.{Lasting}
use Rattle.path_rule.specs.declared.slot.Slot.{Slot}
use Rattle.path_rule.specs.declared.view.Hands.{Hands}
use Rattle.path_rule.specs.declared.view.View.{View}
use Rattle.path_rule.specs.Boxes.{desk_box, DeskIs}
use Rattle.path_rule.specs.Calls.{Did, Holds}
use Rattle.path_rule.specs.Desks.{HasDesk}
use Rattle.path_rule.specs.Rounds.{IsQuiet, IsQuietStage, RoundSteps}
use Rattle.path_rule.specs.TurnTold.{CarriesDesk}
use Rattle.path_rule.proofs.seats.MayGives.{holds_still}
use Rattle.path_rule.proofs.seats.RoundsGo.{one as round_one}
use Rattle.path_flush.specs.FlushFilings.{AwaitsFile, HasBoth, IsBarred}
use Rattle.path_flush.specs.FlushReads.{ReadSteps}
use Rattle.path_flush.specs.FlushTurns.{HoldsBoth, IsHolder}
use Rattle.path_flush.proofs.FilingGoes.{holder_same}
use Rattle.path_flush.proofs.SwitchGoes.{settled_quiet, stage_same}

-- a round of a sync leaves the holder of a table's turn
pub holder_round : {n : ℕ} (v after : View) (w t : ℕ) (puts : List Event)
    → RoundSteps w n puts v after
    → IsQuiet (seat_table v.part t) → IsHolder t v → IsHolder t after
holder_round v after w t puts R quiet H = let I = R.idles H.idle H.unclaimed in record {
  there = subst (λ z. t < z.tables) (sym R.size) H.there;
  held = ap (λ (st : SeatTable). is_some st.flush) (R.tables t quiet) ∙ H.held;
  others = λ u other. let none = H.others u other in
      ap (λ (st : SeatTable). st.flush) (R.tables u (λ (turn : FlushTurn) is.
      absurd (none-some turn (sym none ∙ is)))) ∙ none;
  idle = I.0;
  unclaimed = I.1;
}

module _ {K : Type 0} (shows : K → Lasting) where
  -- one that has filed nothing
  pub of_both : (t : ℕ) (m : Me (Slot K) View) → HoldsBoth shows t m → HasBoth shows t m
  of_both t m H = let alone = ap (λ (l : List (ℕ × Slot K)). rest l) H.desk.1 in record {
    turns = record { holder = H.holder; holds = H.gives.holds; alone = alone };
    desk = (
      H.desk.0,
      H.desk.1 ∙ ap (λ (l : List (ℕ × Slot K)). (desk_box, H.desk.0) ∷ l) (sym alone),
      H.desk.2,
    );
  }

  -- the desk is its only box
  pub only_desk : (t : ℕ) (m : Me (Slot K) View) → HasBoth shows t m
      → HasDesk shows m.0.hands.lasting m.0.hands.pending m.0.hands.progress m.1
  only_desk t m H = (
    H.desk.0,
    H.desk.1 ∙ ap (λ (l : List (ℕ × Slot K)). (desk_box, H.desk.0) ∷ l) H.turns.alone,
    H.desk.2,
  )

  -- the desk stays where boxes stay, and what it knows of it
  pub carries_same : (m m' : Me (Slot K) View) → m'.1 ≡ m.1
      → m'.0.hands.lasting ≡ m.0.hands.lasting → m'.0.hands.pending ≡ m.0.hands.pending
      → m'.0.hands.progress ≡ m.0.hands.progress → CarriesDesk shows m → CarriesDesk shows m'
  carries_same m m' boxes lasting pending progress C = (
    C.0,
    boxes ∙ (C.1 ∙ ap (λ (l : List (ℕ × Slot K)). (desk_box, C.0) ∷ rest l) (sym boxes)),
    subst (λ l. DeskIs shows C.0 l m'.0.hands.pending m'.0.hands.progress) (sym lasting)
        (subst (λ p. DeskIs shows C.0 m.0.hands.lasting p m'.0.hands.progress) (sym pending)
        (subst (λ k. DeskIs shows C.0 m.0.hands.lasting m.0.hands.pending k) (sym progress)
        C.2)),
  )

  -- steps of a reading leave both turns
  pub both_reads : (m m' : Me (Slot K) View) (w t : ℕ) → ReadSteps w t m.0 m'.0 → m'.1 ≡ m.1
      → HasBoth shows t m → HasBoth shows t m'
  both_reads m m' w t R boxes H = record {
    turns = record {
      holder = R.holder H.turns.holder;
      holds = holds_still (λ (turn : SyncTurn). turn) (λ turn. refl) m.0 m'.0
          (R.sync ∙ sym (same_turn m.0.part.sync))
          (ap (λ (h : Hands). h.box_taken) R.hands) H.turns.holds;
      alone = ap (λ (l : List (ℕ × Slot K)). rest l) boxes ∙ H.turns.alone;
    };
    desk = carries_same m m' boxes (ap (λ (h : Hands). h.lasting) R.hands)
        (ap (λ (h : Hands). h.pending) R.hands) (ap (λ (h : Hands). h.progress) R.hands) H.desk;
  }
    where
      same_turn : (o : Option SyncTurn) → option_map (λ (turn : SyncTurn). turn) o ≡ o
      same_turn None = refl
      same_turn (Some turn) = refl

  -- looks at the cursors of the log

  pub both_stopped : (m m' : Me (Slot K) View) (w t n : ℕ)
      → Did m.0 w (Look w (CursorWord Stopped)) n m'.0 → m'.1 ≡ m.1 → HasBoth shows t m
      → HasBoth shows t m'
  both_stopped m m' w t n d boxes H = record {
    turns = record {
      holder = holder_same t m.0 m'.0 (ap (λ (v : View). v.size) d.view)
          (λ u. ap (λ (v : View). (seat_table v.part u).flush) d.view)
          (ap (λ (v : View). v.part.write) d.view) (ap (λ (v : View). v.part.append) d.view)
          (ap (λ (v : View). v.part.claim) d.view) H.turns.holder;
      holds = subst (Holds Rest) (sym d.view) (holds_still
          (λ (turn : SyncTurn). record turn { stopped = Some n }) (λ turn. refl) m.0 _ refl refl
          H.turns.holds);
      alone = ap (λ (l : List (ℕ × Slot K)). rest l) boxes ∙ H.turns.alone;
    };
    desk = carries_same m m' boxes (ap (λ (v : View). v.hands.lasting) d.view)
        (ap (λ (v : View). v.hands.pending) d.view)
        (ap (λ (v : View). v.hands.progress) d.view) H.desk;
  }

  pub both_synced : (m m' : Me (Slot K) View) (w t n : ℕ)
      → Did m.0 w (Look w (CursorWord Synced)) n m'.0 → m'.1 ≡ m.1 → HasBoth shows t m
      → HasBoth shows t m'
  both_synced m m' w t n d boxes H = record {
    turns = record {
      holder = holder_same t m.0 m'.0 (ap (λ (v : View). v.size) d.view)
          (λ u. ap (λ (v : View). (seat_table v.part u).flush) d.view)
          (ap (λ (v : View). v.part.write) d.view) (ap (λ (v : View). v.part.append) d.view)
          (ap (λ (v : View). v.part.claim) d.view) H.turns.holder;
      holds = subst (Holds Rest) (sym d.view) (holds_still
          (λ (turn : SyncTurn). record turn { synced = Some n }) (λ turn. refl) m.0 _ refl refl
          H.turns.holds);
      alone = ap (λ (l : List (ℕ × Slot K)). rest l) boxes ∙ H.turns.alone;
    };
    desk = carries_same m m' boxes (ap (λ (v : View). v.hands.lasting) d.view)
        (ap (λ (v : View). v.hands.pending) d.view)
        (ap (λ (v : View). v.hands.progress) d.view) H.desk;
  }

  -- behind a look at the log key
  pub both_log : (m m' : Me (Slot K) View) (w t n : ℕ) → Did m.0 w (Look w Log) n m'.0
      → m'.1 ≡ m.1 → IsQuiet (seat_table m.0.part t) → HasBoth shows t m → HasBoth shows t m'
  both_log m m' w t n d boxes quiet H = record {
    turns = record {
      holder = holder_round m.0 m'.0 w t [] (round_one w (Look w Log) n m.0 m'.0 refl d) quiet
          H.turns.holder;
      holds = record {
        held = ap (λ (v : View). is_some v.part.sync) d.view ∙ H.turns.holds.held;
        issue = ap (λ (v : View). issue_of v.part) d.view ∙ H.turns.holds.issue;
        empty = ap (λ (v : View). v.hands.box_taken) d.view ∙ H.turns.holds.empty;
      };
      alone = ap (λ (l : List (ℕ × Slot K)). rest l) boxes ∙ H.turns.alone;
    };
    desk = carries_same m m' boxes (ap (λ (v : View). v.hands.lasting) d.view)
        (ap (λ (v : View). v.hands.pending) d.view)
        (ap (λ (v : View). v.hands.progress) d.view) H.desk;
  }

  -- a round of a sync leaves both turns
  pub both_round : {n : ℕ} (m m' : Me (Slot K) View) (w t : ℕ) (puts : List Event)
      → RoundSteps w n puts m.0 m'.0 → IsQuiet (seat_table m.0.part t) → Holds Rest m'.0
      → HasDesk shows m'.0.hands.lasting m'.0.hands.pending m'.0.hands.progress m'.1
      → IsHolder t m.0 → HasBoth shows t m'
  both_round m m' w t puts R quiet rests D H =
      let alone = ap (λ (l : List (ℕ × Slot K)). rest l) D.1 in record {
        turns = record {
          holder = holder_round m.0 m'.0 w t puts R quiet H;
          holds = rests;
          alone = alone;
        };
        desk = (
          D.0,
          D.1 ∙ ap (λ (l : List (ℕ × Slot K)). (desk_box, D.0) ∷ l) (sym alone),
          D.2,
        );
      }

-- ---- what a round leaves of the table

pub barred_quiet : (t : ℕ) (p : Seat) → IsBarred t p → IsQuiet (seat_table p t)
barred_quiet t p B = ⊎_elim (λ settled. settled_quiet t p settled)
    (λ b turn has. subst (λ (k : Switching). IsQuietStage k)
    (same_Some (WithBarrier b.0 b.1) turn.stage
    (sym b.2 ∙ ap (λ (o : Option FlushTurn). option_map (λ (f : FlushTurn). f.stage) o) has)) tt) B

pub barred_same : (t : ℕ) (p q : Seat) → stage_of q t ≡ stage_of p t → IsBarred t p
    → IsBarred t q
barred_same t p q same B =
    ⊎_elim (λ settled. inl (same ∙ settled)) (λ b. inr (b.0, b.1, same ∙ b.2)) B

-- it waits for its file still where what is known of the table and what was read stay
pub awaits_still : (seats t m bound : ℕ) (cells : List (CellKey × Cell)) (v after : View)
    → after.hands.reading ≡ v.hands.reading → seat_table after.part t ≡ seat_table v.part t
    → after.hands.lasting.at_open ≡ after.size.at_open → AwaitsFile seats t m bound cells v
    → AwaitsFile seats t m bound cells after
awaits_still seats t m bound cells v after reading table opened A = record {
  read = A.read;
  sees = (reading ∙ A.sees.0, A.sees.1, A.sees.2, A.sees.3, A.sees.4, A.sees.5);
  some = A.some;
  are = A.are;
  final = ap (λ (st : SeatTable). st.bound) table ∙ A.final;
  barred = barred_same t v.part after.part (stage_same t v.part after.part table) A.barred;
  opened = opened;
}
