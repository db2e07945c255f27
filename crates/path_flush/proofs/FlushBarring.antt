-- What a seat with both turns knows behind steps of barriers and syncs, and behind a switch.
use Rattle.std.proofs.Common.{◌≡◌, ⊎_elim, inl, inr, ℕ, ◌<◌, false, List, [], ◌∷◌, ◌++◌, Option}
use Rattle.std.proofs.Common.{IsTrue, is_some, sym, ap, ◌∙◌, subst}
use Rattle.std.proofs.lemmas.Option.{none-some}
use Rattle.std.specs.Option.{option_map_or}
use Rattle.atomic_table.specs.Table.{Me}
use Rattle.op_core.specs.declared.count.Order.TheVariants.{Write}
use Rattle.path_core.specs.declared.event.Event.TheVariants.{Look}
use Rattle.path_core.specs.declared.event.Place.TheVariants.{Current}
use Rattle.path_core.specs.declared.seat.FlushTurn.{FlushTurn}
use Rattle.path_core.specs.declared.seat.Issue.TheVariants.{Rest}
use Rattle.path_core.specs.declared.seat.SyncTurn.{SyncTurn}
use Rattle.path_core.specs.Parts.{seat_table}
use Rattle.path_rule.specs.declared.lasting.Lasting.{Lasting}
use Rattle.path_rule.specs.declared.slot.Slot.{Slot}
use Rattle.path_rule.specs.declared.view.Hands.{Hands}
use Rattle.path_rule.specs.declared.view.OwnStep.{OwnStep}
use Rattle.path_rule.specs.declared.view.View.{View}
use Rattle.path_rule.specs.Calls.{Did, Holds}
use Rattle.path_rule.specs.Desks.{HasDesk}
use Rattle.path_rule.specs.Rounds.{RoundSteps}
use Rattle.path_rule.specs.Switches.{FlushNewest, FlushOldest}
use Rattle.path_flush.specs.FlushSteps.{Finalises}
use Rattle.path_flush.specs.FlushSwitches.{MadeFinal}
use Rattle.path_flush.specs.FlushTurns.{HoldsBoth}

-- the same desk, as the seat knows it
module _ {K : Type 0} (shows : K → Lasting) where
  pub desk_still : (h k : Hands) (l n : List (ℕ × Slot K)) → k ≡ h → n ≡ l
      → HasDesk shows h.lasting h.pending h.progress l
      → HasDesk shows k.lasting k.pending k.progress n
  desk_still h k l n hands boxes D = subst (λ (q : Hands × List (ℕ × Slot K)).
      HasDesk shows q.0.lasting q.0.pending q.0.progress q.1) (λ i. (sym hands i, sym boxes i)) D

  -- behind steps of barriers and syncs
  pub both_still : {n : ℕ} (m m' : Me (Slot K) View) (w t : ℕ) → RoundSteps w n [] m.0 m'.0
      → IsTrue (is_some (seat_table m'.0.part t).flush) → Holds Rest m'.0
      → m'.0.hands ≡ m.0.hands → m'.1 ≡ m.1 → HoldsBoth shows t m → HoldsBoth shows t m'
  both_still m m' w t R held rests hands boxes H =
      let I = R.idles H.holder.idle H.holder.unclaimed in record {
        holder = record {
          there = subst (λ z. t < z.tables) (sym R.size) H.holder.there;
          held = held;
          others = λ u other. let none = H.holder.others u other in
              ap (λ st. st.flush) (R.tables u (λ (turn : FlushTurn) is.
              absurd (none-some turn (sym none ∙ is)))) ∙ none;
          idle = I.0;
          unclaimed = I.1;
        };
        gives = record { holds = rests; unfiled = R.unfiled H.gives.unfiled };
        desk = desk_still m.0.hands m'.0.hands m.1 m'.1 hands boxes H.desk;
      }

  -- behind a switch
  pub both_switched : (m m' : Me (Slot K) View) (w t k key : ℕ) → MadeFinal w t k key m.0 m'.0
      → m'.1 ≡ m.1 → HoldsBoth shows t m → HoldsBoth shows t m'
  both_switched m m' w t k key F boxes H = record {
    holder = F.holder;
    gives = record {
      holds = record {
        held = ap (λ (o : Option SyncTurn). is_some o) F.sync ∙ H.gives.holds.held;
        issue = ap (λ (o : Option SyncTurn). option_map_or (λ (turn : SyncTurn). turn.issue) o Rest)
            F.sync ∙ H.gives.holds.issue;
        empty = ap (λ (h : Hands). h.box_taken) F.hands ∙ H.gives.holds.empty;
      };
      unfiled = ap (λ (o : Option SyncTurn). option_map_or (λ (turn : SyncTurn). turn.filed) o
          false) F.sync ∙ H.gives.unfiled;
    };
    desk = desk_still m.0.hands m'.0.hands m.1 m'.1 F.hands boxes H.desk;
  }

-- a look at the write order's current group leaves what is known of tables
pub newest_still : (v after : View) (w n t k : ℕ) → Did v w (Look w (Current Write)) n after
    → FlushNewest t v.part k → FlushNewest t after.part k
newest_still v after w n t k d F =
    (F.0, ap (λ (u : View). (seat_table u.part t).flush) d.view ∙ F.1, F.2)

pub oldest_still : (v after : View) (w n t k : ℕ) → Did v w (Look w (Current Write)) n after
    → FlushOldest t v.part k → FlushOldest t after.part k
oldest_still v after w n t k d F =
    (F.0, ap (λ (u : View). (seat_table u.part t).flush) d.view ∙ F.1, F.2)

-- a step that made a memtable final is there among more steps
pub final_behind : (w t m key : ℕ) (newer older : List OwnStep) → Finalises w t m key older
    → Finalises w t m key (newer ++ older)
final_behind w t m key [] older F = F
final_behind w t m key (s ∷ ss) older F = inr (final_behind w t m key ss older F)

pub final_before : (w t m key : ℕ) (newer older : List OwnStep) → Finalises w t m key newer
    → Finalises w t m key (newer ++ older)
final_before w t m key [] older F = absurd F
final_before w t m key (s ∷ ss) older F =
    ⊎_elim (λ now. inl now) (λ later. inr (final_before w t m key ss older later)) F
