-- What the steps of a switch of a table's memtable leave, one by one and together.
use Rattle.std.proofs.Common.{◌≡◌, ◌+◌, ℕ, ◌≤◌, false, List, [], ◌∷◌, ◌++◌, Option, Some, is_some}
use Rattle.std.proofs.Common.{sym, ap, ◌∙◌, subst}
use Rattle.std.proofs.lemmas.List.{append_assoc}
use Rattle.std.proofs.lemmas.Option.{same_Some}
use Rattle.std.specs.List.{Contains}
use Rattle.std.specs.Option.{option_map, option_map_or}
use Rattle.atomic_table.specs.Table.{Me}
use Rattle.path_core.specs.declared.event.Cursor.TheVariants.{OldestLive, Stopped as StoppedCursor}
use Rattle.path_core.specs.declared.event.Cursor.TheVariants.{Synced}
use Rattle.path_core.specs.declared.event.Event.{Event}
use Rattle.path_core.specs.declared.event.Event.TheVariants.{Look, Register, Close, OpenGroup}
use Rattle.path_core.specs.declared.event.Event.TheVariants.{MoveCurrent, Expire, Advance, Claim}
use Rattle.path_core.specs.declared.event.Event.TheVariants.{Switch as SwitchStep, Raise, Finalise}
use Rattle.path_core.specs.declared.event.Event.TheVariants.{TakeTurn, GiveTurn, Put}
use Rattle.path_core.specs.declared.note.EntryNote.{EntryNote}
use Rattle.path_core.specs.declared.seat.FlushTurn.{FlushTurn}
use Rattle.path_core.specs.declared.seat.Issue.TheVariants.{Rest}
use Rattle.path_core.specs.declared.seat.Seat.{Seat}
use Rattle.path_core.specs.declared.seat.SeatTable.{SeatTable}
use Rattle.path_core.specs.declared.seat.Switching.{Switching}
use Rattle.path_core.specs.declared.seat.Switching.TheVariants.{Settled}
use Rattle.path_core.specs.declared.seat.SyncTurn.{SyncTurn}
use Rattle.path_core.specs.Parts.{seat_table, stage_of}
use Rattle.path_rule.specs.declared.lasting.Lasting.{Lasting}
use Rattle.path_rule.specs.declared.slot.Slot.{Slot}
use Rattle.path_rule.specs.declared.view.Hands.{Hands}
use Rattle.path_rule.specs.declared.view.OwnStep.{OwnStep}
use Rattle.path_rule.specs.declared.view.View.{View}
use Rattle.path_rule.specs.Desks.{HasDesk}
use Rattle.path_rule.specs.Rounds.{AreRoundSteps, IsQuiet, IsQuietStage, IsRoundStep, RoundSteps}
use Rattle.path_rule.specs.Rounds.{WroteBelow}
use Rattle.path_rule.specs.Switches.{FlushNewest, FlushOldest}
use Rattle.path_flush.specs.OwnWrites.{writes_of}
use Rattle.path_flush.specs.FlushReads.{ReadSteps}
use Rattle.path_flush.specs.FlushSteps.{Finalises, FlushSteps, SwitchesNo, QuietSteps, RetiresEmpty}
use Rattle.path_flush.specs.FlushSteps.{RetiresNo, RetiresNone, SwitchesNone}
use Rattle.path_flush.specs.FlushTurns.{HoldsBoth}
use Rattle.path_flush.specs.Switched.{SetsBound}
use Rattle.path_flush.proofs.FlushBarring.{final_before, final_behind}
use Rattle.path_flush.proofs.FlushGoes.{next, of_round}
use Rattle.path_flush.proofs.ListBelow.{list_below}

-- ---- what a seat with both turns knows behind steps of its reading

module _ {K : Type 0} (shows : K → Lasting) where
  pub both_read : (m m' : Me (Slot K) View) (w t : ℕ) → ReadSteps w t m.0 m'.0 → m'.1 ≡ m.1
      → HoldsBoth shows t m → HoldsBoth shows t m'
  both_read m m' w t R boxes H = record {
    holder = R.holder H.holder;
    gives = record {
      holds = record {
        held = ap (λ (o : Option SyncTurn). is_some o) R.sync ∙ H.gives.holds.held;
        issue = ap (λ (o : Option SyncTurn). option_map_or (λ (turn : SyncTurn). turn.issue) o Rest)
            R.sync ∙ H.gives.holds.issue;
        empty = ap (λ (h : Hands). h.box_taken) R.hands ∙ H.gives.holds.empty;
      };
      unfiled = ap (λ (o : Option SyncTurn). option_map_or (λ (turn : SyncTurn). turn.filed) o
          false) R.sync ∙ H.gives.unfiled;
    };
    desk = subst (λ (h : Hands). HasDesk shows h.lasting h.pending h.progress m'.1) (sym R.hands)
        (subst (λ (l : List (ℕ × Slot K)).
        HasDesk shows m.0.hands.lasting m.0.hands.pending m.0.hands.progress l) (sym boxes)
        H.desk);
  }

-- ---- what a holder of a table's turn knows whose tables' words stay

pub newest_same : (t n : ℕ) (p q : Seat) → seat_table q t ≡ seat_table p t → FlushNewest t p n
    → FlushNewest t q n
newest_same t n p q same F = (F.0, ap (λ (st : SeatTable). st.flush) same ∙ F.1, F.2)

pub oldest_same : (t n : ℕ) (p q : Seat) → seat_table q t ≡ seat_table p t → FlushOldest t p n
    → FlushOldest t q n
oldest_same t n p q same F = (F.0, ap (λ (st : SeatTable). st.flush) same ∙ F.1, F.2)

abbrev stage_in : SeatTable → Option Switching
stage_in st = option_map (λ (turn : FlushTurn). turn.stage) st.flush

pub stage_same : (t : ℕ) (p q : Seat) → seat_table q t ≡ seat_table p t
    → stage_of q t ≡ stage_of p t
stage_same t p q same = ap (λ (st : SeatTable). stage_in st) same

pub settled_quiet : (t : ℕ) (p : Seat) → stage_of p t ≡ Some Settled → IsQuiet (seat_table p t)
settled_quiet t p is turn has = subst (λ (k : Switching). IsQuietStage k)
    (same_Some Settled turn.stage
    (sym is ∙ ap (λ (o : Option FlushTurn). option_map (λ (f : FlushTurn). f.stage) o) has)) tt

-- ---- steps of which none is one of a switch

pub none_both : (ts us : List OwnStep) → SwitchesNone ts → SwitchesNone us → SwitchesNone (ts ++ us)
none_both [] us A B = B
none_both (t ∷ ts) us A B = (A.0, none_both ts us A.1 B)

pub kept_both : (ts us : List OwnStep) → RetiresNone ts → RetiresNone us → RetiresNone (ts ++ us)
kept_both [] us A B = B
kept_both (t ∷ ts) us A B = (A.0, kept_both ts us A.1 B)

abbrev pub then_quiet : {t a b : ℕ} (w z : ℕ) (v u after : View) → z ≡ w → QuietSteps w t a v u
    → QuietSteps z t b u after → QuietSteps w t (b + a) v after
then_quiet {t} w z v u after same A B = record {
  made = next w z v u after same A.made B.made;
  none = none_both B.made.steps A.made.steps B.none A.none;
  kept = kept_both B.made.steps A.made.steps B.kept A.kept;
}

round_leaves : (w : ℕ) (e : Event) → IsRoundStep w e → SwitchesNo e
round_leaves w (Look by at) is = tt
round_leaves w (OpenGroup by o g) is = tt
round_leaves w (MoveCurrent by o g) is = tt
round_leaves w (Expire by o g) is = tt
round_leaves w (Advance by o g) is = tt
round_leaves w (Claim by from to what) is = tt
round_leaves w (TakeTurn by turn) is = tt
round_leaves w (GiveTurn by turn) is = tt
round_leaves w (Put by cursor value) is = tt
round_leaves w (Register by o g) is = tt
round_leaves w (Close by o g carried) is = tt
round_leaves w (SwitchStep by t m part) is = absurd is
round_leaves w (Raise by t m to) is = tt
round_leaves w (Finalise by t m) is = absurd is

pub round_none : (w : ℕ) (ts : List OwnStep) → AreRoundSteps w ts → SwitchesNone ts
round_none w [] A = tt
round_none w (t ∷ ts) A = (round_leaves w t.event A.0, round_none w ts A.1)

round_retires : (w : ℕ) (e : Event) → IsRoundStep w e → RetiresNo e
round_retires w (Look by at) is = tt
round_retires w (OpenGroup by o g) is = tt
round_retires w (MoveCurrent by o g) is = tt
round_retires w (Expire by o g) is = tt
round_retires w (Advance by o g) is = tt
round_retires w (Claim by from to what) is = tt
round_retires w (TakeTurn by turn) is = tt
round_retires w (GiveTurn by turn) is = tt
round_retires w (Put by Synced value) is = tt
round_retires w (Put by StoppedCursor value) is = tt
round_retires w (Put by (OldestLive u) value) is = absurd is
round_retires w (Register by o g) is = tt
round_retires w (Close by o g carried) is = tt
round_retires w (SwitchStep by t m part) is = tt
round_retires w (Raise by t m to) is = tt
round_retires w (Finalise by t m) is = tt

pub round_kept : (w : ℕ) (ts : List OwnStep) → AreRoundSteps w ts → RetiresNone ts
round_kept w [] A = tt
round_kept w (t ∷ ts) A = (round_retires w t.event A.0, round_kept w ts A.1)

abbrev pub quiet_round : {t n : ℕ} (w : ℕ) (puts : List Event) (v after : View)
    → RoundSteps w n puts v after → QuietSteps w t n v after
quiet_round {t} w puts v after S = record {
  made = of_round w puts v after S;
  none = round_none w S.steps S.are;
  kept = round_kept w S.steps S.are;
}

-- ---- a memtable that was retired behind further steps

pub retires_behind : {n : ℕ} (w z t m : ℕ) (v u after : View) → z ≡ w → FlushSteps w t n v u
    → RetiresEmpty z t m u after → RetiresEmpty w t m v after
retires_behind w z t m v u after same S R =
    let E = subst (λ k. RetiresEmpty k t m u after) same R in (
      record {
        before = E.0.before;
        since = record {
          newer = E.0.since.newer ++ S.steps;
          is = E.0.since.is ∙ (ap (λ (l : List OwnStep). E.0.since.newer ++ l) S.trail
              ∙ sym (append_assoc E.0.since.newer S.steps v.trail));
        };
        read = E.0.read;
        sees = E.0.sees;
        was = E.0.was;
        put = E.0.put;
      },
      E.1,
      E.2,
    )

pub bound_set : (w t m key found : ℕ) (newer older : List OwnStep) (after : View) → found ≡ key
    → Finalises w t m key older → WroteBelow key after.trail
    → SetsBound w t m found (newer ++ older) after
bound_set w t m key found newer older after is F W = record {
  set = subst (λ k. Finalises w t m k (newer ++ older)) (sym is)
      (final_behind w t m key newer older F);
  covers = subst (λ k. (n : EntryNote) → Contains (writes_of after.trail) n → n.end.0 ≤ k) (sym is)
      (list_below key after.trail W);
}

-- ---- an answer behind steps that switched nothing

pub bound_behind : (w t m key : ℕ) (newer older : List OwnStep) (after : View)
    → SetsBound w t m key newer after → SetsBound w t m key (newer ++ older) after
bound_behind w t m key newer older after B = record {
  set = final_before w t m key newer older B.set;
  covers = B.covers;
}
