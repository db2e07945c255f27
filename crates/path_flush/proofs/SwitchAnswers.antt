-- What a switch of a table's memtable answers, put together from the steps of its parts.
use Rattle.std.proofs.Common.{◌≡◌, inl, ℕ, ◌≤◌, length, List, ◌++◌, refl, ap, subst, sym, arith}
use Rattle.clog_base.specs.declared.cell.Table.{Table}
use Rattle.path_core.specs.declared.event.Cursor.TheVariants.{OldestLive}
use Rattle.path_core.specs.declared.event.Event.TheVariants.{Look}
use Rattle.path_core.specs.declared.event.Place.TheVariants.{CursorWord, Newest, TurnWord}
use Rattle.path_core.specs.declared.event.Turn.TheVariants.{Flush}
use Rattle.path_rule.specs.declared.view.OwnStep.{OwnStep}
use Rattle.path_rule.specs.declared.view.View.{View}
use Rattle.path_rule.specs.Calls.{acts, Did, FoundSince}
use Rattle.path_rule.specs.Rounds.{WroteBelow}
use Rattle.path_rule.proofs.seats.Answering.{found_after, found_before}
use Rattle.path_flush.specs.declared.flush_turn.Memtables.TheVariants.{Left as LeftOne}
use Rattle.path_flush.specs.declared.switch_answer.Switch.{Switch}
use Rattle.path_flush.specs.declared.switch_answer.Switch.TheVariants.{Empty, Left, Waits, Busy}
use Rattle.path_flush.specs.FlushSteps.{Finalises, FlushSteps, QuietSteps}
use Rattle.path_flush.specs.FlushTurns.{FindsMemtables}
use Rattle.path_flush.specs.Switched.{HadTurn, IsSettled, IsSwitch, Switches, most_barriers}
use Rattle.path_flush.specs.Switched.{most_opened}
use Rattle.path_flush.proofs.FlushGoes.{at_most, next, one, same_list}
use Rattle.path_flush.proofs.StepsOpen.{none_opened, opens_both}
use Rattle.path_flush.proofs.SwitchGoes.{bound_behind, bound_set, none_both, retires_behind}
use Rattle.path_flush.proofs.SwitchGoes.{then_quiet}

-- ---- a memtable that was switched

pub settled_had : (w t m key : ℕ) (v : View) (a : Switch) (after : View)
    → IsSettled w t m key v a after → HadTurn a
settled_had w t m key v (Empty found) after I = tt
settled_had w t m key v (Left found) after I = tt
settled_had w t m key v (Waits k) after I = absurd I
settled_had w t m key v (Busy found) after I = absurd I

-- such an answer may stand behind a memtable that was opened
pub settled_opens : (w t m key : ℕ) (v : View) (a : Switch) (after : View)
    → IsSettled w t m key v a after → 1 ≤ most_opened a
settled_opens w t m key v (Empty found) after I = omega arith
settled_opens w t m key v (Left found) after I = omega arith
settled_opens w t m key v (Waits k) after I = absurd I
settled_opens w t m key v (Busy found) after I = absurd I

-- and behind its barrier
pub settled_bars : (w t m key : ℕ) (v : View) (a : Switch) (after : View)
    → IsSettled w t m key v a after → 1 ≤ most_barriers a
settled_bars w t m key v (Empty found) after I = omega arith
settled_bars w t m key v (Left found) after I = omega arith
settled_bars w t m key v (Waits k) after I = absurd I
settled_bars w t m key v (Busy found) after I = absurd I

-- what is so of it
pub settled_is : {n : ℕ} (w z t m key : ℕ) (v u after : View) (a : Switch) (newer : List OwnStep)
    (S : FlushSteps w t n v u) → z ≡ w → Finalises w t m key S.steps → WroteBelow key after.trail
    → IsSettled z t m key u a after → IsSwitch w t v a (newer ++ S.steps) after
settled_is w z t m key v u after (Empty found) newer S same F W I = (
  m,
  bound_set w t m key found.0 newer S.steps after I.0 F W,
  retires_behind w z t m v u after same S I.1,
)
settled_is w z t m key v u after (Left found) newer S same F W I =
    (m, bound_set w t m key found.0 newer S.steps after I F W)
settled_is w z t m key v u after (Waits k) newer S same F W I = absurd I
settled_is w z t m key v u after (Busy found) newer S same F W I = absurd I

-- ---- an answer behind steps that switched nothing

is_behind : (w t : ℕ) (v u after : View) (a : Switch) (steps : List OwnStep)
    (Q : QuietSteps w t 0 v u) → HadTurn a → IsSwitch w t u a steps after
    → IsSwitch w t v a (steps ++ Q.made.steps) after
is_behind w t v u after (Empty key) steps Q had I = (
  I.0,
  bound_behind w t I.0 key.0 steps Q.made.steps after I.1,
  retires_behind w w t I.0 v u after refl Q.made I.2,
)
is_behind w t v u after (Left key) steps Q had I =
    (I.0, bound_behind w t I.0 key.0 steps Q.made.steps after I.1)
is_behind w t v u after (Waits m) steps Q had I = (
  none_both steps Q.made.steps I.0 Q.none,
  found_after (CursorWord (OldestLive (record { 0 = t }))) m steps Q.made.steps I.1,
  (I.2.0, found_after (Newest (record { 0 = t })) I.2.0 steps Q.made.steps I.2.1, I.2.2),
)
is_behind w t v u after (Busy found) steps Q had I = absurd had

pub behind : (w z t : ℕ) (v u after : View) (a : Switch) → z ≡ w → QuietSteps w t 0 v u → HadTurn a
    → Switches z t u a after → Switches w t v a after
behind w z t v u after a same Q had R = let S = subst (λ k. Switches k t u a after) same R in
    let made = next w w v u after refl Q.made S.steps in record {
      steps = at_most w v after (omega arith) made;
      opened = let none = none_opened t Q.made.steps Q.none in
          let all = opens_both t S.steps.steps Q.made.steps in let most = S.opened in
          omega (arith, none, all, most);
      list = same_list w v after made;
      is = is_behind w t v u after a S.steps.steps Q had S.is;
    }

-- ---- the answers by which nothing was switched

pub busy_is : (w n : ℕ) (t : Table) (v after : View) → Did v w (Look w (TurnWord (Flush t))) n after
    → n ≡ 1 → Switches w t.0 v (Busy n) after
busy_is w n t v after d is = let e = Look w (TurnWord (Flush t)) in
    let made = one {t = t.0} w e n _ v after refl (record { view = d.view; was = d.was }) in
    record {
      steps = made;
      opened = let none = none_opened t.0 made.steps (tt, tt) in omega (arith, none);
      list = same_list w v after made;
      is = (
        is,
        subst (λ (l : List OwnStep). FoundSince (length v.trail) (TurnWord (Flush t)) n l)
            (sym made.trail) (inl (omega arith, refl, refl)),
        ap acts made.trail,
      );
    }

pub waits_is : (w z y t m : ℕ) (v u x after : View) → z ≡ w → y ≡ w → QuietSteps w t 0 v u
    → FindsMemtables t (LeftOne m) u x z → QuietSteps y t 0 x after → Switches w t v (Waits m) after
waits_is w z y t m v u x after first second T F L =
    let Q = then_quiet w y v x after second (then_quiet w z v u x first T F.0) L in
    let oldest = CursorWord (OldestLive (record { 0 = t })) in
    let newest = Newest (record { 0 = t }) in record {
      steps = Q.made;
      opened = let none = none_opened t Q.made.steps Q.none in omega (arith, none);
      list = same_list w v after Q.made;
      is = (
        Q.none,
        found_before oldest m L.made.steps (F.0.made.steps ++ T.made.steps)
            (found_after oldest m F.0.made.steps T.made.steps F.1),
        (
          F.2.0,
          found_before newest F.2.0 L.made.steps (F.0.made.steps ++ T.made.steps)
              (found_after newest F.2.0 F.0.made.steps T.made.steps F.2.1),
          F.2.2,
        ),
      );
    }
