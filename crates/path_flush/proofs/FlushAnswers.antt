-- What a flush answers, put together from the steps of its parts.
use Rattle.std.proofs.Common.{◌≡◌, ℕ, ◌+◌, ◌≤◌, length, List, ◌++◌, Some, inl, inr, ⊎_elim, refl}
use Rattle.std.proofs.Common.{sym, ap, ◌∙◌, subst, arith}
use Rattle.std.proofs.lemmas.Option.{none-some, same_Some}
use Rattle.clog_base.specs.declared.cell.Table.{Table}
use Rattle.path_core.specs.declared.event.Cursor.TheVariants.{Stopped as StoppedCursor}
use Rattle.path_core.specs.declared.event.Event.TheVariants.{Look}
use Rattle.path_core.specs.declared.event.Place.TheVariants.{CursorWord, TurnWord}
use Rattle.path_core.specs.declared.event.Turn.TheVariants.{Flush as FlushTurn}
use Rattle.path_rule.specs.declared.view.OwnStep.{OwnStep}
use Rattle.path_rule.specs.declared.view.PathSize.{PathSize}
use Rattle.path_rule.specs.declared.view.View.{View}
use Rattle.path_rule.specs.Calls.{acts, Did, FoundSince}
use Rattle.path_rule.specs.Rounds.{WroteBelow}
use Rattle.path_rule.proofs.seats.Answering.{found_after}
use Rattle.path_flush.specs.declared.flush_answer.Flush.{Flush}
use Rattle.path_flush.specs.declared.flush_answer.Flush.TheVariants.{Flushed, Empty, Busy, Stopped}
use Rattle.path_flush.specs.declared.flush_answer.Flush.TheVariants.{OutOfMemory}
use Rattle.path_flush.specs.Flushed.{Flushes, FlushesBy, GotTurn, IsFlush, opened_by}
use Rattle.path_flush.specs.FlushFilings.{IsRetired, Retired, unless_retired}
use Rattle.path_flush.specs.FlushSteps.{Finalises, FinalisesOnly, FindsAlone, FlushSteps}
use Rattle.path_flush.specs.FlushSteps.{QuietSteps, RetiresFiled, RetiresNone, SwitchesNone}
use Rattle.path_flush.specs.FlushSteps.{UnswitchedSteps}
use Rattle.path_flush.specs.OwnWrites.{writes_of}
use Rattle.path_flush.specs.Opens.{opens}
use Rattle.path_flush.proofs.FilingGoes.{filed_behind, is_before, one_newer, unswitched}
use Rattle.path_flush.proofs.FinalKeys.{same_final}
use Rattle.path_flush.proofs.FlushAlone.{alone_behind, alone_none, alone_since, only_both}
use Rattle.path_flush.proofs.FlushAlone.{only_none}
use Rattle.path_flush.proofs.FlushBarring.{final_before, final_behind}
use Rattle.path_flush.proofs.FlushGoes.{at_most, next, one, same_list, still_wrote}
use Rattle.path_flush.proofs.FlushWaits.{waits_all, waits_behind, waits_none}
use Rattle.path_flush.proofs.SwitchGoes.{bound_behind, bound_set, kept_both, none_both}
use Rattle.path_flush.proofs.SwitchGoes.{retires_behind}
use Rattle.path_flush.proofs.StepsOpen.{none_opened, opens_both}

-- ---- behind the switch of this call

-- what was set in a call is in the trail behind it
set_since : {n : ℕ} (w t m key : ℕ) (v u : View) (newer before : List OwnStep)
    (S : FlushSteps w t n v u)
    → before ≡ newer ++ u.trail → Finalises w t m key S.steps → Finalises w t m key before
set_since w t m key v u newer before S is F =
    subst (λ (l : List OwnStep). Finalises w t m key l)
    (sym (is ∙ ap (λ (l : List OwnStep). newer ++ l) S.trail))
    (final_behind w t m key newer (S.steps ++ v.trail) (final_before w t m key S.steps v.trail F))

filed_is : {n : ℕ} (w t m lower upper key : ℕ) (v u after : View) (newer : List OwnStep)
    (S : FlushSteps w t n v u) → Finalises w t m key S.steps
    → RetiresFiled w t m lower upper u after
    → upper ≡ key
filed_is w t m lower upper key v u after newer S F E = let r = E.retires in
    same_final r.before w _ t m key upper r.was
    (set_since w t m key v u r.since.newer r.before.trail S r.since.is F) E.final

flushed_is : {n : ℕ} (w t m key : ℕ) (v u after : View) (a : Flush) (newer : List OwnStep)
    (S : FlushSteps w t n v u) → Finalises w t m key S.steps → RetiresNone S.steps
    → WroteBelow key after.trail → IsRetired w t m u a newer after
    → IsFlush w t v a (newer ++ S.steps) after
flushed_is w t m key v u after (Flushed lower upper) newer S F K W I = (
  m,
  bound_set w t m key upper.0 newer S.steps after
      (filed_is w t m lower.0 upper.0 key v u after newer S F I) F W,
  filed_behind w w t m lower.0 upper.0 v u after refl S I,
)
flushed_is w t m key v u after (Empty found) newer S F K W I = let r = I.0.0 in (
  m,
  bound_set w t m key found.0 newer S.steps after (same_final r.before w _ t m key found.0 r.was
      (set_since w t m key v u r.since.newer r.before.trail S r.since.is F) I.1) F W,
  retires_behind w w t m v u after refl S I.0,
)
flushed_is w t m key v u after (Busy found) newer S F K W I = absurd I
flushed_is w t m key v u after (Stopped at_open now) newer S F K W I = (
  I.0.0 ∙ ap (λ (z : PathSize). z.at_open) S.size,
  I.0.1,
  found_after (CursorWord StoppedCursor) now newer S.steps I.0.2,
  ⊎_elim (λ none. inl (waits_all w t (newer ++ S.steps) (kept_both newer S.steps none K)))
      (λ filed. inr (
        m,
        key,
        filed.0,
        final_behind w t m key newer S.steps F,
        one_newer (record { 0 = t }) m (Some filed.0) newer S.steps filed.1,
      )) I.1,
)
flushed_is w t m key v u after OutOfMemory newer S F K W I =
    waits_all w t (newer ++ S.steps) (kept_both newer S.steps I K)

pub got_turn : {n : ℕ} (w t m : ℕ) (v after : View) (a : Flush) → Retired w t m n v a after
    → GotTurn a
got_turn w t m v after (Flushed lower upper) R = tt
got_turn w t m v after (Empty key) R = tt
got_turn w t m v after (Busy found) R = absurd R.is
got_turn w t m v after (Stopped at_open now) R = tt
got_turn w t m v after OutOfMemory R = tt

-- such an answer may stand behind a memtable that was opened
may_open : (w t m : ℕ) (v after : View) (a : Flush) (steps : List OwnStep)
    → IsRetired w t m v a steps after → 1 ≤ opened_by a
may_open w t m v after (Flushed lower upper) steps I = omega arith
may_open w t m v after (Empty key) steps I = omega arith
may_open w t m v after (Busy found) steps I = absurd I
may_open w t m v after (Stopped at_open now) steps I = omega arith
may_open w t m v after OutOfMemory steps I = omega arith

-- ---- with the steps behind it that give the turns back

record RetiredBy (w t m n : ℕ) (v : View) (a : Flush) (after : View) : Type 0 where
  made : FlushSteps w t n v after
  none : SwitchesNone made.steps
  is : IsRetired w t m v a made.steps after

retired_on : {n : ℕ} (r z t m : ℕ) (u x after : View) (a : Flush) → r ≡ z
    → Retired z t m n u a x → QuietSteps r t 0 x after → RetiredBy z t m n u a after
retired_on r z t m u x after a same R L = record {
  made = at_most z u after (omega arith) (next z r u x after same R.steps.made.made L.made);
  none = none_both L.made.steps R.steps.made.made.steps L.none R.steps.made.none;
  is = is_before z r t m u x after a R.steps.made.made.steps R.is L.made L.kept;
}

-- A flush that switches memtable m answers this: it makes no other one final, and issues at most n
-- barriers.
pub record FlushesNewest (w t m n : ℕ) (v : View) (answer : Flush) (after : View) : Type 0 where
  pub steps : FlushSteps w t n v after
  pub opened : opens t steps.steps ≤ opened_by answer
  pub only : FinalisesOnly t m steps.steps
  pub list : writes_of after.trail ≡ writes_of v.trail
  pub is : IsFlush w t v answer steps.steps after

pub flushed : (w z t m key : ℕ) (v u x after : View) (a : Flush) → z ≡ w → (r : ℕ) → r ≡ z
    → (S : FlushSteps w t 1 v u) → Finalises w t m key S.steps → FinalisesOnly t m S.steps
    → RetiresNone S.steps → opens t S.steps ≤ 1 → WroteBelow key u.trail
    → Retired z t m 1 u a x → QuietSteps r t 0 x after → FlushesNewest w t m 2 v a after
flushed w z t m key v u x after a same r number S F O K one_most W R L =
    let B = retired_on r z t m u x after a number R L in
    let E = subst (λ k. RetiredBy k t m 1 u a after) same B in
    let made = next w w v u after refl S E.made in record {
      steps = made;
      opened = let none = none_opened t E.made.steps E.none in
          let all = opens_both t E.made.steps S.steps in
          let may = may_open w t m u after a E.made.steps E.is in
          omega (arith, one_most, none, all, may);
      only = only_both t m E.made.steps S.steps (only_none t m E.made.steps E.none) O;
      list = same_list w v after made;
      is = flushed_is w t m key v u after a E.made.steps S F K
          (still_wrote w key u after E.made W) E.is;
    }

-- ---- refused behind a memtable that was left

left_is : (w t m : ℕ) (v u after : View) (a told : Flush) (steps : List OwnStep)
    → Some a ≡ unless_retired told → SwitchesNone steps → IsRetired w t m v told steps u
    → IsFlush w t v a steps after
left_is w t m v u after a (Flushed lower upper) steps is none I = absurd (none-some a (sym is))
left_is w t m v u after a (Empty key) steps is none I = absurd (none-some a (sym is))
left_is w t m v u after a (Busy found) steps is none I = absurd I
left_is w t m v u after a (Stopped at_open now) steps is none I =
    subst (λ (b : Flush). IsFlush w t v b steps after)
    (sym (same_Some a (Stopped at_open now) is))
    (I.0.0, I.0.1, I.0.2, inl (waits_none w t steps none))
left_is w t m v u after a OutOfMemory steps is none I =
    subst (λ (b : Flush). IsFlush w t v b steps after) (sym (same_Some a OutOfMemory is))
    (waits_none w t steps none)

pub left_then : {n : ℕ} (w z t m : ℕ) (v u after : View) (a told : Flush) → z ≡ w
    → Some a ≡ unless_retired told → Retired w t m n v told u → QuietSteps z t 0 u after
    → FlushesBy w t n v a after
left_then w z t m v u after a told same is R L = let S = R.steps.made in
    let made = next w z v u after same S.made L.made in
    let none = none_both L.made.steps S.made.steps L.none S.none in record {
      steps = at_most w v after (omega arith) made;
      opened = let no_more = none_opened t (L.made.steps ++ S.made.steps) none in
          omega (arith, no_more);
      alone = alone_none t (L.made.steps ++ S.made.steps) none;
      list = same_list w v after made;
      is = left_is w t m v after after a told (L.made.steps ++ S.made.steps) is none
          (is_before w z t m v u after told S.made.steps R.is L.made L.kept);
    }

pub left_turn : {n : ℕ} (w t m : ℕ) (v after : View) (a told : Flush)
    → Some a ≡ unless_retired told → Retired w t m n v told after → GotTurn a
left_turn w t m v after a (Flushed lower upper) is R = absurd (none-some a (sym is))
left_turn w t m v after a (Empty key) is R = absurd (none-some a (sym is))
left_turn w t m v after a (Busy found) is R = absurd R.is
left_turn w t m v after a (Stopped at_open now) is R =
    subst (λ (b : Flush). GotTurn b) (sym (same_Some a (Stopped at_open now) is)) tt
left_turn w t m v after a OutOfMemory is R =
    subst (λ (b : Flush). GotTurn b) (sym (same_Some a OutOfMemory is)) tt

-- ---- an answer behind steps that switched nothing

is_later : {n : ℕ} (w t : ℕ) (v u after : View) (a : Flush) (steps : List OwnStep)
    (Q : UnswitchedSteps w t n v u) → GotTurn a → IsFlush w t u a steps after
    → IsFlush w t v a (steps ++ Q.made.steps) after
is_later w t v u after (Flushed lower upper) steps Q got I = (
  I.0,
  bound_behind w t I.0 upper.0 steps Q.made.steps after I.1,
  filed_behind w w t I.0 lower.0 upper.0 v u after refl Q.made I.2,
)
is_later w t v u after (Empty key) steps Q got I = (
  I.0,
  bound_behind w t I.0 key.0 steps Q.made.steps after I.1,
  retires_behind w w t I.0 v u after refl Q.made I.2,
)
is_later w t v u after (Busy found) steps Q got I = absurd got
is_later w t v u after (Stopped at_open now) steps Q got I = (
  I.0 ∙ ap (λ (z : PathSize). z.at_open) Q.made.size,
  I.1,
  found_after (CursorWord StoppedCursor) now steps Q.made.steps I.2,
  ⊎_elim (λ waits. inl (waits_behind w t steps Q.made.steps Q.none waits))
      (λ filed. inr (
        filed.0,
        filed.1,
        filed.2,
        final_before w t filed.0 filed.1 steps Q.made.steps filed.3,
        one_newer (record { 0 = t }) filed.0 (Some filed.2) steps Q.made.steps filed.4,
      )) I.3,
)
is_later w t v u after OutOfMemory steps Q got I = waits_behind w t steps Q.made.steps Q.none I

pub later : {m n : ℕ} (w z t : ℕ) (v u after : View) (a : Flush) → z ≡ w
    → UnswitchedSteps w t m v u → GotTurn a → FlushesBy z t n u a after
    → FlushesBy w t (n + m) v a after
later {n = n} w z t v u after a same Q got R =
    let S = subst (λ k. FlushesBy k t n u a after) same R in
    let made = next w w v u after refl Q.made S.steps in record {
      steps = made;
      opened = let none = none_opened t Q.made.steps Q.none in
          let all = opens_both t S.steps.steps Q.made.steps in let most = S.opened in
          omega (arith, none, all, most);
      alone = alone_behind t S.steps.steps Q.made.steps S.alone (alone_none t Q.made.steps Q.none);
      list = same_list w v after made;
      is = is_later w t v u after a S.steps.steps Q got S.is;
    }

-- one that switches the memtable which was found alone
pub newest_later : (w z t m : ℕ) (v u after : View) (a : Flush) → z ≡ w
    → (Q : QuietSteps w t 0 v u) → GotTurn a → FindsAlone t m Q.made.steps
    → FlushesNewest z t m 2 u a after → FlushesBy w t 2 v a after
newest_later w z t m v u after a same Q got F R =
    let S = subst (λ k. FlushesNewest k t m 2 u a after) same R in
    let made = next w w v u after refl Q.made S.steps in record {
      steps = made;
      opened = let none = none_opened t Q.made.steps Q.none in
          let all = opens_both t S.steps.steps Q.made.steps in let most = S.opened in
          omega (arith, none, all, most);
      alone = alone_since t m S.steps.steps Q.made.steps S.only F
          (alone_none t Q.made.steps Q.none);
      list = same_list w v after made;
      is = is_later w t v u after a S.steps.steps (unswitched w v u Q) got S.is;
    }

-- ---- the answers by which nothing was switched

pub busy : (w n : ℕ) (t : Table) (v after : View)
    → Did v w (Look w (TurnWord (FlushTurn t))) n after → n ≡ 1 → Flushes w t.0 v (Busy n) after
busy w n t v after d is = let e = Look w (TurnWord (FlushTurn t)) in
    let made = one {t = t.0} w e n _ v after refl (record { view = d.view; was = d.was }) in
    record {
      steps = made;
      opened = let none = none_opened t.0 made.steps (tt, tt) in omega (arith, none);
      alone = (tt, tt);
      list = same_list w v after made;
      is = (
        is,
        subst (λ (l : List OwnStep). FoundSince (length v.trail) (TurnWord (FlushTurn t)) n l)
            (sym made.trail) (inl (omega arith, refl, refl)),
        ap acts made.trail,
      );
    }

-- behind an answer for which the seat did not only look as many barriers as a flush issues at most
pub took_all : (w t : ℕ) (v after : View) (a : Flush) → GotTurn a → FlushesBy w t 3 v a after
    → Flushes w t v a after
took_all w t v after (Flushed lower upper) got F = F
took_all w t v after (Empty key) got F = F
took_all w t v after (Busy found) got F = absurd got
took_all w t v after (Stopped at_open now) got F = F
took_all w t v after OutOfMemory got F = F

-- the same, where more may have been issued
pub more_flushed : {m n : ℕ} (w t : ℕ) (v after : View) (a : Flush) → m ≤ n
    → FlushesBy w t m v a after → FlushesBy w t n v a after
more_flushed w t v after a up F = record {
  steps = at_most w v after up F.steps;
  opened = F.opened;
  alone = F.alone;
  list = F.list;
  is = F.is;
}
