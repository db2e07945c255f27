-- What the steps of a flush leave, one by one and together.
use Rattle.std.proofs.Common.{◌≡◌, ◌+◌, ◌≤◌, ℕ, cond, List, [], ◌∷◌, ◌++◌, refl, sym, ap, ◌∙◌}
use Rattle.std.proofs.Common.{subst, arith, None}
use Rattle.std.proofs.lemmas.List.{append_assoc}
use Rattle.path_core.specs.declared.event.ClaimKind.TheVariants.{Entry, Marker}
use Rattle.path_core.specs.declared.event.Cursor.TheVariants.{Synced, OldestLive, Stopped}
use Rattle.path_core.specs.declared.event.Event.{Event}
use Rattle.path_core.specs.declared.event.Event.TheVariants.{Look, Register, Close, OpenGroup}
use Rattle.path_core.specs.declared.event.Event.TheVariants.{MoveCurrent, Expire, Advance, Claim}
use Rattle.path_core.specs.declared.event.Event.TheVariants.{Switch, Raise, Finalise, TakeTurn}
use Rattle.path_core.specs.declared.event.Event.TheVariants.{GiveTurn, Put}
use Rattle.path_core.specs.declared.event.Place.TheVariants.{Count, Current, Oldest, Log, Newest}
use Rattle.path_core.specs.declared.event.Place.TheVariants.{Bound as BoundOf, TurnWord, CursorWord}
use Rattle.path_core.specs.declared.event.Turn.TheVariants.{Sync, Flush}
use Rattle.path_core.specs.declared.note.EntryNote.{EntryNote}
use Rattle.path_rule.specs.declared.view.Hands.{Hands}
use Rattle.path_rule.specs.declared.view.OwnStep.{OwnStep}
use Rattle.path_rule.specs.declared.view.View.{View}
use Rattle.path_rule.specs.Calls.{DidAs}
use Rattle.path_rule.specs.Issued.{is_issue, issued_in}
use Rattle.path_rule.specs.Rounds.{AreRoundSteps, EndsBelow, IsRoundStep, RoundSteps, WroteBelow}
use Rattle.path_rule.proofs.log.Issues.{issued_both}
use Rattle.path_flush.specs.OwnWrites.{with_write, writes_of}
use Rattle.path_flush.specs.FlushSteps.{AreFlushSteps, FlushSteps, IsFlushStep}

-- ---- the seat's list

adds_none : (w t : ℕ) (e : Event) (l : List EntryNote) → IsFlushStep w t e → with_write e l ≡ l
adds_none w t (Look by at) l is = refl
adds_none w t (OpenGroup by o g) l is = refl
adds_none w t (MoveCurrent by o g) l is = refl
adds_none w t (Expire by o g) l is = refl
adds_none w t (Advance by o g) l is = refl
adds_none w t (Claim by from to Marker) l is = refl
adds_none w t (Claim by from to Entry) l is = absurd is
adds_none w t (TakeTurn by turn) l is = refl
adds_none w t (GiveTurn by turn) l is = refl
adds_none w t (Put by cursor value) l is = refl
adds_none w t (Register by o g) l is = absurd is
adds_none w t (Close by o g carried) l is = absurd is
adds_none w t (Switch by u m part) l is = refl
adds_none w t (Raise by u m to) l is = refl
adds_none w t (Finalise by u m) l is = refl

list_stays : (w t : ℕ) (ts us : List OwnStep) → AreFlushSteps w t ts
    → writes_of (ts ++ us) ≡ writes_of us
list_stays w t [] us A = refl
list_stays w t (s ∷ ts) us A =
    adds_none w t s.event (writes_of (ts ++ us)) A.0 ∙ list_stays w t ts us A.1

pub same_list : {t n : ℕ} (w : ℕ) (v after : View) → FlushSteps w t n v after
    → writes_of after.trail ≡ writes_of v.trail
same_list {t} w v after S = ap writes_of S.trail ∙ list_stays w t S.steps v.trail S.are

-- what the seat wrote ends where it did
ends_still : (w t key : ℕ) (e : Event) → IsFlushStep w t e → EndsBelow key e
ends_still w t key (Look by at) is = tt
ends_still w t key (OpenGroup by o g) is = tt
ends_still w t key (MoveCurrent by o g) is = tt
ends_still w t key (Expire by o g) is = tt
ends_still w t key (Advance by o g) is = tt
ends_still w t key (Claim by from to what) is = tt
ends_still w t key (TakeTurn by turn) is = tt
ends_still w t key (GiveTurn by turn) is = tt
ends_still w t key (Put by cursor value) is = tt
ends_still w t key (Register by o g) is = tt
ends_still w t key (Close by o g carried) is = absurd is
ends_still w t key (Switch by u m part) is = tt
ends_still w t key (Raise by u m to) is = tt
ends_still w t key (Finalise by u m) is = tt

wrote_still : (w t key : ℕ) (ts us : List OwnStep) → AreFlushSteps w t ts → WroteBelow key us
    → WroteBelow key (ts ++ us)
wrote_still w t key [] us A B = B
wrote_still w t key (s ∷ ts) us A B =
    (ends_still w t key s.event A.0, wrote_still w t key ts us A.1 B)

pub still_wrote : {t n : ℕ} (w key : ℕ) (v after : View) → FlushSteps w t n v after
    → WroteBelow key v.trail → WroteBelow key after.trail
still_wrote {t} w key v after S B =
    subst (λ l. WroteBelow key l) (sym S.trail) (wrote_still w t key S.steps v.trail S.are B)

-- ---- steps together

abbrev pub one : {t : ℕ} (w : ℕ) (e : Event) (n : ℕ) (h : Hands) (v after : View)
    → IsFlushStep w t e → DidAs v w e n h after → FlushSteps w t (cond (is_issue e) 1 0) v after
one {t} w e n h v after is d = record {
  steps = record { event = e; found = n; filed = None } ∷ [];
  trail = ap (λ (u : View). u.trail) d.view;
  are = (is, tt);
  issues = omega arith;
  returned = ap (λ (u : View). u.returned) d.view;
  size = ap (λ (u : View). u.size) d.view;
}

pub are_both : (w t : ℕ) (ts us : List OwnStep) → AreFlushSteps w t ts → AreFlushSteps w t us
    → AreFlushSteps w t (ts ++ us)
are_both w t [] us A B = B
are_both w t (s ∷ ts) us A B = (A.0, are_both w t ts us A.1 B)

pub few_both : {a b : ℕ} (ts us : List OwnStep) → issued_in ts ≤ b → issued_in us ≤ a
    → issued_in (ts ++ us) ≤ b + a
few_both ts us more first = let all = issued_both ts us in omega (arith, all, more, first)

abbrev pub both : {t a b : ℕ} (w : ℕ) (v u after : View) → FlushSteps w t a v u
    → FlushSteps w t b u after → FlushSteps w t (b + a) v after
both {t} w v u after A B = record {
  steps = B.steps ++ A.steps;
  trail = B.trail ∙ (ap (λ l. B.steps ++ l) A.trail
      ∙ sym (append_assoc B.steps A.steps v.trail));
  are = are_both w t B.steps A.steps B.are A.are;
  issues = few_both B.steps A.steps B.issues A.issues;
  returned = B.returned ∙ A.returned;
  size = B.size ∙ A.size;
}

-- the same, where the number of the seat is told anew
abbrev pub next : {t a b : ℕ} (w z : ℕ) (v u after : View) → z ≡ w → FlushSteps w t a v u
    → FlushSteps z t b u after → FlushSteps w t (b + a) v after
next {t} w z v u after same A B = record {
  steps = B.steps ++ A.steps;
  trail = B.trail ∙ (ap (λ l. B.steps ++ l) A.trail
      ∙ sym (append_assoc B.steps A.steps v.trail));
  are = are_both w t B.steps A.steps (subst (λ k. AreFlushSteps k t B.steps) same B.are) A.are;
  issues = few_both B.steps A.steps B.issues A.issues;
  returned = B.returned ∙ A.returned;
  size = B.size ∙ A.size;
}

-- steps of barriers and syncs are steps of a flush
round_step : (w t : ℕ) (e : Event) → IsRoundStep w e → IsFlushStep w t e
round_step w t (Look by (Count o g)) is = is
round_step w t (Look by (Current o)) is = is
round_step w t (Look by (Oldest o)) is = is
round_step w t (Look by Log) is = is
round_step w t (Look by (TurnWord Sync)) is = is
round_step w t (Look by (TurnWord (Flush u))) is = absurd is
round_step w t (Look by (CursorWord Synced)) is = is
round_step w t (Look by (CursorWord Stopped)) is = is
round_step w t (Look by (CursorWord (OldestLive u))) is = absurd is
round_step w t (Look by (Newest u)) is = absurd is
round_step w t (Look by (BoundOf u m)) is = absurd is
round_step w t (OpenGroup by o g) is = is
round_step w t (MoveCurrent by o g) is = is
round_step w t (Expire by o g) is = is
round_step w t (Advance by o g) is = is
round_step w t (Claim by from to Marker) is = is
round_step w t (Claim by from to Entry) is = absurd is
round_step w t (TakeTurn by Sync) is = is
round_step w t (TakeTurn by (Flush u)) is = absurd is
round_step w t (GiveTurn by Sync) is = is
round_step w t (GiveTurn by (Flush u)) is = absurd is
round_step w t (Put by Synced value) is = is
round_step w t (Put by Stopped value) is = is
round_step w t (Put by (OldestLive u) value) is = absurd is
round_step w t (Register by o g) is = absurd is
round_step w t (Close by o g carried) is = absurd is
round_step w t (Switch by u m part) is = absurd is
round_step w t (Raise by u m to) is = absurd is
round_step w t (Finalise by u m) is = absurd is

pub round_all : (w t : ℕ) (ts : List OwnStep) → AreRoundSteps w ts → AreFlushSteps w t ts
round_all w t [] A = tt
round_all w t (s ∷ ts) A = (round_step w t s.event A.0, round_all w t ts A.1)

abbrev pub of_round : {t n : ℕ} (w : ℕ) (puts : List Event) (v after : View)
    → RoundSteps w n puts v after → FlushSteps w t n v after
of_round {t} w puts v after S = record {
  steps = S.steps;
  trail = S.trail;
  are = round_all w t S.steps S.are;
  issues = S.issues;
  returned = S.returned;
  size = S.size;
}

-- ---- how many barriers were issued

-- the same steps, where more may be of that kind
abbrev pub at_most : {t a b : ℕ} (w : ℕ) (v after : View) → a ≤ b → FlushSteps w t a v after
    → FlushSteps w t b v after
at_most w v after up S = record {
  steps = S.steps;
  trail = S.trail;
  are = S.are;
  issues = (let few = S.issues in omega (arith, few, up));
  returned = S.returned;
  size = S.size;
}

pub issued_by : {t n : ℕ} (w : ℕ) (v after : View) → FlushSteps w t n v after
    → issued_in after.trail ≤ n + issued_in v.trail
issued_by w v after S = let all = ap issued_in S.trail in
    let both = issued_both S.steps v.trail in let few = S.issues in omega (arith, all, both, few)
