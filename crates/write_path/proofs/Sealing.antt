-- What a seat finds while a write is its last stays so told, and a sync behind a write finds it so.
use Rattle.std.proofs.Common.{ℕ, List, [], ◌∷◌, ◌++◌, map, refl, sym, ap, ◌∙◌, subst, ⊎_elim}
use Rattle.std.proofs.lemmas.List.{append_assoc}
use Rattle.path_core.specs.declared.event.ClaimKind.TheVariants.{Entry, Marker}
use Rattle.path_core.specs.declared.event.Event.{Event}
use Rattle.path_core.specs.declared.event.Event.TheVariants.{Look, Register, Close, OpenGroup}
use Rattle.path_core.specs.declared.event.Event.TheVariants.{MoveCurrent, Expire, Advance, Claim}
use Rattle.path_core.specs.declared.event.Event.TheVariants.{Switch, Raise, Finalise, TakeTurn}
use Rattle.path_core.specs.declared.event.Event.TheVariants.{GiveTurn, Put}
use Rattle.path_core.specs.declared.event.Place.{Place}
use Rattle.path_core.specs.declared.note.EntryNote.{EntryNote}
use Rattle.path_rule.specs.declared.view.OwnStep.{OwnStep}
use Rattle.path_rule.specs.declared.view.View.{View}
use Rattle.path_rule.specs.Finds.{Finds}
use Rattle.path_rule.specs.Rounds.{IsRoundStep, AreRoundSteps, RoundSteps}
use Rattle.path_rule.specs.Rule.{event_of}
use Rattle.path_table.specs.declared.table.Member.{Member}
use Rattle.write_path.specs.declared.deposited.Deposited.{Deposited}
use Rattle.write_path.specs.Ends.{LastBy, IsLast, IsTry, AreTries, EndsWrite}
use Rattle.write_path.specs.Sealed.{FoundWhileLast, IsSealed}

-- ---- the seat's last write stays so

-- a step of barriers and syncs logs nothing, and claims no entry
round_keeps : (w : ℕ) (n : EntryNote) (e : Event) (T : Type 0) → IsRoundStep w e → T → LastBy n e T
round_keeps w n (Look by at) T is last = last
round_keeps w n (OpenGroup by o g) T is last = last
round_keeps w n (MoveCurrent by o g) T is last = last
round_keeps w n (Expire by o g) T is last = last
round_keeps w n (Advance by o g) T is last = last
round_keeps w n (Claim by from to Marker) T is last = last
round_keeps w n (TakeTurn by turn) T is last = last
round_keeps w n (GiveTurn by turn) T is last = last
round_keeps w n (Put by cursor value) T is last = last
round_keeps w n (Claim by from to Entry) T is last = absurd is
round_keeps w n (Register by o g) T is last = absurd is
round_keeps w n (Close by o g carried) T is last = absurd is
round_keeps w n (Switch by t m part) T is last = absurd is
round_keeps w n (Raise by t m to) T is last = absurd is
round_keeps w n (Finalise by t m) T is last = absurd is

pub rounds_keep : (w : ℕ) (n : EntryNote) (ts us : List OwnStep) → AreRoundSteps w ts
    → IsLast n (map event_of us) → IsLast n (map event_of (ts ++ us))
rounds_keep w n [] us A last = last
rounds_keep w n (t ∷ ts) us A last = round_keeps w n t.event
    (IsLast n (map event_of (ts ++ us))) A.0 (rounds_keep w n ts us A.1 last)

-- nor does a try at a memtable
try_keeps : (w : ℕ) (n : EntryNote) (e : Event) (T : Type 0) → IsTry w e → T → LastBy n e T
try_keeps w n (Look by at) T is last = last
try_keeps w n (OpenGroup by o g) T is last = absurd is
try_keeps w n (MoveCurrent by o g) T is last = absurd is
try_keeps w n (Expire by o g) T is last = absurd is
try_keeps w n (Advance by o g) T is last = absurd is
try_keeps w n (Claim by from to what) T is last = absurd is
try_keeps w n (TakeTurn by turn) T is last = absurd is
try_keeps w n (GiveTurn by turn) T is last = absurd is
try_keeps w n (Put by cursor value) T is last = absurd is
try_keeps w n (Register by o g) T is last = absurd is
try_keeps w n (Close by o g carried) T is last = absurd is
try_keeps w n (Switch by t m part) T is last = absurd is
try_keeps w n (Raise by t m to) T is last = last
try_keeps w n (Finalise by t m) T is last = absurd is

pub tries_keep : (w : ℕ) (n : EntryNote) (ts us : List OwnStep) → AreTries w ts
    → IsLast n (map event_of us) → IsLast n (map event_of (ts ++ us))
tries_keep w n [] us A last = last
tries_keep w n (t ∷ ts) us A last = try_keeps w n t.event
    (IsLast n (map event_of (ts ++ us))) A.0 (tries_keep w n ts us A.1 last)

-- so a write stays the last until it ends
pub ends_last : {K : Type 0} (n : EntryNote) (s : Deposited K) (after : Member K)
    → EndsWrite s after → IsLast n (map event_of s.member.seat.me.0.trail)
    → IsLast n (map event_of after.seat.me.0.trail)
ends_last n s after E last = subst (λ (v : View). IsLast n (map event_of v.trail))
    (sym E.did.view) (subst (λ l. IsLast n (map event_of l)) (sym E.tried.trail)
    (tries_keep s.member.number n E.tried.tries s.member.seat.me.0.trail E.tried.are last))

-- ---- what was found while it was

pub still_found : (n : EntryNote) (at : Place) (value : ℕ) (newer trail : List OwnStep)
    → FoundWhileLast n at value trail → FoundWhileLast n at value (newer ++ trail)
still_found n at value newer trail F = record {
  later = newer ++ F.later;
  step = F.step;
  before = F.before;
  cut = ap (λ l. newer ++ l) F.cut ∙ sym (append_assoc newer F.later (F.step ∷ F.before));
  last = F.last;
  found = F.found;
}

pub still_sealed : (n : EntryNote) (newer trail : List OwnStep) → IsSealed n trail
    → IsSealed n (newer ++ trail)
still_sealed n newer trail S = (S.0, S.1, still_found n _ S.0 newer trail S.2)

pub found_behind : (w : ℕ) (n : EntryNote) (at : Place) (value : ℕ) (ts us : List OwnStep)
    → AreRoundSteps w ts → IsLast n (map event_of us) → Finds at value ts
    → FoundWhileLast n at value (ts ++ us)
found_behind w n at value [] us A last F = absurd F
found_behind w n at value (t ∷ ts) us A last F = ⊎_elim
    (λ now. record {
      later = [];
      step = t;
      before = ts ++ us;
      cut = refl;
      last = rounds_keep w n ts us A.1 last;
      found = now;
    })
    (λ older. still_found n at value (t ∷ []) (ts ++ us)
    (found_behind w n at value ts us A.1 last older)) F

-- The same over the views before the steps and behind them.
module _ {k : ℕ} (w : ℕ) (n : EntryNote) (puts : List Event) (v after : View)
    (S : RoundSteps w k puts v after) (last : IsLast n (map event_of v.trail)) where
  pub stays_last : IsLast n (map event_of after.trail)
  stays_last = subst (λ l. IsLast n (map event_of l)) (sym S.trail)
      (rounds_keep w n S.steps v.trail S.are last)

  pub found_in : (at : Place) (value : ℕ) → Finds at value S.steps
      → FoundWhileLast n at value after.trail
  found_in at value F = subst (λ l. FoundWhileLast n at value l) (sym S.trail)
      (found_behind w n at value S.steps v.trail S.are last F)
