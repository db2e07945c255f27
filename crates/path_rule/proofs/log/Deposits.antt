-- A note that a seat deposited, as its steps tell, is one of the notes of the state that they led
-- to.
use Rattle.std.proofs.Common.{
  ◌≡◌,
  ℕ,
  ◌==◌,
  cond,
  Bool,
  true,
  false,
  List,
  [],
  ◌∷◌,
  ◌++◌,
  map,
  subst,
  ⊎_elim,
}
use Rattle.std.specs.List.{Contains}
use Rattle.std.specs.Prelude.{◌⊎◌}
use mathlib.Core.Logic.{inl, inr}
use Rattle.op_core.specs.declared.count.Order.TheVariants.{Write, Append}
use Rattle.path_core.specs.declared.event.Carried.TheVariants.{Nothing, Deposit, Applied}
use Rattle.path_core.specs.declared.event.Event.{Event}
use Rattle.path_core.specs.declared.event.Event.TheVariants.{Close}
use Rattle.path_core.specs.declared.note.EntryNote.{EntryNote}
use Rattle.path_core.specs.declared.state.PathState.{PathState}
use Rattle.path_core.specs.Next.{next_of}
use Rattle.path_core.specs.Runs.{Past}
use Rattle.path_core.specs.Words.{by_of}
use Rattle.path_core.proofs.lists.Inserted.{insert_new}
use Rattle.path_core.proofs.log.OwnNotes.{notes_stay}
use Rattle.path_rule.specs.declared.view.OwnStep.{OwnStep}
use Rattle.path_rule.specs.Applying.{DepositsBy, HasDeposited}
use Rattle.path_rule.specs.Rule.{event_of, steps_by}

-- further steps leave it
pub still_deposited : (n : EntryNote) (steps before : List OwnStep) → HasDeposited n before
    → HasDeposited n (steps ++ before)
still_deposited n [] before h = h
still_deposited n (t ∷ ts) before h = inr (still_deposited n ts before h)

-- the same of a list of events
abbrev DepositedIn : EntryNote → List Event → Type 0
DepositedIn n [] = ⊥
DepositedIn n (e ∷ es) = DepositsBy n e ⊎ DepositedIn n es

in_events : (n : EntryNote) (ts : List OwnStep) → HasDeposited n ts
    → DepositedIn n (map event_of ts)
in_events n [] h = h
in_events n (t ∷ ts) h = ⊎_elim (λ here. inl here) (λ more. inr (in_events n ts more)) h

by_all : (n : EntryNote) (w : ℕ) (es : List Event) → DepositedIn n (steps_by w es)
    → DepositedIn n es
by_all n w [] h = h
by_all n w (e ∷ es) h = choose (by_of e == w) (by_all n w es) h
  where
    choose : (b : Bool) → (DepositedIn n (steps_by w es) → DepositedIn n es)
        → DepositedIn n (cond b (e ∷ steps_by w es) (steps_by w es)) → DepositedIn n (e ∷ es)
    choose true rest h = ⊎_elim (λ here. inl here) (λ more. inr (rest more)) h
    choose false rest h = inr (rest h)

-- a deposit's note is among the notes then
now_noted : (x : PathState) (n : EntryNote) (e : Event) → DepositsBy n e
    → Contains (next_of x e).notes n
now_noted x n (Close by Append g (Deposit note)) is =
    subst (λ k. Contains (next_of x (Close by Append g (Deposit note))).notes k) is
    (insert_new x.notes _ note)
now_noted x n (Close by Write g (Deposit note)) is =
    subst (λ k. Contains (next_of x (Close by Write g (Deposit note))).notes k) is
    (insert_new x.notes _ note)
now_noted x n (Close by o g Nothing) is = absurd is
now_noted x n (Close by o g (Applied places)) is = absurd is
now_noted x n e is = absurd is

all_noted : (start : PathState) (es : List Event) (x : PathState) (n : EntryNote)
    → Past start es x → DepositedIn n es → Contains x.notes n
all_noted start [] x n past h = absurd h
all_noted start (e ∷ es) x n past h =
    subst (λ (y : PathState). Contains y.notes n) past.4
    (⊎_elim (λ here. now_noted past.0 n e here)
    (λ more. notes_stay past.0 e n (all_noted start es past.0 n past.1 more)) h)

-- So what a seat deposited is noted.
pub deposited_noted : (start : PathState) (es : List Event) (x : PathState) → Past start es x
    → (w : ℕ) (trail : List OwnStep) → map event_of trail ≡ steps_by w es → (n : EntryNote)
    → HasDeposited n trail → Contains x.notes n
deposited_noted start es x past w trail mine n h = all_noted start es x n past
    (by_all n w es (subst (DepositedIn n) mine (in_events n trail h)))
