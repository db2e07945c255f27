-- The notes of a run are what its steps deposited, and each step is one seat's.
use Rattle.std.proofs.Common.{
  ◌≡◌,
  ℕ,
  ◌+◌,
  ◌<◌,
  ◌==◌,
  cond,
  Bool,
  true,
  false,
  List,
  [],
  ◌∷◌,
  ◌++◌,
  map,
  length,
  refl,
  sym,
  ap,
  ◌∙◌,
  subst,
  arith,
  eq-eqb,
  ne_eqb,
}
use mathlib.Core.Logic.{dite}
use native.Mathlib.Decide.{ℕ_discrete}
use Rattle.std.specs.List.{count_by, flat_map, position_or_len}
use Rattle.std.specs.List.Sorted.{IsPermutation}
use Rattle.std.specs.Prelude.{nat_lt}
use Rattle.std.proofs.lemmas.List.{append_assoc}
use Rattle.std.proofs.lemmas.List.Sorted.{
  IsPermutation-refl,
  IsPermutation-trans,
  IsPermutation-insert,
  IsPermutation-append_left,
  IsPermutation-append_right,
  IsPermutation-append_comm,
}
use Rattle.std.proofs.lemmas.List.Sums.{sum_by-cons}
use Rattle.path_core.specs.declared.event.Carried.TheVariants.{Nothing, Deposit, Applied}
use Rattle.path_core.specs.declared.event.Event.{Event}
use Rattle.path_core.specs.declared.event.Event.TheVariants.{
  Look,
  Register,
  Close,
  OpenGroup,
  MoveCurrent,
  Expire,
  Advance,
  Claim,
  Switch,
  Raise,
  Finalise,
  TakeTurn,
  GiveTurn,
  Put,
}
use Rattle.path_core.specs.declared.note.EntryNote.{EntryNote}
use Rattle.path_core.specs.declared.state.PathState.{PathState}
use Rattle.path_core.specs.Next.{notes_after}
use Rattle.path_core.specs.Runs.{Past}
use Rattle.path_core.specs.Words.{by_of}
use Rattle.path_core.proofs.frame.Runs.{past_sizes}
use Rattle.path_rule.specs.declared.view.OwnStep.{OwnStep}
use Rattle.path_rule.specs.Rule.{event_of, steps_by}
use Rattle.path_flush.specs.OwnWrites.{with_write, writes_of}

-- the note that a step deposits
abbrev pub note_in : Event → List EntryNote
note_in (Close by order group (Deposit note)) = note ∷ []
note_in _ = []

-- those of steps, the newest first
abbrev pub noted : List Event → List EntryNote
noted [] = []
noted (e ∷ es) = note_in e ++ noted es

with_note : (e : Event) (l : List EntryNote) → with_write e l ≡ note_in e ++ l
with_note (Look by at) l = refl
with_note (Register by order group) l = refl
with_note (Close by order group Nothing) l = refl
with_note (Close by order group (Deposit note)) l = refl
with_note (Close by order group (Applied places)) l = refl
with_note (OpenGroup by order group) l = refl
with_note (MoveCurrent by order group) l = refl
with_note (Expire by order group) l = refl
with_note (Advance by order group) l = refl
with_note (Claim by from to what) l = refl
with_note (Switch by table memtable part) l = refl
with_note (Raise by table memtable to) l = refl
with_note (Finalise by table memtable) l = refl
with_note (TakeTurn by turn) l = refl
with_note (GiveTurn by turn) l = refl
with_note (Put by cursor value) l = refl

-- a seat's list is what its steps deposited
pub writes_are : (ts : List OwnStep) → writes_of ts ≡ noted (map event_of ts)
writes_are [] = refl
writes_are (t ∷ ts) = with_note t.event (writes_of ts)
    ∙ ap (λ (l : List EntryNote). note_in t.event ++ l) (writes_are ts)

-- a step's note joins the notes in the order of the log
joins : (e : Event) (l : List EntryNote) → IsPermutation (note_in e ++ l) (notes_after l e)
joins (Look by at) l = IsPermutation-refl l
joins (Register by order group) l = IsPermutation-refl l
joins (Close by order group Nothing) l = IsPermutation-refl l
joins (Close by order group (Deposit note)) l = IsPermutation-insert l
    (position_or_len (λ (n : EntryNote). nat_lt note.start.0 n.start.0) l) note
joins (Close by order group (Applied places)) l = IsPermutation-refl l
joins (OpenGroup by order group) l = IsPermutation-refl l
joins (MoveCurrent by order group) l = IsPermutation-refl l
joins (Expire by order group) l = IsPermutation-refl l
joins (Advance by order group) l = IsPermutation-refl l
joins (Claim by from to what) l = IsPermutation-refl l
joins (Switch by table memtable part) l = IsPermutation-refl l
joins (Raise by table memtable to) l = IsPermutation-refl l
joins (Finalise by table memtable) l = IsPermutation-refl l
joins (TakeTurn by turn) l = IsPermutation-refl l
joins (GiveTurn by turn) l = IsPermutation-refl l
joins (Put by cursor value) l = IsPermutation-refl l

pub run_notes : (es : List Event) (x y : PathState) → x.notes ≡ [] → Past x es y
    → IsPermutation (noted es) y.notes
run_notes [] x y none_yet p = subst (IsPermutation [])
    (sym none_yet ∙ ap (λ (s : PathState). s.notes) p) (IsPermutation-refl [])
run_notes (e ∷ es) x y none_yet p = let z : PathState = p.0 in
    subst (IsPermutation (note_in e ++ noted es)) (ap (λ (s : PathState). s.notes) p.4)
    (IsPermutation-trans (note_in e ++ noted es) (note_in e ++ z.notes) (notes_after z.notes e)
    (IsPermutation-append_right (note_in e) (noted es) z.notes (run_notes es x z none_yet p.1))
    (joins e z.notes))

-- what the seats of these numbers deposited
abbrev pub by_all : List ℕ → List Event → List EntryNote
by_all ws es = flat_map (λ (w : ℕ). noted (steps_by w es)) ws

by_none : (ws : List ℕ) → by_all ws [] ≡ []
by_none [] = refl
by_none (w ∷ ws) = by_none ws

module _ (e : Event) (es : List Event) where
  abbrev is_by : ℕ → Bool
  is_by w = by_of e == w

  steps_as : (w : ℕ) (b : Bool) → is_by w ≡ b
      → noted (steps_by w (e ∷ es)) ≡ cond b (note_in e ++ noted (steps_by w es))
      (noted (steps_by w es))
  steps_as w true q = ap (λ (b : Bool). noted (cond b (e ∷ steps_by w es) (steps_by w es))) q
  steps_as w false q = ap (λ (b : Bool). noted (cond b (e ∷ steps_by w es) (steps_by w es))) q

  count_as : (w : ℕ) (ws : List ℕ) (b : Bool) → is_by w ≡ b
      → count_by is_by (w ∷ ws) ≡ cond b 1 0 + count_by is_by ws
  count_as w ws b q = sum_by-cons (λ (z : ℕ). cond (is_by z) 1 0) w ws
      ∙ ap (λ (c : Bool). cond {A = ℕ} c 1 0 + count_by is_by ws) q

  none_there : (ws : List ℕ) → count_by is_by ws ≡ 0 → by_all ws (e ∷ es) ≡ by_all ws es
  none_there [] n = refl
  none_there (w ∷ ws) n = dite (ℕ_discrete (by_of e) w)
      (λ same. absurd (let c = count_as w ws true (eq-eqb (by_of e) w same) in omega arith))
      (λ far. let q = ne_eqb (by_of e) w far in let c = count_as w ws false q in
      λ i. steps_as w false q i ++ none_there ws (omega arith) i)

  swapped : (a b c : List EntryNote) → IsPermutation (a ++ (b ++ c)) (b ++ (a ++ c))
  swapped a b c = subst (λ (l : List EntryNote). IsPermutation l (b ++ (a ++ c)))
      (append_assoc a b c)
      (subst (IsPermutation ((a ++ b) ++ c)) (append_assoc b a c)
      (IsPermutation-append_left c (a ++ b) (b ++ a) (IsPermutation-append_comm a b)))

  -- its maker's list has one note more, where its number is there once
  once : (ws : List ℕ) → count_by is_by ws ≡ 1
      → IsPermutation (note_in e ++ by_all ws es) (by_all ws (e ∷ es))
  once [] n = absurd (omega arith)
  once (w ∷ ws) n = let own : List EntryNote = noted (steps_by w es) in
      dite (ℕ_discrete (by_of e) w)
      (λ same. let q = eq-eqb (by_of e) w same in let c = count_as w ws true q in
      subst (IsPermutation (note_in e ++ (own ++ by_all ws es)))
      (sym (append_assoc (note_in e) own (by_all ws es)) ∙ (λ i.
      sym (steps_as w true q) i ++ sym (none_there ws (omega arith)) i))
      (IsPermutation-refl (note_in e ++ (own ++ by_all ws es))))
      (λ far. let q = ne_eqb (by_of e) w far in let c = count_as w ws false q in
      IsPermutation-trans (note_in e ++ (own ++ by_all ws es))
      (own ++ (note_in e ++ by_all ws es))
      (noted (steps_by w (e ∷ es)) ++ by_all ws (e ∷ es))
      (swapped (note_in e) own (by_all ws es))
      (subst (λ (l : List EntryNote). IsPermutation (own ++ (note_in e ++ by_all ws es))
      (l ++ by_all ws (e ∷ es))) (sym (steps_as w false q))
      (IsPermutation-append_right own (note_in e ++ by_all ws es) (by_all ws (e ∷ es))
      (once ws (omega arith)))))

-- what all seats deposited is what was deposited
pub all_noted : (ws : List ℕ) (es : List Event) (x y : PathState) → Past x es y
    → ((w : ℕ) → w < length x.seats → count_by (λ (z : ℕ). w == z) ws ≡ 1)
    → IsPermutation (noted es) (by_all ws es)
all_noted ws [] x y p each = subst (IsPermutation []) (sym (by_none ws)) (IsPermutation-refl [])
all_noted ws (e ∷ es) x y p each =
    let s = p.3.seat in let m = (past_sizes es x p.0 p.1).seats in
    IsPermutation-trans (note_in e ++ noted es) (note_in e ++ by_all ws es) (by_all ws (e ∷ es))
    (IsPermutation-append_right (note_in e) (noted es) (by_all ws es)
    (all_noted ws es x p.0 p.1 each)) (once e es ws (each (by_of e) (omega arith)))
