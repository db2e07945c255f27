-- A seat's list ends below a key where its deposits do.
use Rattle.std.proofs.Common.{ℕ, zero, suc, ◌≤◌, List, [], ◌∷◌, subst, arith}
use Rattle.std.specs.List.{Contains}
use Rattle.path_core.specs.declared.event.Carried.TheVariants.{Nothing, Deposit, Applied}
use Rattle.path_core.specs.declared.event.Event.{Event}
use Rattle.path_core.specs.declared.event.Event.TheVariants.{
  Look,
  Register,
  Close,
  OpenGroup,
  MoveCurrent,
  Expire,
  Advance,
  Claim,
  Switch,
  Raise,
  Finalise,
  TakeTurn,
  GiveTurn,
  Put,
}
use Rattle.path_core.specs.declared.note.EntryNote.{EntryNote}
use Rattle.path_rule.specs.declared.view.OwnStep.{OwnStep}
use Rattle.path_rule.specs.Rounds.{EndsBelow, WroteBelow}
use Rattle.path_flush.specs.OwnWrites.{with_write, writes_of}

abbrev AllTo : ℕ → List EntryNote → Type 0
AllTo s l = (n : EntryNote) → Contains l n → n.end.0 ≤ s

one_more : (s : ℕ) (e : Event) (l : List EntryNote) → EndsBelow s e → AllTo s l
    → AllTo s (with_write e l)
one_more s (Close by o g (Deposit note)) l B A = λ n h. found n h
  where
    found : (n : EntryNote) → Contains (note ∷ l) n → n.end.0 ≤ s
    found n (zero, inside, is) = subst (λ (m : EntryNote). m.end.0 ≤ s) is B
    found n (suc i, inside, is) = A n (i, omega arith, is)
one_more s (Close by o g Nothing) l B A = A
one_more s (Close by o g (Applied places)) l B A = A
one_more s (Look by at) l B A = A
one_more s (Register by o g) l B A = A
one_more s (OpenGroup by o g) l B A = A
one_more s (MoveCurrent by o g) l B A = A
one_more s (Expire by o g) l B A = A
one_more s (Advance by o g) l B A = A
one_more s (Claim by from to what) l B A = A
one_more s (Switch by t m part) l B A = A
one_more s (Raise by t m to) l B A = A
one_more s (Finalise by t m) l B A = A
one_more s (TakeTurn by turn) l B A = A
one_more s (GiveTurn by turn) l B A = A
one_more s (Put by cursor value) l B A = A

pub list_below : (s : ℕ) (ts : List OwnStep) → WroteBelow s ts → AllTo s (writes_of ts)
list_below s [] B = λ n h. absurd (let inside = h.1 in omega arith)
list_below s (t ∷ ts) B = one_more s t.event (writes_of ts) B.0 (list_below s ts B.1)
