-- Notes in the order of their ends, parted at a key.
use Rattle.std.proofs.Common.{
  ℕ,
  ◌+◌,
  ◌<◌,
  ◌≤◌,
  List,
  length,
  take,
  drop,
  length-drop,
  get_or,
  sym,
  ap,
  ◌∙◌,
  subst,
  arith,
  take-append-drop,
}
use Rattle.std.specs.List.Sorted.{IsPermutation, IsNonDecreasingBy}
use Rattle.std.proofs.lemmas.List.{length-take, get_or-take, get_or-drop}
use Rattle.std.proofs.lemmas.List.Sorted.{IsNonDecreasingBy-take}
use Rattle.path_core.specs.declared.note.EntryNote.{EntryNote}
use Rattle.path_core.specs.Keeper.{IsParted}

pub parted : (upto count : ℕ) (pending notes : List EntryNote) → IsPermutation pending notes
    → IsNonDecreasingBy (λ (n : EntryNote). n.end.0) notes → count ≤ length notes
    → ((k : ℕ) (d : EntryNote) → k < count → (get_or notes k d).end.0 ≤ upto)
    → ((k : ℕ) (d : EntryNote) → count ≤ k → k < length notes → upto < (get_or notes k d).end.0)
    → IsParted upto pending (take count notes) (drop count notes)
parted upto count pending notes same order inside low high = record {
  all = subst (IsPermutation pending) (sym (take-append-drop count notes)) same;
  low = λ n h.
      let long = length-take count notes in
      let l = h.1 in
      let is = ap (λ (m : EntryNote). m.end.0)
      (sym (get_or-take count notes h.0 n (omega arith)) ∙ h.2) in
      let b = low h.0 n (omega arith) in
      omega arith;
  high = λ n h.
      let long = length-drop count notes in
      let l = h.1 in
      let is = ap (λ (m : EntryNote). m.end.0) (sym (get_or-drop count notes h.0 n) ∙ h.2) in
      let b = high (count + h.0) n (omega arith) (omega arith) in
      omega arith;
  in_order = λ i j d l h. IsNonDecreasingBy-take (λ (n : EntryNote). n.end.0) count notes order
      i j d (omega arith) h;
}
