-- Two texts that go to a sink one behind the other go as one.
use Rattle.std.proofs.Common.{
  ◌≡◌,
  ℕ,
  ◌+◌,
  ◌-◌,
  List,
  ◌++◌,
  length,
  take,
  Option,
  Some,
  None,
  Result,
  Ok,
  Err,
  ap,
  ◌∙◌,
  sym,
  arith,
  append_assoc,
}
use Rattle.std.proofs.Math.Seq.{take-append-add}
use Rattle.std.proofs.lemmas.List.{length-append}
use Rattle.std.specs.Io.KnownBytes.{Appends}
use Rattle.std.specs.Prelude.{OnErr}
use Rattle.clog_io.specs.Bytes.{AppendsPrefix}

-- behind the whole of the first a part of the second is one of both
pub part_of_rows : (held between now : Option (List ℕ)) (head rows : List ℕ)
    → Appends held between head → AppendsPrefix between now rows
    → AppendsPrefix held now (head ++ rows)
part_of_rows None between now head rows first part = tt
part_of_rows (Some xs) None now head rows first part = absurd first
part_of_rows (Some xs) (Some ys) None head rows first part = absurd part
part_of_rows (Some xs) (Some ys) (Some zs) head rows first part =
    let k : ℕ = length zs - length ys in
    let long : length zs - length xs ≡ length head + k = omega (
      arith,
      ap length first,
      length-append xs head,
      ap length part,
      length-append ys (take k rows),
    ) in
    part
    ∙ ap (λ (l : List ℕ). l ++ take k rows) first
    ∙ append_assoc xs head (take k rows)
    ∙ ap (λ (l : List ℕ). xs ++ l) (sym (take-append-add head rows k))
    ∙ ap (λ (n : ℕ). xs ++ take n (head ++ rows)) (sym long)

-- where the second is refused
pub part_on : {T E : Type 0} (r : Result T E) (held between now : Option (List ℕ))
    (head rows : List ℕ) → Appends held between head → OnErr r (AppendsPrefix between now rows)
    → OnErr r (AppendsPrefix held now (head ++ rows))
part_on (Ok x) held between now head rows first part = tt
part_on (Err e) held between now head rows first part =
    part_of_rows held between now head rows first part
