-- Options: what is mapped is there where it was, and what is absent is not there.
use Rattle.std.proofs.Common.{◌≡◌, Option, Some, None, is_some, refl, sym, ap, ◌∙◌}
use Rattle.std.specs.Option.{option_map, IsSome}
use Rattle.std.proofs.lemmas.Bool.{false≢true}

pub still_some : {A B : Type 0} (o : Option A) (f : A → B) → is_some (option_map f o) ≡ is_some o
still_some None f = refl
still_some (Some a) f = refl

pub none_is_not_some : {A : Type 0} {o : Option A} → o ≡ None → IsSome o → ⊥
none_is_not_some none some = false≢true (sym (ap (λ p. is_some p) none) ∙ some)
