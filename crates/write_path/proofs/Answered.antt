-- An answer by cases, with other facts of each.
use Rattle.std.proofs.Common.{Result, Ok, Err}
use Rattle.std.specs.Prelude.{MatchResult}

pub answered : {A B : Type 0} (P P' : A → Type 0) (Q Q' : B → Type 0) (r : Result A B)
    → ((a : A) → P a → P' a) → ((b : B) → Q b → Q' b)
    → MatchResult r P Q → MatchResult r P' Q'
answered P P' Q Q' (Ok a) ok err h = ok a h
answered P P' Q Q' (Err b) ok err h = err b h
