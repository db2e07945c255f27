-- What stands in front of a first section brings it, with the section's entries behind it.
use Rattle.std.proofs.Common.{◌≡◌, ◌+◌, ◌++◌, ◌∙◌, ℕ, List, append_assoc, ap, sym, subst}
use Rattle.std.specs.Prelude.{Result, Ok, Err, IfOk}
use Rattle.clog_spec.specs.Segment.{header_bytes, marker_bytes}
use Rattle.clog_spec.specs.Sizes.{header_size, marker_size}
use Rattle.clog_segments.specs.NoteSections.{IsFrontOf}

pub first_is : (id long : ℕ) (front : List ℕ)
    → front ≡ header_bytes id ++ marker_bytes id header_size (header_size + marker_size + long)
    → IsFrontOf id 0 long front
first_is id long front is entries has =
    let mark = λ (end : ℕ). marker_bytes id header_size (header_size + marker_size + end) in
    ap (λ (l : List ℕ). l ++ entries) is
    ∙ append_assoc (header_bytes id) (mark long) entries
    ∙ ap (λ (end : ℕ). header_bytes id ++ (mark end ++ entries)) (sym has)

pub first_made : {A E : Type 0} (bytes : A → List ℕ) (id size long : ℕ) (result : Result A E)
    → size ≡ 0
    → IfOk result (λ a. bytes a
    ≡ header_bytes id ++ marker_bytes id header_size (header_size + marker_size + long))
    → IfOk result (λ a. IsFrontOf id size long (bytes a))
first_made bytes id size long (Ok a) none is =
    subst (λ (k : ℕ). IsFrontOf id k long (bytes a)) (sym none) (first_is id long (bytes a) is)
first_made bytes id size long (Err e) none is = tt
