use Rattle.std.proofs.Common.{◌∙◌, ◌++◌, List, ℕ, ap₂}
use Rattle.clog_store.proofs.next.first_front.Goals as goal

pub returns : goal.returns
returns c =
    c.in_ok-extend_from_slice-2.ensures.items
    ∙ ap₂ (λ (x y : List ℕ). x ++ y)
    (c.in_ok-extend_from_slice.ensures.items
    ∙ ap₂ (λ (x y : List ℕ). x ++ y) c.in_ok-front.ensures.items c.write_header.ensures)
    c.write_marker.ensures
