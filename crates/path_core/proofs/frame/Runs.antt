-- A run keeps the sizes.
use Rattle.std.proofs.Common.{List, [], ◌∷◌, length, sym, ap, ◌∙◌}
use Rattle.path_core.specs.declared.event.Event.{Event}
use Rattle.path_core.specs.declared.state.PathState.{PathState}
use Rattle.path_core.specs.Frame.{SameSizes}
use Rattle.path_core.specs.Runs.{Past}
use Rattle.path_core.proofs.runs.Sizes.{as_many_tables, as_many_seats}

pub past_sizes : (es : List Event) (x y : PathState) → Past x es y → SameSizes x y
past_sizes [] x y p = record {
  base = ap (λ (z : PathState). z.base) (sym p);
  capacity = ap (λ (z : PathState). z.capacity) (sym p);
  ordinals = ap (λ (z : PathState). z.ordinals) (sym p);
  tables = ap (λ (z : PathState). length z.tables) (sym p);
  seats = ap (λ (z : PathState). length z.seats) (sym p);
}
past_sizes (e ∷ es) x y p =
    let before = past_sizes es x p.0 p.1 in
    record {
      base = ap (λ (z : PathState). z.base) (sym p.4) ∙ before.base;
      capacity = ap (λ (z : PathState). z.capacity) (sym p.4) ∙ before.capacity;
      ordinals = ap (λ (z : PathState). z.ordinals) (sym p.4) ∙ before.ordinals;
      tables = ap (λ (z : PathState). length z.tables) (sym p.4)
          ∙ (as_many_tables p.0 e ∙ before.tables);
      seats = ap (λ (z : PathState). length z.seats) (sym p.4)
          ∙ (as_many_seats p.0 e ∙ before.seats);
    }
