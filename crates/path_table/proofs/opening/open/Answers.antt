use Rattle.std.proofs.Common.{◌≡◌, ℕ, List, sym, ap, ◌∙◌, subst}
use Rattle.atomic_table.specs.Table.{opening}
use Rattle.clog_base.specs.declared.sizes.Sizes.{Sizes}
use Rattle.path_rule.specs.declared.lasting.Beside.{Beside}
use Rattle.path_rule.specs.Boxed.{AreFirst}
use Rattle.path_rule.specs.Rule.{opener, Ruled}
use Rattle.path_rule.proofs.seats.Begins.{begins}
use Rattle.path_rule.specs.Lasts.{beside_of, shows_of}
use Rattle.path_table.proofs.opening.open.Goals as goal

pub new-requires : goal.new-requires
new-requires g c = let size = c.args.size in let ys = c.in-Ok-first_boxes.boxes.items in
    let b = c.in-Ok-first_boxes.ensures.boxes in let shows = shows_of g.K.Keeper.holds in
    let o = beside_of (g.K.Keeper.holds c.of.result.value) in
    let N = c.requires.keeper in
    let same : beside_of (g.K.Keeper.holds c.args.keeper) ≡ o =
    ap (λ k. beside_of (g.K.Keeper.holds k)) (sym c.of.ensures) in
    subst (λ (ws : List ℕ). Ruled shows o size (opening ws ys (opener 0 size)))
    (sym (c.as_slice.ensures.value ∙ c.in-Ok.ensures))
    (begins shows o size ys (ap (λ (z : Beside). z.tables) (sym same)
    ∙ (ap (λ (z : Sizes). z.tables) N.1.sizes_are ∙ N.5)) c.requires.fit b.0
    (subst (λ (z : Beside). AreFirst shows z size ys) same b.1))
