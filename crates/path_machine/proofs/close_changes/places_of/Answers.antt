use Rattle.std.proofs.Common.{◌<◌, ◌++◌, ◌∷◌, [], length, sym, ap, ◌∙◌, Vec, Global, arith}
use Rattle.path_core.specs.declared.state.Placed.{Placed}
use Rattle.path_machine.proofs.steps.SeatPlaces.{placed_at, places_from-more, places_from-same}
use Rattle.path_machine.proofs.close_changes.places_of.Goals as goal
use Rattle.path_machine.proofs.close_changes.places_of.Goals.{in-Some+in_ok-push, in_default}

pub loop-i-preserved : goal.loop-i-preserved
loop-i-preserved c =
    let inside : c.loop-i.i < length c.args.tables.now = omega arith in
    elim c.match-tables-i.branch [
      | in-Some+in_ok-push w ↦ ap (λ (v : Vec Placed Global). v.items) w.places-is
          ∙ (w.in_ok-push.ensures.items
          ∙ (ap (λ l. l ++ placed_at c.loop-i.i c.args.entry w.in-Some.memtable ∷ [])
          c.loop-i.invariant
          ∙ sym (places_from-more c.args.entry c.args.tables.now c.loop-i.i _
          w.in-Some.memtable inside w.in-Some.is)))
      | in_default w ↦ ap (λ (v : Vec Placed Global). v.items) w.places-is
          ∙ (c.loop-i.invariant
          ∙ sym (places_from-same c.args.entry c.args.tables.now c.loop-i.i _ inside
          w.in_default.is))
    ]
