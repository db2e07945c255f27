use Rattle.std.proofs.Common.{ℕ, Option, false, refl, ap, ◌∙◌}
use Rattle.std.specs.Option.{option_map_or}
use Rattle.path_core.specs.Parts.{touches}
use Rattle.write_path.proofs.TriedOnce.{still_deposited, tried_once}
use Rattle.write_path.proofs.seats.WritePath.oldest.Goals as goal

pub invariant_of-seat : goal.invariant_of-seat
invariant_of-seat g c = let L = c.look_oldest_live.ensures in
    still_deposited c.args.seat.now L.step L.same.2
    (refl, refl, refl, refl, refl, (λ t b. refl), tt, refl, refl)

pub returns-clause-same : goal.returns-clause-same
returns-clause-same g c = let L = c.look_oldest_live.ensures in
    tried_once c.requires.table L.same L.step refl refl (refl, refl, refl, refl)

pub returns-clause-tries : goal.returns-clause-tries
returns-clause-tries g c =
    let s = c.args.seat.now in let t = c.args.table.0 in
    λ touched none. c.look_oldest_live.ensures.tries
    (ap (λ (o : Option ℕ). option_map_or (λ (tables : ℕ). touches tables t) o false) s.noted
    ∙ touched) none
