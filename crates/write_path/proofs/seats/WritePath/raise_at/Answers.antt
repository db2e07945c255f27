use Rattle.std.proofs.Common.{ℕ, Option, is_some, refl, ap}
use Rattle.write_path.proofs.TriedOnce.{still_deposited, tried_once}
use Rattle.write_path.proofs.seats.WritePath.raise_at.Goals as goal

pub raise_bound-requires-clause-writer : goal.raise_bound-requires-clause-writer
raise_bound-requires-clause-writer g c = let s = c.args.seat.now in record {
  deposited = ap (λ (o : Option ℕ). is_some o) s.noted;
  trying = c.requires.tried.1;
  start = s.start.0;
  end = s.claims;
}

pub invariant_of-seat : goal.invariant_of-seat
invariant_of-seat g c = let L = c.raise_bound.ensures in
    still_deposited c.args.seat.now L.step L.same.2
    (refl, refl, refl, refl, refl, (λ t b. refl), tt, refl, refl)

pub returns-clause-same : goal.returns-clause-same
returns-clause-same g c = let L = c.raise_bound.ensures in
    tried_once c.requires.table L.same L.step refl refl (refl, refl, refl, refl)
