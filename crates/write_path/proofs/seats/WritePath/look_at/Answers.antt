use Rattle.std.proofs.Common.{refl}
use Rattle.write_path.proofs.Trying.{end_of}
use Rattle.write_path.proofs.TriedOnce.{still_deposited, tried_once}
use Rattle.write_path.proofs.seats.WritePath.look_at.Goals as goal

pub look_bound-requires-clause-known : goal.look_bound-requires-clause-known
look_bound-requires-clause-known g c = (c.requires.tried.0, c.requires.tried.1)

pub invariant_of-seat : goal.invariant_of-seat
invariant_of-seat g c = let L = c.look_bound.ensures in
    still_deposited c.args.seat.now L.step L.same.2
    (refl, refl, refl, refl, refl, (λ t b. refl), tt, refl, refl)

pub returns-clause-same : goal.returns-clause-same
returns-clause-same g c = let L = c.look_bound.ensures in
    tried_once c.requires.table L.same L.step refl refl (refl, refl, refl, refl)

pub returns-clause-tries : goal.returns-clause-tries
returns-clause-tries g c = let s = c.args.seat.now in
    c.look_bound.ensures.tries s.end.0
    (end_of s.member.seat.me.0.part s.tables s.start.0 s.end.0 s.noted s.claims)
    c.requires.tried.1

pub returns-clause-small : goal.returns-clause-small
returns-clause-small g c = let s = c.args.seat.now in
    c.look_bound.ensures.small s.end.0
    (end_of s.member.seat.me.0.part s.tables s.start.0 s.end.0 s.noted s.claims)
