use Rattle.std.proofs.Common.{◌≡◌, ◌++◌, ℕ, ◌∷◌, List, map, reverse, sym, ap, ◌∙◌, subst, arith}
use Rattle.std.specs.List.{All, Contains}
use Rattle.std.proofs.lemmas.Bool.{false≢true}
use Rattle.std.proofs.lemmas.List.{length-map}
use lib.ListN.{get_elem?}
use Rattle.path_core.specs.Parts.{seat_of}
use Rattle.path_rule.specs.declared.view.Returned.{Returned}
use Rattle.path_rule.specs.Rule.{event_of, steps_by}
use Rattle.path_rule.specs.Trails.{TrailTells}
use Rattle.path_table.specs.declared.trying.PathSeat.{PathSeat}
use Rattle.path_table.specs.Members.{view_of, returned_of}
use Rattle.write_path.specs.Closed.{returned_by}
use Rattle.write_path.specs.Opened.{numbers_of}
use Rattle.write_path.proofs.Accounted.{each_there, has_all, all_own, told_of}
use Rattle.write_path.proofs.closing.close_by_all.Goals as goal

pub finish-requires-clause-all : goal.finish-requires-clause-all
finish-requires-clause-all g c z below = let s = c.in-Some.field-0 in
    let j = c.join_all-member.ensures in let first = (view_of s.member).returned in
    let h = has_all first c.pop.new.self.items s z
    (subst (λ (l : List (PathSeat g.row.K.Denot)). Contains (numbers_of l) z)
    c.in-Some.ensures.items (each_there c.args.table.size.seats (numbers_of c.args.seats.items)
    c.requires.all z below)) in
    subst (λ (q : ℕ × List Returned). told_of q.0 q.1 z)
    (λ i. (sym j.same.1 i, sym j.returned i)) h

pub unreachable-requires : goal.unreachable-requires
unreachable-requires g c = let t = c.args.table in let items = c.args.seats.items in
    let some_writer = t.fits.some_writer in
    let h = each_there t.size.seats (numbers_of items) c.requires.all 0 (omega arith) in
    let long = length-map items (λ (p : PathSeat g.row.K.Denot). p.member.number) in
    let l = h.1 in
    false≢true (c.in-None.ensures.variant.1 (omega arith))

pub returns : goal.returns
returns g c = let s = c.in-Some.field-0 in let j = c.join_all-member.ensures in
    let e = c.finish.ensures.0 in let first = (view_of s.member).returned in
    let xs = c.pop.new.self.items in
    let Q : Returned → Type 0 = λ b. map event_of b.trail ≡ steps_by b.number e.events in
    let S : Returned → Type 0 = λ b. b.part ≡ seat_of e.core b.number in
    let R : Returned → Type 0 = λ b. TrailTells c.args.table.size.capacity e.core b.trail in
    let same : returned_of c.join_all-member.result ∷ (view_of c.join_all-member.result).returned
    ≡ returned_of s.member ∷ (first ++ returned_by (reverse xs)) =
    λ i. record { number = j.same.1 i; part = j.same.3 i; trail = j.same.2 i } ∷ j.returned i in (
      record {
        returned = returned_of c.join_all-member.result
            ∷ (view_of c.join_all-member.result).returned;
        ended = e;
        own = subst (λ (l : List (PathSeat g.row.K.Denot)).
            All (λ (p : PathSeat g.row.K.Denot). Q (returned_of p.member)) l)
            (sym c.in-Some.ensures.items)
            (all_own Q first xs s (λ n b q. (e.each n b
            (ap (λ (l : List Returned). get_elem? l n) same ∙ q)).1));
        tell = subst (λ (l : List (PathSeat g.row.K.Denot)).
            All (λ (p : PathSeat g.row.K.Denot). R (returned_of p.member)) l)
            (sym c.in-Some.ensures.items)
            (all_own R first xs s (λ n b q. (e.each n b
            (ap (λ (l : List Returned). get_elem? l n) same ∙ q)).2));
        parts = subst (λ (l : List (PathSeat g.row.K.Denot)).
            All (λ (p : PathSeat g.row.K.Denot). S (returned_of p.member)) l)
            (sym c.in-Some.ensures.items)
            (all_own S first xs s (λ n b q. (e.each n b
            (ap (λ (l : List Returned). get_elem? l n) same ∙ q)).0));
      },
      c.finish.ensures.1,
    )
