use Rattle.std.proofs.Common.{◌≡◌, ℕ, ◌<◌, length, get_or, Option, sym, ap, ◌∙◌, subst, arith}
use Rattle.std.specs.Option.{option_map_or}
use Rattle.path_table.specs.declared.trying.PathSeat.{PathSeat}
use Rattle.path_threads.specs.declared.worker.Worker.{Worker}
use Rattle.path_threads.specs.Crews.{AreWrites}
use Rattle.path_threads.proofs.Crews.{same_numbers}
use Rattle.path_threads.proofs.crew.prepare_all.Goals as goal

pub returns : goal.returns
returns g c = λ id size crew. let xs = c.args.workers.now in
    let ys = c.for_each_mut.new.s in let long = c.for_each_mut.auto.s in
    let seat : Worker g.row.K.Denot → Option (PathSeat g.row.K.Denot) = λ w. w.seat in
    let same : (i : ℕ) (d : Worker g.row.K.Denot) → i < length xs
    → seat (get_or ys i d) ≡ seat (get_or xs i d) = λ i d inside.
    let one = (c.for_each_mut.ensures i d inside).1 in
    ap seat (sym one.left) ∙ (one.call.0 ∙ ap seat one.argument_is) in record {
      crew = record {
        each = λ i d inside.
            let low : i < length xs = omega (arith, inside, long) in
            let S = crew.each i d low in (S.0, same i d low ∙ S.1, S.2);
        numbers = same_numbers xs ys (omega (arith, long)) (λ i d inside.
            ap (λ o. option_map_or (λ (p : PathSeat g.row.K.Denot). p.member.number) o 0)
            (same i d inside)) ∙ crew.numbers;
      };
      writes = λ i d inside.
          let low : i < length xs = omega (arith, inside, long) in
          let one = (c.for_each_mut.ensures i d low).1 in
          subst (λ (w : Worker g.row.K.Denot). AreWrites c.args.sizes w.writes.items) one.left
          one.call.1;
    }
