use Rattle.std.proofs.Common.{sym, ap, ◌∙◌, subst, arith}
use Rattle.path_threads.specs.declared.worker.Worker.{Worker}
use Rattle.path_threads.specs.Crews.{AreWrites, IsSeated, number_of}
use Rattle.path_threads.proofs.Crews.{same_numbers}
use Rattle.path_threads.proofs.crew.commit_all.Goals as goal

pub for_each_mut-requires-clause-accepts : goal.for_each_mut-requires-clause-accepts
for_each_mut-requires-clause-accepts g c κs within = λ i p inside is.
    let t = c.args.path.now.table in (
      c.requires.sized,
      subst (λ (w : Worker g.row.K.Denot). AreWrites c.args.sizes w.writes.items) (sym is)
          (c.requires.ready.writes i p.now inside),
      subst (λ (w : Worker g.row.K.Denot). IsSeated t.table.shared.table_id t.size w) (sym is)
          (c.requires.ready.crew.each i p.now inside),
    )

pub returns : goal.returns
returns g c = let t = c.args.path.now.table in let xs = c.args.workers.now in
    let ys = c.for_each_mut.new.s in let each = c.for_each_mut.ensures in record {
      each = λ i d inside. let one = (each i d (omega (arith, inside, c.for_each_mut.auto.s))).1 in
          subst (λ (w : Worker g.row.K.Denot). IsSeated t.table.shared.table_id t.size w) one.left
          one.call.0;
      numbers = same_numbers xs ys (omega (arith, c.for_each_mut.auto.s))
          (λ i d inside. let one = (each i d inside).1 in
          ap number_of (sym one.left) ∙ (one.call.1 ∙ ap number_of one.argument_is))
          ∙ c.requires.ready.crew.numbers;
    }
