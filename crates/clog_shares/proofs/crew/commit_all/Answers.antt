use Rattle.std.proofs.Common.{◌<◌, length, sym, ◌∙◌, subst, arith}
use Rattle.clog_applied.specs.History.{share_of}
use Rattle.clog_shares.specs.declared.worker.Worker.{Worker}
use Rattle.clog_shares.specs.Crews.{HasLogged, IsReady}
use Rattle.clog_shares.specs.Sealing.{WaitsShare}
use Rattle.clog_shares.specs.Timed.{TimesShare}
use Rattle.clog_shares.proofs.crew.commit_all.Goals as goal

pub for_each_mut-requires-clause-accepts : goal.for_each_mut-requires-clause-accepts
for_each_mut-requires-clause-accepts g c κs within = λ i p inside is.
    let t = c.args.path.now.table in
    let ready = c.requires.ready in
    let lines = share_of t.size.seats i ready.0 in (
      i,
      lines,
      subst (λ (w : Worker g.row.K.Denot).
          IsReady t.table.shared.table_id t.size c.args.sizes c.args.flush_at i lines w) (sym is)
          (ready.1.each i p.now inside),
    )

pub returns-clause-logged : goal.returns-clause-logged
returns-clause-logged g c = λ mutations ready.
    let t = c.args.path.now.table in
    let count = ready.count in
    let long = c.for_each_mut.auto.s in record {
      count = omega (arith, count, long);
      each = λ i d inside.
          let low : i < length c.args.workers.now = omega (arith, inside, long) in
          let lines = share_of t.size.seats i mutations in
          let one = (c.for_each_mut.ensures i d low).1 in
          subst (HasLogged t.table.shared.table_id t.size c.args.flush_at i lines) one.left
          (one.call.0 i lines
          (subst (IsReady t.table.shared.table_id t.size c.args.sizes c.args.flush_at i lines)
          (sym one.argument_is) (ready.each i d low)));
    }

pub returns-clause-waited : goal.returns-clause-waited
returns-clause-waited g c = λ batch w among.
    let inside = among.1 in
    let long = c.for_each_mut.auto.s in
    let one = (c.for_each_mut.ensures among.0 w (omega (arith, inside, long))).1 in
    subst (λ (x : Worker g.row.K.Denot). WaitsShare x) (one.left ∙ among.2)
    (one.call.1 (sym c.requires.mode ∙ batch))

pub returns-clause-timed : goal.returns-clause-timed
returns-clause-timed g c = λ period periodic w among.
    let inside = among.1 in
    let long = c.for_each_mut.auto.s in
    let one = (c.for_each_mut.ensures among.0 w (omega (arith, inside, long))).1 in
    subst (λ (x : Worker g.row.K.Denot). TimesShare (g.C.Clock.tells c.args.clock.now)
    c.args.syncing.mode c.args.syncing.since_ms x) (one.left ∙ among.2)
    (one.call.2 period periodic)
