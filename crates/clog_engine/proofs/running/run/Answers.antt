use Rattle.clog_engine.proofs.Complete.{completes}
use Rattle.clog_engine.proofs.Quiet.{printed_quiet}
use Rattle.clog_engine.specs.Answering.{Answers}
use Rattle.clog_engine.proofs.running.run.Goals as goal

pub returns-clause-runs : goal.returns-clause-runs
returns-clause-runs g c =
    let d = c.outcome_of-disk.ensures in
    let answers : Answers c.args.words.now _ _ c.print.result =
    record {
      outcome = c.outcome_of-disk.result.1;
      done = d.done;
      printed = c.print.ensures;
      quiet = printed_quiet c.outcome_of-disk.result.1 c.print.result _ _ _ c.print.ensures
          d.quiet;
    } in
    record { answers = answers; completes = completes _ _ _ _ answers }
