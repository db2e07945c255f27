-- All that is promised of a run.
use Rattle.std.specs.Prelude.{List, String}
use Rattle.std.specs.declared.alloc.Global.{Global}
use Rattle.clog_engine.specs.declared.status.Status.{Status}
use Rattle.clog_engine.specs.Answering.{Answers}
use Rattle.clog_engine.specs.Completes.{Completes}
use Rattle.clog_engine.specs.Outside.{Outside, Sinks}

-- What it answers, and that it completes.
pub record Runs (words : List (String Global)) (o : Outside) (s : Sinks) (status : Status)
    : Type 0 where
  pub answers : Answers words o s status
  pub completes : Completes words o s status
