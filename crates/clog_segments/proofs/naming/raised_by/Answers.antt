use Rattle.clog_segments.specs.Named.{HasId}
use Rattle.std.proofs.Common.{◌≡◌, ℕ}
use Rattle.clog_segments.proofs.Ids.{gives_same, none_below}
use Rattle.clog_segments.proofs.naming.raised_by.Goals as goal

pub returns-in-Some : goal.returns-in-Some
returns-in-Some c =
    gives_same (λ (n : ℕ). n ≡ c.in-Some.id) (HasId c.args.name.now) c.args.base c.raised.result
    (λ n. (c.in-Some.ensures n).1) (λ n. (c.in-Some.ensures n).0) c.raised.ensures

pub returns-in-None : goal.returns-in-None
returns-in-None c = none_below (HasId c.args.name.now) c.args.base c.in-None.ensures
