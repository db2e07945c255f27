use Rattle.std.proofs.Common.{◌≡◌, ◌++◌, List, ℕ, subst}
use Rattle.std.specs.Prelude.{OnErr}
use Rattle.clog_io.specs.Bytes.{AppendsPrefix}
use Rattle.clog_engine.proofs.PrintedParts.{part_on}
use Rattle.clog_engine.proofs.printing.hand_on.Goals as goal

pub returns-clause-err : goal.returns-clause-err
returns-clause-err g c =
    let head : List ℕ = c.as_slice.result.now in
    let rows : List ℕ = c.as_slice-2.result.now in
    let whole : head ++ rows ≡ c.args.report.now = cc in
    subst (λ (text : List ℕ). OnErr c.write_all-2.result
    (AppendsPrefix (g.K.Sink.held c.args.sink.now) (g.K.Sink.held c.write_all-2.new.self) text))
    whole
    (part_on c.write_all-2.result _ (g.K.Sink.held c.write_all.new.self) _ head rows
    c.in_ok-write_all.ensures.ok c.write_all-2.ensures.err)
