use Rattle.std.proofs.Common.{◌∙◌, ap, ℕ}
use Rattle.std.specs.Prelude.{◌==◌, if◌then◌else◌}
use Rattle.clog_store.proofs.FiledTo.{upper_more}
use Rattle.clog_store.proofs.store.telling.uppers_of.Goals as goal

pub loop-file-preserved : goal.loop-file-preserved
loop-file-preserved c t less =
    let l = c.loop-file in
    let p = c.interval.result in
    c.put_upper.ensures t less
    ∙ ap (λ (k : ℕ). if p.table.0 == t then p.upper.0 else k) (l.invariant t less)
    ∙ upper_more c.args.files.now l.file-index c.file-item.result c.loop-file-test.true
    c.file-item.is p c.interval.ensures t
