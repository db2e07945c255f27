use Rattle.std.proofs.Common.{◌∙◌, sym, ap}
use Rattle.std.proofs.lemmas.Map.Steps.{set_value_same}
use Rattle.std.specs.BTreeMap.{is_at}
use Rattle.std.specs.Map.{set_value}
use Rattle.std.specs.Ordering.{nat_cmp}
use Rattle.std.specs.Cmp.Lexicographic.{slice_cmp}
use Rattle.clog_disk.proofs.Telling.{on_err}
use Rattle.clog_disk.proofs.stored.grow_at.Goals as goal

pub returns-in_err-grow-in-Some-clause-err : goal.returns-in_err-grow-in-Some-clause-err
returns-in_err-grow-in-Some-clause-err c =
    let old = c.args.files.now.entries in
    let is_name = is_at (slice_cmp nat_cmp c.args.name.now) in
    on_err c.from_residual.result (
    (c.get_mut.follows.holds c.grow.new.self).0
    ∙ ap (set_value is_name old) c.in_err-grow-in-Some.ensures.err
    ∙ set_value_same is_name old c.in-Some.file.now (sym c.in-Some.ensures.value)
    )
