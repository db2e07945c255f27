use Rattle.std.proofs.Common.{sym, ap, ◌∙◌}
use Rattle.std.specs.Ordering.{is_lt}
use Rattle.clog_cells.specs.Merge.{key_cmp}
use Rattle.clog_table.proofs.Keys.{above_greatest, above_found, is_lt-Less}
use Rattle.clog_table.proofs.decoding.is_above.Goals as goal

pub returns-in-Some : goal.returns-in-Some
returns-in-Some c =
    let rows = c.args.cells.now.entries in
    let last = c.in-Some.last.now in
    let key = c.args.key.now in (
      λ yes. above_greatest rows last key c.in-Some.ensures.all_up_to
          (is_lt-Less (key_cmp last key) (sym c.is_before.ensures ∙ yes)),
      λ above. c.is_before.ensures
          ∙ ap is_lt (above_found rows last key _ above c.in-Some.ensures.value),
    )
