use Rattle.std.proofs.Common.{◌≡◌, length, sym, ap, ◌∙◌, arith}
use mathlib.Core.Logic.{dite}
use native.Mathlib.Decide.{dec_lt}
use Rattle.path_core.specs.Droppable.{is_table_filed}
use Rattle.path_core.proofs.lists.Ranges.{range_all, range_fails}
use Rattle.path_machine.proofs.drop_changes.are_tables_filed.Goals as goal

pub returns-then-not-is_table_filed : goal.returns-then-not-is_table_filed
returns-then-not-is_table_filed c =
    let x = c.args.state.now in
    let long = ap length c.as_slice-table-end.ensures in
    let below = c.loop-table-test.true in
    sym (range_fails (is_table_filed x c.args.segment) 0 (length x.tables) c.loop-table.table
    (omega arith) (omega arith)
    (sym c.is_table_filed.ensures ∙ c.if-not-is_table_filed.true))

pub loop-table-preserved : goal.loop-table-preserved
loop-table-preserved c =
    let x = c.args.state.now in
    let here = sym c.is_table_filed.ensures ∙ c.if-not-is_table_filed.false in
    λ t l. dite (dec_lt t c.loop-table.table) (λ b. c.loop-table.invariant t b)
    (λ n. let e : t ≡ c.loop-table.table = omega arith in
    ap (is_table_filed x c.args.segment) e ∙ here)

pub returns : goal.returns
returns c =
    let x = c.args.state.now in
    let long = ap length c.as_slice-table-end.ensures in
    let past = c.loop-table-test.false in
    sym (range_all (is_table_filed x c.args.segment) 0 (length x.tables)
    (λ k above below. c.loop-table.invariant k (omega arith)))
