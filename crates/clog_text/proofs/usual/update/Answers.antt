use Rattle.std.proofs.Common.{◌≡◌, Some, refl, ap, ◌∙◌, rules}
use Rattle.clog_text.specs.LineMutation.{cell_of}
use Rattle.clog_text.specs.UsualLines.{value_data}
use Rattle.clog_text.proofs.UsualLines.{follows}
use Rattle.clog_text.proofs.usual.update.Goals as goal

pub returns-clause-update : goal.returns-clause-update
returns-clause-update c =
    let table = c.in_ok-table.ensures.table in
    let ts = c.in_ok-ts.ensures in
    let cell = c.in_ok-cell.ensures.cell in
    let column = c.in_ok-column.ensures in
    let same : c.in_ok-ts.ts ≡ c.in_ok-cell.cell.ts =
    let e = c.in_ok-cell.ensures.ts in search rules in (
      record { table = table.0; column = c.in_ok-column.column; ts = ts.0; value = cell.0 },
      follows c.in_ok-name.ensures (follows table.1 (follows c.in_ok-name-2.ensures
          (follows column.text (follows c.in_ok-name-3.ensures (follows ts.1
          (follows c.in_ok-name-4.ensures (follows cell.1 c.in_ok-end_object.ensures))))))),
      record {
        table = table.2;
        known = c.in_ok-table.ensures.known;
        column = refl;
        some = column.some;
        short = column.short;
        ts = ts.2 ∙ ap Some same;
        cell = ap (λ n. cell_of n (value_data cell.0)) c.in_ok-cell.ensures.ts ∙ cell.2;
      },
    )
