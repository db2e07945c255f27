use Rattle.std.proofs.Common.{◌≡◌, ℕ, List, ◌++◌, ap, ◌∙◌, subst}
use Rattle.std.specs.List.{AllByRecursion}
use Rattle.clog_base.specs.declared.cell.Cell.{Cell}
use Rattle.clog_base.specs.declared.cell.CellKey.{CellKey}
use Rattle.clog_table.specs.declared.head.Head.{Head}
use Rattle.clog_table.specs.Format.{cells_bytes, head_front, head_bytes, check_bytes, head_of}
use Rattle.clog_table.specs.Format.{file_of}
use Rattle.clog_table.specs.Heads.{IsStoredHead}
use Rattle.clog_table.specs.Limits.{IsStoredCell}
use Rattle.clog_table.proofs.Pieces.{four_steps}
use Rattle.clog_table.proofs.Written.{written}
use Rattle.clog_table.proofs.writing.encode_parts.Goals as goal

pub returns : goal.returns
returns c =
    let cells = c.args.cells.now in
    let file = file_of c.args.table c.args.lower c.args.upper cells in
    let head : Head = record {
      table = c.args.table;
      lower = c.args.lower;
      upper = c.args.upper;
      count = c.len.result;
    } in
    let same : ◌≡◌ {A = Head} head (head_of file) = λ i. record {
      table = c.args.table;
      lower = c.args.lower;
      upper = c.args.upper;
      count = c.len.ensures.len i;
    } in
    let stored : AllByRecursion (IsStoredCell c.args.table) cells =
    subst (λ (l : List (CellKey × Cell)). AllByRecursion (IsStoredCell c.args.table) l)
    c.entries.ensures.entries c.in_ok-put_cells.ensures.stored in
    written file c.put_check-2.new.out.items c.requires
    (subst IsStoredHead same c.in_ok-put_front.ensures.stored) stored c.len.ensures.map
    (four_steps head (cells_bytes cells) c.put_front.new.out.items c.put_check.new.out.items
    c.put_cells.new.out.items c.put_check-2.new.out.items
    (c.in_ok-put_front.ensures.bytes
    ∙ ap (λ (l : List ℕ). l ++ head_front head) c.new-out.ensures.items)
    c.in_ok-put_check.ensures
    (c.in_ok-put_cells.ensures.bytes
    ∙ ap (λ l. c.put_check.new.out.items ++ cells_bytes l) c.entries.ensures.entries)
    c.in_ok-put_check-2.ensures
    ∙ ap (λ (h : Head). (head_bytes h ++ cells_bytes cells) ++ check_bytes
    (cells_bytes cells)) same)
