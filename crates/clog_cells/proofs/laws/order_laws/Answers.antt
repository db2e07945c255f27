use Rattle.clog_cells.proofs.Orders.{cell_total, exact_cells, key_total, exact_keys}
use Rattle.clog_cells.proofs.Words.{later_is_newer, deletion_is_newer, greater_is_newer}
use Rattle.clog_cells.proofs.Words.{lower_table, lower_key, lower_column}
use Rattle.clog_cells.proofs.laws.order_laws.Goals as goal

pub returns : goal.returns
returns c = record {
  cells = cell_total;
  one_cell = exact_cells;
  later = later_is_newer;
  deletion = deletion_is_newer;
  bytes = greater_is_newer;
  keys = key_total;
  one_key = exact_keys;
  table = lower_table;
  key = lower_key;
  column = lower_column;
}
