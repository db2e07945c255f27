-- The printed text of a fault: its name, and behind a space its number where it has one.
use Rattle.std.specs.Prelude.{ℕ, List, ◌++◌, codes, decimal}
use Rattle.clog_table.specs.declared.fault.TableFault.{TableFault}
use Rattle.clog_table.specs.declared.fault.TableFault.TheVariants.{
  Short,
  Version,
  HeadCheck,
  Table,
  Interval,
  Cell,
  Order,
  CellsCheck,
  Trailing,
  OutOfMemory,
}

abbrev pub fault_text : TableFault → List ℕ
fault_text Short = codes "Short"
fault_text (Version n) = codes "Version " ++ decimal n
fault_text HeadCheck = codes "HeadCheck"
fault_text Table = codes "Table"
fault_text Interval = codes "Interval"
fault_text (Cell at) = codes "Cell " ++ decimal at
fault_text (Order at) = codes "Order " ++ decimal at
fault_text CellsCheck = codes "CellsCheck"
fault_text (Trailing at) = codes "Trailing " ++ decimal at
fault_text OutOfMemory = codes "OutOfMemory"
