-- Which updates table files stand for.
use Rattle.std.specs.Prelude.{◌≡◌, List}
use Rattle.std.specs.List.{Any}
use Rattle.clog_base.specs.declared.cell.Table.{Table}
use Rattle.clog_base.specs.declared.position.Position.{Position}
use Rattle.clog_crash.specs.Restore.{IsInInterval}
use Rattle.clog_folder.specs.declared.tables.TableHeld.{TableHeld}

-- the file is of the table, and its interval holds the position
pub record StandsFor (held : TableHeld) (table : Table) (at : Position) : Type 0 where
  pub same_table : held.file.table ≡ table
  pub inside : IsInInterval held.file at

-- one of the files stands for the position of the table
abbrev pub IsFiled : List TableHeld → Table → Position → Type 0
IsFiled tables table at = Any (λ held. StandsFor held table at) tables
