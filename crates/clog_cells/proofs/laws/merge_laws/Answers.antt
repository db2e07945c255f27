use Rattle.clog_cells.proofs.Merging.{unique, of_members, of_itself, continues, joins}
use Rattle.clog_cells.proofs.Made.{merge_of}
use Rattle.clog_cells.proofs.Parts.{part_of, members_of_part}
use Rattle.clog_cells.proofs.laws.merge_laws.Goals as goal

pub returns : goal.returns
returns c = record {
  merge_of = merge_of;
  unique = unique;
  members = of_members;
  itself = of_itself;
  continues = continues;
  joins = joins;
  part = part_of;
  on_table = members_of_part;
}
