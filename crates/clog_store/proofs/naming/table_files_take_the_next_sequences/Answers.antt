use Rattle.clog_store.proofs.SeventhFile.{row}
use Rattle.clog_store.proofs.naming.table_files_take_the_next_sequences.Goals as goal

pub returns : goal.returns
returns c bytes base x y z placed at_x at_y at_z are =
    row bytes base x y z at_x at_y at_z placed are
