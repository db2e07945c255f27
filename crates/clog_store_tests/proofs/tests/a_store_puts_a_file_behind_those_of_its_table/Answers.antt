use Rattle.std.proofs.Common.{refl, arith}
use Rattle.clog_store.proofs.StoreFiles.{nothing_to_put}
use Rattle.clog_store_tests.proofs.tests.a_store_puts_a_file_behind_those_of_its_table.Goals as goal

pub put_table-requires : goal.put_table-requires
put_table-requires g c =
    nothing_to_put _ _ _ _ c.in-Ok.ensures.fresh (omega (arith, c.in-Some.ensures.same.0)) refl
    (omega arith) c.new-cells.ensures
