use Rattle.clog_store.proofs.StoreKept.{nothing_to_sync}
use Rattle.clog_store_tests.proofs.tests.a_store_with_nothing_pending_writes_nothing.Goals as goal

pub make_lasting-requires : goal.make_lasting-requires
make_lasting-requires g c =
    nothing_to_sync _ c.new-pending.result.items c.new-pending.ensures.items
    c.in-Ok.ensures.fresh.nothing_synced c.in-Ok.ensures.fresh.nothing_kept
