-- What a worker's seat has committed of its writes.
use Rattle.std.specs.Prelude.{◌≡◌, ℕ, List, Option, None}
use Rattle.atomic_table.specs.Seated.{TableId}
use Rattle.clog_base.specs.declared.sizes.Sizes.{Sizes}
use Rattle.clog_applied.specs.History.{Line}
use Rattle.path_rule.specs.declared.view.PathSize.{PathSize}
use Rattle.path_table.specs.declared.trying.PathSeat.{PathSeat}
use Rattle.path_table.specs.Members.{view_of}
use Rattle.sync_core.specs.declared.SyncCore.{SyncCore}
use Rattle.sync_core.specs.declared.SyncCore.TheVariants.{Batch, Periodic}
use Rattle.write_path.specs.declared.prepared.Prepared.{Prepared}
use Rattle.path_flush.specs.Seats.{Stays}
use Rattle.clog_shares.specs.declared.fault.WriteFault.{WriteFault}
use Rattle.clog_shares.specs.Crews.{HasIssuedFew, KnowsWhy}
use Rattle.clog_shares.specs.Sealing.{HasWaited}
use Rattle.clog_shares.specs.Shares.{ArePrepared, LogsShare, logged_by}
use Rattle.clog_shares.specs.Tallied.{ArePaid}
use Rattle.clog_shares.specs.Timed.{HasTimed}

module _ {K : Type 0} (id : TableId) (size : PathSize) (sizes : Sizes) (flush : Option ℕ)
    (tells : ℕ → Type 0) (mode : SyncCore) (since : ℕ) where
  -- A seat that had made no step has logged these writes, or the first of them, and knows why no
  -- more: in each mode as that asks for, and where it flushes it has opened few memtables.
  pub record HasCommitted (writes : List Prepared) (before after : PathSeat K)
      (fault : Option WriteFault) : Type 0 where
    pub same : Stays id size before.member after.member
    pub logs : (lines : List Line) → ArePrepared sizes lines writes
        → LogsShare before.member.number lines (logged_by after.member) fault
    pub why : KnowsWhy size fault after
    pub issued : HasIssuedFew after
    pub waited : mode ≡ Batch → HasWaited after
    pub timed : (period : ℕ) → mode ≡ Periodic period → fault ≡ None
        → HasTimed tells mode since after
    pub paid : ArePaid flush before.member.number (view_of after.member).trail
