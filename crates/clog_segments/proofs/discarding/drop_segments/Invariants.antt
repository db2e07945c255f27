use Rattle.std.proofs.Common.{◌≡◌, ℕ, List, Some, drop, take}
use Rattle.std.specs.Prelude.{option_map}
use Rattle.clog_disk.specs.Files.{Files, SameTold}
use Rattle.clog_disk.specs.Images.{IsLater, LeavesOnly}
use Rattle.clog_scan.specs.Cut.{Section}
use Rattle.clog_crash.specs.Log.{Write}
use Rattle.clog_crash.specs.Readings.{Reading}
use Rattle.clog_segments.specs.AtMost.{AddsOnly, IsArchiveAmong}
use Rattle.clog_segments.specs.Beside.{ImagesBut, IsOfGone}
use Rattle.clog_segments.specs.Discards.{
  AreBehind,
  AreDroppable,
  MayAllGo,
  all_go_by,
  all_gone_at,
}
use Rattle.clog_segments.specs.NamesLast.{EachLasts}
use Rattle.clog_segments.specs.Resting.{ShowsBehind}
use Rattle.clog_segments.proofs.discarding.drop_segments.Given as goal

-- the first segments have gone, and the others may go
abbrev pub invariant-loop-done : goal.invariant-loop-done
invariant-loop-done g l =
    let D = g.D.Disk in
    record {
      told : SameTold (D.files l.fn.disk) (D.files l.disk);
      later : IsLater D.moment D.read_at D.lasted_at l.fn.disk l.disk;
      faults : D.faults l.disk ≡ D.faults l.fn.disk;
      droppable : AreDroppable (D.files l.disk) l.base (drop l.done l.ordinals);
      gone : D.files l.disk
          ≡ option_map (all_gone_at l.archives l.base (take l.done l.ordinals))
          (D.files l.fn.disk);
      changes : AreBehind (all_go_by l.archives l.base (take l.done l.ordinals))
          (D.changes l.fn.disk) (D.changes l.disk);
      elsewhere : ImagesBut (IsOfGone l.base l.ordinals) (D.leaves l.fn.disk) (D.leaves l.disk);
      names : EachLasts (D.files l.fn.disk) (D.leaves l.fn.disk) (D.files l.disk)
          (D.leaves l.disk);
      adds : (f : Files) → D.files l.fn.disk ≡ Some f
          → AddsOnly D.files D.moment D.since D.leaves l.fn.disk l.disk
          (IsArchiveAmong (D.leaves l.fn.disk) l.base l.ordinals);
      may : (r : Reading) (past : List Write) (last : ℕ) (old kept : List Section)
          → MayAllGo (D.files l.fn.disk) (D.leaves l.fn.disk) r past last old kept l.base l.ordinals
          → MayAllGo (D.files l.disk) (D.leaves l.disk) r past last old kept l.base
          (drop l.done l.ordinals);
      only : (r : Reading) (past : List Write) (last : ℕ) (old kept : List Section)
          → MayAllGo (D.files l.fn.disk) (D.leaves l.fn.disk) r past last old kept l.base l.ordinals
          → LeavesOnly D.moment D.since l.fn.disk l.disk (ShowsBehind r past last old kept);
    }
