-- Commits and syncs switch and retire no memtable.
use Rattle.std.proofs.Common.{ℕ, List, [], None, sym, ◌∙◌, subst}
use Rattle.std.proofs.lemmas.List.{append-nil}
use Rattle.path_rule.specs.declared.answer.SyncAnswer.{SyncAnswer}
use Rattle.path_rule.specs.declared.view.OwnStep.{OwnStep}
use Rattle.path_rule.specs.declared.view.PathSize.{PathSize}
use Rattle.path_rule.specs.declared.view.View.{View}
use Rattle.path_rule.specs.TrailRows.{retired}
use Rattle.sync_core.specs.declared.SyncCore.{SyncCore}
use Rattle.sync_core.specs.declared.SyncCore.TheVariants.{Batch, Periodic}
use Rattle.write_path.specs.declared.commit.Commit.{Commit}
use Rattle.write_path.specs.declared.commit.Commit.TheVariants.{Logged, Durable, Unsynced, Spent}
use Rattle.write_path.specs.declared.prepared.Prepared.{Prepared}
use Rattle.path_flush.specs.FlushSteps.{RetiresNone, SwitchesNone}
use Rattle.path_flush.specs.Grown.{HasGrown}
use Rattle.write_path.specs.Receipts.{IsCommitted}
use Rattle.write_path.specs.SwitchedRows.{switched_at}
use Rattle.write_path.specs.Syncs.{Syncs}
use Rattle.write_path.specs.Unretired.{GrowsUnretired}
use Rattle.path_flush.proofs.SwitchGoes.{round_kept, round_none}

pub commit_keeps : (mode : SyncCore) (size : PathSize) (w : ℕ) (before : List OwnStep)
    (p : Prepared) (c : Commit) (after : View) → IsCommitted mode size w before p c after
    → GrowsUnretired before after.trail
commit_keeps (Periodic period) size w before p (Logged r) after C =
    (C.logged.grown, C.logged.kept, C.logged.unswitched)
commit_keeps (Periodic period) size w before p (Durable r) after C = absurd C
commit_keeps (Periodic period) size w before p (Unsynced r fault) after C = absurd C
commit_keeps (Periodic period) size w before p (Spent back key) after C = (C.3, C.4, C.5)
commit_keeps Batch size w before p (Logged r) after C = absurd C
commit_keeps Batch size w before p (Durable r) after C =
    (C.0.logged.grown, C.0.logged.kept, C.0.logged.unswitched)
commit_keeps Batch size w before p (Unsynced r fault) after C =
    (C.0.logged.grown, C.0.logged.kept, C.0.logged.unswitched)
commit_keeps Batch size w before p (Spent back key) after C = (C.3, C.4, C.5)

pub sync_keeps : (w opened : ℕ) (before : View) (a : SyncAnswer) (after : View)
    → Syncs w opened before a after → GrowsUnretired before.trail after.trail
sync_keeps w opened before a after S = let R = S.answers.steps in
    let newer : HasGrown before.trail after.trail = record { newer = R.steps; is = R.trail } in
    (newer, round_kept w R.steps R.are, round_none w R.steps R.are)

-- by a step that retires one a trail does not grow so
pub row_retires : ¬ GrowsUnretired [] (retired 0 None)
row_retires G = (subst RetiresNone (sym (G.0.is ∙ append-nil G.0.newer)) G.1).0

-- nor by those of a switch
pub row_switches : ¬ GrowsUnretired [] (switched_at 0 60)
row_switches G = (subst SwitchesNone (sym (G.0.is ∙ append-nil G.0.newer)) G.2).0
