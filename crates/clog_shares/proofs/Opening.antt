-- How many memtables a call opens: a flush at most one, of its table; another call none.
use Rattle.std.proofs.Common.{◌≡◌, ◌≢◌, ℕ, ◌+◌, ◌≤◌, List, ◌++◌, ap, ◌∙◌, arith}
use Rattle.path_rule.specs.declared.answer.SyncAnswer.{SyncAnswer}
use Rattle.path_rule.specs.declared.view.OwnStep.{OwnStep}
use Rattle.path_rule.specs.declared.view.PathSize.{PathSize}
use Rattle.path_rule.specs.declared.view.View.{View}
use Rattle.sync_core.specs.declared.SyncCore.{SyncCore}
use Rattle.sync_core.specs.declared.SyncCore.TheVariants.{Batch, Periodic}
use Rattle.write_path.specs.declared.commit.Commit.{Commit}
use Rattle.write_path.specs.declared.commit.Commit.TheVariants.{Logged, Durable, Unsynced}
use Rattle.write_path.specs.declared.commit.Commit.TheVariants.{Spent as NoRoom}
use Rattle.path_flush.specs.declared.flush_answer.Flush.{Flush}
use Rattle.path_flush.specs.declared.flush_answer.Flush.TheVariants.{Flushed, Empty, Busy, Stopped}
use Rattle.path_flush.specs.declared.flush_answer.Flush.TheVariants.{OutOfMemory}
use Rattle.write_path.specs.declared.prepared.Prepared.{Prepared}
use Rattle.path_flush.specs.Flushed.{Flushes, opened_by}
use Rattle.path_flush.specs.FlushSteps.{SwitchesNone}
use Rattle.path_flush.specs.Grown.{HasGrown}
use Rattle.write_path.specs.Receipts.{IsCommitted}
use Rattle.write_path.specs.Syncs.{Syncs}
use Rattle.path_flush.proofs.StepsOpen.{none_opened, opens_both, others_open, round_opens}
use Rattle.path_flush.specs.Opens.{opens}
use Rattle.clog_shares.specs.Tallied.{OpensNone}

-- steps that open none, in front of others
none_more : (t : ℕ) (before after newer : List OwnStep) → after ≡ newer ++ before
    → opens t newer ≡ 0 → opens t after ≡ opens t before
none_more t before after newer is none =
    let all = ap (opens t) is in
    let sum = opens_both t newer before in omega (arith, all, sum, none)

-- Of a table these steps open so many memtables, on top of what was opened.
pub record OpensMore (t most : ℕ) (before after : List OwnStep) : Type 0 where
  pub more : ℕ
  pub few : more ≤ most
  pub sum : opens t after ≡ more + opens t before

pub flush_opens : (w t : ℕ) (v after : View) (a : Flush) → Flushes w t v a after
    → OpensMore t (opened_by a) v.trail after.trail
flush_opens w t v after a F = record {
  more = opens t F.steps.steps;
  few = F.opened;
  sum = ap (opens t) F.steps.trail ∙ opens_both t F.steps.steps v.trail;
}

pub others_opened : (w t u : ℕ) (v after : View) (a : Flush) → Flushes w t v a after → u ≢ t
    → opens u after.trail ≡ opens u v.trail
others_opened w t u v after a F apart =
    none_more u v.trail after.trail F.steps.steps F.steps.trail
    (others_open w t u v after F.steps apart)

pub sync_opens : (w opened : ℕ) (v after : View) (answer : SyncAnswer)
    → Syncs w opened v answer after → OpensNone v.trail after.trail
sync_opens w opened v after answer S t =
    let steps = S.answers.steps in
    none_more t v.trail after.trail steps.steps steps.trail (round_opens w t steps.steps steps.are)

unswitched : (before after : List OwnStep) (G : HasGrown before after) → SwitchesNone G.newer
    → OpensNone before after
unswitched before after G none t = none_more t before after G.newer G.is (none_opened t G.newer
    none)

pub commit_opens : (size : PathSize) (w : ℕ) (before : List OwnStep) (p : Prepared) (v : View)
    (mode : SyncCore) (c : Commit) → IsCommitted mode size w before p c v
    → OpensNone before v.trail
commit_opens size w before p v (Periodic k) (Logged r) is =
    unswitched before v.trail is.logged.grown is.logged.unswitched
commit_opens size w before p v (Periodic k) (Durable r) is = absurd is
commit_opens size w before p v (Periodic k) (Unsynced r fault) is = absurd is
commit_opens size w before p v (Periodic k) (NoRoom back key) is =
    unswitched before v.trail is.3 is.5
commit_opens size w before p v Batch (Logged r) is = absurd is
commit_opens size w before p v Batch (Durable r) is =
    unswitched before v.trail is.0.logged.grown is.0.logged.unswitched
commit_opens size w before p v Batch (Unsynced r fault) is =
    unswitched before v.trail is.0.logged.grown is.0.logged.unswitched
commit_opens size w before p v Batch (NoRoom back key) is =
    unswitched before v.trail is.3 is.5

pub at_most_one : (a : Flush) → opened_by a ≤ 1
at_most_one (Flushed lower upper) = omega arith
at_most_one (Empty key) = omega arith
at_most_one (Busy found) = omega arith
at_most_one (Stopped at_open now) = omega arith
at_most_one OutOfMemory = omega arith
