-- The log key and the synced key only grow, and an entry that is claimed ends above the log key.
use Rattle.std.proofs.Common.{ℕ, ◌<◌, ◌≤◌, refl, arith}
use Rattle.clog_base.specs.declared.position.Key.{Key}
use Rattle.path_core.specs.declared.event.ClaimKind.TheVariants.{Entry, Marker}
use Rattle.path_core.specs.declared.event.Cursor.TheVariants.{Synced, OldestLive, Stopped}
use Rattle.path_core.specs.declared.event.Event.{Event}
use Rattle.path_core.specs.declared.event.Event.TheVariants.{Claim, Put}
use Rattle.path_core.specs.declared.state.PathState.{PathState}
use Rattle.path_core.specs.Allowed.{IsStep}
use Rattle.path_core.specs.Next.{next_of, claim_of}
use Rattle.path_core.specs.Lawful.{IsSized}
use Rattle.path_core.specs.LawfulLog.{ClaimsTile}
use Rattle.path_core.proofs.log.NextClaim.{entry_goes_on, goes_above, marker_goes_on, behind_log}

-- the synced key only grows
pub synced_grows : (x : PathState) (e : Event) → IsStep x e → x.synced ≤ (next_of x e).synced
synced_grows x (Put by Synced value) a = let l = a.row.2 in omega arith
synced_grows x (Put by (OldestLive table) value) a = omega arith
synced_grows x (Put by Stopped value) a = omega arith
synced_grows x e a = omega arith

module _ (x : PathState) (sized : IsSized x) (T : ClaimsTile x) where
  -- an entry that is claimed ends above the log key
  pub claimed_above : (by : ℕ) (from to : Key) → IsStep x (Claim by from to Entry) → x.log < to.0
  claimed_above by from to a =
      goes_above x.capacity x.ordinals x.log to.0 x.claims
      (claim_of x.capacity by from.0 to.0 Entry)
      (entry_goes_on x by from to sized T a.row.3 a.row.4) refl

  -- the log key only grows
  pub log_grows : (e : Event) → IsStep x e → x.log ≤ (next_of x e).log
  log_grows (Claim by from to Entry) a =
      let l = claimed_above by from to a in omega arith
  log_grows (Claim by from to Marker) a =
      behind_log x.capacity x.ordinals x.log to.0 x.claims
      (claim_of x.capacity by from.0 to.0 Marker)
      (marker_goes_on x by from to sized T a.row.1 a.row.2 a.row.3)
  log_grows e a = omega arith
