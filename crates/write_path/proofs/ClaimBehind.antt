-- A claim stands behind all that its seat wrote, since it begins where the log stands or above.
use Rattle.std.proofs.Common.{◌≡◌, ℕ, ◌+◌, ◌≤◌, Bool, true, false, cond, subst, arith}
use Rattle.std.specs.List.{Contains}
use Rattle.path_core.specs.declared.event.ClaimKind.TheVariants.{Entry}
use Rattle.path_core.specs.declared.event.Event.TheVariants.{Claim}
use Rattle.path_core.specs.Keys.{entry_end, entry_start, fits, next_segment}
use Rattle.path_rule.specs.declared.view.View.{View}
use Rattle.path_rule.specs.Calls.{Did}
use Rattle.path_rule.specs.Rounds.{WroteBelow}
use Rattle.path_rule.proofs.log.OwnWrites.{below_log, wrote_below}
use Rattle.write_path.specs.Commits.{WritesEndBelow}
use Rattle.path_flush.specs.OwnWrites.{writes_of}
use Rattle.path_flush.proofs.ListBelow.{list_below}

-- an entry begins at the log key or above
starts_above : (capacity key bytes : ℕ) → key ≤ entry_start capacity key bytes
starts_above capacity key bytes = by (fits capacity key bytes)
  where
    by : (b : Bool) → key ≤ cond b key (next_segment key)
    by true = omega arith
    by false = omega arith

module _ (u after : View) (w from to : ℕ)
    (D : Did u w (Claim w (record { 0 = from }) (record { 0 = to }) Entry) to after) where
  wrote : WroteBelow from u.trail
  wrote = wrote_below u w _ D.was from (λ n h.
      let low = below_log D.was.core D.was.lawful n h in
      let at = D.was.allowed.row.3 in
      omega (arith, low, at))

  pub claim_behind : (capacity bytes start : ℕ) → to ≡ entry_end capacity from bytes
      → start + bytes ≡ to → WritesEndBelow start after.trail
  claim_behind capacity bytes start ends long n h =
      let before = subst (λ (v : View). Contains (writes_of v.trail) n) D.view h in
      let low = list_below from u.trail wrote n before in
      let up = starts_above capacity from bytes in
      omega (arith, low, up, ends, long)
