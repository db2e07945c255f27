-- What the claim of a marker tells.
use Rattle.std.specs.Prelude.{◌≡◌, ℕ, ◌≤◌, Option, Some, None}
use Rattle.path_core.specs.declared.event.Place.TheVariants.{Log}
use Rattle.path_rule.specs.declared.view.View.{View}
use Rattle.path_rule.specs.Finds.{Finds}
use Rattle.path_rule.specs.HandsAfter.{with_marker}
use Rattle.path_rule.specs.Rounds.{WroteBelow}
use Rattle.path_rule.specs.Turns.{MarkerWaits}
use Rattle.path_rounds.specs.declared.marking.MarkerClaim.{MarkerClaim}
use Rattle.path_rounds.specs.declared.marking.MarkerClaim.TheVariants.{Claimed, Moved, NoEntry}

-- Seat w claimed a marker that starts at a key: it is the last one, and has no barrier yet. All
-- that the seat wrote ends at or below that key, and each log key that it had found lies there too.
pub record HasMarked (w : ℕ) (v : View) (start : ℕ) (after : View) : Type 0 where
  pub hands : after.hands ≡ with_marker w start v.hands
  pub waits : MarkerWaits w after.part start
  pub wrote : WroteBelow start after.trail
  pub rises : (key : ℕ) → Finds Log key v.trail → key ≤ start

-- by one try
abbrev pub ClaimsMarker : ℕ → View → MarkerClaim → View → Type 0
ClaimsMarker w v (Claimed start) after = HasMarked w v start after
ClaimsMarker w v Moved after = after.hands ≡ v.hands
ClaimsMarker w v NoEntry after = after.hands ≡ v.hands

-- by tries until no entry stands behind the last marker
abbrev pub MarksNext : ℕ → View → Option ℕ → View → Type 0
MarksNext w v (Some start) after = HasMarked w v start after
MarksNext w v None after = after.hands ≡ v.hands
