-- What a try to claim answers.
use Rattle.std.specs.Prelude.{◌≡◌, ◌≢◌, ℕ, ◌<◌, ◌≤◌}
use Rattle.path_core.specs.declared.event.ClaimKind.TheVariants.{Entry}
use Rattle.path_core.specs.declared.event.Event.TheVariants.{Look, Claim}
use Rattle.path_core.specs.declared.event.Place.TheVariants.{Log}
use Rattle.path_core.specs.Keys.{entry_end, ordinal_of}
use Rattle.path_rule.specs.declared.view.PathSize.{PathSize}
use Rattle.path_rule.specs.declared.view.View.{View}
use Rattle.path_rule.specs.Calls.{Did}
use Rattle.path_rule.specs.Rule.{view_after}
use Rattle.path_table.specs.declared.trying.Seen.{Seen}
use Rattle.clog_base.specs.declared.position.Key.{Key}
use Rattle.write_path.specs.declared.claimed.Claimed.{Claimed as ClaimedSeat}
use Rattle.write_path.specs.declared.claiming.TryClaim.{TryClaim}
use Rattle.write_path.specs.declared.claiming.TryClaim.TheVariants.{Claimed, Again, Spent}
use Rattle.write_path.specs.declared.seats.Appending.{Appending}

abbrev pub MatchClaim : {K : Type 0} → TryClaim K → (ClaimedSeat K → Type 0)
    → (Appending K → Seen → Type 0) → (Appending K → Key → Type 0) → Type 0
MatchClaim (Claimed c) P Q R = P c
MatchClaim (Again a seen) P Q R = Q a seen
MatchClaim (Spent a key) P Q R = R a key

-- Seat w looked at the log key, and moved the log from there to another.
pub record IsClaim (v : View) (w to : ℕ) (after : View) : Type 0 where
  pub looked : ℕ
  pub did : Did (view_after v (Look w Log) looked) w
      (Claim w (record { 0 = looked }) (record { 0 = to }) Entry) to after

-- Seat w only looked: it found the log key, at which an entry of so many bytes has a segment, and
-- then another.
pub record IsAgain (size : PathSize) (v : View) (w bytes looked found : ℕ) (after : View) :
    Type 0 where
  pub room : ordinal_of (entry_end size.capacity looked bytes) < size.ordinals
  pub moved : found ≢ looked
  pub view : after ≡ view_after (view_after v (Look w Log) looked) (Look w Log) found

-- Seat w only looked: at the key that it found, an entry of so many bytes has no segment.
pub record IsSpent (size : PathSize) (v : View) (w bytes key : ℕ) (after : View) : Type 0 where
  pub none : size.ordinals ≤ ordinal_of (entry_end size.capacity key bytes)
  pub view : after ≡ view_after v (Look w Log) key
