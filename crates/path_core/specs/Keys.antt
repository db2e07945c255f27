-- Keys of the log, and where claims stand.
--
-- A key is one number for an ordinal, which counts segments, and an offset in bytes. A claim that
-- does not fit a segment moves the log to the next one, behind the header and the first marker.
use Rattle.std.specs.Prelude.{◌≡◌, ℕ, ◌+◌, ◌-◌, ◌/◌, ◌<◌, ◌≤◌, Bool, ◌==◌, nat_lt, if◌then◌else◌}
pub use Rattle.clog_base.specs.Positions.{ordinal_of, offset_of, key_of}
pub use Rattle.clog_spec.specs.Sizes.{front_size as first_offset, marker_size}
use Rattle.path_core.specs.declared.event.ClaimKind.{ClaimKind}
use Rattle.path_core.specs.declared.event.ClaimKind.TheVariants.{Entry, Marker}

-- the least entry: a payload of 18 bytes and 12 around it
abbrev pub least_entry : ℕ
least_entry = 30

-- the first key of the segment behind the one of a key
abbrev pub next_segment : ℕ → ℕ
next_segment key = key_of (ordinal_of key + 1) first_offset

-- a claim of some bytes at a key fits its segment
abbrev pub fits : ℕ → ℕ → ℕ → Bool
fits capacity key size = nat_lt (offset_of key + size) capacity

-- where an entry of some bytes begins that is claimed at a log key
abbrev pub entry_start : ℕ → ℕ → ℕ → ℕ
entry_start capacity key size = if fits capacity key size then key else next_segment key

-- where it ends, which is the log key then
abbrev pub entry_end : ℕ → ℕ → ℕ → ℕ
entry_end capacity key size = entry_start capacity key size + size

-- The end of the marker that is claimed at a log key: where it does not fit it is empty.
abbrev pub marker_end : ℕ → ℕ → ℕ
marker_end capacity key = if fits capacity key marker_size then key + marker_size else key

-- the log key behind the marker that is claimed at a log key
abbrev pub behind_marker : ℕ → ℕ → ℕ
behind_marker capacity key =
    if fits capacity key marker_size then key + marker_size else next_segment key

-- Where the log goes on behind the synced key, which is the start of a marker, or 0 at first.
abbrev pub after : ℕ → ℕ → ℕ
after capacity synced =
    if synced == 0 then first_offset else behind_marker capacity synced

-- The bytes of the entry whose claim moved the log from one key to another, which shows whether it
-- rolled to the next segment.
abbrev pub claimed_size : ℕ → ℕ → ℕ
claimed_size from to =
    if ordinal_of to == ordinal_of from then to - from else offset_of to - first_offset

-- A claim may move the log from one key to another: an entry of a size that may be, in a segment
-- that there is, or a marker.
abbrev pub MovesLog : ClaimKind → ℕ → ℕ → ℕ → ℕ → Type 0
MovesLog Entry capacity ordinals from to =
    let size = claimed_size from to in
    (least_entry ≤ size) × (size ≤ capacity / 2) × (to ≡ entry_end capacity from size)
    × (ordinal_of to < ordinals)
MovesLog Marker capacity ordinals from to = to ≡ behind_marker capacity from

-- where the range begins that such a claim takes
abbrev pub claim_start : ClaimKind → ℕ → ℕ → ℕ
claim_start Entry from to = to - claimed_size from to
claim_start Marker from to = from

-- where it ends
abbrev pub claim_end : ClaimKind → ℕ → ℕ → ℕ → ℕ
claim_end Entry capacity from to = to
claim_end Marker capacity from to = marker_end capacity from
