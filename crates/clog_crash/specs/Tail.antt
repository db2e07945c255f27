-- What reading a segment gives whose last sections a crash has torn.
use Rattle.std.specs.Prelude.{◌≡◌, ◌⊎◌, ℕ, ◌≤◌, List, [], ◌++◌, length, take, Some, ⊤}
use Rattle.clog_spec.specs.Sizes.{header_size}
use Rattle.clog_entry.specs.Soft.{IsSoft}
use Rattle.clog_scan.specs.declared.answer.End.{End}
use Rattle.clog_scan.specs.declared.answer.End.TheVariants.{Clean, Torn}
use Rattle.clog_scan.specs.Cut.{Section, front_bytes, last_until}
use Rattle.clog_scan.specs.Laws.{AreWhole}
use Rattle.clog_scan.specs.Segment.{entries_of, IsSegment}

-- clean, or torn for a soft cause
abbrev pub IsSoftEnd : End → Type 0
IsSoftEnd (Clean at) = ⊤
IsSoftEnd (Torn at cause) = IsSoft cause

-- whole sections were written, the new ones behind the old ones
pub record Written (old new : List Section) : Type 0 where
  pub end : ℕ
  pub whole : AreWhole end header_size (old ++ new)

-- The image begins with the header and the old sections. Where there are none, nothing lasts, and
-- it may begin with anything.
abbrev pub Begins : ℕ → List Section → List ℕ → Type 0
Begins id old image =
    ((rest : List ℕ) × (image ≡ front_bytes id (Some old) ++ rest)) ⊎ (old ≡ [])

-- Reading the image gives the entries of the old sections, and then the first of the new ones.
-- Behind them it ends clean, or torn for a soft cause.
pub record ReadsFirst (id : ℕ) (old new : List Section) (image : List ℕ) : Type 0 where
  pub end : End
  pub n : ℕ
  pub some : n ≤ length (entries_of (last_until header_size old) new)
  pub holds :
      IsSegment image id
      (entries_of header_size old ++ take n (entries_of (last_until header_size old) new)) end
  pub soft : IsSoftEnd end
