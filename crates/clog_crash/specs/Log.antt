-- A log of several segments, as it was written since an opening, and what images show over this
-- whole time.
use Rattle.std.specs.Prelude.{◌≡◌, ℕ, List, [], ◌∷◌, ◌++◌, Option, ⊤}
use Rattle.clog_spec.specs.Names.{segment_name_of}
use Rattle.clog_spec.specs.Sizes.{header_size}
use Rattle.clog_disk.specs.Files.{Files, bytes_at}
use Rattle.clog_scan.specs.Cut.{Section}
use Rattle.clog_scan.specs.Segment.{Entry, entries_of}
use Rattle.clog_crash.specs.Chance.{NoChance}
use Rattle.clog_crash.specs.Covering.{Either, SameMerge}
use Rattle.clog_crash.specs.Readings.{Reading, RestoresIn, IsCellAmong}
use Rattle.clog_crash.specs.Rest.{IsAtRest, settled}
use Rattle.clog_crash.specs.Sections.{IsStored}
use Rattle.clog_crash.specs.Showing.{RestoresFirst}

-- the sections that were written to a segment
pub record Write : Type 0 where
  pub id : ℕ
  pub sections : List Section

-- the entries of segments, in the order of the log
abbrev pub entries_in : List Write → List Entry
entries_in [] = []
entries_in (w ∷ ws) = entries_of header_size w.sections ++ entries_in ws

-- in the image no segment that was written has anything by chance
abbrev pub NoChances : List Write → Files → Type 0
NoChances [] image = ⊤
NoChances (w ∷ ws) image =
    NoChance w.id w.sections (bytes_at image (segment_name_of 6 w.id)) × NoChances ws image

-- The log goes on from earlier segments and one with these sections: this one has perhaps further
-- sections, and perhaps others follow.
pub record GoesOn (past : List Write) (id : ℕ) (sections : List Section) (log : List Write) : Type 0
  where
    pub more : List Section
    pub next : List Write
    pub is : log ≡ past ++ record { id = id; sections = sections ++ more } ∷ next
    pub stored : IsStored id (sections ++ more)

-- What an image has shown while these sections were written behind earlier segments, whatever is
-- written behind them: what a folder restores that reads as r, and the first of the log's entries,
-- at least so many.
abbrev pub HasShown : Reading → ℕ → List Write → ℕ → List Section → Files → Type 0
HasShown r least past id sections image = (log : List Write) → GoesOn past id sections log
    → NoChances log image → RestoresFirst r least (entries_in log) image

-- the entries of earlier segments and of the sections of one
abbrev pub logged_in : List Write → List Section → List Entry
logged_in past old = entries_in past ++ entries_of header_size old

-- At rest, some time after the opening: what lasts restores what was restored at the opening, when
-- the folder read as r, and the entries that last.
pub record IsResting (files : Files) (leaves : List ℕ → Option (List ℕ) → Type 0) (r : Reading)
    (past : List Write) (id : ℕ) (old kept : List Section) : Type 0 where
  pub rest : IsAtRest files leaves id old kept
  pub restores :
      SameMerge (RestoresIn (settled files id old))
      (Either (RestoresIn r) (IsCellAmong (logged_in past old)))
