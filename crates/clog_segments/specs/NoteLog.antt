-- A log of notes: which entries stand in its sections, where it goes on, and what a sync makes of
-- it.
use Rattle.std.specs.Prelude.{
  ◌≡◌,
  ◌⊎◌,
  ℕ,
  ◌+◌,
  ◌<◌,
  ◌≤◌,
  ◌^◌,
  List,
  [],
  ◌∷◌,
  ◌++◌,
  length,
  take,
  drop,
  Option,
  Some,
  false,
  ⊤,
}
use Rattle.std.specs.FinMap as finmap
use Rattle.std.specs.List.{Contains}
use Rattle.std.specs.List.Sorted.{IsPermutation}
use Rattle.clog_spec.specs.Names.{segment_name_of}
use Rattle.clog_spec.specs.Sizes.{header_size, marker_size}
use Rattle.clog_base.specs.declared.sizes.Sizes.{Sizes}
use Rattle.clog_base.specs.Positions.{ordinal_of, offset_of}
use Rattle.clog_disk.specs.Files.{Files, Told, bytes_at}
use Rattle.clog_scan.specs.Cut.{Section, last_until}
use Rattle.clog_crash.specs.Log.{Write}
use Rattle.clog_crash.specs.Runs.{placed_log}
use Rattle.clog_crash.specs.Sections.{segment_bytes}
use Rattle.path_core.specs.declared.note.EntryNote.{EntryNote}
use Rattle.path_core.specs.History.{IsInSegment}
use Rattle.path_core.specs.Keeper.{Holding, IsParted, MaySync}
use Rattle.path_core.specs.Keys.{after}
use Rattle.path_core.specs.Whole.{IsWhole}
use Rattle.clog_segments.specs.Grows.{segments_with}
use Rattle.clog_segments.specs.Life.{State}
use Rattle.clog_segments.specs.Notes.{places_of}

-- A log of notes: its sections; the id of the segment of ordinal 0; the start of the last sync's
-- marker, 0 before the first; the entries that are lasting, and those of a sync that was refused;
-- and how many of the latter stand in the sections.
pub record NoteState (D : Type 0) : Type 0 where
  pub log : State D
  pub base : ℕ
  pub sizes : Sizes
  pub synced : ℕ
  pub logged : List EntryNote
  pub kept : List EntryNote
  pub written : ℕ

-- ---- what stays true

-- a whole entry, in one segment that there may be
pub record IsGood (sizes : Sizes) (n : EntryNote) : Type 0 where
  pub whole : IsWhole n
  pub in_segment : IsInSegment sizes.capacity n
  pub segment_is : ordinal_of n.start.0 < sizes.ordinals

-- the log's sections hold just these notes, each at its place
abbrev pub Holds : {D : Type 0} → ℕ → State D → List Section → List EntryNote → Type 0
Holds base log sections notes = placed_log log.past log.id sections ≡ places_of base notes

-- the key at which these notes end, behind one
abbrev pub end_behind : ℕ → List EntryNote → ℕ
end_behind key [] = key
end_behind key (n ∷ ns) = end_behind n.end.0 ns

-- A log that ends at a key: its last section does; or it has none in the segment at hand, which is
-- the first one, or behind that of the key.
abbrev pub EndsAt : {D : Type 0} → ℕ → State D → ℕ → Type 0
EndsAt base log key =
    ((log.id ≡ base + ordinal_of key) × (last_until header_size log.sections ≡ offset_of key)
    × (0 < length log.sections) × (0 < key))
    ⊎ ((log.sections ≡ []) × (((key ≡ 0) × (log.id ≡ base)) ⊎ (base + ordinal_of key < log.id)))

-- What lasts of it reaches a key.
abbrev pub Reaches : {D : Type 0} → ℕ → State D → ℕ → Type 0
Reaches base log key =
    (base + ordinal_of key < log.id)
    ⊎ ((log.id ≡ base + ordinal_of key)
    × (offset_of key ≤ last_until header_size (take log.synced log.sections)))

-- the first of these notes does not start at a key
abbrev pub IsApart : ℕ → List EntryNote → Type 0
IsApart key [] = ⊤
IsApart key (n ∷ ns) = n.start.0 ≡ key → ⊥

-- the first of these notes, where there is one, stands in the segment of an id or in a later one
abbrev pub BeginsFrom : ℕ → ℕ → List EntryNote → Type 0
BeginsFrom base id [] = ⊤
BeginsFrom base id (n ∷ ns) = id ≤ base + ordinal_of n.start.0

-- The log stands in the synced key's segment, and a key lies behind the marker there.
pub record IsShortOf {D : Type 0} (s : NoteState D) (upper : ℕ) : Type 0 where
  pub here : s.log.id ≡ s.base + ordinal_of s.synced
  pub some : 0 < s.synced
  pub behind : (s.synced + marker_size < upper) ⊎ (ordinal_of s.synced < ordinal_of upper)

-- What is true while the disk has not failed.
pub record IsHeld {D : Type 0} (s : NoteState D) : Type 0 where
  -- what was logged and, of what is kept, what was written, stand in the sections
  pub all : Holds s.base s.log s.log.sections (s.logged ++ take s.written s.kept)
  -- of that the former and the first of the latter last
  pub lasting : ℕ
  pub no_more : lasting ≤ s.written
  pub lasts : Holds s.base s.log (take s.log.synced s.log.sections)
      (s.logged ++ take lasting s.kept)
  pub settled : lasting ≡ s.written → s.log.synced ≡ length s.log.sections
  pub reaches : Reaches s.base s.log s.synced
  -- the log ends where the last of these notes does
  pub forward : s.synced ≤ end_behind s.synced (take s.written s.kept)
  pub ends : EndsAt s.base s.log (end_behind s.synced (take s.written s.kept))
  -- and what is kept besides goes on behind it, with a marker between; where the segment at hand
  -- is a later one and has no section, it was entered for the first of this, or for no note, and
  -- then none of this stands before it
  pub apart : IsApart (end_behind s.synced (take s.written s.kept)) (drop s.written s.kept)
  pub begins : s.log.sections ≡ []
      → s.base + ordinal_of (end_behind s.synced (take s.written s.kept)) < s.log.id
      → BeginsFrom s.base s.log.id (drop s.written s.kept)
  -- where all that is kept was written, the last of it stands in the segment at hand
  pub last_here : 0 < s.written → s.written ≡ length s.kept → 0 < length s.log.sections

-- What is true also where the disk has failed: what was logged and the first of what is kept stand
-- in the sections, and of that the former and perhaps some of the latter last.
pub record Stands {D : Type 0} (s : NoteState D) : Type 0 where
  pub shown : ℕ
  pub no_more_shown : shown ≤ length s.kept
  pub all : Holds s.base s.log s.log.sections (s.logged ++ take shown s.kept)
  pub lasting : ℕ
  pub no_more : lasting ≤ shown
  pub lasts : Holds s.base s.log (take s.log.synced s.log.sections)
      (s.logged ++ take lasting s.kept)

-- No segment of the log stands below the base, also none that has no section.
abbrev pub IsFrom : {D : Type 0} → ℕ → State D → Type 0
IsFrom base log =
    (w : Write) → Contains (segments_with log.past log.id log.sections) w → base ≤ w.id

-- one of these notes ends at the key
abbrev pub EndsThere : ℕ → List EntryNote → Type 0
EndsThere key notes = (n : EntryNote) × Contains notes n × (n.end.0 ≡ key)

-- What a log of notes keeps.
pub record IsNoteLog {D : Type 0} (s : NoteState D) : Type 0 where
  pub fits : s.base < 2 ^ 62
  pub from : IsFrom s.base s.log
  pub few : s.written ≤ length s.kept
  pub good : (n : EntryNote) → Contains (s.logged ++ s.kept) n → IsGood s.sizes n
  pub below : (n : EntryNote) → Contains s.logged n → n.end.0 ≤ s.synced
  -- the synced key, once there is one, is the end of a note that is logged
  pub ended : 0 < s.synced → EndsThere s.synced s.logged
  pub above : (n : EntryNote) → Contains s.kept n → after s.sizes.capacity s.synced < n.end.0
  pub stands : Stands s
  pub held : s.log.is_stopped ≡ false → IsHeld s

-- ---- a sync

-- what a keeper holds has this log
pub record HasLog {D : Type 0} (s : NoteState D) (h : Holding) : Type 0 where
  pub base_is : h.base ≡ s.base
  pub sizes_are : h.sizes ≡ s.sizes
  pub synced_is : h.synced ≡ s.synced
  pub logged_are : h.logged ≡ s.logged
  pub kept_are : h.kept ≡ s.kept

-- The pending notes up to the key may be written, as a keeper with this log is asked to.
pub record MayLog {D : Type 0} (s : NoteState D) (upto : ℕ) (pending : List EntryNote)
    : Type 0 where
  pub holding : Holding
  pub has : HasLog s holding
  pub may : MaySync holding upto pending

-- The notes up to the key are logged, and no longer pending.
pub record HasSynced {D : Type 0} (before now : NoteState D) (upto : ℕ)
    (pending left : List EntryNote) : Type 0 where
  pub run : List EntryNote
  pub parted : IsParted upto pending run left
  pub log_is : now ≡ record before {
    log = now.log;
    synced = upto;
    logged = before.logged ++ run;
    kept = [];
    written = 0;
  }

-- All is pending as before; what is kept is what was, or the notes up to the key.
pub record HasRefused {D : Type 0} (before now : NoteState D) (upto : ℕ)
    (pending left : List EntryNote) : Type 0 where
  pub pends : IsPermutation pending left
  pub keeps : (now.kept ≡ before.kept)
      ⊎ ((rest : List EntryNote) × IsParted upto pending now.kept rest)
  pub log_is : now ≡ record before { log = now.log; kept = now.kept; written = now.written }

-- one of these has the id, and sections
pub record HasWritten (id : ℕ) (segments : List Write) : Type 0 where
  pub segment : Write
  pub among : Contains segments segment
  pub id_is : segment.id ≡ id
  pub some : 0 < length segment.sections

-- the name is that of none of these that has sections
abbrev pub IsNotOf : List Write → List ℕ → Type 0
IsNotOf segments name = (w : Write) → Contains segments w → 0 < length w.sections → w.id < 2 ^ 63
    → name ≡ segment_name_of 6 w.id → ⊥

-- What a sync leaves of the other files, where the disk tells them, whatever is answered: all stand
-- as before but those of the segments with sections, from the one at hand before on, and each
-- segment that it has left reads as its sections.
pub record LeavesOthers {D : Type 0} (before now : State D) (told told_now : Option Files)
    : Type 0 where
  pub more : List Write
  pub past : now.past ≡ before.past ++ more
  pub later : (w : Write) → Contains (segments_with more now.id now.sections) w
      → before.id ≤ w.id
  pub grown : 0 < length before.sections
      → HasWritten before.id (segments_with more now.id now.sections)
  pub others : (f : Files) → told ≡ Some f → Told told_now (λ g. (name : List ℕ)
      → IsNotOf (segments_with more now.id now.sections) name
      → finmap.get g name ≡ finmap.get f name)
  pub left : (f : Files) → told_now ≡ Some f → (w : Write) → Contains more w
      → bytes_at f (segment_name_of 6 w.id) ≡ segment_bytes w.id w.sections
