-- What images of a crash show of the entries that a store has made lasting.
use Rattle.std.specs.Prelude.{◌≡◌, ℕ, List, ◌++◌, length, map, Option}
use Rattle.clog_base.specs.Positions.{offset_of}
use Rattle.clog_disk.specs.Files.{Files}
use Rattle.clog_disk.specs.Images.{IsImage, LeavesOnly}
use Rattle.clog_scan.specs.Cut.{Section}
use Rattle.clog_scan.specs.Segment.{Entry, entry_from}
use Rattle.clog_crash.specs.Log.{GoesOn, NoChances, Write, entries_in}
use Rattle.clog_crash.specs.Readings.{Reading}
use Rattle.clog_crash.specs.Showing.{RestoresFirst}
use Rattle.path_core.specs.declared.note.EntryNote.{EntryNote}
use Rattle.clog_segments.specs.Life.{BothTold, MayGoOnIn}
use Rattle.clog_segments.specs.NoteLog.{NoteState}
use Rattle.clog_segments.specs.Notes.{payload_in}

-- the entry of a note, in its segment
abbrev pub entry_of : EntryNote → Entry
entry_of n = entry_from (offset_of n.start.0) (payload_in n.bytes)

-- The image restores what a folder restores that reads as r, and the first of these entries. They
-- begin with those of the notes, in this order, and all of these are restored.
pub record RestoresNotes (r : Reading) (notes : List EntryNote) (entries : List Entry)
    (image : Files) : Type 0 where
  pub behind : List Entry
  pub begins : entries ≡ map entry_of notes ++ behind
  pub restores : RestoresFirst r (length notes) entries image

-- An image has shown the notes, whatever is written behind these segments and sections.
abbrev pub HasShownNotes : Reading → List EntryNote → List Write → ℕ → List Section → Files → Type 0
HasShownNotes r notes past id sections image = (log : List Write) → GoesOn past id sections log
    → NoChances log image → RestoresNotes r notes (entries_in log) image

-- Each image of now shows all entries that are logged, with what the folder restored at the
-- opening, wherever the log goes on.
abbrev pub LeavesLogged : {D : Type 0} → (D → Option Files)
    → (D → List ℕ → Option (List ℕ) → Type 0) → (D → ℕ → Option Reading) → NoteState D → Type 0
LeavesLogged files leaves read_at s =
    BothTold (files s.log.disk) (read_at s.log.disk s.log.opened) (λ f r. (at : ℕ)
    → MayGoOnIn s.log.id s.log.sections at → (image : Files) → IsImage (leaves s.log.disk) image
    → HasShownNotes r s.logged s.log.past at s.log.sections image)

-- Each image since an earlier state shows all that were logged then.
abbrev pub LeavesLoggedSince : {D : Type 0} → (D → Option Files) → (D → ℕ)
    → (D → ℕ → Files → Type 0) → (D → ℕ → Option Reading) → NoteState D → NoteState D → Type 0
LeavesLoggedSince files moment since read_at before now =
    BothTold (files now.log.disk) (read_at now.log.disk now.log.opened) (λ f r. (at : ℕ)
    → MayGoOnIn now.log.id now.log.sections at
    → LeavesOnly moment since before.log.disk now.log.disk
    (HasShownNotes r before.logged now.log.past at now.log.sections))
