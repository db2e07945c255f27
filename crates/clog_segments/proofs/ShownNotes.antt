-- What lasts of a log of notes is at least all that is logged, and stands at its head: so each
-- image shows it.
use Rattle.std.proofs.Common.{
  ◌≡◌,
  ℕ,
  ◌≤◌,
  List,
  [],
  ◌∷◌,
  ◌++◌,
  length,
  map,
  take,
  Option,
  refl,
  sym,
  ap,
  ◌∙◌,
  append_assoc,
  length-append,
  arith,
}
use Rattle.std.specs.List.{flat_map}
use Rattle.std.proofs.lemmas.List.{append-nil, length-map, map-append}
use Rattle.clog_spec.specs.Sizes.{header_size}
use Rattle.clog_disk.specs.Files.{Files}
use Rattle.clog_disk.specs.Images.{IsImage, LeavesOnly}
use Rattle.clog_disk.proofs.Moments.{weakened}
use Rattle.clog_scan.specs.Cut.{Section, last_until}
use Rattle.clog_scan.specs.Segment.{Entry, entries_of}
use Rattle.clog_crash.specs.Log.{GoesOn, HasShown, Write, entries_in, logged_in}
use Rattle.clog_crash.specs.Readings.{Reading}
use Rattle.clog_crash.specs.Runs.{Placed, placed, placed_log, placed_of}
use Rattle.clog_crash.proofs.life.Shown.{entries_in-append, logged_more, shown_fewer, written}
use Rattle.path_core.specs.declared.note.EntryNote.{EntryNote}
use Rattle.clog_segments.specs.Life.{Lives, MayGoOnIn, Outlives, ShowsOn, lasting_in}
use Rattle.clog_segments.specs.NoteLog.{IsNoteLog, NoteState}
use Rattle.clog_segments.specs.Notes.{places_of}
use Rattle.clog_segments.specs.ShownNotes.{
  HasShownNotes,
  LeavesLogged,
  LeavesLoggedSince,
  entry_of,
}
use Rattle.clog_segments.proofs.Lived.{at_both, both}

-- ---- entries, by their notes

abbrev entry_at : Placed → Entry
entry_at p = p.1

at_places : (id : ℕ) (es : List Entry) → map entry_at (placed id es) ≡ es
at_places id [] = refl
at_places id (e ∷ es) = ap (λ (l : List Entry). e ∷ l) (at_places id es)

of_log : (past : List Write) (id : ℕ) (ss : List Section)
    → logged_in past ss ≡ map entry_at (placed_log past id ss)
of_log [] id ss = sym (at_places id (entries_of header_size ss))
of_log (v ∷ vs) id ss =
    let first = entries_of header_size v.sections in
    let rest = flat_map placed_of vs ++ placed id (entries_of header_size ss) in
    append_assoc first (entries_in vs) (entries_of header_size ss)
    ∙ ap (λ (l : List Entry). l ++ logged_in vs ss) (sym (at_places v.id first))
    ∙ ap (λ (l : List Entry). map entry_at (placed_of v) ++ l) (of_log vs id ss)
    ∙ sym (map-append entry_at (placed_of v) rest)
    ∙ ap (map entry_at)
    (sym (append_assoc (placed_of v) (flat_map placed_of vs)
    (placed id (entries_of header_size ss))))

of_places : (base : ℕ) (ns : List EntryNote) → map entry_at (places_of base ns) ≡ map entry_of ns
of_places base [] = refl
of_places base (n ∷ ns) = ap (λ (l : List Entry). entry_of n ∷ l) (of_places base ns)

of_notes : (base : ℕ) (past : List Write) (id : ℕ) (ss : List Section) (notes : List EntryNote)
    → placed_log past id ss ≡ places_of base notes → logged_in past ss ≡ map entry_of notes
of_notes base past id ss notes is =
    of_log past id ss ∙ ap (map entry_at) is ∙ of_places base notes

-- a log that goes on begins with what there was
at_head : (past : List Write) (id : ℕ) (ss : List Section) (log : List Write)
    → GoesOn past id ss log → (rest : List Entry) × (entries_in log ≡ logged_in past ss ++ rest)
at_head past id ss log on =
    let more = entries_of (last_until header_size ss) on.more in
    let behind = entries_in on.next in (
      more ++ behind,
      ap entries_in on.is ∙ entries_in-append past (written id (ss ++ on.more) ∷ on.next)
          ∙ sym (append_assoc (entries_in past) (entries_of header_size (ss ++ on.more)) behind)
          ∙ ap (λ (es : List Entry). es ++ behind) (logged_more past ss on.more)
          ∙ append_assoc (logged_in past ss) more behind,
    )

-- ---- what is logged lasts, at the head

module _ {D : Type 0} (s : NoteState D) (noted : IsNoteLog s) where
  pub enough : length s.logged ≤ lasting_in s.log
  enough =
      let lasting = noted.stands.lasting in
      let all = s.logged ++ take lasting s.kept in
      let count = ap length (of_notes s.base s.log.past s.log.id
      (take s.log.synced s.log.sections) all noted.stands.lasts)
      ∙ length-map all entry_of ∙ length-append s.logged (take lasting s.kept) in
      omega (arith, count)

  head : (notes more : List EntryNote) → s.logged ≡ notes ++ more
      → (rest : List Entry)
      × (logged_in s.log.past s.log.sections ≡ map entry_of notes ++ rest)
  head notes more is =
      let tail = take noted.stands.shown s.kept in (
        map entry_of (more ++ tail),
        of_notes s.base s.log.past s.log.id s.log.sections (s.logged ++ tail) noted.stands.all
            ∙ ap (λ (l : List EntryNote). map entry_of (l ++ tail)) is
            ∙ ap (map entry_of) (append_assoc notes more tail)
            ∙ map-append entry_of notes (more ++ tail),
      )

  pub shows_notes : (r : Reading) (notes more : List EntryNote) → s.logged ≡ notes ++ more
      → (at least : ℕ) → length notes ≤ least → (image : Files)
      → HasShown r least s.log.past at s.log.sections image
      → HasShownNotes r notes s.log.past at s.log.sections image
  shows_notes r notes more is at least few image shown log on chances =
      let rest = at_head s.log.past at s.log.sections log on in
      let first = head notes more is in
      record {
        behind = first.0 ++ rest.0;
        begins = rest.1 ∙ ap (λ (l : List Entry). l ++ rest.0) first.1
            ∙ append_assoc (map entry_of notes) first.0 rest.0;
        restores = shown_fewer r (length notes) least s.log.past at s.log.sections image few
            shown log on chances;
      }

-- ---- in each image

module _ {D : Type 0} (files : D → Option Files) (moment : D → ℕ)
    (since : D → ℕ → Files → Type 0) (leaves : D → List ℕ → Option (List ℕ) → Type 0)
    (read_at : D → ℕ → Option Reading) (lasted_at : D → ℕ → Type 0) where
  pub leaves_logged : (s : NoteState D) → IsNoteLog s
      → Lives files moment since leaves read_at lasted_at s.log
      → LeavesLogged files leaves read_at s
  leaves_logged s noted lives =
      let told = files s.log.disk in
      let read = read_at s.log.disk s.log.opened in
      both told read (λ f r. (at : ℕ) → MayGoOnIn s.log.id s.log.sections at → (image : Files)
      → IsImage (leaves s.log.disk) image
      → HasShownNotes r s.logged s.log.past at s.log.sections image) (λ f r is as_r at may image
      left.
      shows_notes s noted r s.logged [] (sym (append-nil s.logged)) at (lasting_in s.log)
      (enough s noted) image
      (at_both told read (λ f r. (at : ℕ) → MayGoOnIn s.log.id s.log.sections at
      → (image : Files) → IsImage (leaves s.log.disk) image
      → HasShown r (lasting_in s.log) s.log.past at s.log.sections image) f r lives.lasts is as_r
      at may image left))

  pub leaves_since : (before now : NoteState D) (more : List EntryNote) → IsNoteLog before
      → IsNoteLog now → now.logged ≡ before.logged ++ more
      → Outlives files moment since read_at lasted_at before.log now.log
      → LeavesLoggedSince files moment since read_at before now
  leaves_since before now more noted noted_now is lived =
      let told = files now.log.disk in
      let read = read_at now.log.disk now.log.opened in
      let a = before.log in
      let b = now.log in
      both told read (λ f r. (at : ℕ) → MayGoOnIn b.id b.sections at
      → LeavesOnly moment since a.disk b.disk
      (HasShownNotes r before.logged b.past at b.sections)) (λ f r told_is read_is at may.
      weakened moment since a.disk b.disk (HasShown r (lasting_in a) b.past at b.sections)
      (HasShownNotes r before.logged b.past at b.sections)
      (at_both told read (λ f r. (at : ℕ) → MayGoOnIn b.id b.sections at
      → ShowsOn r a.past a.id a.sections b.past at b.sections
      × LeavesOnly moment since a.disk b.disk (HasShown r (lasting_in a) b.past at b.sections)) f r
      lived.shown told_is read_is at may).1
      (λ image shown.
      shows_notes now noted_now r before.logged more is at (lasting_in a) (enough before noted)
      image shown))
