-- What a crash leaves while sections are written restores what lasts and the first of their
-- entries, and has no damage.
use Rattle.std.proofs.Common.{
  ◌≡◌,
  ℕ,
  List,
  [],
  ◌++◌,
  length,
  take,
  Option,
  refl,
  sym,
  ◌∙◌,
  ap,
  subst,
  arith,
  append_assoc,
}
use Rattle.std.specs.FinMap as finmap
use Rattle.std.proofs.lemmas.List.{append-nil}
use Rattle.clog_spec.specs.Sizes.{header_size}
use Rattle.clog_spec.specs.Names.{segment_name_of}
use Rattle.clog_disk.specs.Files.{Files, bytes_at}
use Rattle.clog_disk.specs.Images.{IsImage}
use Rattle.clog_scan.specs.Cut.{Section, last_until}
use Rattle.clog_scan.specs.Laws.{IsFile}
use Rattle.clog_scan.specs.Segment.{Entry, entries_of}
use Rattle.clog_crash.specs.Chance.{NoChance}
use Rattle.clog_crash.specs.Rest.{IsInFiles, Tail, Lasting, settled}
use Rattle.clog_crash.specs.Sections.{segment_bytes, IsStored}
use Rattle.clog_crash.specs.Showing.{RestoresFirst, Shows}
use Rattle.clog_crash.specs.Tail.{ReadsFirst}
use Rattle.clog_crash.proofs.rest.Sectioned.{begins_with, no_longer_than, logged_are}
use Rattle.clog_crash.proofs.rest.Standing.{reads_same}
use Rattle.clog_crash.proofs.rest.Tails.{longer}
use Rattle.clog_crash.proofs.rest.Left.{left_reads}
use Rattle.clog_crash.proofs.rest.Settled.{settled_there, adds}
use Rattle.clog_crash.proofs.rest.Undamaged.{among, undamaged_image}

-- ---- what an image shows

module _ (f : Files) (id : ℕ) (old kept more : List Section) (stored : IsStored id (old ++ more))
    (in_f : IsInFiles f id old kept) (image : Files)
    (others : (name : List ℕ) → (name ≡ segment_name_of 6 id → ⊥)
    → finmap.get image name ≡ finmap.get f name) where
  abbrev s : List ℕ
  s = segment_name_of 6 id

  abbrev entries : List Entry
  entries = entries_of (last_until header_size old) more

  restores_first : IsFile (bytes_at image s) → ReadsFirst id old more (bytes_at image s)
      → RestoresFirst (settled f id old) 0 entries image
  restores_first file read = record {
    n = read.n;
    enough = omega arith;
    some = read.some;
    restores = adds f id old kept more stored in_f (bytes_at image) (take read.n entries)
        (λ name apart. reads_same f image name (others name apart)
        ∙ sym (settled_there f id old name apart))
        (among f id old kept more stored in_f image others read)
        (logged_are (bytes_at image) id (bytes_at image s)
        (entries_of header_size old ++ take read.n entries) read.end stored.fits file refl
        read.holds);
    undamaged = undamaged_image f id old kept more stored in_f image others read;
  }

  shown_left : Tail (length (segment_bytes id old)) (segment_bytes id (old ++ more))
      (finmap.get image s) → NoChance id (old ++ more) (bytes_at image s)
      → RestoresFirst (settled f id old) 0 entries image
  shown_left tail chance =
      let read = left_reads id old more stored (bytes_at image s) chance (finmap.get image s) refl
      tail in
      restores_first read.0 read.1

pub shown_now : (f : Files) (id : ℕ) (old kept more : List Section) → IsStored id (old ++ more)
    → IsInFiles f id old kept → (leaves : List ℕ → Option (List ℕ) → Type 0)
    → Lasting f leaves id old (old ++ more) → (image : Files) → IsImage leaves image
    → NoChance id (old ++ more) (bytes_at image (segment_name_of 6 id))
    → RestoresFirst (settled f id old) 0 (entries_of (last_until header_size old) more) image
shown_now f id old kept more stored in_f leaves lasting image left chance =
    let s = segment_name_of 6 id in
    shown_left f id old kept more stored in_f image
    (λ name apart. lasting.others name apart (finmap.get image name) (left name))
    (lasting.tail (finmap.get image s) (left s)) chance

-- ---- whatever is written later on

lasting_longer : (f : Files) (leaves : List ℕ → Option (List ℕ) → Type 0) (id : ℕ)
    (old more later : List Section) → Lasting f leaves id old (old ++ more)
    → Lasting f leaves id old (old ++ (more ++ later))
lasting_longer f leaves id old more later lasting =
    let w = segment_bytes id (old ++ more) in
    let parts = begins_with id (old ++ more) later in
    let whole : w ++ parts.0 ≡ segment_bytes id (old ++ (more ++ later)) =
    sym parts.1 ∙ ap (segment_bytes id) (append_assoc old more later) in
    record {
      others = lasting.others;
      tail = λ left has. subst (λ (l : List ℕ). Tail (length (segment_bytes id old)) l left) whole
          (longer (length (segment_bytes id old)) w parts.0 left (no_longer_than id old more)
          (lasting.tail left has));
    }

pub shown : (f : Files) (id : ℕ) (old kept more : List Section) → IsInFiles f id old kept
    → (leaves : List ℕ → Option (List ℕ) → Type 0) → Lasting f leaves id old (old ++ more)
    → (image : Files) → IsImage leaves image → Shows f id old more image
shown f id old kept more in_f leaves lasting image left later stored chance =
    shown_now f id old kept (more ++ later) stored in_f leaves
    (lasting_longer f leaves id old more later lasting) image left chance

-- what is shown whatever is written later is so where nothing is
pub shows_now : (f image : Files) (id : ℕ) (old more : List Section) → Shows f id old more image
    → IsStored id (old ++ more) → NoChance id (old ++ more) (bytes_at image (segment_name_of 6 id))
    → RestoresFirst (settled f id old) 0 (entries_of (last_until header_size old) more) image
shows_now f image id old more shows stored chance =
    let none : more ++ [] ≡ more = append-nil more in
    let b = bytes_at image (segment_name_of 6 id) in
    subst (λ (l : List Section).
    RestoresFirst (settled f id old) 0 (entries_of (last_until header_size old) l) image) none
    (shows [] (subst (λ (l : List Section). IsStored id (old ++ l)) (sym none) stored)
    (subst (λ (l : List Section). NoChance id (old ++ l) b) (sym none) chance))

-- what was once shown stays so
pub shows_later : (f image : Files) (id : ℕ) (old more next : List Section)
    → Shows f id old more image → Shows f id old (more ++ next) image
shows_later f image id old more next shows later stored chance =
    let same : (more ++ next) ++ later ≡ more ++ (next ++ later) = append_assoc more next later in
    let b = bytes_at image (segment_name_of 6 id) in
    subst (λ (l : List Section).
    RestoresFirst (settled f id old) 0 (entries_of (last_until header_size old) l) image) (sym same)
    (shows (next ++ later) (subst (λ (l : List Section). IsStored id (old ++ l)) same stored)
    (subst (λ (l : List Section). NoChance id (old ++ l) b) same chance))
