-- What a crash leaves while writers log over a store, and once they have.
use Rattle.std.proofs.Common.{
  ◌≡◌,
  ℕ,
  ◌≤◌,
  inl,
  inr,
  Bool,
  false,
  List,
  [],
  ◌∷◌,
  ◌++◌,
  length,
  map,
  take,
  drop,
  Option,
  Some,
  refl,
  sym,
  ◌∙◌,
  ap,
  subst,
  arith,
  append-nil,
  take-append-drop,
}
use Rattle.std.specs.Prelude.{Contains, option_map, ⊤}
use Rattle.std.specs.List.{flat_map}
use Rattle.std.proofs.lemmas.Grind.{flat_map-append}
use Rattle.std.proofs.lemmas.List.{length-append, length-map, take_all}
use Rattle.std.proofs.lemmas.List.Elements.{
  Contains-append_cases,
  Contains-append_left,
  Contains-append_right,
}
use Rattle.clog_base.proofs.Members.{further, here}
use Rattle.clog_disk.specs.declared.change.Change.{Change}
use Rattle.clog_disk.specs.Files.{Files, SameTold, bytes_at}
use Rattle.clog_disk.specs.Images.{IsImage, IsLater, LeavesOnly}
use Rattle.clog_disk.proofs.Moments.{weakened}
use Rattle.clog_disk.proofs.Telling.{told_some}
use Rattle.clog_mutation.specs.declared.mutation.Mutation.{Mutation}
use Rattle.clog_mutation.specs.Payload.{payload_of}
use Rattle.clog_scan.specs.Cut.{Section}
use Rattle.clog_crash.specs.Log.{GoesOn, HasShown, NoChances, Write, entries_in, logged_in}
use Rattle.clog_crash.specs.Readings.{Reading}
use Rattle.clog_crash.specs.Runs.{placed_log, placed_of}
use Rattle.clog_crash.specs.Sections.{IsStored}
use Rattle.clog_crash.specs.Showing.{RestoresFirst}
use Rattle.clog_applied.specs.History.{
  LoggedLine,
}
use Rattle.path_core.specs.declared.note.EntryNote.{EntryNote}
use Rattle.path_core.specs.Whole.{IsWhole}
use Rattle.clog_segments.specs.Grows.{segments_with}
use Rattle.clog_segments.specs.Life.{
  LastsNow,
  MayGoOnIn,
  ShownSince,
  lasting_in,
}
use Rattle.clog_segments.specs.NoteLog.{IsNoteLog, NoteState}
use Rattle.clog_segments.specs.Notes.{
  payload_in,
}
use Rattle.clog_segments.proofs.Lived.{at_both}
use Rattle.clog_layout.specs.Logged.{AreEntriesOf, AreNotesOf}
use Rattle.clog_layout.proofs.Lines.{are_notes, lines_for}
use Rattle.clog_closing.proofs.Logs.{payload_is, places_are}
use Rattle.clog_closing.proofs.Tables.{note_of_line}
use Rattle.clog_closing.specs.Written.{GoesBeyond, HasBrought, HoldsFirsts}
use Rattle.clog_closing.proofs.Showing.{
  noted_payload,
  of_log,
  of_places,
  payload_at,
  placed_payload,
  restores_lines,
  with_hand,
}
use Rattle.clog_writers.specs.Left.{
  LeavesShares,
  RestoresShares,
  SaysShares,
  said_by,
}
use Rattle.clog_writers.specs.Logged.{
  HoldFirsts,
}
use Rattle.clog_writers.proofs.FirstLogged.{shown_held}
use Rattle.clog_writers.proofs.Histories.{shares_are}

-- ---- notes as lines

-- what they say
entries_for : (notes : List EntryNote) (base : ℕ)
    → (whole : (n : EntryNote) → Contains notes n → IsWhole n)
    → AreEntriesOf (said_by (lines_for notes base whole)) notes
entries_for [] base whole = tt
entries_for (n ∷ ns) base whole =
    let w = whole n (here n ns) in (
      record {
        limits = w.limits;
        stored = w.stored;
        bytes = w.bytes;
        tables = w.tables;
        some_table = w.some_table;
      },
      entries_for ns base (λ o h. whole o (further n ns o h)),
    )

noted_lines : (base : ℕ) (notes : List EntryNote) (history : List LoggedLine)
    → AreNotesOf base notes history → map noted_payload notes ≡ map payload_of (said_by history)
noted_lines base [] [] are = refl
noted_lines base [] (w ∷ ws) are = absurd are
noted_lines base (n ∷ ns) [] are = absurd are
noted_lines base (n ∷ ns) (w ∷ ws) are =
    let one : noted_payload n ≡ payload_of w.mutation =
    ap payload_in are.0.bytes ∙ payload_is (payload_of w.mutation) in
    ap (λ (p : List ℕ). p ∷ map noted_payload ns) one
    ∙ ap (λ (ps : List (List ℕ)). payload_of w.mutation ∷ ps) (noted_lines base ns ws are.1)

-- whose they are
pub holds_firsts : (base writers : ℕ) (ms : List Mutation) (notes : List EntryNote)
    (history : List LoggedLine) → AreNotesOf base notes history → HoldFirsts writers ms notes
    → HoldsFirsts writers ms history
holds_firsts base writers ms notes history are held = record {
  known = λ w among.
      let n = note_of_line base notes history are w among in
      let low = held.known n.note n.listed in
      let by = n.is.writer in
      omega (arith, low, by);
  firsts = λ writer low.
      let first = held.firsts writer low in
      record {
        rest = first.left;
        parts = first.parts
            ∙ ap (λ (l : List _). l ++ first.left)
            (sym (shares_are base writer first.done notes history first.are are));
      };
}

-- ---- a log of notes

module _ {D : Type 0} (s : NoteState D) (is : IsNoteLog s)
    (stored : IsStored s.log.id s.log.sections) (writers : ℕ) (ms : List Mutation)
    (held : HoldFirsts writers ms (s.logged ++ s.kept)) where
  abbrev ws : List Write
  ws = segments_with s.log.past s.log.id s.log.sections

  -- what stands in its sections
  abbrev notes : List EntryNote
  notes = s.logged ++ take is.stands.shown s.kept

  are_whole : (n : EntryNote) → Contains notes n → IsWhole n
  are_whole n among =
      let all : Contains (s.logged ++ s.kept) n =
      elim (Contains-append_cases s.logged (take is.stands.shown s.kept) n among) [
        | inl old ↦ Contains-append_left s.logged s.kept n old
        | inr more ↦ Contains-append_right s.logged s.kept n
            (subst (λ (l : List EntryNote). Contains l n) (take-append-drop is.stands.shown s.kept)
            (Contains-append_left (take is.stands.shown s.kept) (drop is.stands.shown s.kept) n
            more))
      ] in
      (is.good n all).whole

  pub history : List LoggedLine
  history = lines_for notes s.base are_whole

  lines : AreNotesOf s.base notes history
  unfolding history
  lines = are_notes notes s.base are_whole

  all_placed : flat_map placed_of ws ≡ placed_log s.log.past s.log.id s.log.sections
  all_placed =
      let hand : Write = record { id = s.log.id; sections = s.log.sections } in
      flat_map-append placed_of s.log.past (hand ∷ [])
      ∙ ap (λ (l : List _). flat_map placed_of s.log.past ++ l) (append-nil (placed_of hand))

  pub says : SaysShares writers ms ws history
  says = record {
    holds = holds_firsts s.base writers ms notes history lines
        (shown_held writers ms s.logged s.kept is.stands.shown held);
    says = all_placed ∙ is.stands.all ∙ places_are s.base notes history lines;
  }

  -- the payloads of its entries
  payloads : map payload_at (entries_in ws)
      ≡ map payload_of (take (length (said_by history)) (said_by history))
  payloads =
      ap (map payload_at) (with_hand s.log.past s.log.id s.log.sections)
      ∙ of_log s.log.past s.log.id s.log.sections ∙ ap (map placed_payload) is.stands.all
      ∙ of_places s.base notes ∙ noted_lines s.base notes history lines
      ∙ ap (map payload_of)
      (sym (take_all (length (said_by history)) (said_by history) (omega arith)))

  restores : (r : Reading) (least enough : ℕ) (image : Files)
      → RestoresFirst r least (entries_in ws) image → enough ≤ least
      → RestoresShares r history enough image
  unfolding history
  restores r =
      restores_lines r (said_by history) notes (entries_for notes s.base are_whole)
      (length (said_by history)) (entries_in ws) payloads

  goes_on : GoesOn s.log.past s.log.id s.log.sections ws
  goes_on =
      let all = sym (append-nil s.log.sections) in
      record {
        more = [];
        next = [];
        is = ap (λ (ss : List Section). segments_with s.log.past s.log.id ss) all;
        stored = subst (IsStored s.log.id) all stored;
      }

  as_shown : (r : Reading) (least enough : ℕ) (image : Files)
      → HasShown r least s.log.past s.log.id s.log.sections image → enough ≤ least
      → NoChances ws image → RestoresShares r history enough image
  as_shown r least enough image shown le none =
      restores r least enough image (shown ws goes_on none) le

  -- all that is logged lasts
  pub lasting : length s.logged ≤ lasting_in s.log
  lasting =
      let old = take s.log.synced s.log.sections in
      let first = take is.stands.lasting s.kept in
      let many = sym (length-map (logged_in s.log.past old) payload_at)
      ∙ ap length (of_log s.log.past s.log.id old
      ∙ ap (map placed_payload) is.stands.lasts ∙ of_places s.base (s.logged ++ first))
      ∙ length-map (s.logged ++ first) noted_payload in
      omega (arith, many, length-append s.logged first)

  -- ---- what images show

  module _ (files : D → Option Files) (changes : D → Option (List Change)) (moment : D → ℕ)
      (since : D → ℕ → Files → Type 0) (leaves : D → List ℕ → Option (List ℕ) → Type 0)
      (read_at : D → ℕ → Option Reading) (lasted_at : D → ℕ → Type 0)
      (reads_now : (d : D) → read_at d (moment d) ≡ option_map bytes_at (files d)) (first : D)
      (opened_is : s.log.opened ≡ moment first)
      (later : IsLater moment read_at lasted_at first s.log.disk)
      (same : SameTold (files first) (files s.log.disk)) (opened : Files)
      (at_first : files first ≡ Some opened) (lasted : lasted_at first (moment first))
      (shown : lasted_at s.log.disk s.log.opened
      → ShownSince files moment since read_at lasted_at first s.log.disk s.log.opened s.log.past
      s.log.id s.log.sections)
      (lasts : lasted_at s.log.disk s.log.opened → LastsNow files leaves read_at lasted_at s.log)
    where
      abbrev r : Reading
      r = bytes_at opened

      now : (after : Files) × (files s.log.disk ≡ Some after)
      now =
          let t = told_some (files s.log.disk) (λ after. ⊤)
          (subst (λ (o : Option Files). SameTold o (files s.log.disk)) at_first same) in
          (t.0, t.1)

      read : read_at s.log.disk s.log.opened ≡ Some r
      read =
          ap (read_at s.log.disk) opened_is ∙ later.remembers (moment first) (omega arith)
          ∙ reads_now first ∙ ap (option_map bytes_at) at_first

      still : lasted_at s.log.disk s.log.opened
      still = subst (lasted_at s.log.disk) (sym opened_is)
          ((later.lasted_then (moment first) (omega arith)).1 lasted)

      pub leaves_shares : (base : ℕ) (flushing archives drain : Bool) (least : ℕ)
          → least ≤ lasting_in s.log
          → (wrote : HasBrought files changes first s.log.disk base flushing archives drain writers
          ms ws)
          → (flushing ≡ false → GoesBeyond wrote.added → length ms ≤ lasting_in s.log)
          → LeavesShares files changes moment since leaves first s.log.disk r base flushing
          archives drain writers ms least
      leaves_shares base flushing archives drain least le wrote full =
          let Shown = HasShown r 0 s.log.past s.log.id s.log.sections in
          let then = at_both (files s.log.disk) (read_at s.log.disk s.log.opened) (λ f q.
          (at : ℕ) → MayGoOnIn s.log.id s.log.sections at
          → LeavesOnly moment since first s.log.disk
          (HasShown q 0 s.log.past at s.log.sections)) now.0 r (shown still) now.1 read
          s.log.id (inl refl) in
          let last = at_both (files s.log.disk) (read_at s.log.disk s.log.opened) (λ f q.
          (at : ℕ) → MayGoOnIn s.log.id s.log.sections at → (image : Files)
          → IsImage (leaves s.log.disk) image
          → HasShown q (lasting_in s.log) s.log.past at s.log.sections image) now.0 r
          (lasts still) now.1 read s.log.id (inl refl) in
          record {
            log = ws;
            history = history;
            wrote = wrote;
            says = says;
            meanwhile = weakened moment since first s.log.disk Shown
                (λ image. NoChances ws image → RestoresShares r history 0 image) then
                (λ image was none. as_shown r 0 0 image was (omega arith) none);
            at_last = λ image left none.
                as_shown r (lasting_in s.log) least image (last image left) le none;
            at_drain = λ plain beyond image left none.
                as_shown r (lasting_in s.log) (length ms) image (last image left)
                (full plain beyond) none;
          }
