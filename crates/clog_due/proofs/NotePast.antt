-- Where a logged note stands: in a segment of the log, whose bytes hold its entry.
use Rattle.std.proofs.Common.{
  ◌≡◌,
  ℕ,
  ◌+◌,
  ◌<◌,
  ◌≤◌,
  inl,
  inr,
  false,
  List,
  [],
  ◌∷◌,
  ◌++◌,
  length,
  take,
  refl,
  sym,
  ap,
  subst,
  arith,
  length-append,
}
use Rattle.std.specs.List.{Contains, flat_map}
use Rattle.std.proofs.lemmas.List.Elements.{
  Contains-append_cases,
  Contains-append_left,
  Contains-append_right,
}
use Rattle.clog_spec.specs.Names.{segment_name_of}
use Rattle.clog_spec.specs.Segment.{entry_bytes}
use Rattle.clog_spec.specs.Sizes.{frame_size, header_size, marker_size}
use Rattle.clog_spec.proofs.Lengths.{length-entry_bytes}
use Rattle.clog_base.specs.declared.position.Position.{Position}
use Rattle.clog_base.specs.Positions.{offset_of, ordinal_of}
use Rattle.clog_base.proofs.Members.{
  first_or_further,
  from_flat,
  from_map,
  here,
  in_map,
  nothing_there,
  only_one,
}
use Rattle.clog_scan.specs.Cut.{Section, entries_bytes}
use Rattle.clog_scan.specs.Laws.{AreWhole}
use Rattle.clog_scan.specs.Segment.{Entry, entries_from, entries_of, entry_from}
use Rattle.clog_crash.specs.Grown.{Append, grown}
use Rattle.clog_crash.specs.Log.{Write}
use Rattle.clog_crash.specs.Runs.{Placed, placed, placed_log, placed_of}
use Rattle.clog_crash.specs.Sections.{IsStored, segment_bytes}
use Rattle.path_core.specs.declared.note.EntryNote.{EntryNote}
use Rattle.clog_segments.specs.Grows.{IsGrown, segments_with}
use Rattle.clog_segments.specs.NoteLog.{IsNoteLog, NoteState}
use Rattle.clog_segments.specs.Notes.{place_of}
use Rattle.clog_segments.specs.StoreFolder.{IsPast, IsSound, log_of}
use Rattle.clog_segments.proofs.FolderReads.{entry_is, has_section}

-- ---- entries within sections

from_ends : (at : ℕ) (ps : List (List ℕ)) (e : Entry) → Contains (entries_from at ps) e
    → e.end ≤ at + length (entries_bytes ps)
from_ends at [] e h = absurd (nothing_there e h)
from_ends at (p ∷ ps) e h =
    let long = length-append (entry_bytes p) (entries_bytes ps) in
    let first = length-entry_bytes p in
    elim (first_or_further (entry_from at p) (entries_from (at + frame_size + length p) ps) e h) [
      | inl same ↦
          let end : at + frame_size + length p ≡ e.end = ap (λ (x : Entry). x.end) same in
          omega (arith, end, long, first)
      | inr more ↦
          let rest = from_ends (at + frame_size + length p) ps e more in
          omega (arith, rest, long, first)
    ]

-- an entry ends within the bytes of its sections
pub entry_ends : (len at : ℕ) (ss : List Section) → AreWhole len at ss → (e : Entry)
    → Contains (entries_of at ss) e → e.end ≤ len
entry_ends len at [] whole e h = absurd (nothing_there e h)
entry_ends len at (s ∷ ss) whole e h =
    elim (Contains-append_cases (entries_from (at + marker_size) s.payloads)
    (entries_of s.until ss) e h) [
      | inl one ↦
          let end = from_ends (at + marker_size) s.payloads e one in
          omega (arith, end, whole.0.fits, whole.0.within)
      | inr more ↦ entry_ends len s.until ss whole.2 e more
    ]

-- ---- the segment of a note

-- the segment at a place, and the entry there
record StandsIn (segments : List Write) (at : Placed) : Type 0 where
  pub segment : Write
  pub among : Contains segments segment
  pub id_is : segment.id ≡ at.0
  pub entry : Contains (entries_of header_size segment.sections) at.1

stands_in : (past : List Write) (id : ℕ) (sections : List Section) (at : Placed)
    → Contains (placed_log past id sections) at → StandsIn (segments_with past id sections) at
stands_in past id sections at there =
    let hand : Write = record { id = id; sections = sections } in
    elim (Contains-append_cases (flat_map placed_of past) (placed id (entries_of header_size
    sections)) at there) [
      | inl before ↦
          let one = from_flat placed_of past at before in
          let w = one.0 in
          let found = from_map (λ (e : Entry). (w.id, e)) (entries_of header_size w.sections) at
          one.2 in
          record {
            segment = w;
            among = Contains-append_left past (hand ∷ []) w one.1;
            id_is = ap (λ (p : Placed). p.0) found.2;
            entry = subst (λ (e : Entry). Contains (entries_of header_size w.sections) e)
                (ap (λ (p : Placed). p.1) found.2) found.1;
          }
      | inr here_at ↦
          let found = from_map (λ (e : Entry). (id, e)) (entries_of header_size sections) at
          here_at in
          record {
            segment = hand;
            among = Contains-append_right past (hand ∷ []) hand (here hand []);
            id_is = ap (λ (p : Placed). p.0) found.2;
            entry = subst (λ (e : Entry). Contains (entries_of header_size sections) e)
                (ap (λ (p : Placed). p.1) found.2) found.1;
          }
    ]

module _ {D : Type 0} (s : NoteState D) (is : IsNoteLog s) where
  -- a logged note of an older segment stands there
  pub past_of : (n : EntryNote) → Contains s.logged n → s.base + ordinal_of n.start.0 < s.log.id
      → IsPast (log_of s) (ordinal_of n.start.0)
  past_of n among low =
      let at = place_of s.base n in
      let kept = take is.stands.lasting s.kept in
      let old = take s.log.synced s.log.sections in
      let hand : Write = record { id = s.log.id; sections = old } in
      let there = subst (λ (ps : List Placed). Contains ps at) (sym is.stands.lasts)
      (in_map (place_of s.base) (s.logged ++ kept) n (Contains-append_left s.logged kept n among))
      in
      let found = stands_in s.log.past s.log.id old at there in
      elim (Contains-append_cases s.log.past (hand ∷ []) found.segment found.among) [
        | inl before ↦ record {
          segment = found.segment;
          among = before;
          some = has_section found.segment.sections at.1 found.entry;
          id_is = found.id_is;
        }
        | inr last ↦
            let same : hand.id ≡ found.segment.id =
            ap (λ (w : Write). w.id) (only_one hand found.segment last) in
            absurd (omega (arith, same, found.id_is, low))
      ]

  -- the appends that brought the log's sections brought a logged note's entry
  pub note_appended : s.log.is_stopped ≡ false → IsSound s.log → (appends : List Append)
      → IsGrown appends s.log.past s.log.id s.log.sections → (n : EntryNote)
      → Contains s.logged n
      → offset_of n.end.0
      ≤ length (grown appends (segment_name_of 6 (s.base + ordinal_of n.start.0)))
  note_appended runs sound appends g n among =
      let held = is.held runs in
      let at = place_of s.base n in
      let more = take s.written s.kept in
      let there = subst (λ (ps : List Placed). Contains ps at) (sym held.all)
      (in_map (place_of s.base) (s.logged ++ more) n (Contains-append_left s.logged more n among))
      in
      let found = stands_in s.log.past s.log.id s.log.sections at there in
      let w = found.segment in
      let good = is.good n (Contains-append_left s.logged s.kept n among) in
      let entry = entry_is s n at.0 at.1 good refl in
      let offset : offset_of n.end.0 ≡ at.1.end =
      ap (λ (p : Position). p.offset) entry.place in
      let end = entry_ends (length (segment_bytes w.id w.sections)) header_size w.sections
      (stored w found.among).whole at.1 found.entry in
      subst (λ (k : ℕ). offset_of n.end.0 ≤ length (grown appends (segment_name_of 6 k)))
      found.id_is
      (omega (arith, offset, end, ap length (g.each w found.among)))
    where
      hand : Write
      hand = record { id = s.log.id; sections = s.log.sections }

      stored : (w : Write) → Contains (segments_with s.log.past s.log.id s.log.sections) w
          → IsStored w.id w.sections
      stored w h = elim (Contains-append_cases s.log.past (hand ∷ []) w h) [
        | inl before ↦ sound.past_stored w before
        | inr last ↦ subst (λ (v : Write). IsStored v.id v.sections) (only_one hand w last)
            sound.stored
      ]
