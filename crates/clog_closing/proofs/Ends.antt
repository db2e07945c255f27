-- Each segment that a log of notes has appended to ends where an entry does.
use Rattle.std.proofs.Common.{◌≡◌, ℕ, ◌<◌, List, length, sym, ◌∙◌, ap, subst}
use Rattle.std.specs.Prelude.{Contains}
use Rattle.std.specs.List.{AllPairs, filter}
use Rattle.std.proofs.lemmas.List.Kept.{AllPairs-filter}
use Rattle.clog_disk.specs.declared.change.Change.{Change}
use Rattle.clog_scan.specs.Cut.{Section}
use Rattle.clog_scan.specs.Segment.{Entry}
use Rattle.clog_crash.specs.Grown.{appends_of}
use Rattle.clog_crash.specs.Log.{Write}
use Rattle.clog_crash.specs.Runs.{placed_log}
use Rattle.clog_crash.specs.Sections.{segment_bytes}
use Rattle.path_core.specs.declared.note.EntryNote.{EntryNote}
use Rattle.clog_segments.specs.Grows.{IsGrown, segments_with}
use Rattle.clog_segments.specs.Notes.{places_of}
use Rattle.clog_store.proofs.SectionEnds.{last_of}
use Rattle.clog_applied.specs.Appended.{appended}
use Rattle.clog_applied.specs.History.{LoggedLine}
use Rattle.clog_applied.proofs.Merged.{of_entry}
use Rattle.clog_layout.specs.Logged.{AreNotesOf}
use Rattle.clog_closing.specs.Logs.{AreStoredInOrder, has_sections, written_ids}
use Rattle.clog_closing.proofs.Logs.{entries_are, of_log, rising}

module _ (changes : List Change) (base : ℕ) (past : List Write) (id : ℕ)
    (sections : List Section) (notes : List EntryNote) (history : List LoggedLine)
    (grows : IsGrown (appends_of changes) past id sections)
    (stands : AreStoredInOrder (segments_with past id sections))
    (places : placed_log past id sections ≡ places_of base notes)
    (are : AreNotesOf base notes history) where
  abbrev ws : List Write
  ws = segments_with past id sections

  pub ids_rise : AllPairs (λ (a b : ℕ). a < b) (written_ids ws)
  ids_rise =
      rising (filter has_sections ws)
      (AllPairs-filter (λ (a b : Write). a.id < b.id) has_sections ws stands.rise)

  pub ends_with : (i : ℕ) → Contains (written_ids ws) i
      → (w : LoggedLine) × Contains history w × (w.id ≡ i) × (length (appended changes i) ≡ w.end)
  ends_with i listed =
      let o = of_log ws i listed in
      let v = o.write in
      let e = last_of v.id (length (segment_bytes v.id v.sections)) v.sections o.some
      (stands.stored v o.listed).whole (grows.filled v o.listed) in
      let l = of_entry history v.id e.0
      (subst (λ (es : List Entry). Contains es e.0)
      (entries_are changes base past id sections notes history grows stands places are v o.listed)
      e.1) in (
        l.line,
        l.listed,
        l.there ∙ o.is,
        subst (λ (k : ℕ). length (appended changes k) ≡ l.line.end) o.is
            (ap length (grows.each v o.listed) ∙ sym e.2
            ∙ sym (ap (λ (x : Entry). x.end) l.is)),
      )
