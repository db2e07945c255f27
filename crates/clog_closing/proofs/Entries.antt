-- The entries of a log's segments, and the lines of their notes; and that each touches a table.
use Rattle.std.proofs.Common.{
  ◌≡◌,
  ℕ,
  ◌+◌,
  ◌<◌,
  ◌≤◌,
  List,
  [],
  ◌∷◌,
  length,
  refl,
  sym,
  ◌∙◌,
  ap,
  subst,
  arith,
}
use Rattle.std.specs.Prelude.{Contains}
use Rattle.std.proofs.lemmas.List.Elements.{Contains-append_left}
use Rattle.clog_spec.specs.Sizes.{header_size, marker_size}
use Rattle.clog_base.specs.declared.cell.Table.{Table}
use Rattle.clog_base.proofs.Members.{here}
use Rattle.clog_disk.specs.declared.change.Change.{Change}
use Rattle.clog_mutation.specs.declared.mutation.Update.{Update}
use Rattle.clog_mutation.specs.Stored.{IsStored}
use Rattle.clog_scan.specs.Cut.{Section}
use Rattle.clog_scan.specs.Segment.{Entry, entries_from, entries_of, entry_from}
use Rattle.clog_crash.specs.Droppable.{Touches}
use Rattle.clog_crash.specs.Grown.{appends_of}
use Rattle.clog_crash.specs.Log.{Write}
use Rattle.clog_crash.specs.Runs.{placed_log}
use Rattle.path_core.specs.declared.note.EntryNote.{EntryNote}
use Rattle.clog_segments.specs.Grows.{IsGrown, segments_with}
use Rattle.clog_segments.specs.Notes.{places_of}
use Rattle.clog_applied.specs.History.{LoggedLine, entry_of}
use Rattle.clog_applied.proofs.Merged.{of_entry}
use Rattle.clog_layout.specs.Logged.{AreNotesOf}
use Rattle.clog_closing.specs.Logs.{AreStoredInOrder, written_ids}
use Rattle.clog_closing.proofs.Logs.{entries_are, of_log}
use Rattle.clog_closing.proofs.Tables.{note_of_line}

-- sections that have entries have a first one
first_entry : (ss : List Section) → 0 < length ss
    → ((s : Section) → Contains ss s → 0 < length s.payloads)
    → (e : Entry) × Contains (entries_of header_size ss) e
first_entry [] some filled = absurd (omega (arith, some))
first_entry (s ∷ ss) some filled = by s.payloads refl
  where
    by : (ps : List (List ℕ)) → s.payloads ≡ ps
        → (e : Entry) × Contains (entries_of header_size (s ∷ ss)) e
    by [] is = absurd (omega (arith, filled s (here s ss), ap length is))
    by (p ∷ ps) is =
        let e = entry_from (header_size + marker_size) p in (
          e,
          Contains-append_left (entries_from (header_size + marker_size) s.payloads)
              (entries_of s.until ss) e
              (subst (λ (l : List (List ℕ)).
              Contains (entries_from (header_size + marker_size) l) e) (sym is)
              (here e (entries_from (header_size + marker_size
              + 12 + length p) ps))),
        )

module _ (changes : List Change) (base : ℕ) (past : List Write) (id : ℕ)
    (sections : List Section) (notes : List EntryNote) (history : List LoggedLine)
    (grows : IsGrown (appends_of changes) past id sections)
    (stands : AreStoredInOrder (segments_with past id sections))
    (places : placed_log past id sections ≡ places_of base notes)
    (are : AreNotesOf base notes history) where
  abbrev ws : List Write
  ws = segments_with past id sections

  -- each segment with sections has a line
  pub an_entry : (i : ℕ) → Contains (written_ids ws) i
      → (w : LoggedLine) × Contains history w × (w.id ≡ i)
  an_entry i listed =
      let o = of_log ws i listed in
      let v = o.write in
      let e = first_entry v.sections o.some (grows.filled v o.listed) in
      let l = of_entry history v.id e.0
      (subst (λ (es : List Entry). Contains es e.0)
      (entries_are changes base past id sections notes history grows stands places are v o.listed)
      e.1) in
      (l.line, l.listed, l.there ∙ o.is)

  pub above_base : (i : ℕ) → Contains (written_ids ws) i → base ≤ i
  above_base i listed =
      let l = an_entry i listed in
      let n = note_of_line base notes history are l.0 l.1 in
      omega (arith, n.is.id, l.2)

-- an entry of a line touches a table
pub touches_one : (w : LoggedLine) → IsStored w.mutation
    → (table : Table) × Touches (entry_of w) table
touches_one w stored = by w.mutation.updates refl
  where
    by : (us : List Update) → w.mutation.updates ≡ us
        → (table : Table) × Touches (entry_of w) table
    by [] is = absurd (omega (arith, stored.some, ap length is))
    by (u ∷ us) is = (
      u.table,
      record {
        mutation = w.mutation;
        said = record { stored = stored; spelled = refl };
        update = u;
        listed = subst (λ (l : List Update). Contains l u) (sym is) (here u us);
        same_table = refl;
      },
    )
