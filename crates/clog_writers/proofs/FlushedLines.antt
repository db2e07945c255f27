-- What writers have flushed, as lines of a history: the first of each writer's lines lie in table
-- files, and the others have few updates.
use Rattle.std.proofs.Common.{
  ◌≡◌,
  ℕ,
  ◌<◌,
  ◌≤◌,
  List,
  [],
  ◌∷◌,
  ◌++◌,
  map,
  Some,
  refl,
  sym,
  ap,
  ◌∙◌,
  subst,
  arith,
  append-nil,
}
use Rattle.std.specs.Prelude.{Contains}
use Rattle.std.specs.List.{filter, sum_by}
use mathlib.Core.Logic.{dite}
use native.Mathlib.Decide.{dec_lt}
use Rattle.std.proofs.lemmas.List.Elements.{Contains-append_left}
use Rattle.clog_spec.specs.Sizes.{greatest_capacity, most_tables}
use Rattle.clog_base.specs.declared.cell.Table.{Table}
use Rattle.clog_base.specs.declared.position.Position.{Position}
use Rattle.clog_base.specs.Positions.{IsBelow, IsUpTo, position_of}
use Rattle.clog_base.proofs.Members.{all_have, in_map}
use Rattle.clog_mutation.specs.Stored.{IsStoredUpdate}
use Rattle.clog_table.specs.declared.table_file.TableFile.{TableFile}
use Rattle.clog_crash.specs.Droppable.{IsFiled, Touches}
use Rattle.clog_applied.specs.Closed.{HasFlushed}
use Rattle.clog_applied.specs.Flushed.{updates_in}
use Rattle.clog_applied.specs.History.{LoggedLine, entry_of, is_by, line_of, logged_at}
use Rattle.clog_applied.proofs.Lists.{from_filter, sum_of_map}
use Rattle.path_core.specs.declared.note.EntryNote.{EntryNote}
use Rattle.path_core.specs.History.{IsHistory}
use Rattle.path_core.specs.Keeper.{Holding, IsFiledIn}
use Rattle.clog_segments.specs.OnDisk.{file_on}
use Rattle.clog_layout.specs.Logged.{AreNotesOf, IsNoteOf}
use Rattle.clog_layout.proofs.Lines.{is_position, touches_it}
use Rattle.clog_closing.proofs.Tables.{below_from, note_of_line, up_to_from}
use Rattle.clog_writers.specs.Logged.{HasFlushedShare, HaveFlushedShares, is_note_of}
use Rattle.clog_writers.proofs.Histories.{their_lines, writers_notes}

-- ---- lists that are cut

-- The lines of notes that are cut are cut where these are.
record AreCut (base : ℕ) (early late : List EntryNote) (lines : List LoggedLine) : Type 0 where
  pub front : List LoggedLine
  pub rest : List LoggedLine
  pub parts : lines ≡ front ++ rest
  pub first : AreNotesOf base early front
  pub last : AreNotesOf base late rest

are_cut : (base : ℕ) (early late : List EntryNote) (lines : List LoggedLine)
    → AreNotesOf base (early ++ late) lines → AreCut base early late lines
are_cut base [] late lines are =
    record { front = []; rest = lines; parts = refl; first = tt; last = are }
are_cut base (n ∷ early) late [] are = absurd are
are_cut base (n ∷ early) late (w ∷ lines) are =
    let more = are_cut base early late lines are.1 in
    record {
      front = w ∷ more.front;
      rest = more.rest;
      parts = ap (λ (l : List LoggedLine). w ∷ l) more.parts;
      first = (are.0, more.first);
      last = more.last;
    }

-- ---- a keeper's files

module _ (h : Holding) (capacity : ℕ) (small : capacity ≤ greatest_capacity)
    (in_log : IsHistory capacity h.logged) (history : List LoggedLine)
    (are : AreNotesOf h.base h.logged history) where
  abbrev files : List TableFile
  files = map (file_on h.base) h.files

  -- a note that lies in a file of the keeper, as its line
  filed_line : (table : Table) (n : EntryNote) (w : LoggedLine) → Contains h.logged n
      → IsNoteOf h.base n w → IsFiledIn h.files table.0 n.end.0
      → IsFiled files table (logged_at w)
  filed_line table n w among is filed =
      let at : logged_at w ≡ position_of h.base n.end.0 =
      is_position h.base capacity n w small (in_log.each n among) is in
      let number = filed.of_table in
      record {
        file = file_on h.base filed.file;
        listed = in_map (file_on h.base) h.files filed.file filed.among;
        same_table = λ i. record { 0 = number i };
        inside = record {
          above = subst (IsBelow (position_of h.base filed.file.lower)) (sym at)
              (below_from h.base filed.file.lower n.end.0 filed.above);
          up_to = subst (λ (p : Position). IsUpTo p (position_of h.base filed.file.upper))
              (sym at) (up_to_from h.base n.end.0 filed.file.upper filed.up_to);
        };
      }

  -- lines touch tables that there are
  table_there : (table : Table) (w : LoggedLine) → Touches (entry_of w) table
      → table.0 < most_tables
  table_there table w touches =
      let one = all_have IsStoredUpdate touches.mutation.updates touches.update
      touches.said.stored.updates touches.listed in
      let same = ap (λ (t : Table). t.0) touches.same_table in
      let few = one.table in
      omega (arith, few, same)

  module _ (most : ℕ) (table : Table) (writer : ℕ) where
    abbrev notes : List EntryNote
    notes = filter (is_note_of writer) h.logged

    abbrev lines : List LoggedLine
    lines = filter (is_by writer) history

    -- a table that is touched by none
    none_touches : 0 < most → most_tables ≤ table.0
        → HasFlushed most table writer history files
    none_touches some past = record {
      front = lines;
      rest = [];
      parts = sym (append-nil lines);
      filed = λ w listed touches.
          absurd (let there = table_there table w touches in omega (arith, there, past));
      few = some;
    }

    by_share : HasFlushedShare most table.0 writer h → HasFlushed most table writer history files
    by_share share =
        let cut = are_cut h.base share.early share.late lines
        (subst (λ (l : List EntryNote). AreNotesOf h.base l lines) share.parts
        (writers_notes h.base writer h.logged history are)) in
        record {
          front = cut.front;
          rest = cut.rest;
          parts = cut.parts;
          filed = λ w listed touches.
              let n = note_of_line h.base share.early cut.front cut.first w listed in
              let among = (from_filter (is_note_of writer) h.logged n.note
              (subst (λ (l : List EntryNote). Contains l n.note) (sym share.parts)
              (Contains-append_left share.early share.late n.note n.listed))).0 in
              filed_line table n.note w among n.is (share.filed n.note n.listed
              ((touches_it h.base n.note w n.is table).0 touches));
          few = subst (λ (k : ℕ). k < most)
              (sym (ap (sum_by (updates_in table))
              (their_lines h.base writer share.rest share.late cut.rest share.are_late cut.last))
              ∙ sum_of_map line_of (updates_in table) cut.rest) share.few;
        }

  pub has_flushed : (most writers : ℕ) → HaveFlushedShares (Some most) writers h
      → (table : Table) (writer : ℕ) → writer < writers
      → HasFlushed most table writer history files
  has_flushed most writers all table writer low =
      dite (dec_lt table.0 most_tables)
      (λ there. by_share most table writer (all table.0 writer there low))
      (λ past.
      let share = all 0 writer (omega arith) low in
      let few = share.few in
      none_touches most table writer (omega (arith, few)) (omega (arith, past)))
