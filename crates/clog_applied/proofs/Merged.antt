-- The folder of a run whose path is closed restores what it did and all lines.
use Rattle.std.proofs.Common.{
  ◌≡◌,
  ◌⊎◌,
  ℕ,
  inl,
  inr,
  List,
  ◌++◌,
  length,
  true,
  Some,
  refl,
  sym,
  ◌∙◌,
  ap,
  subst,
  arith,
}
use Rattle.std.specs.Prelude.{Contains, IsSome, ◌==◌, is_some}
use Rattle.std.specs.List.{filter, flat_map}
use Rattle.std.specs.FinMap as finmap
use Rattle.std.proofs.lemmas.Bool.Decides.{nat_tests}
use Rattle.clog_spec.specs.Names.{segment_name_of, table_name_of, IsSegmentName}
use Rattle.clog_base.specs.declared.cell.Cell.{Cell}
use Rattle.clog_base.specs.declared.cell.CellKey.{CellKey}
use Rattle.clog_base.proofs.Members.{from_flat, from_map, in_flat, in_map}
use Rattle.clog_cells.proofs.Made.{merge_of}
use Rattle.clog_disk.specs.declared.change.Change.{Change}
use Rattle.clog_disk.specs.Files.{Files, bytes_at}
use Rattle.clog_mutation.specs.declared.mutation.Mutation.{Mutation}
use Rattle.clog_mutation.specs.Payload.{cells_of, pair_of, payload_of}
use Rattle.clog_mutation.specs.Stored.{IsStored}
use Rattle.clog_mutation.proofs.Decoding.{one_mutation}
use Rattle.clog_scan.specs.declared.answer.End.TheVariants.{Clean}
use Rattle.clog_scan.specs.Segment.{Entry, IsSegment}
use Rattle.clog_scan.proofs.Theorems.{one_segment}
use Rattle.clog_table.specs.declared.table_file.TableFile.{TableFile}
use Rattle.clog_table.specs.Refusals.{IsFileOf}
use Rattle.clog_table.proofs.Again.{one_table_file}
use Rattle.clog_words.specs.declared.request.ApplyOptions.{ApplyOptions}
use Rattle.clog_crash.specs.Covering.{Either, IsUnder, SameMerge}
use Rattle.clog_crash.specs.Droppable.{IsFiled, Touches}
use Rattle.clog_crash.specs.Folder.{IsHeld}
use Rattle.clog_crash.specs.Readings.{
  IsLoggedCellIn,
  IsLoggedIn,
  IsTableIn,
  RestoresIn,
}
use Rattle.clog_crash.specs.Restore.{IsAdded, IsInInterval, IsRestored, IsUndamaged}
use Rattle.clog_crash.proofs.changes.BothWays.{rows_are}
use Rattle.clog_crash.proofs.changes.Covering.{
  merge_of_more,
  merge_of_same,
  merge_then,
  rows_same,
  swapped,
  under_itself,
}
use Rattle.clog_crash.proofs.changes.Names.{is_named}
use Rattle.clog_crash.proofs.changes.Nothing.{
  no_table,
  none_logged,
  reads_as,
  there_or_nothing,
}
use Rattle.clog_applied.specs.Appended.{appended, entries_in, is_in}
use Rattle.clog_applied.specs.Applied.{MergeIsKept}
use Rattle.clog_applied.specs.Closed.{ClosedRun}
use Rattle.clog_applied.specs.Filed.{IsCellWithin}
use Rattle.clog_applied.specs.History.{Line, LoggedLine, entry_of, line_of, logged_at}
use Rattle.clog_applied.proofs.Covered.{IsNoneOf, filed_or_not}
use Rattle.clog_applied.proofs.Lines.{a_line, in_lines, line_logged, of_a_line}
use Rattle.clog_applied.proofs.Lists.{from_filter, in_filter}
use Rattle.clog_applied.proofs.Logs.{its_segment, stays_so}
use Rattle.clog_applied.proofs.Opened.{older, table_is_no_segment}

-- ---- entries of a history

pub its_entry : (history : List LoggedLine) (w : LoggedLine) → Contains history w
    → Contains (entries_in w.id history) (entry_of w)
its_entry history w h =
    let test : (w.id == w.id) ≡ true = grind (arith, nat_tests) in
    in_map entry_of (filter (is_in w.id) history) w (in_filter (is_in w.id) history w h test)

pub record IsEntryOf (history : List LoggedLine) (id : ℕ) (entry : Entry) : Type 0 where
  pub line : LoggedLine
  pub listed : Contains history line
  pub there : line.id ≡ id
  pub is : entry_of line ≡ entry

pub of_entry : (history : List LoggedLine) (id : ℕ) (entry : Entry)
    → Contains (entries_in id history) entry → IsEntryOf history id entry
of_entry history id entry h =
    let found = from_map entry_of (filter (is_in id) history) entry h in
    let kept = from_filter (is_in id) history found.0 found.1 in
    record {
      line = found.0;
      listed = kept.0;
      there = grind (arith, nat_tests, kept.1);
      is = found.2;
    }

-- a cell that an entry of the history writes
record IsWritten (history : List LoggedLine) (pair : CellKey × Cell) : Type 0 where
  pub line : LoggedLine
  pub listed : Contains history line
  pub cell : Contains (cells_of line.mutation) pair

pub touches_its : (w : LoggedLine) (pair : CellKey × Cell) → IsStored w.mutation
    → Contains (cells_of w.mutation) pair → Touches (entry_of w) pair.0.table
touches_its w pair stored cell =
    let found = from_map (pair_of w.mutation.key) w.mutation.updates pair cell in
    record {
      mutation = w.mutation;
      said = record { stored = stored; spelled = refl };
      update = found.0;
      listed = found.1;
      same_table = ap (λ (p : CellKey × Cell). p.0.table) found.2;
    }

module _ (o : ApplyOptions) (before after : Files) (changes : List Change)
    (mutations : List Mutation) (c : ClosedRun o before after changes mutations) where
  -- ---- table files of then and now

  table_stays : (file : TableFile) → IsTableIn (bytes_at c.opened) file
      → IsTableIn (bytes_at after) file
  table_stays file t =
      let name = table_name_of file.table.0 t.sequence in
      elim (there_or_nothing c.opened name) [
        | inr none ↦ absurd (no_table file.table file (bytes_at c.opened name) none t.spelled)
        | inl there ↦
            let stands = c.store.others name (bytes_at c.opened name)
            (table_is_no_segment name file.table.0 t.sequence t.named) there in
            record {
              sequence = t.sequence;
              named = t.named;
              spelled = subst (λ (b : List ℕ). IsFileOf file.table b file)
                  (sym (reads_as after name (bytes_at c.opened name) stands)) t.spelled;
            }
      ]

  pub old_or_new : (file : TableFile) → IsTableIn (bytes_at after) file
      → IsTableIn (bytes_at c.opened) file ⊎ Contains c.files file
  old_or_new file t =
      let name = table_name_of file.table.0 t.sequence in
      elim (there_or_nothing after name) [
        | inr none ↦ absurd (no_table file.table file (bytes_at after name) none t.spelled)
        | inl there ↦
            elim (c.store.tables (file.table, t.sequence) name t.named (ap is_some there)) [
              | inl same ↦ inl (record {
                sequence = t.sequence;
                named = t.named;
                spelled = subst (λ (b : List ℕ). IsFileOf file.table b file)
                    (sym (reads_as c.opened name (bytes_at after name) (sym same ∙ there)))
                    t.spelled;
              })
              | inr put ↦
                  let reads = reads_as after name put.good.bytes put.good.there in
                  inr (subst (λ (f : TableFile). Contains c.files f)
                  (one_table_file file.table put.good.bytes file put.file
                  (subst (λ (b : List ℕ). IsFileOf file.table b file) reads t.spelled)
                  put.good.spelled) put.listed)
            ]
      ]

  not_old : (file : TableFile) → IsTableIn (bytes_at c.opened) file → (w : LoggedLine)
      → Contains c.history w → IsInInterval file (logged_at w) → ⊥
  not_old file t w h inside =
      let low = c.opening.base_above file.upper.id
      (older before c.opened c.recovery c.base c.opening file t) in
      let high = c.path.from_base w h in
      elim inside.up_to [
        | inl x ↦ omega (arith, low, high, x)
        | inr x ↦ omega (arith, low, high, x.0)
      ]

  -- ---- forth

  covered : (w : LoggedLine) → Contains c.history w → (pair : CellKey × Cell)
      → Contains (cells_of w.mutation) pair → IsFiled c.files pair.0.table (logged_at w)
      → (other : CellKey × Cell) × RestoresIn (bytes_at after) other × IsUnder pair other
  covered w h pair cell found =
      let within : IsCellWithin c.history found.file pair = record {
        line = w;
        listed = h;
        inside = found.inside;
        cell = cell;
        same_table = sym found.same_table;
      } in
      let same = rows_same (IsCellWithin c.history found.file) found.file.cells
      (c.path.are_true found.file found.listed) in
      let over = same.forth pair within in (
        over.0,
        inl (record {
          file = found.file;
          there = c.store.put found.file found.listed;
          listed = over.1;
        }),
        over.2,
      )

  live : (w : LoggedLine) → Contains c.history w → (pair : CellKey × Cell)
      → Contains (cells_of w.mutation) pair → IsNoneOf c.files pair.0.table (logged_at w)
      → finmap.get after (segment_name_of 6 w.id) ≡ Some (appended c.later w.id)
      → IsLoggedCellIn (bytes_at after) pair
  live w h pair cell none there =
      let its = its_segment o before after changes mutations c w.id
      (c.store.is_appended.no_other w h) in
      record {
        id = w.id;
        entry = entry_of w;
        logged = record {
          fits = its.0;
          entries = entries_in w.id c.history;
          end = Clean (length (appended c.later w.id));
          holds = subst (λ (b : List ℕ). IsSegment b w.id (entries_in w.id c.history)
              (Clean (length (appended c.later w.id))))
              (sym (reads_as after (segment_name_of 6 w.id) (appended c.later w.id) there)) its.1;
          listed = its_entry c.history w h;
        };
        cell = record {
          mutation = w.mutation;
          said = record { stored = (c.path.lawful.each w h).stored; spelled = refl };
          listed = cell;
        };
        kept = λ skipped. elim (old_or_new skipped.file skipped.there) [
          | inl old ↦ not_old skipped.file old w h skipped.inside
          | inr new ↦ none skipped.file new skipped.same_table skipped.inside
        ];
      }

  line_restores : (w : LoggedLine) → Contains c.history w → (pair : CellKey × Cell)
      → Contains (cells_of w.mutation) pair
      → (other : CellKey × Cell) × RestoresIn (bytes_at after) other × IsUnder pair other
  line_restores w h pair cell = elim (filed_or_not c.files pair.0.table (logged_at w)) [
    | inl found ↦ covered w h pair cell found
    | inr none ↦ elim (c.store.segments w.id (c.store.is_appended.no_other w h)) [
      | inr stays ↦ (
        pair,
        inr (live w h pair cell none stays.1.segment),
        under_itself pair,
      )
      | inl went ↦
          let its = c.store.is_appended.no_other w h in
          let gone = (c.store.dropped_exactly w.id its).0 went.0 in
          let touches = touches_its w pair (c.path.lawful.each w h).stored cell in
          let listed = its_entry c.history w h in
          let filed = gone.filed pair.0.table (entry_of w) (entry_of w) listed listed touches
          touches w.end (omega arith) (omega arith) in
          absurd (none filed.file filed.listed filed.same_table filed.inside)
    ]
  ]

  forth : (pair : CellKey × Cell)
      → Either (RestoresIn (bytes_at c.opened)) (IsWritten c.history) pair
      → (other : CellKey × Cell) × RestoresIn (bytes_at after) other × IsUnder pair other
  forth pair (inl (inl cell)) = (
    pair,
    inl (record {
      file = cell.file;
      there = table_stays cell.file cell.there;
      listed = cell.listed;
    }),
    under_itself pair,
  )
  forth pair (inl (inr cell)) =
      let name = segment_name_of 6 cell.id in
      elim (there_or_nothing c.opened name) [
        | inl there ↦ absurd (c.opening.no_segment
            (name, ap is_some there, (6, (cell.id, is_named cell.id cell.logged.fits))))
        | inr none ↦ absurd (none_logged cell.id cell.logged.entries cell.logged.end
            (bytes_at c.opened name) none cell.logged.holds cell.entry cell.logged.listed)
      ]
  forth pair (inr written) = line_restores written.line written.listed pair written.cell

  -- ---- back

  of_history : (id : ℕ) (entry : Entry) → (l : IsLoggedIn (bytes_at after) id entry)
      → Contains c.ids id → IsHeld after (segment_name_of 6 id)
      → IsEntryOf c.history id entry
  of_history id entry l its held =
      let stays = (stays_so o before after changes mutations c id its held).1 in
      let segment = its_segment o before after changes mutations c id its in
      let now : IsSegment (appended c.later id) id l.entries l.end =
      subst (λ (b : List ℕ). IsSegment b id l.entries l.end)
      (reads_as after (segment_name_of 6 id) (appended c.later id) stays.segment) l.holds in
      let fits = segment.0 in
      let same = one_segment (appended c.later id) id l.entries l.end (entries_in id c.history)
      (Clean (length (appended c.later id))) (c.store.bytes id its) (omega (arith, fits)) now
      segment.1 in
      of_entry c.history id entry
      (subst (λ (es : List Entry). Contains es entry) same.entries_are l.listed)

  back : (pair : CellKey × Cell) → RestoresIn (bytes_at after) pair
      → (other : CellKey × Cell)
      × Either (RestoresIn (bytes_at c.opened)) (IsWritten c.history) other × IsUnder pair other
  back pair (inl cell) = elim (old_or_new cell.file cell.there) [
    | inl old ↦ (
      pair,
      inl (inl (record { file = cell.file; there = old; listed = cell.listed })),
      under_itself pair,
    )
    | inr new ↦
        let same = rows_same (IsCellWithin c.history cell.file) cell.file.cells
        (c.path.are_true cell.file new) in
        let within = same.back pair cell.listed in (
          within.0,
          inr (record {
            line = within.1.line;
            listed = within.1.listed;
            cell = within.1.cell;
          }),
          within.2,
        )
  ]
  back pair (inr cell) =
      let name = segment_name_of 6 cell.id in
      elim (there_or_nothing after name) [
        | inr none ↦ absurd (none_logged cell.id cell.logged.entries cell.logged.end
            (bytes_at after name) none cell.logged.holds cell.entry cell.logged.listed)
        | inl there ↦
            let named = is_named cell.id cell.logged.fits in
            let its = (c.store.no_other name 6 cell.id named (ap is_some there)).1 in
            let found = of_history cell.id cell.entry cell.logged its (ap is_some there) in
            let text : payload_of found.line.mutation ≡ payload_of cell.cell.mutation =
            ap (λ (x : Entry). x.payload) found.is ∙ cell.cell.said.spelled in
            let same = one_mutation found.line.mutation cell.cell.mutation
            (c.path.lawful.each found.line found.listed).stored cell.cell.said.stored text in (
              pair,
              inr (record {
                line = found.line;
                listed = found.listed;
                cell = subst (λ (m : Mutation). Contains (cells_of m) pair) (sym same)
                    cell.cell.listed;
              }),
              under_itself pair,
            )
      ]

  -- ---- the lines

  lines_are : SameMerge
      (Either (RestoresIn (bytes_at before)) (Contains (flat_map cells_of mutations)))
      (Either (RestoresIn (bytes_at c.opened)) (IsWritten c.history))
  lines_are = record {
    forth = λ pair a. elim a [
      | inl old ↦ let r = c.opening.same.same.back pair old in (r.0, inl r.1, r.2)
      | inr new ↦
          let found = from_flat cells_of mutations pair new in
          let l = a_line 1 mutations found.0 found.1 in
          let w = line_logged o.writers c.path.writers mutations c.history c.path.known
          c.path.shares l.0 l.1 in
          let same : w.0.mutation ≡ found.0 = ap (λ (x : Line). x.mutation) w.2 ∙ l.2 in (
            pair,
            inr (record {
              line = w.0;
              listed = w.1;
              cell = subst (λ (m : Mutation). Contains (cells_of m) pair) (sym same) found.2;
            }),
            under_itself pair,
          )
    ];
    back = λ pair b. elim b [
      | inl old ↦ let r = c.opening.same.same.forth pair old in (r.0, inl r.1, r.2)
      | inr new ↦ (
        pair,
        inr (in_flat cells_of mutations new.line.mutation pair
            (of_a_line 1 mutations (line_of new.line)
            (in_lines o.writers c.path.writers mutations c.history c.path.known c.path.shares
            new.line new.listed)) new.cell),
        under_itself pair,
      )
    ];
  }

  abbrev was : CellKey × Cell → Type 0
  was = Either (RestoresIn (bytes_at before)) (Contains (flat_map cells_of mutations))

  all_same : SameMerge was (RestoresIn (bytes_at after))
  all_same = merge_then was (Either (RestoresIn (bytes_at c.opened)) (IsWritten c.history))
      (RestoresIn (bytes_at after)) lines_are (record { forth = forth; back = back })

  -- ---- no damage

  undamaged : IsUndamaged after
  undamaged = record {
    tables = λ place name named held.
        elim (c.store.tables place name named held) [
          | inl same ↦
              let good = c.opening.same.undamaged.tables place name named (subst IsSome same held)
              in (
                good.0,
                record {
                  bytes = good.1.bytes;
                  there = same ∙ good.1.there;
                  spelled = good.1.spelled;
                },
              )
          | inr put ↦ (put.file, put.good)
        ];
    segments = λ name version id named held.
        let found = c.store.no_other name version id named held in
        let six : IsSegmentName name 6 id =
        subst (λ (v : ℕ). IsSegmentName name v id) found.0 named in
        let stays = (stays_so o before after changes mutations c id found.1
        (subst (λ (n : List ℕ). IsHeld after n) six.form held)).1 in
        let segment = its_segment o before after changes mutations c id found.1 in (
          found.0,
          record {
            entries = entries_in id c.history;
            end = Clean (length (appended c.later id));
            holds = record {
              named = six;
              bytes = appended c.later id;
              there = ap (finmap.get after) six.form ∙ stays.segment;
              holds = segment.1;
            };
            may_end = tt;
            payloads = λ entry h.
                let e = of_entry c.history id entry h in (
                  e.line.mutation,
                  record {
                    stored = (c.path.lawful.each e.line e.listed).stored;
                    spelled = ap (λ (x : Entry). x.payload) (sym e.is);
                  },
                );
          },
        );
  }

  pub merge_kept : MergeIsKept before after mutations
  merge_kept = record {
    same = λ rows. (
      λ merge. (rows_are after rows).1
          (merge_of_same was (RestoresIn (bytes_at after)) rows all_same merge),
      λ restored. merge_of_same (RestoresIn (bytes_at after)) was rows
          (swapped was (RestoresIn (bytes_at after)) all_same)
          ((rows_are after rows).0 restored),
    );
    undamaged = undamaged;
  }

-- what was restored before, merged with the lines' cells, is what is restored now
pub added : (before after : Files) (mutations : List Mutation) (rows : List (CellKey × Cell))
    → MergeIsKept before after mutations → IsRestored before rows
    → IsAdded before after mutations
added before after mutations rows kept restored =
    let more = flat_map cells_of mutations in
    let made = merge_of (rows ++ more) in
    record {
      rows = rows;
      rows_now = made.0;
      restored = restored;
      merged = made.1;
      restored_now = (kept.same made.0).0 (merge_of_more (RestoresIn (bytes_at before)) rows more
          made.0 ((rows_are before rows).0 restored) made.1);
      undamaged = kept.undamaged;
    }
