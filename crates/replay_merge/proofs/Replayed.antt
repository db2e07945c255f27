-- What was merged is what the folder restores to, and what was counted is its counts.
use Rattle.std.proofs.Common.{◌≡◌, ℕ, suc, List, [], ◌∷◌, ◌++◌, length, map}
use Rattle.std.proofs.Common.{append_assoc, Option, Some}
use Rattle.std.proofs.Common.{None, Contains, refl, sym, ap, subst, ◌∙◌, inl, inr}
use Rattle.std.specs.Prelude.{Bool, IfSome}
use Rattle.std.specs.List.{flat_map}
use Rattle.std.proofs.lemmas.List.{append-nil, length-map, map-append}
use Rattle.std.proofs.lemmas.Grind.{flat_map-append}
use Rattle.std.proofs.lemmas.List.Elements.{All-contains, Contains-append_cases}
use Rattle.std.proofs.lemmas.List.Elements.{Contains-append_left, Contains-append_right}
use Rattle.clog_base.specs.declared.cell.Cell.{Cell}
use Rattle.clog_base.specs.declared.cell.CellKey.{CellKey}
use Rattle.clog_base.specs.declared.cell.Table.{Table}
use Rattle.clog_base.specs.declared.position.Position.{Position}
use Rattle.clog_base.proofs.Members.{from_flat, from_map, in_flat, in_map}
use Rattle.clog_cells.specs.Merge.{IsMerge}
use Rattle.clog_cells.proofs.Merging.{continues, of_same}
use Rattle.clog_disk.specs.Files.{Files}
use Rattle.clog_mutation.specs.declared.mutation.Update.{Update}
use Rattle.clog_mutation.proofs.Decoding.{one_mutation}
use Rattle.clog_table.specs.declared.table_file.TableFile.{TableFile}
use Rattle.clog_crash.specs.Counts.{HaveIt, IsLog, IsNameOfTable, IsStoodFor, LoggedMutation}
use Rattle.clog_crash.specs.Counts.{PlacedUpdate, updates_of as placed_of}
use Rattle.clog_crash.specs.Folder.{AreTables, IsHeld, IsNameOf, IsNameOfSegment, IsReadFrom}
use Rattle.clog_crash.specs.Folder.{TableRead, cells_in, cells_of_tables, place_cmp}
use Rattle.clog_crash.specs.Restore.{IsInInterval, IsLoggedCell, IsRestored, IsSkipped, Restores}
use Rattle.clog_crash.specs.Restore.{end_position}
use Rattle.clog_crash.proofs.TableFiles.{in_table_cell, known_read, table_cell_in}
use Rattle.clog_folder.specs.declared.tables.TableHeld.{TableHeld}
use Rattle.clog_folder.specs.Folder.{IsReadAs, AreNamed, PlacedPayload, Say, payloads_of}
use Rattle.clog_folder.specs.Listing.{AreRows, IsSegmentAt, Picks, segment_cmp}
use Rattle.clog_folder.specs.Segments.{HaveHeld, Row, SegmentHeld}
use Rattle.clog_folder.specs.Tables.{HaveRead, read_of}
use Rattle.clog_folder.proofs.Counting.{picks_all}
use Rattle.clog_folder.proofs.EntriesCounted.{picks_have}
use Rattle.clog_folder.proofs.FolderRead.{is_read_as}
use Rattle.replay_merge.specs.declared.merged.Merged.{Merged}
use Rattle.replay_merge.specs.Entries.{Entry as Item}
use Rattle.replay_merge.specs.declared.piped.Piped.{Piped}
use Rattle.replay_merge.specs.declared.restoring.Restored.{Restored}
use Rattle.replay_merge.specs.Merged.{IsMergedOf, IsSkippedBy, KeyedUpdate, keyed, pair_at}
use Rattle.replay_merge.specs.Merged.{updates_of}
use Rattle.replay_merge.specs.Piped.{IsLeastRefused, placed_of as piped_as}
use Rattle.replay_merge.specs.Restoring.{IsReplayOf, IsRestoredOf}
use Rattle.replay_merge.specs.Settling.{HasPiped}
use Rattle.replay_merge.proofs.Kept.{keeps_places}

abbrev Pairs : Type 0
Pairs = List (CellKey × Cell)

-- ---- one log

-- payloads say one log at most
pub one_log : (ps : List PlacedPayload) (log other : List LoggedMutation) → Say ps log
    → Say ps other → log ≡ other
one_log [] log other first second = first ∙ sym second
one_log (p ∷ ps) log other first second =
    let said = one_mutation first.0.mutation second.0.mutation first.1.3.stored
    second.1.3.stored (sym first.1.3.spelled ∙ second.1.3.spelled) in
    let at : first.0.at ≡ second.0.at = first.1.2 ∙ sym second.1.2 in
    let rest = one_log ps first.1.0 second.1.0 first.1.4 second.1.4 in
    let both : first.0 ∷ first.1.0 ≡ second.0 ∷ second.1.0 =
    λ i. record { at = at i; mutation = said i } ∷ rest i in
    first.1.1 ∙ both ∙ sym second.1.1

say_length : (ps : List PlacedPayload) (log : List LoggedMutation) → Say ps log
    → length ps ≡ length log
say_length [] log said = sym (ap length said)
say_length (p ∷ ps) log said =
    ap suc (say_length ps said.1.0 said.1.4) ∙ sym (ap length said.1.1)

-- ---- counts

-- an update at its position
abbrev bare : KeyedUpdate → PlacedUpdate
bare u = (u.at, u.update)

bare_of : (at : Position) (key : List ℕ) (us : List Update)
    → map bare (map (keyed at key) us) ≡ map (λ (u : Update). (at, u)) us
bare_of at key [] = refl
bare_of at key (u ∷ us) = ap (λ (l : List PlacedUpdate). (at, u) ∷ l) (bare_of at key us)

bare_log : (log : List LoggedMutation)
    → map bare (flat_map updates_of log) ≡ flat_map placed_of log
bare_log [] = refl
bare_log (l ∷ log) =
    map-append bare (updates_of l) (flat_map updates_of log)
    ∙ ap (λ (us : List PlacedUpdate). us ++ map bare (flat_map updates_of log))
    (bare_of l.at l.mutation.key l.mutation.updates)
    ∙ ap (λ (us : List PlacedUpdate). placed_of l ++ us) (bare_log log)

have_picked : (P : KeyedUpdate → Type 0) (Q : PlacedUpdate → Type 0) (us picked : List KeyedUpdate)
    → ((u : KeyedUpdate) → P u → Q (bare u)) → ((u : KeyedUpdate) → (¬ P u) → ¬ Q (bare u))
    → Picks P us picked → HaveIt Q (map bare us) (length picked)
have_picked P Q [] picked has lacks none = ap length none
have_picked P Q (u ∷ us) picked has lacks (inl is) = inl (
  has u is.0,
  (length is.1.0, ap length is.1.1, have_picked P Q us is.1.0 has lacks is.1.2),
)
have_picked P Q (u ∷ us) picked has lacks (inr is) =
    inr (lacks u is.0, have_picked P Q us picked has lacks is.1)

-- ---- what table files stand for

module _ (files : Files) (tables : List TableHeld)
    (are : AreTables files (map read_of tables)) where
  skipped_is : (u : KeyedUpdate) → IsSkippedBy tables u → IsSkipped files u.update.table u.at
  skipped_is u by =
      let there = in_map read_of tables by.1 (by.0, by.2, by.3) in
      record {
        read = read_of by.1;
        there = All-contains (IsReadFrom files) (map read_of tables) (read_of by.1) are.each there;
        same_table = by.4.same_table;
        inside = by.4.inside;
      }

  is_skipped : (u : KeyedUpdate) → IsSkipped files u.update.table u.at → IsSkippedBy tables u
  is_skipped u s =
      let known = known_read files (map read_of tables) are s.read s.there in
      let from = from_map read_of tables known.0 known.1 in
      let same : from.0.file ≡ s.read.file =
      ap (λ (r : TableRead). r.file) from.2 ∙ known.2 in (
        from.1.0,
        from.0,
        from.1.1,
        from.1.2,
        record {
          same_table = ap (λ (f : TableFile). f.table) same ∙ s.same_table;
          inside = subst (λ (f : TableFile). IsInInterval f u.at) (sym same) s.inside;
        },
      )

  module _ (log : List LoggedMutation) (is_log : IsLog files log) (m : Merged)
      (taken : IsMergedOf tables (flat_map updates_of log) m) where
    -- ---- cells

    pub logged_cell : (u : KeyedUpdate) → Contains taken.kept u → IsLoggedCell files (pair_at u)
    logged_cell u listed =
        let has = picks_have (λ v. ¬ IsSkippedBy tables v) (flat_map updates_of log) taken.kept u
        taken.picks_kept listed in
        let of = from_flat updates_of log u has.1 in
        let l = of.0 in
        let update = from_map (keyed l.at l.mutation.key) l.mutation.updates u of.2 in
        let logged = (is_log.are l).1 of.1 in
        let left : ¬ IsSkipped files u.update.table u.at = λ s. has.0 (is_skipped u s) in
        subst (λ (v : KeyedUpdate). IsLoggedCell files (pair_at v)) update.2 (record {
          id = l.at.id;
          entry = logged.entry;
          logged = logged.logged;
          mutation = l.mutation;
          said = logged.said;
          update = update.0;
          listed = update.1;
          kept = subst (λ (p : Position). ¬ IsSkipped files update.0.table p) (sym logged.place)
              (subst (λ (v : KeyedUpdate). ¬ IsSkipped files v.update.table v.at) (sym update.2)
              left);
          is = refl;
        })

    pub kept_cell : (pair : CellKey × Cell) → IsLoggedCell files pair
        → Contains (map pair_at taken.kept) pair
    kept_cell pair c =
        let l : LoggedMutation =
        record { at = end_position c.id c.entry; mutation = c.mutation } in
        let there : Contains log l = (is_log.are l).0 (record {
          entry = c.entry;
          logged = c.logged;
          place = refl;
          said = c.said;
        }) in
        let u = keyed l.at c.mutation.key c.update in
        let inside = in_flat updates_of log l u there
        (in_map (keyed l.at c.mutation.key) c.mutation.updates c.update c.listed) in
        let kept = picks_all (λ v. ¬ IsSkippedBy tables v) (flat_map updates_of log) taken.kept u
        taken.picks_kept inside (λ by. c.kept (skipped_is u by)) in
        subst (Contains (map pair_at taken.kept)) (sym c.is)
        (in_map pair_at taken.kept u kept)

    pub restores : (rows : Pairs)
        → IsMerge (m.cells ++ cells_of_tables (map read_of tables)) rows → IsRestored files rows
    restores rows merged =
        let reads = map read_of tables in
        let put = map pair_at taken.kept in
        of_same (Contains (put ++ cells_of_tables reads)) (Restores files) rows (λ pair. (
          λ there. elim (Contains-append_cases put (cells_of_tables reads) pair there) [
            | inl mine ↦
                let from = from_map pair_at taken.kept pair mine in
                inr (subst (IsLoggedCell files) from.2 (logged_cell from.0 from.1))
            | inr other ↦ inl (in_table_cell files reads pair are other)
          ],
          λ has. elim has [
            | inl file ↦ Contains-append_right put (cells_of_tables reads) pair
                (table_cell_in files reads pair are file)
            | inr cell ↦ Contains-append_left put (cells_of_tables reads) pair
                (kept_cell pair cell)
          ],
        ))
        (continues put m.cells (cells_of_tables reads) rows taken.cells merged)

    -- ---- counts

    pub updates_are : HaveIt (λ (u : PlacedUpdate). ¬ IsStoodFor files u) (flat_map placed_of log)
        m.updates
    updates_are =
        subst (HaveIt (λ (u : PlacedUpdate). ¬ IsStoodFor files u) (flat_map placed_of log))
        (sym taken.updates)
        (subst (λ (us : List PlacedUpdate). HaveIt (λ (u : PlacedUpdate). ¬ IsStoodFor files u) us
        (length taken.kept)) (bare_log log)
        (have_picked (λ v. ¬ IsSkippedBy tables v) (λ (u : PlacedUpdate). ¬ IsStoodFor files u)
        (flat_map updates_of log) taken.kept
        (λ u left s. left (is_skipped u s))
        (λ u not_left not. not_left (λ by. not (skipped_is u by))) taken.picks_kept))

    pub skipped_are : HaveIt (IsStoodFor files) (flat_map placed_of log) m.skipped
    skipped_are =
        subst (HaveIt (IsStoodFor files) (flat_map placed_of log)) (sym taken.skipped)
        (subst (λ (us : List PlacedUpdate). HaveIt (IsStoodFor files) us (length taken.gone))
        (bare_log log)
        (have_picked (IsSkippedBy tables) (IsStoodFor files) (flat_map updates_of log) taken.gone
        skipped_is (λ u not s. not (is_skipped u s)) taken.picks_gone))

-- ---- all

replay_of : (ignore : Bool) (files : Files) (tables : List TableHeld) (helds : List SegmentHeld)
    (items : List Item) (segment_names table_names : ℕ) (restored : Restored)
    → IsReadAs ignore files (map read_of tables) helds
    → AreNamed files IsNameOfTable table_names → AreNamed files IsNameOfSegment segment_names
    → (is : IsRestoredOf tables items segment_names table_names restored)
    → flat_map payloads_of helds ≡ map piped_as is.good → IsReplayOf ignore files restored
replay_of ignore files tables helds items segment_names table_names restored read named segments is
    payloads =
    let ps = map piped_as is.good in
    let same = one_log ps is.log read.log is.say
    (subst (λ (qs : List PlacedPayload). Say qs read.log) payloads read.say) in
    let is_log : IsLog files is.log = subst (IsLog files) (sym same) read.is_log in
    record {
      readable = read.readable;
      cells = restores files tables read.are_tables is.log is_log is.merged is.taken restored.cells
          is.cells;
      counts = record {
        segment_names = segments.names;
        segments_all = segments.are;
        segments_are = is.segments ∙ segments.count;
        table_names = named.names;
        tables_all = named.are;
        tables_are = is.tables_are ∙ named.count;
        log = is.log;
        is_log = is_log;
        entries_are = is.entries ∙ sym (length-map is.good piped_as) ∙ say_length ps is.log is.say;
        updates_are = subst (HaveIt (λ (u : PlacedUpdate). ¬ IsStoodFor files u)
            (flat_map placed_of is.log)) (sym is.updates)
            (updates_are files tables read.are_tables is.log is_log is.merged is.taken);
        skipped_are = subst (HaveIt (IsStoodFor files) (flat_map placed_of is.log))
            (sym is.skipped)
            (skipped_are files tables read.are_tables is.log is_log is.merged is.taken);
      };
    }

abbrev Tables : Type 0
Tables = List ((Table × ℕ) × List ℕ)

pub replays : (ignore : Bool) (files : Option Files) (tables : List TableHeld)
    (table_rows : Tables) (rows : List Row) (segment_names table_names : ℕ) (s : Piped)
    (restored : Restored)
    → IfSome files (λ held. AreRows segment_cmp IsSegmentAt (IsHeld held) rows)
    → IfSome files (λ held. AreRows place_cmp IsNameOf (IsHeld held) table_rows)
    → HaveRead files table_rows tables → (p : HasPiped ignore files tables rows s)
    → IfSome files (λ held. AreNamed held IsNameOfTable table_names)
    → IfSome files (λ held. AreNamed held IsNameOfSegment segment_names)
    → IsRestoredOf tables p.items segment_names table_names restored
    → IfSome files (λ held. IsReplayOf ignore held restored)
replays ignore None tables table_rows rows segment_names table_names s restored places table_places
    read p named segments is =
    tt
replays ignore (Some files) tables table_rows rows segment_names table_names s restored places
    table_places read p named segments is =
    let given = p.given in
    let keeps = keeps_places files ignore given.greatest rows p.items is.good given.given is.picks
    (λ strict. subst (IsLeastRefused p.items) (p.none strict) p.done.first) in
    let have : HaveHeld ignore (Some files) rows keeps.helds = record {
      greatest = given.greatest;
      top = given.top;
      held = keeps.are_held;
    } in
    replay_of ignore files tables keeps.helds p.items segment_names table_names restored
    (is_read_as ignore files rows keeps.helds places have tables table_rows table_places read) named
    segments is keeps.payloads

-- ---- the steps

pub cells_more : (old mid new : Pairs) (front : List TableHeld) (held : TableHeld)
    → IsMerge (old ++ cells_of_tables (map read_of front)) mid
    → IsMerge (mid ++ held.file.cells) new
    → IsMerge (old ++ cells_of_tables (map read_of (front ++ held ∷ []))) new
cells_more old mid new front held so_far step =
    let more : cells_of_tables (map read_of front) ++ held.file.cells
    ≡ cells_of_tables (map read_of (front ++ held ∷ [])) =
    ap (λ (l : Pairs). cells_of_tables (map read_of front) ++ l)
    (sym (append-nil held.file.cells))
    ∙ sym (flat_map-append cells_in (map read_of front) (read_of held ∷ []))
    ∙ ap cells_of_tables (sym (map-append read_of front (held ∷ []))) in
    subst (λ (l : Pairs). IsMerge l new)
    (append_assoc old (cells_of_tables (map read_of front)) held.file.cells
    ∙ ap (λ (l : Pairs). old ++ l) more)
    (continues (old ++ cells_of_tables (map read_of front)) mid held.file.cells new so_far step)
