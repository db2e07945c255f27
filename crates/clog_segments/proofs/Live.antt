-- What the log restores: its cells are those of the folder, and they can be written.
use Rattle.std.proofs.Common.{◌≡◌, ℕ, List, [], ◌∷◌, map, Contains, sym, ap, subst, inl, inr}
use Rattle.std.proofs.Common.{eq-eqb, eqb-true}
use Rattle.std.specs.List.{AllByRecursion, flat_map}
use Rattle.std.proofs.lemmas.Map.Keys.{IsDistinct-from_sorted}
use Rattle.std.proofs.lemmas.Map.Views.{lookup-from_Contains}
use Rattle.clog_base.specs.declared.cell.Cell.{Cell}
use Rattle.clog_base.specs.declared.cell.CellKey.{CellKey}
use Rattle.clog_base.specs.declared.cell.Kind.{Kind}
use Rattle.clog_base.specs.declared.cell.Kind.TheVariants.{Deletion, Live}
use Rattle.clog_base.specs.declared.cell.Table.{Table}
use Rattle.clog_base.proofs.Members.{all_have, first_or_further, from_flat, from_map, further, here}
use Rattle.clog_base.proofs.Members.{nothing_there}
use Rattle.clog_cells.specs.Merge.{IsMergeOf, IsNewestAmong, key_cmp, part_on}
use Rattle.clog_cells.proofs.Merging.{of_same}
use Rattle.clog_cells.proofs.Orders.{key_equiv}
use Rattle.clog_cells.proofs.Parts.{OnTable, members_of_part, part_of_all}
use Rattle.clog_fields.specs.Limits.{IsStoredValue, IsValueSize}
use Rattle.clog_disk.specs.Files.{Files, bytes_at}
use Rattle.clog_mutation.specs.Stored.{IsPayload, IsStored, IsStoredUpdate}
use Rattle.clog_table.specs.Limits.{IsSized, IsWithinLimits}
use Rattle.clog_crash.specs.Counts.{IsLog, LoggedMutation}
use Rattle.clog_crash.specs.Readings.{IsLoggedCellIn}
use Rattle.clog_crash.specs.Restore.{IsLoggedCell}
use Rattle.clog_crash.proofs.changes.BothWays.{cell, cell_in}
use Rattle.clog_folder.specs.declared.tables.TableHeld.{TableHeld}
use Rattle.clog_folder.specs.Folder.{PlacedPayload, Say}
use Rattle.clog_folder.proofs.EntriesCounted.{picks_have}
use Rattle.replay_merge.specs.Logged.{AreLive}
use Rattle.replay_merge.specs.Merged.{IsSkippedBy, KeyedUpdate, keyed, pair_at, updates_of}
use Rattle.replay_merge.proofs.Replayed.{kept_cell, logged_cell, one_log}
use Rattle.clog_segments.specs.Live.{HasLog}

abbrev Pairs : Type 0
Pairs = List (CellKey × Cell)

-- ---- the rows of a merge are cells that were merged

pub row_has : (P : CellKey × Cell → Type 0) (rows : Pairs) (pair : CellKey × Cell)
    → IsMergeOf P rows → Contains rows pair → P pair
row_has P rows pair merge there =
    let is = lookup-from_Contains key_equiv pair.0 pair.1 rows
    (IsDistinct-from_sorted key_cmp _ merge.ordered) there in
    (subst (IsNewestAmong P pair.0) is (merge.newest pair.0)).listed

-- ---- they can be written

pub said : (ps : List PlacedPayload) (log : List LoggedMutation) (l : LoggedMutation) → Say ps log
    → Contains log l → (p : PlacedPayload) × Contains ps p × (l.at ≡ p.0)
    × IsPayload p.1 l.mutation
said [] log l is there =
    absurd (nothing_there l (subst (λ (ls : List LoggedMutation). Contains ls l) is there))
said (p ∷ ps) log l is there =
    elim (first_or_further is.0 is.1.0 l
    (subst (λ (ls : List LoggedMutation). Contains ls l) is.1.1 there)) [
      | inl same ↦ (
        p,
        here p ps,
        subst (λ (m : LoggedMutation). m.at ≡ p.0) same is.1.2,
        subst (λ (m : LoggedMutation). IsPayload p.1 m.mutation) same is.1.3,
      )
      | inr more ↦
          let rest = said ps is.1.0 l is.1.4 more in
          (rest.0, further p ps rest.0 rest.1, rest.2, rest.3)
    ]

pub sized_value : (kind : Kind) (value : List ℕ) → IsStoredValue kind value → IsValueSize kind value
sized_value Deletion value is = is
sized_value Live value is = is.size

sized_pair : (l : LoggedMutation) (u : KeyedUpdate) → IsStored l.mutation
    → Contains (updates_of l) u → IsSized (pair_at u)
sized_pair l u stored there =
    let from = from_map (keyed l.at l.mutation.key) l.mutation.updates u there in
    let update : IsStoredUpdate from.0 =
    all_have IsStoredUpdate l.mutation.updates from.0 stored.updates from.1 in
    subst (λ (v : KeyedUpdate). IsSized (pair_at v)) from.2 (record {
      key = stored.key.size;
      column = update.column.size;
      value = sized_value from.0.cell.kind from.0.cell.value update.value;
    })

module _ (tables : List TableHeld) (ps : List PlacedPayload) (cells : Pairs)
    (live : AreLive tables ps cells) where
  -- what was merged
  merged_pairs : IsMergeOf (Contains (map pair_at live.taken.kept)) cells
  merged_pairs =
      subst (IsMergeOf (Contains (map pair_at live.taken.kept))) (sym live.cells_are)
      live.taken.cells

  pub sized : (pair : CellKey × Cell) → Contains cells pair → IsSized pair
  sized pair there =
      let put = row_has (Contains (map pair_at live.taken.kept)) cells pair merged_pairs there in
      let u = from_map pair_at live.taken.kept pair put in
      let all = flat_map updates_of live.log in
      let has = picks_have (λ v. ¬ IsSkippedBy tables v) all live.taken.kept u.0
      live.taken.picks_kept u.1 in
      let l = from_flat updates_of live.log u.0 has.1 in
      let is = said ps live.log l.0 live.say l.1 in
      subst IsSized u.2 (sized_pair l.0 u.0 is.3.stored l.2)

  -- ---- they are those of the folder

  module _ (files : Files) (has : HasLog tables ps files) where
    pub is_log : IsLog files live.log
    is_log =
        subst (IsLog files)
        (sym (one_log ps live.log has.read.log live.say
        (subst (λ (qs : List PlacedPayload). Say qs has.read.log) has.payloads has.read.say)))
        has.read.is_log

    forth : (pair : CellKey × Cell) → Contains (map pair_at live.taken.kept) pair
        → IsLoggedCellIn (bytes_at files) pair
    forth pair there =
        let u = from_map pair_at live.taken.kept pair there in
        cell_in files pair (subst (IsLoggedCell files) u.2
        (logged_cell files tables has.read.are_tables live.log is_log live.merged live.taken u.0
        u.1))

    pub live_merge : IsMergeOf (IsLoggedCellIn (bytes_at files)) cells
    live_merge =
        of_same (Contains (map pair_at live.taken.kept)) (IsLoggedCellIn (bytes_at files)) cells
        (λ pair. (
          forth pair,
          λ c. kept_cell files tables has.read.are_tables live.log is_log live.merged live.taken
              pair (cell files pair c),
        )) merged_pairs

-- ---- those of one table

same_table : (a b : Table) → a.0 ≡ b.0 → a ≡ b
same_table a b same = λ i. record { 0 = same i }

pub part_is_live : (P : CellKey × Cell → Type 0) (Q : CellKey × Cell → Type 0) (table : Table)
    (cells : Pairs) → ((pair : CellKey × Cell) → P pair → table ≡ pair.0.table → Q pair)
    → ((pair : CellKey × Cell) → Q pair → P pair × (table ≡ pair.0.table))
    → IsMergeOf P cells → IsMergeOf Q (part_on table cells)
part_is_live P Q table cells forth back merge =
    of_same (OnTable P table) Q (part_on table cells)
    (λ pair. (
      (λ h. forth pair h.0
          (same_table table pair.0.table (sym (eqb-true pair.0.table.0 table.0 h.1)))),
      (λ q.
          let has = back pair q in
          (has.0, eq-eqb pair.0.table.0 table.0 (ap (λ (t : Table). t.0) (sym has.1)))),
    )) (part_of_all P table cells merge)

pub within_limits : (table : Table) (cells : Pairs)
    → ((pair : CellKey × Cell) → Contains cells pair → IsSized pair)
    → AllByRecursion (IsWithinLimits table) (part_on table cells)
within_limits table cells are =
    all (part_on table cells) (λ pair there.
    let member = (members_of_part table cells pair).0 there in
    record { same_table = member.1; sizes = are pair member.0 })
  where
    all : (rows : Pairs)
        → ((pair : CellKey × Cell) → Contains rows pair → IsWithinLimits table pair)
        → AllByRecursion (IsWithinLimits table) rows
    all [] has = tt
    all (row ∷ rows) has = (
      has row (here row rows),
      all rows (λ pair there. has pair
          (further row rows pair there)),
    )
