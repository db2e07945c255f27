-- A table file that a store is asked to put may be put, and its folder with it is the store's.
use Rattle.std.proofs.Common.{
  ◌≡◌,
  ℕ,
  ◌<◌,
  ◌≤◌,
  ◌^◌,
  inl,
  inr,
  false,
  List,
  [],
  ◌∷◌,
  ◌++◌,
  length,
  take,
  Option,
  Some,
  None,
  refl,
  sym,
  ◌∙◌,
  ap,
  subst,
  arith,
}
use Rattle.std.specs.Prelude.{IfSome, is_some}
use Rattle.std.specs.FinMap as finmap
use Rattle.std.specs.List.{Contains}
use Rattle.std.proofs.lemmas.Bool.{cases_lt}
use base.Stored.{Gv}
use Rattle.clog_spec.specs.Names.{IsTableName, table_name_of}
use Rattle.clog_base.specs.declared.cell.Cell.{Cell}
use Rattle.clog_base.specs.declared.cell.CellKey.{CellKey}
use Rattle.clog_base.specs.declared.sizes.Sizes.{Sizes}
use Rattle.clog_base.specs.Positions.{ordinal_of, position_of}
use Rattle.clog_base.proofs.Members.{all_from, all_have, from_map, nothing_there}
use Rattle.clog_cells.specs.Merge.{IsMergeOf}
use Rattle.clog_cells.proofs.InOrder.{nothing_in_order}
use Rattle.clog_disk.specs.declared.change.Change.{Change}
use Rattle.clog_disk.specs.Files.{Files, PutsAt, SameTold}
use Rattle.clog_disk.proofs.Named.{put_here}
use Rattle.clog_folder.proofs.Listed.{listed_of}
use Rattle.clog_crash.specs.Folder.{IsBase}
use Rattle.clog_crash.specs.Readings.{Reading}
use Rattle.clog_mutation.specs.Payload.{pair_of}
use Rattle.clog_mutation.specs.Stored.{IsStoredUpdate}
use Rattle.clog_table.specs.Limits.{IsSized, IsUpTo, IsWithinLimits}
use Rattle.clog_table.specs.Refusals.{IsFileOf}
use Rattle.path_core.specs.declared.note.EntryNote.{EntryNote}
use Rattle.path_core.specs.Keys.{after, first_offset}
use Rattle.path_core.specs.Keeper.{Holding, IsFresh, IsLoggedCell, MayPublish, PutFile, upper_from}
use Rattle.clog_segments.specs.declared.publishing.Published.{Published}
use Rattle.clog_segments.specs.Life.{State}
use Rattle.clog_segments.specs.Named.{HasSequence, OneHas}
use Rattle.clog_segments.specs.NoteLog.{HasLog, IsNoteLog, NoteState}
use Rattle.clog_segments.specs.Publishes.{
  HasCome,
  IsNextSequence,
  IsNumbered,
  IsTrueHere,
  MayHaveCome,
  file_at,
}
use Rattle.clog_segments.specs.StoreFailed.{IsFreeTable, MayStand}
use Rattle.clog_segments.specs.StoreFolder.{
  HoldsStore,
  IsSound,
  StoreLog,
  deeds_of,
  log_of,
  with_file,
}
use Rattle.clog_segments.specs.StoreState.{
  HasReached,
  HoldsIt,
  IsStore,
  StoreState,
  deeds_by,
  holding_of,
  put_of,
}
use Rattle.clog_due.proofs.FolderDue.{true_here}
use Rattle.clog_store.proofs.FolderPuts.{holds_next}
use Rattle.clog_segments.proofs.NextNames.{held_next}
use Rattle.clog_segments.proofs.FolderReads.{absent_or_held}
use Rattle.clog_segments.proofs.Live.{row_has, sized_value}
use Rattle.clog_segments.proofs.Lived.{told_before}
use Rattle.clog_store.proofs.StoreFolds.{at_some, some_told}
use Rattle.clog_store.proofs.StoreKept.{some_one}

-- a store's log, as a keeper holds it
pub has_log : {D : Type 0} (files : D → Option Files) (changes : D → Option (List Change))
    (moment faults : D → ℕ) (code : D → Gv) (s : StoreState D)
    → HasLog s.notes (holding_of files changes moment faults code s)
has_log files changes moment faults code s = record {
  base_is = refl;
  sizes_are = refl;
  synced_is = refl;
  logged_are = refl;
  kept_are = refl;
}

-- ---- a file that may be put

module _ {D : Type 0} (s : NoteState D) (h : Holding) (n : IsNoteLog s) (has : HasLog s h)
    (file : Published) (cells : List (CellKey × Cell)) (may : MayPublish h (put_of file cells))
  where
    sized : (pair : CellKey × Cell) → Contains cells pair → IsWithinLimits file.table pair
    sized pair there =
        let is = row_has (IsLoggedCell h (put_of file cells)) cells pair may.merged there in
        let m = is.whole.mutation in
        let stored = is.whole.stored in
        let from = from_map (pair_of m.key) m.updates pair is.listed in
        let update : IsStoredUpdate from.0 =
        all_have IsStoredUpdate m.updates from.0 stored.updates from.1 in
        record {
          same_table = λ i. record { 0 = is.of_table i };
          sizes = subst IsSized from.2 (record {
            key = stored.key.size;
            column = update.column.size;
            value = sized_value from.0.cell.kind from.0.cell.value update.value;
          });
        }

    up_to : (a b : ℕ) → a ≤ b → IsUpTo (position_of s.base a) (position_of s.base b)
    up_to a b le = elim (cases_lt (ordinal_of a) (ordinal_of b)) [
      | inl below ↦ inl (omega (arith, below))
      | inr same ↦ inr (omega (arith, same, le), omega (arith, same, le))
    ]

    pub numbered : (sequence : ℕ) → 0 < sequence → sequence < 2 ^ 63 → file.lower.0 < 2 ^ 64
        → file.upper.0 < 2 ^ 64 → IsNumbered s.base sequence file cells
    numbered sequence starts fits lower upper = record {
      starts = starts;
      fits = fits;
      lower_fits = omega (arith, n.fits, lower);
      upper_fits = omega (arith, n.fits, upper);
      writable = record {
        table = omega (arith, may.table_is, h.sizes.within.few_tables);
        interval = up_to file.lower.0 file.upper.0 may.forward;
        cells = all_from (IsWithinLimits file.table) cells sized;
      };
    }

    -- it is true of the folder
    module _ (first f : Files) (holds : HoldsStore first (log_of s) (deeds_of h) f)
        (sound : IsSound s.log) (sequence : ℕ)
        (next : IsBase (OneHas (HasSequence file.table) (finmap.keys f)) 1 sequence)
        (fits : sequence < 2 ^ 63) (starts : 0 < sequence) (far : HasReached s file.upper.0) where
      named : IsTableName (table_name_of file.table.0 sequence) file.table.0 sequence
      named = record {
        form = refl;
        table_fits = omega (arith, may.table_is, h.sizes.within.few_tables);
        sequence_starts = starts;
        sequence_fits = fits;
      }

      free : finmap.get f (table_name_of file.table.0 sequence) ≡ None
      free = elim (absent_or_held (finmap.get f (table_name_of file.table.0 sequence))) [
        | inl none ↦ none
        | inr held ↦ absurd (omega (
          arith,
          next.above sequence (
            table_name_of file.table.0 sequence,
            listed_of f (finmap.keys f) refl (table_name_of file.table.0 sequence) held,
            named,
          ),
        ))
      ]

      pub may_put : IsTrueHere f s.log.id (take s.log.synced s.log.sections)
          (file_at s.base file cells) sequence
      may_put = true_here first f s h holds sound n has (put_of file cells) sequence may free far

      -- the folder with it
      pub holds_with : (bytes : List ℕ) → IsFileOf file.table bytes (file_at s.base file cells)
          → HoldsStore first (log_of s) (with_file (deeds_of h) (put_of file cells))
          (finmap.insert f (table_name_of file.table.0 sequence) bytes)
      holds_with bytes spelled =
          holds_next first f (log_of s) (deeds_of h) holds sound.below sound.stored.fits (record {
            put = put_of file cells;
            sequence = sequence;
            bytes = bytes;
          }) (record { named = named; next = next; spelled = spelled })
          (may.goes_on, may.forward)

-- ---- its folder

module _ {D : Type 0} (files : D → Option Files) (changes : D → Option (List Change))
    (moment faults : D → ℕ) (read_at : D → ℕ → Option Reading) (lasted_at : D → ℕ → Type 0)
    (code : D → Gv) (tells : (d : D) → is_some (changes d) ≡ is_some (files d)) (s : StoreState D)
    (kept : IsStore files changes moment faults read_at lasted_at s)
    (runs : s.notes.log.is_stopped ≡ false) (noted : IsNoteLog s.notes) (file : Published)
    (cells : List (CellKey × Cell))
    (may : MayPublish (holding_of files changes moment faults code s) (put_of file cells))
    (sequence : ℕ) (next : IsNextSequence (files s.notes.log.disk) file.table sequence)
    (far : HasReached s.notes file.upper.0) where
  next_at : (f : Files) → files s.notes.log.disk ≡ Some f
      → IsBase (OneHas (HasSequence file.table) (finmap.keys f)) 1 sequence
  next_at f is =
      at_some (files s.notes.log.disk)
      (λ g. IsBase (OneHas (HasSequence file.table) (finmap.keys g)) 1 sequence) f next.next is

  -- where the disk tells its files, it has told them at the opening
  told_first : (f : Files) → files s.notes.log.disk ≡ Some f
      → (first : Files) × (files s.first ≡ Some first)
  told_first f is =
      some_told (files s.first) (files s.notes.log.disk) (changes s.first)
      (changes s.notes.log.disk) kept.grown.added (tells s.first) (tells s.notes.log.disk)
      kept.grown.changes_are f is

  its_name : (f : Files) → files s.notes.log.disk ≡ Some f
      → IsTableName (table_name_of file.table.0 sequence) file.table.0 sequence
  its_name f is =
      let first = told_first f is in
      named s.notes (holding_of files changes moment faults code s) noted
      (has_log files changes moment faults code s) file cells may first.0 f
      (kept.folder runs first.0 f first.1 is) kept.sound sequence (next_at f is) next.fits
      next.starts far

  -- its name is free
  pub free_table : (f : Files) → files s.notes.log.disk ≡ Some f
      → IsFreeTable f (table_name_of file.table.0 sequence)
  free_table f is =
      let first = told_first f is in
      let h = holding_of files changes moment faults code s in
      let has = has_log files changes moment faults code s in
      record {
        table = file.table.0;
        sequence = sequence;
        named = its_name f is;
        next = held_next f file.table sequence (next_at f is);
        free = free s.notes h noted has file cells may first.0 f
            (kept.folder runs first.0 f first.1 is) kept.sound sequence (next_at f is) next.fits
            next.starts far;
      }

  -- what may stand there, where the disk has failed
  pub stands_table : (l : State D)
      → MayHaveCome (files s.notes.log.disk) (files l.disk) (file_at s.notes.base file cells)
      sequence → (f g : Files) → files s.notes.log.disk ≡ Some f → files l.disk ≡ Some g
      → MayStand (log_of s.notes) (deeds_by s) f (table_name_of file.table.0 sequence)
      (finmap.get g (table_name_of file.table.0 sequence))
  stands_table l may f g is here =
      let name = table_name_of file.table.0 sequence in
      elim may [
        | inl same ↦ inl (ap (λ (x : Files). finmap.get x name)
            (some_one g f (sym here ∙ same ∙ is)))
        | inr come ↦
            let puts : files l.disk ≡ Some (finmap.insert f name come.0) =
            subst (λ (o : Option Files). PutsAt o (files l.disk) name (Some come.0)) is come.2 in
            inr (inr (inl (record {
              file = record {
                put = put_of file cells;
                sequence = sequence;
                bytes = come.0;
              };
              name_is = refl;
              next = record {
                named = its_name f is;
                next = next_at f is;
                spelled = come.1;
              };
              what_is = ap (λ (x : Files). finmap.get x name)
                  (some_one g (finmap.insert f name come.0) (sym here ∙ puts))
                  ∙ put_here f name come.0;
            })))
      ]

  pub may_be_put : IfSome (files s.notes.log.disk) (λ f. IsTrueHere f s.notes.log.id
      (take s.notes.log.synced s.notes.log.sections) (file_at s.notes.base file cells) sequence)
  may_be_put = by (files s.notes.log.disk) refl
    where
      by : (o : Option Files) → files s.notes.log.disk ≡ o → IfSome o (λ f. IsTrueHere f
          s.notes.log.id (take s.notes.log.synced s.notes.log.sections)
          (file_at s.notes.base file cells) sequence)
      by None is = tt
      by (Some f) is =
          let first = told_first f is in
          may_put s.notes (holding_of files changes moment faults code s) noted
          (has_log files changes moment faults code s) file cells
          may first.0 f (kept.folder runs first.0 f first.1 is) kept.sound sequence
          (next_at f is) next.fits next.starts far

  -- its folder with it
  module _ (l : State D) (come : HasCome (files s.notes.log.disk) (files l.disk)
      (changes s.notes.log.disk) (changes l.disk) (file_at s.notes.base file cells) sequence)
      (told : SameTold (files s.notes.log.disk) (files l.disk))
      (same : log_of (record s.notes { log = l }) ≡ log_of s.notes) where
    pub folder_put : HoldsIt files (record s {
      notes = record s.notes { log = l };
      files = s.files ++ put_of file cells ∷ [];
    })
    folder_put first g is here =
        let was = told_before (files s.notes.log.disk) (files l.disk) g told here in
        let f = was.0 in
        let puts : files l.disk
        ≡ Some (finmap.insert f (table_name_of file.table.0 sequence) come.bytes) =
        subst (λ (o : Option Files). PutsAt o (files l.disk) (table_name_of file.table.0 sequence)
        (Some come.bytes)) was.1 come.put in
        let with_it = holds_with s.notes (holding_of files changes moment faults code s) noted
        (has_log files changes moment faults code s) file cells may first f
        (kept.folder runs first f is was.1) kept.sound
        sequence (next_at f was.1) next.fits next.starts far come.bytes come.spelled in
        let all = with_file (deeds_by s) (put_of file cells) in
        subst (λ (x : StoreLog). HoldsStore first x all g) (sym same)
        (subst (λ (x : Files). HoldsStore first (log_of s.notes) all x)
        (some_one (finmap.insert f (table_name_of file.table.0 sequence) come.bytes) g
        (sym puts ∙ here)) with_it)

-- ---- a file without cells

-- a keeper that was just opened may be asked to put a file without cells, up to the front
pub nothing_to_put : (base : ℕ) (sizes : Sizes) (h : Holding) (put : PutFile)
    → IsFresh base sizes h → put.table < sizes.tables → put.lower ≡ 0 → put.upper ≤ first_offset
    → put.cells ≡ [] → MayPublish h put
nothing_to_put base sizes h put fresh table lower upper none = record {
  table_is = subst (λ (z : Sizes). put.table < z.tables) (sym fresh.sizes_are) table;
  lasting = subst (λ (k : ℕ). put.upper ≤ after h.sizes.capacity k) (sym fresh.nothing_synced)
      upper;
  goes_on = lower ∙ ap (upper_from put.table 0) (sym fresh.no_file);
  forward = omega (arith, lower);
  merged = subst (IsMergeOf (IsLoggedCell h put)) (sym none) (record {
    ordered = nothing_in_order;
    newest = λ key cell is. absurd (nothing_there is.note
        (subst (λ (l : List EntryNote). Contains l is.note) fresh.nothing_logged is.among));
  });
  few = omega (arith, ap (λ (l : List PutFile). length l) fresh.no_file);
}
