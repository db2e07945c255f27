-- What a keeper has done beside its log stays good while table files are put behind others.
use Rattle.std.proofs.Common.{
  ◌≡◌,
  ℕ,
  ◌≤◌,
  inl,
  inr,
  List,
  [],
  ◌∷◌,
  ◌++◌,
  refl,
  sym,
  ◌∙◌,
  ap,
  subst,
  append_assoc,
  append-nil,
  take,
  drop,
  arith,
}
use Rattle.std.specs.Prelude.{Contains}
use Rattle.std.specs.List.{AllPairs}
use Rattle.std.proofs.lemmas.List.{get_or-take, length-take, take-append-drop}
use Rattle.std.proofs.lemmas.List.Elements.{Contains-append_cases, Contains-append_left}
use Rattle.clog_base.specs.declared.cell.Cell.{Cell}
use Rattle.clog_base.specs.declared.cell.CellKey.{CellKey}
use Rattle.clog_base.proofs.Members.{from_map, further, here, nothing_there, only_one}
use Rattle.clog_cells.specs.Merge.{IsMergeOf}
use Rattle.clog_cells.proofs.Merging.{of_same}
use Rattle.path_core.specs.declared.note.EntryNote.{EntryNote}
use Rattle.path_core.specs.Keeper.{Holding, IsFiledIn, IsLoggedCell, MayDrop, PutFile, upper_from}
use Rattle.path_core.specs.Keys.{after}
use Rattle.path_core.proofs.lists.Heads.{ahead, behind}
use Rattle.clog_memtable.specs.declared.flushing.Memtable.{Memtable}
use Rattle.clog_memtable.specs.Flushing.{HasPutFiles, MayFlush, file_of, files_of}
use Rattle.clog_memtable.proofs.Flushed.{same_cells, upper_behind, upper_stays}
use Rattle.clog_closing.specs.Beside.{HasGoodDeeds, HoldsNote}
use Rattle.clog_closing.specs.Drained.{HasNoDeeds}
use Rattle.clog_closing.specs.Sequence.{AreInSequence}
use Rattle.clog_closing.proofs.Following.{none_in_sequence, one_more}

-- ---- by the log and the files alone

pub filed_on : (files more : List PutFile) (t key : ℕ)
    → ((f : PutFile) → Contains files f → Contains more f) → IsFiledIn files t key
    → IsFiledIn more t key
filed_on files more t key on filed = record {
  file = filed.file;
  among = on filed.file filed.among;
  of_table = filed.of_table;
  above = filed.above;
  up_to = filed.up_to;
}

-- a segment that may go may where more files were put
pub may_drop_on : (h k : Holding) (o : ℕ) → k.logged ≡ h.logged → k.kept ≡ h.kept
    → ((f : PutFile) → Contains h.files f → Contains k.files f) → MayDrop h o → MayDrop k o
may_drop_on h k o logged kept on may = record {
  note = may.note;
  among = subst (λ (l : List EntryNote). Contains l may.note) (sym logged) may.among;
  here = may.here;
  none_kept = λ n listed.
      may.none_kept n (subst (λ (l : List EntryNote). Contains l n) kept listed);
  filed = λ t a b first last is_first is_last key low high.
      filed_on h.files k.files t key on
      (may.filed t a b (subst (λ (l : List EntryNote). Contains l a) logged first)
      (subst (λ (l : List EntryNote). Contains l b) logged last) is_first is_last key low high);
}

pub holds_on : (h k : Holding) (f : PutFile) → k.logged ≡ h.logged → HoldsNote h f → HoldsNote k f
holds_on h k f logged holds = record {
  note = holds.note;
  among = subst (λ (l : List EntryNote). Contains l holds.note) (sym logged) holds.among;
  bit = holds.bit;
  above = holds.above;
  up_to = holds.up_to;
}

pub merged_on : (h k : Holding) (f : PutFile) → k.logged ≡ h.logged
    → IsMergeOf (IsLoggedCell h f) f.cells → IsMergeOf (IsLoggedCell k f) f.cells
merged_on h k f logged merged =
    of_same (IsLoggedCell h f) (IsLoggedCell k f) f.cells
    (λ (pair : CellKey × Cell). (
      same_cells h k f logged pair,
      same_cells k h f (sym logged) pair,
    )) merged

-- ---- nothing done

pub good_of_none : (h : Holding) → HasNoDeeds h → HasGoodDeeds h
good_of_none h none =
    let no_file = λ (f : PutFile) (among : Contains h.files f).
    nothing_there f (subst (λ (l : List PutFile). Contains l f) none.no_file among) in
    let not_dropped = λ (o : ℕ) (among : Contains h.dropped o).
    nothing_there o (subst (λ (l : List ℕ). Contains l o) none.none_dropped among) in
    record {
      in_sequence = subst AreInSequence (sym none.no_file) none_in_sequence;
      lasting = λ f among. absurd (no_file f among);
      merged = λ f among. absurd (no_file f among);
      for_some = λ f among. absurd (no_file f among);
      droppable = λ o among. absurd (not_dropped o among);
      archivable = λ o among. absurd (nothing_there o
          (subst (λ (l : List ℕ). Contains l o) none.none_archived among));
      all_archived = λ archives o among. absurd (not_dropped o among);
      none_archived = λ archives. none.none_archived;
    }

-- ---- files that were put

abbrev AreApart : Memtable → Memtable → Type 0
AreApart a b = a.interval.table.0 ≡ b.interval.table.0 → ⊥

-- each goes on where the last file of its table ended
abbrev AllGoOn : List PutFile → List Memtable → Type 0
AllGoOn files ms = (m : Memtable) → Contains ms m
    → (m.interval.lower.0 ≡ upper_from m.interval.table.0 0 files)
    × (m.interval.lower.0 ≤ m.interval.upper.0)

in_sequence_with : (files : List PutFile) (ms : List Memtable) → AllGoOn files ms
    → AllPairs AreApart ms → AreInSequence files → AreInSequence (files ++ files_of ms)
in_sequence_with files [] goes apart sequence =
    subst AreInSequence (sym (append-nil files)) sequence
in_sequence_with files (m ∷ ms) goes apart sequence =
    let f = file_of m in
    let own = goes m (here m ms) in
    subst AreInSequence (append_assoc files (f ∷ []) (files_of ms))
    (in_sequence_with (files ++ f ∷ []) ms on (behind AreApart m ms apart)
    (one_more files f sequence own.0 own.1))
  where
    on : AllGoOn (files ++ file_of m ∷ []) ms
    on n h =
        let its = goes n (further m ms n h) in
        let t = n.interval.table.0 in (
          its.0
              ∙ sym (upper_behind t 0 files (files_of (m ∷ []))
              ∙ upper_stays t (upper_from t 0 files) (m ∷ [])
              (λ k only same. ahead AreApart m ms apart n h
              (ap (λ (x : Memtable). x.interval.table.0) (only_one m k only) ∙ same))),
          its.1,
        )

module _ (before : Holding) (ms : List Memtable) (may : MayFlush before ms)
    (holds : (m : Memtable) → Contains ms m → HoldsNote before (file_of m))
    (good : HasGoodDeeds before) where
  abbrev with_files : Holding → Holding
  with_files now = record before {
    faults = now.faults;
    stopped = now.stopped;
    files = before.files ++ files_of ms;
    refused = now.refused;
  }

  -- what holds of each file before and of each of the memtables' files
  each_file : (P : PutFile → Type 0) → ((f : PutFile) → Contains before.files f → P f)
      → ((m : Memtable) → Contains ms m → P (file_of m)) → (f : PutFile)
      → Contains (before.files ++ files_of ms) f → P f
  each_file P old new f among =
      elim (Contains-append_cases before.files (files_of ms) f among) [
        | inl there ↦ old f there
        | inr more ↦ let m = from_map file_of ms f more in subst P m.2 (new m.0 m.1)
      ]

  still : (now : Holding) (o : ℕ) → MayDrop before o → MayDrop (with_files now) o
  still now o =
      may_drop_on before (with_files now) o refl refl
      (λ f there. Contains-append_left before.files (files_of ms) f there)

  good_with : (now : Holding) → HasGoodDeeds (with_files now)
  good_with now = record {
    in_sequence = in_sequence_with before.files ms
        (λ m among. let one = may.each m among in (one.goes_on, one.forward)) may.apart
        good.in_sequence;
    lasting = each_file (λ (f : PutFile).
        f.upper ≤ after before.sizes.capacity before.synced) good.lasting
        (λ m among. (may.each m among).lasting);
    merged = each_file (λ (f : PutFile). IsMergeOf (IsLoggedCell (with_files now) f) f.cells)
        (λ f among. merged_on before (with_files now) f refl (good.merged f among))
        (λ m among. merged_on before (with_files now) (file_of m) refl (may.each m among).merged);
    for_some = each_file (HoldsNote (with_files now))
        (λ f among. holds_on before (with_files now) f refl (good.for_some f among))
        (λ m among. holds_on before (with_files now) (file_of m) refl (holds m among));
    droppable = λ o among. still now o (good.droppable o among);
    archivable = λ o among. still now o (good.archivable o among);
    all_archived = good.all_archived;
    none_archived = good.none_archived;
  }

  pub good_put : (now : Holding) → HasPutFiles before now (files_of ms) → HasGoodDeeds now
  good_put now put = subst HasGoodDeeds (sym put) (good_with now)

-- ---- the first of these files

in_front : (n : ℕ) (ms : List Memtable) (m : Memtable) → Contains (take n ms) m → Contains ms m
in_front n ms m among =
    subst (λ (l : List Memtable). Contains l m) (take-append-drop n ms)
    (Contains-append_left (take n ms) (drop n ms) m among)

front_apart : (n : ℕ) (ms : List Memtable) → AllPairs AreApart ms → AllPairs AreApart (take n ms)
front_apart n ms apart i j d less inside same =
    let long = length-take n ms in
    let table = λ (m : Memtable). m.interval.table.0 in
    let a = get_or-take n ms i d (omega (arith, less, inside, long)) in
    let b = get_or-take n ms j d (omega (arith, inside, long)) in
    apart i j d less (omega (arith, inside, long)) (sym (ap table a) ∙ same ∙ ap table b)

pub good_first : (before now : Holding) (ms : List Memtable) (n : ℕ) → MayFlush before ms
    → ((m : Memtable) → Contains ms m → HoldsNote before (file_of m)) → HasGoodDeeds before
    → HasPutFiles before now (files_of (take n ms)) → HasGoodDeeds now
good_first before now ms n may holds good put =
    let long = length-take n ms in
    let few = may.few in
    good_put before (take n ms) (record {
      each = λ m among. may.each m (in_front n ms m among);
      apart = front_apart n ms may.apart;
      few = omega (arith, long, few);
    }) (λ m among. holds m (in_front n ms m among)) good now put
