-- What a store keeps over the steps in which a table file is put, and what a path is told of them.
use Rattle.std.proofs.Common.{
  ◌≡◌,
  ℕ,
  Bool,
  true,
  false,
  inl,
  inr,
  List,
  [],
  ◌∷◌,
  ◌++◌,
  length,
  Option,
  Some,
  refl,
  sym,
  ◌∙◌,
  ap,
  subst,
  arith,
  append-nil,
  length-append,
}
use Rattle.std.specs.Prelude.{Err, IfOk, OnOk, Ok, Result, is_some, option_map}
use Rattle.std.proofs.lemmas.Bool.{true≢false}
use Rattle.std.specs.FinMap as finmap
use base.Stored.{Gv}
use Rattle.clog_spec.specs.Names.{segment_name_of}
use Rattle.clog_base.specs.declared.cell.Cell.{Cell}
use Rattle.clog_base.specs.declared.cell.CellKey.{CellKey}
use Rattle.clog_base.proofs.Members.{nothing_there}
use Rattle.clog_cells.proofs.Merging.{of_same}
use Rattle.clog_disk.specs.declared.change.Change.{Change}
use Rattle.clog_disk.specs.declared.change.Change.TheVariants as change
use Rattle.clog_disk.specs.Files.{Files, SameTold}
use Rattle.clog_disk.specs.Images.{IsLater}
use Rattle.clog_disk.proofs.Moments.{later_still}
use Rattle.clog_crash.specs.Readings.{Reading}
use Rattle.clog_crash.specs.Sections.{segment_bytes}
use Rattle.path_core.specs.declared.keeper.KeeperFault.{KeeperFault}
use Rattle.path_core.specs.Keeper.{Holding, IsLoggedCell, MayPublish, PutFile}
use Rattle.clog_segments.specs.declared.written.StoreFault.{StoreFault}
use Rattle.clog_segments.specs.declared.written.StoreFault.TheVariants.{Stopped, OutOfMemory}
use Rattle.clog_segments.specs.Beside.{StayButOne}
use Rattle.clog_segments.specs.Grows.{Writes}
use Rattle.clog_segments.specs.Life.{AllLasts, LastsHere, ReadsAs, StandsHere, State}
use Rattle.clog_segments.specs.NoteLog.{LeavesOthers, NoteState}
use Rattle.clog_segments.specs.Stepped.{HasLogCause, IsQuiet, Passes, StopsBy}
use Rattle.clog_segments.specs.StoreFailed.{HoldsButOne, IsFreeTable, MayStand}
use Rattle.clog_segments.specs.StoreFolder.{Deeds, HoldsStore, IsSound, StoreLog, log_of}
use Rattle.clog_segments.specs.StoreState.{
  HasGrown,
  HasMoved,
  HasReached,
  HoldsIt,
  HoldsItButOne,
  IsStore,
  KeepsOrder,
  StoreState,
  deeds_by,
  holding_of,
  told_as,
}
use Rattle.clog_store.proofs.FolderFails.{but_none}
use Rattle.clog_segments.proofs.Lived.{at_told, told_before}
use Rattle.clog_store.proofs.NoteGrows.{grows_same, writes_of}
use Rattle.clog_store.proofs.NotePasses.{passes_runs, passes_same}
use Rattle.clog_store.proofs.OrderSyncs.{goes_for_none, settled_same}
use Rattle.clog_store.proofs.StoreBeside.{grown_beside}
use Rattle.clog_store.proofs.StoreFolds.{folder_failed, folder_with}
use Rattle.clog_store.proofs.StoreKept.{
  fault_later,
  quiet_call,
  quiet_of,
  ran_before,
  rose_of,
  store_on,
}

-- ---- its log of sections alone has gone on

module _ {D : Type 0} (files : D → Option Files) (changes : D → Option (List Change))
    (moment faults : D → ℕ) (code : D → Gv) where
  abbrev Held : StoreState D → Holding
  Held x = holding_of files changes moment faults code x

  pub moved_both : (a b c : StoreState D) → HasMoved a b → HasMoved b c → HasMoved a c
  moved_both a b c first next =
      next ∙ (λ i. record (first i) {
        notes = record (first i).notes { log = c.notes.log };
      })

  pub may_moved : (a b : StoreState D) (put : PutFile) → HasMoved a b → MayPublish (Held a) put
      → MayPublish (Held b) put
  may_moved a b put moved may =
      let there : StoreState D = record a { notes = record a.notes { log = b.notes.log } } in
      let same : (pair : CellKey × Cell) → IsLoggedCell (Held a) put pair
      → IsLoggedCell (Held there) put pair = λ pair is. record {
        note = is.note;
        among = is.among;
        whole = is.whole;
        listed = is.listed;
        of_table = is.of_table;
        above = is.above;
        up_to = is.up_to;
      } in
      let back : (pair : CellKey × Cell) → IsLoggedCell (Held there) put pair
      → IsLoggedCell (Held a) put pair = λ pair is. record {
        note = is.note;
        among = is.among;
        whole = is.whole;
        listed = is.listed;
        of_table = is.of_table;
        above = is.above;
        up_to = is.up_to;
      } in
      let now : MayPublish (Held there) put = record {
        table_is = may.table_is;
        lasting = may.lasting;
        goes_on = may.goes_on;
        forward = may.forward;
        merged = of_same (IsLoggedCell (Held a) put) (IsLoggedCell (Held there) put) put.cells
            (λ pair. (same pair, back pair)) may.merged;
        few = may.few;
      } in
      subst (λ (x : StoreState D). MayPublish (Held x) put) (sym moved) now

-- no fault was counted in a call, or over two
pub quiet_on : {D T : Type 0} (faults : D → ℕ) (a b : State D) (r : Result T StoreFault)
    → HasLogCause a.is_stopped (faults a.disk) (faults b.disk) r → StopsBy b.is_stopped r
    → IsQuiet faults a b
quiet_on faults a b r cause stops still = (
  ran_before a.is_stopped b.is_stopped (faults a.disk) (faults b.disk) r cause stops still,
  quiet_call a.is_stopped b.is_stopped (faults a.disk) (faults b.disk) r cause stops still,
)

pub quiet_both : {D : Type 0} (faults : D → ℕ) (a b c : State D) → IsQuiet faults a b
    → IsQuiet faults b c → IsQuiet faults a c
quiet_both faults a b c first next still =
    let then = next still in
    let before = first then.0 in
    (before.0, then.1 ∙ before.1)

-- a store that has stopped stays over two calls
pub stays_both : {D : Type 0} (a b c : StoreState D)
    → (a.notes.log.is_stopped ≡ true → b ≡ a) → (b.notes.log.is_stopped ≡ true → c ≡ b)
    → a.notes.log.is_stopped ≡ true → c ≡ a
stays_both {D} a b c first next was =
    let same = first was in
    next (subst (λ (x : StoreState D). x.notes.log.is_stopped ≡ true) (sym same) was) ∙ same

-- what it has in mind of its log stays
pub as_passed : {D T : Type 0} (s : NoteState D) (l : State D) (r : Result T StoreFault)
    → Passes s.log l r → log_of (record s { log = l }) ≡ log_of s
as_passed s l r passes = λ i. log_of (record s { log = passes_same s l r passes i })

-- ---- what it keeps

module _ {D : Type 0} (files : D → Option Files) (changes : D → Option (List Change))
    (moment faults : D → ℕ) (read_at : D → ℕ → Option Reading) (lasted_at : D → ℕ → Type 0)
    (s : StoreState D) (l : State D)
    (kept : IsStore files changes moment faults read_at lasted_at s) {T : Type 0}
    (r : Result T StoreFault) (passes : Passes s.notes.log l r)
    (later : IsLater moment read_at lasted_at s.notes.log.disk l.disk)
    (cause : HasLogCause s.notes.log.is_stopped (faults s.notes.log.disk) (faults l.disk) r)
    (stops : StopsBy l.is_stopped r)
    (stays : s.notes.log.is_stopped ≡ true → record s.notes { log = l } ≡ s.notes) where
  abbrev Keeping : StoreState D → Type 0
  Keeping x = IsStore files changes moment faults read_at lasted_at x

  abbrev n : NoteState D
  n = record s.notes { log = l }

  abbrev with_files : List PutFile → StoreState D
  with_files fs = record s { notes = n; files = fs }

  same_log : l ≡ record s.notes.log { disk = l.disk; is_stopped = l.is_stopped }
  same_log = passes_same s.notes l r passes

  was_running : l.is_stopped ≡ false → s.notes.log.is_stopped ≡ false
  was_running = passes_runs s.notes l r passes

  pub sound_still : IsSound l
  sound_still =
      let was = kept.sound in
      let there : State D = record s.notes.log { disk = l.disk; is_stopped = l.is_stopped } in
      let sound : IsSound there = record {
        below = was.below;
        past_stored = was.past_stored;
        stored = was.stored;
      } in
      subst IsSound (sym same_log) sound

  same_mind : log_of n ≡ log_of s.notes
  same_mind = as_passed s.notes l r passes

  -- the folder, where the disk has failed: it was only asked
  pub asked_still : files l.disk ≡ files s.notes.log.disk → s.notes.log.is_stopped ≡ false
      → HoldsItButOne files (with_files s.files)
  asked_still same runs first now is here =
      subst (λ (x : StoreLog). HoldsButOne first x (deeds_by s) now) (sym same_mind)
      (but_none first now (log_of s.notes) (deeds_by s)
      (kept.folder runs first now is (sym same ∙ here)))

  -- or it was to put a file
  pub put_failed : (name : List ℕ) → StayButOne name (files s.notes.log.disk) (files l.disk)
      → SameTold (files s.notes.log.disk) (files l.disk)
      → ((f : Files) → files s.notes.log.disk ≡ Some f → IsFreeTable f name)
      → ((f g : Files) → files s.notes.log.disk ≡ Some f → files l.disk ≡ Some g
      → MayStand (log_of s.notes) (deeds_by s) f name (finmap.get g name))
      → s.notes.log.is_stopped ≡ false → HoldsItButOne files (with_files s.files)
  put_failed name others told free stands runs first g is here =
      let was = told_before (files s.notes.log.disk) (files l.disk) g told here in
      let but_it : HoldsButOne first (log_of s.notes) (deeds_by s) g = record {
        last = was.0;
        holds = kept.folder runs first was.0 is was.1;
        name = name;
        failing = inr (inl (free was.0 was.1));
        others = at_told (files l.disk) g _ here (others was.0 was.1);
        stands = stands was.0 g was.1 here;
      } in
      subst (λ (x : StoreLog). HoldsButOne first x (deeds_by s) g) (sym same_mind) but_it

  -- nothing was put
  pub store_still : changes l.disk ≡ changes s.notes.log.disk
      → (l.is_stopped ≡ false → files l.disk ≡ files s.notes.log.disk)
      → (s.notes.log.is_stopped ≡ false → HoldsItButOne files (with_files s.files))
      → Keeping (with_files s.files)
  store_still quiet same failed =
      store_on files changes moment faults read_at lasted_at s n kept
      (ap (λ (x : State D). x.opened) same_log) (ap (λ (x : State D). x.first) same_log) later
      (writes_of changes s.notes.log l (grows_same changes s.notes.log l quiet
      (ap (λ (x : State D). x.past) same_log) (ap (λ (x : State D). x.id) same_log)
      (ap (λ (x : State D). x.sections) same_log))) stays r cause stops sound_still
      (λ still first now is here.
      subst (λ (x : StoreLog). HoldsStore first x (deeds_by s) now) (sym same_mind)
      (kept.folder (was_running still) first now is (sym (same still) ∙ here)))
      (λ stopped. failed)
      (settled_same s.notes n s.files refl refl refl kept.order.settled)
      (goes_for_none s n [] refl
      (ap (λ (x : State D). x.past) same_log ∙ sym (append-nil s.notes.log.past)) refl)

  -- a table file was put
  module _ (runs : s.notes.log.is_stopped ≡ false) (put : PutFile) (name bytes : List ℕ)
      (adds : changes l.disk ≡ option_map (λ made. made ++ change.Publish name bytes ∷ [])
      (changes s.notes.log.disk)) where
    grown_put : HasGrown changes s.first l
    grown_put =
        grown_beside changes s.first s.notes.log l (change.Publish name bytes ∷ []) kept.grown runs
        same_log adds refl

    pub store_put : l.is_stopped ≡ false
        → (l.is_stopped ≡ false → HoldsIt files (with_files (s.files ++ put ∷ [])))
        → KeepsOrder changes (with_files (s.files ++ put ∷ []))
        → Keeping (with_files (s.files ++ put ∷ []))
    store_put still folder order = record {
      opened = ap (λ (x : State D). x.opened) same_log ∙ kept.opened;
      began = ap (λ (x : State D). x.first) same_log ∙ kept.began;
      later = later_still moment read_at lasted_at s.first s.notes.log.disk l.disk kept.later later;
      no_fewer = omega (
        arith,
        kept.no_fewer,
        fault_later s.notes.log.is_stopped (faults s.notes.log.disk) (faults l.disk) r cause,
      );
      risen = rose_of files changes moment faults read_at lasted_at s n kept r cause stops;
      quiet = quiet_of files changes moment faults read_at lasted_at s n kept r cause stops;
      grown = grown_put;
      appended = λ none. absurd (omega (
        arith,
        length-append s.files (put ∷ []),
        ap (λ (d : Deeds). length d.files) none,
      ));
      order = order;
      sound = sound_still;
      folder = folder;
      left = λ stopped. absurd (true≢false (sym stopped ∙ still));
    }

-- ---- its log goes on in a later segment

module _ {D : Type 0} (files : D → Option Files) (changes : D → Option (List Change))
    (moment faults : D → ℕ) (read_at : D → ℕ → Option Reading) (lasted_at : D → ℕ → Type 0)
    (code : D → Gv) (tells : (d : D) → is_some (changes d) ≡ is_some (files d)) (s : StoreState D)
    (n : NoteState D) (kept : IsStore files changes moment faults read_at lasted_at s)
    (same : n ≡ record s.notes { log = n.log })
    (opened : n.log.opened ≡ s.notes.log.opened)
    (began : n.log.first ≡ s.notes.log.first)
    (later : IsLater moment read_at lasted_at s.notes.log.disk n.log.disk)
    (writes : Writes changes s.notes.log n.log)
    (others : LeavesOthers s.notes.log n.log (files s.notes.log.disk) (files n.log.disk))
    (stays : s.notes.log.is_stopped ≡ true → n ≡ s.notes) {T : Type 0} (r : Result T StoreFault)
    (cause : HasLogCause s.notes.log.is_stopped (faults s.notes.log.disk) (faults n.log.disk) r)
    (stops : StopsBy n.log.is_stopped r) (sound : IsSound n.log)
    (reads : n.log.is_stopped ≡ false → ReadsAs (files n.log.disk)
    (segment_name_of 6 n.log.id) (segment_bytes n.log.id n.log.sections))
    (torn : StandsHere files n.log) where
  pub store_gone_on : IsStore files changes moment faults read_at lasted_at (record s { notes = n })
  store_gone_on =
      store_on files changes moment faults read_at lasted_at s n kept opened began later writes
      stays r cause stops sound (λ still.
      folder_with files changes moment faults read_at lasted_at code tells s n kept writes others
      sound reads torn
      (ran_before s.notes.log.is_stopped n.log.is_stopped (faults s.notes.log.disk)
      (faults n.log.disk) r cause stops still) still []
      (ap (λ (x : NoteState D). x.base) same)
      (ap (λ (x : NoteState D). x.logged) same ∙ sym (append-nil s.notes.logged))
      (λ m among. absurd (nothing_there m among)))
      (λ stopped runs. folder_failed files changes moment faults read_at lasted_at code tells s n
      kept writes others sound reads torn runs (ap (λ (x : NoteState D). x.base) same)
      (ap (λ (x : NoteState D). x.logged) same))
      (settled_same s.notes n s.files (ap (λ (x : NoteState D). x.sizes) same)
      (ap (λ (x : NoteState D). x.logged) same) (ap (λ (x : NoteState D). x.synced) same)
      kept.order.settled)
      (goes_for_none s n others.more (ap (λ (x : NoteState D). x.base) same) others.past
      (ap (λ (x : NoteState D). x.logged) same))

-- ---- what a path is told

pub on_told : {T : Type 0} (P : Type 0) (at_open now : ℕ) (r : Result T StoreFault)
    (result : Result T KeeperFault) → result ≡ told_as at_open now r → OnOk r P → OnOk result P
on_told {T} P at_open now r result is on =
    subst (λ (x : Result T KeeperFault). OnOk x P) (sym is) (by r on)
  where
    by : (x : Result T StoreFault) → OnOk x P → OnOk (told_as at_open now x) P
    by (Ok done) h = h
    by (Err Stopped) h = tt
    by (Err OutOfMemory) h = tt

-- where a call of the log ended well and all its sections last, the segment at hand does
pub all_last : {D T : Type 0} (files : D → Option Files)
    (leaves : D → List ℕ → Option (List ℕ) → Type 0) (s : State D) (r : Result T StoreFault)
    → StopsBy s.is_stopped r → OnOk r (s.synced ≡ length s.sections)
    → (s.is_stopped ≡ false → LastsHere files leaves s) → OnOk r (AllLasts files leaves s)
all_last files leaves s (Ok done) stops all here = (all, λ some. here stops some all)
all_last files leaves s (Err fault) stops all here = tt

pub if_told : {T : Type 0} (P : T → Type 0) (at_open now : ℕ) (r : Result T StoreFault)
    (result : Result T KeeperFault) → result ≡ told_as at_open now r → IfOk r P → IfOk result P
if_told {T} P at_open now r result is on =
    subst (λ (x : Result T KeeperFault). IfOk x P) (sym is) (by r on)
  where
    by : (x : Result T StoreFault) → IfOk x P → IfOk (told_as at_open now x) P
    by (Ok done) h = h
    by (Err Stopped) h = tt
    by (Err OutOfMemory) h = tt

-- how far its log has gone stays so while its disk is asked
pub far_still : {D : Type 0} (s : NoteState D) (l : State D) {T : Type 0} (r : Result T StoreFault)
    (key : ℕ) → Passes s.log l r → HasReached s key → HasReached (record s { log = l }) key
far_still s l {T} r key passes far =
    subst (λ (x : State _). HasReached (record s { log = x }) key)
    (sym (passes_same s l {T = T} r passes))
    far

pub on_any : {T E P : Type 0} (r : Result T E) → P → OnOk r P
on_any (Ok done) p = p
on_any (Err fault) p = tt

-- a call that was refused while the disk has not failed was so for memory
pub at_memory : (T : Type 0) {P : Type 0} (now : Bool) (fault : StoreFault)
    → StopsBy {T = T} now (Err fault) → (fault ≡ OutOfMemory → P) → now ≡ false → P
at_memory T now Stopped stops holds still = absurd (true≢false (sym stops ∙ still))
at_memory T now OutOfMemory stops holds still = holds refl
