-- Memtables are flushed one after another: what the keeper holds behind the first of them, and that
-- the next one may be flushed.
use Rattle.std.proofs.Common.{
  ◌≡◌,
  ◌<◌,
  ◌≤◌,
  ◌++◌,
  ◌∷◌,
  [],
  List,
  ℕ,
  Bool,
  true,
  false,
  ◌||◌,
  ◌==◌,
  if◌then◌else◌,
  Result,
  Ok,
  inl,
  inr,
  take,
  length,
  get_or,
  ◌+◌,
  refl,
  sym,
  ap,
  ◌∙◌,
  subst,
  arith,
  append_assoc,
  eqb-true,
}
use Rattle.std.proofs.lemmas.Bool.{false≢true}
use Rattle.std.proofs.lemmas.List.{
  append-nil,
  get_or-take,
  get_or_default,
  length-append,
  length-map,
  length-take-le,
  map-append,
  take_more,
}
use Rattle.std.specs.List.{AllPairs, Contains}
use Rattle.clog_base.specs.declared.cell.Cell.{Cell}
use Rattle.clog_base.specs.declared.cell.CellKey.{CellKey}
use Rattle.clog_base.proofs.Members.{further, here}
use Rattle.clog_cells.proofs.Merging.{of_same}
use Rattle.path_core.specs.declared.keeper.KeeperFault.{KeeperFault}
use Rattle.path_core.specs.declared.note.EntryNote.{EntryNote}
use Rattle.path_core.specs.Keeper.{
  HasKeeperCause,
  HasRisen,
  Holding,
  IsLoggedCell,
  MayPublish,
  PublishRefused,
  Publishes,
  PutFile,
  is_stopped,
  upper_from,
}
use Rattle.path_core.specs.Keys.{after}
use Rattle.clog_memtable.specs.declared.flushing.Memtable.{Memtable}
use Rattle.clog_memtable.specs.Flushing.{HasPutFiles, MayFlush, file_of, files_of}

-- ---- the upper key of a table's last file

pub upper_behind : (t key : ℕ) (fs gs : List PutFile)
    → upper_from t key (fs ++ gs) ≡ upper_from t (upper_from t key fs) gs
upper_behind t key [] gs = refl
upper_behind t key (f ∷ fs) gs = upper_behind t (if f.table == t then f.upper else key) fs gs

other_table : (f : PutFile) (t key : ℕ) (b : Bool) → (f.table ≡ t → ⊥) → (f.table == t) ≡ b
    → (if b then f.upper else key) ≡ key
other_table f t key true apart is = absurd (apart (eqb-true f.table t is))
other_table f t key false apart is = refl

-- files of other tables leave it
pub upper_stays : (t key : ℕ) (ms : List Memtable)
    → ((m : Memtable) → Contains ms m → m.interval.table.0 ≡ t → ⊥)
    → upper_from t key (files_of ms) ≡ key
upper_stays t key [] apart = refl
upper_stays t key (m ∷ ms) apart =
    ap (λ (k : ℕ). upper_from t k (files_of ms))
    (other_table (file_of m) t key ((file_of m).table == t) (apart m (here m ms)) refl)
    ∙ upper_stays t key ms (λ n there. apart n (further m ms n there))

-- ---- one after another

-- the cells of a file's interval are those of the log alone
pub same_cells : (h k : Holding) (f : PutFile) → k.logged ≡ h.logged
    → (pair : CellKey × Cell) → IsLoggedCell h f pair → IsLoggedCell k f pair
same_cells h k f same pair c = record {
  note = c.note;
  among = subst (λ (l : List EntryNote). Contains l c.note) (sym same) c.among;
  whole = c.whole;
  listed = c.listed;
  of_table = c.of_table;
  above = c.above;
  up_to = c.up_to;
}

-- what was flushed before a memtable is of other tables
apart_from : (ms : List Memtable) (i : ℕ) (m : Memtable)
    → AllPairs (λ (a b : Memtable). a.interval.table.0 ≡ b.interval.table.0 → ⊥) ms
    → i < length ms → m ≡ get_or ms i m → (n : Memtable) → Contains (take i ms) n
    → n.interval.table.0 ≡ m.interval.table.0 → ⊥
apart_from ms i m apart inside is n there same =
    let long = length-take-le i ms (omega arith) in
    let low : there.0 < i = (let l = there.1 in omega (arith, long)) in
    let stands : get_or ms there.0 m ≡ n = get_or_default ms there.0 m n (omega arith)
    ∙ (sym (get_or-take i ms there.0 n low) ∙ there.2) in
    apart there.0 i m low inside
    (ap (λ (k : Memtable). k.interval.table.0) stands
    ∙ (same ∙ ap (λ (k : Memtable). k.interval.table.0) is))

module _ (before : Holding) (ms : List Memtable) (may : MayFlush before ms) (i : ℕ) (m : Memtable)
    (inside : i < length ms) (is : m ≡ get_or ms i m) (now : Holding)
    (put : HasPutFiles before now (files_of (take i ms))) where
  there : Contains ms m
  there = (i, inside, sym is)

  -- the next one may be flushed
  pub next_may : MayPublish now (file_of m)
  next_may = let one = may.each m there in let few = may.few in
      let logged : now.logged ≡ before.logged = ap (λ (h : Holding). h.logged) put in
      let files : now.files ≡ before.files ++ files_of (take i ms) =
      ap (λ (h : Holding). h.files) put in
      let long : length now.files ≡ length before.files + i =
      ap (λ (l : List PutFile). length l) files
      ∙ (length-append before.files (files_of (take i ms))
      ∙ ap (λ (k : ℕ). length before.files + k) (length-map (take i ms) file_of
      ∙ length-take-le i ms (omega arith))) in
      record {
        table_is = subst (λ k. m.interval.table.0 < k)
            (sym (ap (λ (h : Holding). h.sizes.tables) put)) one.table_is;
        lasting = subst (λ (h : Holding). m.interval.upper.0 ≤ after h.sizes.capacity h.synced)
            (sym put) one.lasting;
        goes_on = one.goes_on ∙ sym (ap (λ (l : List PutFile). upper_from m.interval.table.0 0 l)
            files ∙ (upper_behind m.interval.table.0 0 before.files (files_of (take i ms))
            ∙ upper_stays m.interval.table.0 (upper_from m.interval.table.0 0 before.files)
            (take i ms) (apart_from ms i m may.apart inside is)));
        forward = one.forward;
        merged = of_same (IsLoggedCell before (file_of m)) (IsLoggedCell now (file_of m)) m.cells
            (λ pair. (
              same_cells before now (file_of m) logged pair,
              same_cells now before (file_of m) (sym logged) pair,
            )) one.merged;
        few = omega arith;
      }

  -- one more is flushed
  pub one_more : (later : Holding) → Publishes now later (file_of m)
      → HasPutFiles before later (files_of (take (i + 1) ms))
  one_more later step =
      let more : files_of (take i ms) ++ file_of m ∷ [] ≡ files_of (take (i + 1) ms) =
      sym (map-append file_of (take i ms) (m ∷ []))
      ∙ ap files_of (ap (λ (k : Memtable). take i ms ++ k ∷ []) is
      ∙ sym (take_more ms i m inside)) in
      step ∙ (λ j. record (put j) {
        faults = later.faults;
        stopped = sym (ap (λ (h : Holding). h.stopped) step) j;
        files = (ap (λ (h : Holding). h.files ++ file_of m ∷ []) put
            ∙ (append_assoc before.files (files_of (take i ms)) (file_of m ∷ [])
            ∙ ap (λ (l : List PutFile). before.files ++ l) more)) j;
        refused = sym (ap (λ (h : Holding). h.refused) step) j;
      })

-- ---- how far it came

pub nothing_put : (before : Holding) → HasPutFiles before before []
nothing_put before = λ j. record before { files = sym (append-nil before.files) j }

-- a file that is refused leaves those that were put
pub refused_behind : (before now later : Holding) (files : List PutFile) (f : PutFile)
    → HasPutFiles before now files → PublishRefused now later f → HasPutFiles before later files
refused_behind before now later files f put R =
    R.holds ∙ (λ j. record (put j) {
      faults = later.faults;
      stopped = later.stopped;
      refused = later.refused;
    })

risen_behind : (first mid last : ℕ) → first ≤ mid → HasRisen mid last → HasRisen first last
risen_behind first mid last low (inl above) = inl (omega arith)
risen_behind first mid last low (inr full) = inr full

-- the cause of the last call is that of all
pub cause_behind : {T : Type 0} (before now later : Holding) (result : Result T KeeperFault)
    → before.stopped ≡ false → now.stopped ≡ false → before.faults ≤ now.faults
    → HasKeeperCause now later result → HasKeeperCause before later result
cause_behind before now later result ran runs low c = record {
  later = let up = c.later in omega arith;
  counts = c.counts;
  failed = λ _ stops. risen_behind before.faults now.faults later.faults low (c.failed runs stops);
  for_good = λ stopped. absurd (false≢true (sym ran ∙ stopped));
  kept_in_mind = c.kept_in_mind
      ∙ ap (λ (b : Bool). b || is_stopped result) (runs ∙ sym ran);
}

pub cause_of_none : (before now : Holding) → before.stopped ≡ false → now.stopped ≡ false
    → before.faults ≤ now.faults → HasKeeperCause {T = Unit {0}} before now (Ok tt)
cause_of_none before now ran runs low = record {
  later = low;
  counts = tt;
  failed = λ _ stops. absurd (false≢true stops);
  for_good = λ stopped. absurd (false≢true (sym ran ∙ stopped));
  kept_in_mind = runs ∙ ap (λ (b : Bool). b || false) (sym ran);
}
