-- A log of notes goes on under a store: the files that were put stay settled, and what it has added
-- stands behind them.
use Rattle.std.proofs.Common.{
  ◌≡◌,
  ℕ,
  ◌<◌,
  ◌≤◌,
  inl,
  inr,
  List,
  [],
  ◌∷◌,
  ◌++◌,
  Option,
  Some,
  None,
  refl,
  sym,
  ◌∙◌,
  ap,
  subst,
  arith,
  append-nil,
}
use Rattle.std.specs.Prelude.{Contains, Err, OnErr, OnOk, Ok, Result}
use Rattle.std.proofs.lemmas.List.Elements.{Contains-append_cases, Contains-append_left}
use base.Stored.{Gv}
use Rattle.clog_base.specs.declared.cell.Cell.{Cell}
use Rattle.clog_base.specs.declared.cell.CellKey.{CellKey}
use Rattle.clog_base.specs.declared.sizes.Sizes.{Sizes}
use Rattle.clog_base.specs.Positions.{ordinal_of}
use Rattle.clog_base.proofs.Members.{here, nothing_there}
use Rattle.clog_cells.specs.Merge.{IsMergeOf}
use Rattle.clog_cells.proofs.Merging.{of_same}
use Rattle.clog_disk.specs.declared.change.Change.{Change}
use Rattle.clog_disk.specs.Files.{Files}
use Rattle.clog_crash.specs.Log.{Write}
use Rattle.path_core.specs.declared.note.EntryNote.{EntryNote}
use Rattle.path_core.specs.Keeper.{Holding, IsLoggedCell, MaySync, MayWrite, PutFile, Tile}
use Rattle.path_core.specs.Keys.{after}
use Rattle.clog_segments.specs.declared.written.StoreFault.{StoreFault}
use Rattle.clog_segments.specs.NoteLog.{
  HasLog,
  HasRefused,
  HasSynced,
  IsGood,
  LeavesOthers,
  NoteState,
}
use Rattle.clog_segments.specs.StoreOrder.{AreSettled, IsSettled}
use Rattle.clog_segments.specs.StoreState.{StoreState, holding_of}
use Rattle.clog_due.specs.declared.counted.Counted.{Counted}
use Rattle.clog_due.specs.Counting.{IsCounted, IsCountedIn}
use Rattle.clog_due.proofs.HeldSegments.{with_notes}
use Rattle.clog_store.proofs.NoteLent.{run_above, starts_above, tile_starts}
use Rattle.clog_store.proofs.NoteSynced.{run_writes}

-- ---- how far the log goes on

-- A log of notes goes on from that of a store: it has left further segments, and logged further
-- notes, behind the files that were put and in no segment that was dropped.
pub record GoesOnWith {D : Type 0} (s : StoreState D) (n : NoteState D) : Type 0 where
  pub base_is : n.base ≡ s.notes.base
  pub more : List Write
  pub past_is : n.log.past ≡ s.notes.log.past ++ more
  pub run : List EntryNote
  pub logged_is : n.logged ≡ s.notes.logged ++ run
  pub above : (m : EntryNote) → Contains run m → (put : PutFile) → Contains s.files put
      → put.upper < m.end.0
  pub apart : (m : EntryNote) → Contains run m → Contains s.dropped (ordinal_of m.start.0) → ⊥

-- for no note
pub goes_for_none : {D : Type 0} (s : StoreState D) (n : NoteState D) (more : List Write)
    → n.base ≡ s.notes.base → n.log.past ≡ s.notes.log.past ++ more → n.logged ≡ s.notes.logged
    → GoesOnWith s n
goes_for_none s n more base_is past_is same = record {
  base_is = base_is;
  more = more;
  past_is = past_is;
  run = [];
  logged_is = same ∙ sym (append-nil s.notes.logged);
  above = λ m among. absurd (nothing_there m among);
  apart = λ m among. absurd (nothing_there m among);
}

-- ---- files stay settled

-- a keeper with the log of before
abbrev with_log : {D : Type 0} → NoteState D → Holding → Holding
with_log s h = record h {
  base = s.base;
  sizes = s.sizes;
  synced = s.synced;
  logged = s.logged;
  kept = s.kept;
}

module _ {D : Type 0} (s n : NoteState D) (run : List EntryNote) (sizes_are : n.sizes ≡ s.sizes)
    (logged_is : n.logged ≡ s.logged ++ run)
    (on : after s.sizes.capacity s.synced ≤ after s.sizes.capacity n.synced)
    (above : (m : EntryNote) → Contains run m → after s.sizes.capacity s.synced < m.end.0)
    (h : Holding) (has : HasLog n h) (put : PutFile) (was : IsSettled (with_log s h) put) where
  logged_now : h.logged ≡ s.logged ++ run
  logged_now = has.logged_are ∙ logged_is

  forth : (pair : CellKey × Cell) → IsLoggedCell (with_log s h) put pair
      → IsLoggedCell h put pair
  forth pair c = record {
    note = c.note;
    among = subst (λ (l : List EntryNote). Contains l c.note) (sym logged_now)
        (Contains-append_left s.logged run c.note c.among);
    whole = c.whole;
    listed = c.listed;
    of_table = c.of_table;
    above = c.above;
    up_to = c.up_to;
  }

  back : (pair : CellKey × Cell) → IsLoggedCell h put pair
      → IsLoggedCell (with_log s h) put pair
  back pair c = record {
    note = c.note;
    among = elim (Contains-append_cases s.logged run c.note
        (subst (λ (l : List EntryNote). Contains l c.note) logged_now c.among)) [
          | inl old ↦ old
          | inr new ↦ absurd (omega (arith, above c.note new, was.lasting, c.up_to))
        ];
    whole = c.whole;
    listed = c.listed;
    of_table = c.of_table;
    above = c.above;
    up_to = c.up_to;
  }

  settled_now : IsSettled h put
  settled_now = record {
    lasting = subst (λ (z : Sizes). put.upper ≤ after z.capacity h.synced)
        (sym (has.sizes_are ∙ sizes_are))
        (subst (λ (k : ℕ). put.upper ≤ after s.sizes.capacity k) (sym has.synced_is)
        (omega (arith, was.lasting, on)));
    merged = of_same (IsLoggedCell (with_log s h) put) (IsLoggedCell h put) put.cells
        (λ pair. (forth pair, back pair)) was.merged;
  }

has_own : {D : Type 0} (s : NoteState D) (h : Holding) → HasLog s (with_log s h)
has_own s h = record {
  base_is = refl;
  sizes_are = refl;
  synced_is = refl;
  logged_are = refl;
  kept_are = refl;
}

pub settled_on : {D : Type 0} (s n : NoteState D) (files : List PutFile) (run : List EntryNote)
    → n.sizes ≡ s.sizes → n.logged ≡ s.logged ++ run
    → after s.sizes.capacity s.synced ≤ after s.sizes.capacity n.synced
    → ((m : EntryNote) → Contains run m → after s.sizes.capacity s.synced < m.end.0)
    → AreSettled s files → AreSettled n files
settled_on s n files run sizes_are logged_is on above settled h has put among =
    settled_now s n run sizes_are logged_is on above h has put
    (settled (with_log s h) (has_own s h) put among)

-- nothing of it was logged
pub settled_same : {D : Type 0} (s n : NoteState D) (files : List PutFile) → n.sizes ≡ s.sizes
    → n.logged ≡ s.logged → n.synced ≡ s.synced → AreSettled s files → AreSettled n files
settled_same s n files sizes_are same synced_is =
    settled_on s n files [] sizes_are (same ∙ sym (append-nil s.logged))
    (subst (λ (k : ℕ). after s.sizes.capacity s.synced ≤ after s.sizes.capacity k) (sym synced_is)
    (omega arith)) (λ m among. absurd (nothing_there m among))

-- by what another keeper with the same entries tells
pub settled_by : (k h : Holding) (put : PutFile) → h.logged ≡ k.logged
    → put.upper ≤ after h.sizes.capacity h.synced → IsMergeOf (IsLoggedCell k put) put.cells
    → IsSettled h put
settled_by k h put same lasting merged = record {
  lasting = lasting;
  merged = of_same (IsLoggedCell k put) (IsLoggedCell h put) put.cells
      (λ pair. (over k h same pair, over h k (sym same) pair)) merged;
}
  where
    over : (a b : Holding) → b.logged ≡ a.logged → (pair : CellKey × Cell)
        → IsLoggedCell a put pair → IsLoggedCell b put pair
    over a b is pair c = record {
      note = c.note;
      among = subst (λ (l : List EntryNote). Contains l c.note) (sym is) c.among;
      whole = c.whole;
      listed = c.listed;
      of_table = c.of_table;
      above = c.above;
      up_to = c.up_to;
    }

-- ---- a sync

-- a run goes up to where its last note ends
after_on : (sizes : Sizes) (synced upto : ℕ) (run : List EntryNote)
    → ((m : EntryNote) → Contains run m → IsGood sizes m) → Tile sizes.capacity synced upto run
    → ((m : EntryNote) → Contains run m → m.end.0 ≤ upto)
    → after sizes.capacity synced ≤ after sizes.capacity upto
after_on sizes synced upto [] good tile low =
    subst (λ (k : ℕ). after sizes.capacity synced ≤ after sizes.capacity k) (sym tile)
    (omega arith)
after_on sizes synced upto (m ∷ ms) good tile low =
    let first = run_above sizes synced upto (m ∷ ms) good tile m (here m ms) in
    let next = after sizes.capacity upto in
    let up = starts_above upto next
    (tile_starts sizes.capacity upto next sizes.within.greatest_capacity (inl refl)) in
    omega (arith, first, low m (here m ms), up)

module _ {D : Type 0} (files : D → Option Files) (changes : D → Option (List Change))
    (moment faults : D → ℕ) (code : D → Gv) (s : StoreState D) (n : NoteState D)
    (settled : AreSettled s.notes s.files) (upto : ℕ) (pending left : List EntryNote)
    (may : MaySync (holding_of files changes moment faults code s) upto pending) where
  abbrev h : Holding
  h = holding_of files changes moment faults code s

  has : HasLog s.notes h
  has = record {
    base_is = refl;
    sizes_are = refl;
    synced_is = refl;
    logged_are = refl;
    kept_are = refl;
  }

  module _ (ok : HasSynced s.notes n upto pending left) where
    writes : MayWrite h upto ok.run
    writes = run_writes s.notes upto pending ok.run left ok.parted h may

    good : (m : EntryNote) → Contains ok.run m → IsGood s.notes.sizes m
    good m among =
        let w = writes.each m among in
        record { whole = w.whole; in_segment = w.in_segment; segment_is = w.segment_is }

    above_all : (m : EntryNote) → Contains ok.run m
        → after s.notes.sizes.capacity s.notes.synced < m.end.0
    above_all =
        run_above s.notes.sizes s.notes.synced upto ok.run good writes.tiled

    settled_then : AreSettled n s.files
    settled_then =
        settled_on s.notes n s.files ok.run (ap (λ (x : NoteState D). x.sizes) ok.log_is)
        (ap (λ (x : NoteState D). x.logged) ok.log_is)
        (subst (λ (k : ℕ). after s.notes.sizes.capacity s.notes.synced
        ≤ after s.notes.sizes.capacity k) (sym (ap (λ (x : NoteState D). x.synced) ok.log_is))
        (after_on s.notes.sizes s.notes.synced upto ok.run good writes.tiled ok.parted.low))
        above_all settled

    goes_then : (more : List Write) → n.log.past ≡ s.notes.log.past ++ more → GoesOnWith s n
    goes_then more past_is = record {
      base_is = ap (λ (x : NoteState D). x.base) ok.log_is;
      more = more;
      past_is = past_is;
      run = ok.run;
      logged_is = ap (λ (x : NoteState D). x.logged) ok.log_is;
      above = λ m among put listed.
          omega (arith, above_all m among, (settled h has put listed).lasting);
      apart = λ m among. (writes.each m among).not_dropped;
    }

  -- the files stay settled
  pub synced_settled : {T : Type 0} (r : Result T StoreFault)
      → OnOk r (HasSynced s.notes n upto pending left)
      → OnErr r (HasRefused s.notes n upto pending left) → AreSettled n s.files
  synced_settled (Ok done) ok err = settled_then ok
  synced_settled (Err fault) ok err =
      settled_same s.notes n s.files (ap (λ (x : NoteState D). x.sizes) err.log_is)
      (ap (λ (x : NoteState D). x.logged) err.log_is)
      (ap (λ (x : NoteState D). x.synced) err.log_is) settled

  -- and the log goes on
  pub synced_goes : {T : Type 0} (r : Result T StoreFault)
      → OnOk r (HasSynced s.notes n upto pending left)
      → OnErr r (HasRefused s.notes n upto pending left)
      → (told now : Option Files) → LeavesOthers s.notes.log n.log told now → GoesOnWith s n
  synced_goes (Ok done) ok err told now leaves = goes_then ok leaves.more leaves.past
  synced_goes (Err fault) ok err told now leaves =
      goes_for_none s n leaves.more (ap (λ (x : NoteState D). x.base) err.log_is) leaves.past
      (ap (λ (x : NoteState D). x.logged) err.log_is)

-- ---- what was counted

pub counted_synced : {D : Type 0} (s : StoreState D) (n : NoteState D) (o : Option Counted)
    → GoesOnWith s n → IsCountedIn s.notes.logged s.files s.dropped o
    → IsCountedIn n.logged s.files s.dropped o
counted_synced s n None goes is = tt
counted_synced s n (Some c) goes is =
    subst (λ (l : List EntryNote). IsCounted l s.files s.dropped c) (sym goes.logged_is)
    (with_notes s.notes.logged s.files s.dropped c goes.run goes.apart is)
