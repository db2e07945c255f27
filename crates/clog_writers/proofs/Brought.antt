-- What a store has appended once writers have logged over it, whatever was answered.
use Rattle.std.proofs.Common.{
  ◌≡◌,
  ℕ,
  ◌≤◌,
  inl,
  inr,
  Bool,
  true,
  false,
  List,
  [],
  ◌++◌,
  Option,
  Some,
  None,
  refl,
  sym,
  ◌∙◌,
  ap,
  subst,
  arith,
}
use Rattle.std.specs.Prelude.{Contains, is_some, option_map, ◌⊎◌}
use Rattle.std.specs.List.{filter}
use Rattle.std.proofs.lemmas.Bool.{true≢false}
use Rattle.std.proofs.lemmas.Option.{none-some}
use base.Stored.{Coded}
use Rattle.clog_base.specs.declared.sizes.Sizes.{Sizes}
use Rattle.clog_base.specs.Positions.{ordinal_of}
use Rattle.clog_base.proofs.Members.{nothing_there}
use Rattle.clog_disk.specs.declared.change.Change.{Change}
use Rattle.clog_disk.specs.Files.{Files, SameTold}
use Rattle.clog_mutation.specs.declared.mutation.Mutation.{Mutation}
use Rattle.clog_crash.specs.Grown.{appends_of}
use Rattle.clog_crash.specs.Log.{Write}
use Rattle.path_core.specs.declared.note.EntryNote.{EntryNote}
use Rattle.path_core.specs.History.{IsHistory}
use Rattle.path_core.specs.Keeper.{Holding, PutFile}
use Rattle.clog_segments.specs.Grows.{AreAppends, segments_with}
use Rattle.clog_segments.specs.NoteLog.{IsNoteLog}
use Rattle.clog_store.proofs.NoteGrows.{rises_with}
use Rattle.clog_segments.specs.StoreFolder.{IsSound, log_of}
use Rattle.clog_segments.specs.StoreOrder.{AreSettled}
use Rattle.clog_segments.specs.StoreState.{
  AppendsAlone,
  HasGrown,
  HasOrdered,
  HoldsItButOne,
  StoreState,
  deeds_by,
  holding_of,
  store_over,
}
use Rattle.clog_layout.specs.Ends.{synced_to}
use Rattle.clog_closing.specs.Stores.{files_by, ids_in}
use Rattle.clog_closing.proofs.StoreNames.{brings_but_one}
use Rattle.clog_closing.specs.Beside.{HasGoodDeeds}
use Rattle.clog_closing.specs.Drained.{HasBegun, HasNoDeeds, KeepsLog}
use Rattle.clog_closing.specs.Written.{
  AllStand,
  AreMadeFor,
  BringsOnly,
  HasBrought,
  HasComeInOrder,
  HasGoneInOrder,
}
use Rattle.clog_closing.proofs.Begun.{comes_last, entries, in_turn, its_taken, log_in}
use Rattle.clog_closing.proofs.Brought.{written_by}
use Rattle.clog_closing.proofs.Fresh.{none_done}
use Rattle.clog_closing.proofs.Good.{filed_on}
use Rattle.clog_closing.proofs.LastEnd.{up_to_last}
use Rattle.clog_closing.proofs.Leaving.{told_of}
use Rattle.clog_closing.proofs.PutFiles.{each_stands}
use Rattle.clog_closing.proofs.Taken.{none_taken}
use Rattle.write_path.specs.Closed.{PassesNoSegment}
use Rattle.clog_writers.specs.Logged.{
  GoesOnBeside,
  HasFlushedShare,
  HaveFlushedShares,
  HoldFirsts,
  HoldShares,
  LogsShares,
  is_note_of,
}
use Rattle.clog_writers.proofs.Coming.{has_come}
use Rattle.clog_writers.proofs.Leaving.{history, its_writer, lines, shares}

-- what is told now was told before
told_before : (before now : Option Files) (after : Files) → SameTold before now
    → now ≡ Some after → (first : Files) × (before ≡ Some first)
told_before None now after same is = absurd (none-some after (sym same ∙ is))
told_before (Some first) now after same is = (first, refl)

-- A store that goes on from one that was just opened has the same disk at its opening.
pub first_disk : {D : Type 0} (files : D → Option Files) (changes : D → Option (List Change))
    (moment faults : D → ℕ) (coded : Coded D) (a b : StoreState D) (flush : Option ℕ)
    → a ≡ store_over a.notes.log a.notes.sizes a.archives
    → GoesOnBeside flush (holding_of files changes moment faults coded.code a)
    (holding_of files changes moment faults coded.code b) → b.first ≡ a.notes.log.disk
first_disk files changes moment faults coded a b flush opens beside =
    coded.inj b.first a.first beside.disk_is ∙ ap (λ (s : StoreState _). s.first) opens

-- Then it goes on beside its log.
module _ {D : Type 0} (files : D → Option Files) (changes : D → Option (List Change))
    (moment faults : D → ℕ) (coded : Coded D) (a b e : StoreState D) (flush : Option ℕ)
    (opens : a ≡ store_over a.notes.log a.notes.sizes a.archives)
    (beside : GoesOnBeside flush (holding_of files changes moment faults coded.code a)
    (holding_of files changes moment faults coded.code b))
    (keeps : KeepsLog (holding_of files changes moment faults coded.code b)
    (holding_of files changes moment faults coded.code e)) (first : e.first ≡ b.first) where
  abbrev Held : StoreState D → Holding
  Held x = holding_of files changes moment faults coded.code x

  pub its_disk : e.first ≡ a.notes.log.disk
  its_disk = first ∙ first_disk files changes moment faults coded a b flush opens beside

  pub its_base : e.notes.base ≡ a.notes.base
  its_base = ap (λ (h : Holding). h.base) keeps ∙ beside.base_is

  pub its_archives : e.archives ≡ a.archives
  its_archives = ap (λ (h : Holding). h.opening.archives) keeps ∙ beside.archives_are

  -- what was logged is logged still
  pub logs_on : (sizes : Sizes) (base : ℕ) (ms : List Mutation)
      → LogsShares sizes base ms (Held b) → LogsShares sizes base ms (Held e)
  logs_on sizes base ms logs = record {
    base_is = ap (λ (h : Holding). h.base) keeps ∙ logs.base_is;
    notes = subst (HoldShares sizes.capacity sizes.writers ms)
        (sym (ap (λ (h : Holding). h.logged) keeps)) logs.notes;
    none_passed = subst PassesNoSegment (sym (ap (λ (h : Holding). h.logged) keeps))
        logs.none_passed;
    none_kept = ap (λ (h : Holding). h.kept) keeps ∙ logs.none_kept;
  }

  -- and so are the first of each share
  pub firsts_on : (writers : ℕ) (ms : List Mutation)
      → HoldFirsts writers ms (b.notes.logged ++ b.notes.kept)
      → HoldFirsts writers ms (e.notes.logged ++ e.notes.kept)
  firsts_on writers ms = subst (HoldFirsts writers ms)
      (sym (ap (λ (h : Holding). h.logged ++ h.kept) keeps))

  -- and what is kept stands behind them in order
  pub in_log_on : (capacity : ℕ) → IsHistory capacity (b.notes.logged ++ b.notes.kept)
      → IsHistory capacity (e.notes.logged ++ e.notes.kept)
  in_log_on capacity = subst (IsHistory capacity)
      (sym (ap (λ (h : Holding). h.logged ++ h.kept) keeps))

  -- None of that lies in a segment that was dropped.
  pub apart_on : HasGoodDeeds (Held b) → (e ≡ b) ⊎ (e.notes.kept ≡ []) → (n : EntryNote)
      → Contains e.notes.kept n → Contains e.dropped (ordinal_of n.start.0) → ⊥
  apart_on good stays n kept dropped = elim stays [
    | inl same ↦
        let o = ordinal_of n.start.0 in
        let may =
        good.droppable o (subst (λ (x : StoreState D). Contains x.dropped o) same dropped) in
        may.none_kept n (subst (λ (x : StoreState D). Contains x.notes.kept n) same kept) refl
    | inr none ↦ nothing_there n (subst (λ (l : List EntryNote). Contains l n) none kept)
  ]

  -- what was flushed is, where each file that was put is there
  share_on : (most t writer : ℕ)
      → ((f : PutFile) → Contains b.files f → Contains e.files f)
      → HasFlushedShare most t writer (Held b) → HasFlushedShare most t writer (Held e)
  share_on most t writer on share = record {
    early = share.early;
    late = share.late;
    parts = ap (λ (h : Holding). filter (is_note_of writer) h.logged) keeps ∙ share.parts;
    filed = λ n among touched.
        filed_on b.files e.files t n.end.0 on (share.filed n among touched);
    rest = share.rest;
    are_late = share.are_late;
    few = share.few;
  }

  pub flushed_on : (limit : Option ℕ) (writers : ℕ)
      → ((f : PutFile) → Contains b.files f → Contains e.files f)
      → HaveFlushedShares limit writers (Held b) → HaveFlushedShares limit writers (Held e)
  flushed_on None writers on flushed = tt
  flushed_on (Some most) writers on flushed =
      λ t writer table low. share_on most t writer on (flushed t writer table low)

  -- how far its drain has come
  pub begun_on : (drain : Bool) (P Q : Type 0)
      → HasNoDeeds (Held e)
      ⊎ ((drain ≡ true) × P × HasBegun (Held e) (synced_to b.notes.logged)) → (P → Q)
      → HasNoDeeds (Held e)
      ⊎ ((drain ≡ true) × Q × HasBegun (Held e) (synced_to e.notes.logged))
  begun_on drain P Q begun so = elim begun [
    | inl none ↦ inl none
    | inr part ↦ inr (
      part.0,
      so part.1,
      subst (λ (l : List EntryNote). HasBegun (Held e) (synced_to l))
          (sym (ap (λ (h : Holding). h.logged) keeps)) part.2,
    )
  ]

  -- the segment at hand
  abbrev hand : Write
  hand = record { id = e.notes.log.id; sections = e.notes.log.sections }

  abbrev pub ws : List Write
  ws = segments_with e.notes.log.past e.notes.log.id e.notes.log.sections

  -- names that have come, also where its disk has failed
  pub brings_only : HoldsItButOne files e
      → BringsOnly files a.notes.log.disk e.notes.log.disk ws
  brings_only left opened after is now =
      brings_but_one opened (log_of e.notes) (deeds_by e) after
      (left opened after (ap files its_disk ∙ is) now)

  module _ (growth : HasGrown changes e.first e.notes.log) where
    changed : changes e.notes.log.disk
        ≡ option_map (λ made. made ++ growth.added) (changes a.notes.log.disk)
    changed = growth.changes_are
        ∙ ap (λ (x : D). option_map (λ made. made ++ growth.added) (changes x)) its_disk

    -- each table file that was put stands there
    pub all_stand : HoldsItButOne files e → IsSound e.notes.log
        → SameTold (files a.notes.log.disk) (files e.notes.log.disk)
        → AllStand (files e.notes.log.disk) (files_by (log_of e.notes) (deeds_by e))
    all_stand left sound told after now file listed =
        let then = told_before (files a.notes.log.disk) (files e.notes.log.disk) after told now in
        each_stands then.0 (log_of e.notes) (deeds_by e) after
        (left then.0 after (ap files its_disk ∙ then.1) now) sound.below sound.stored.fits file
        listed

    pub still_told : ((d : D) → is_some (changes d) ≡ is_some (files d))
        → SameTold (files a.notes.log.disk) (files e.notes.log.disk)
    still_told tells =
        told_of (files a.notes.log.disk) (files e.notes.log.disk) (changes a.notes.log.disk)
        (changes e.notes.log.disk) growth.added (tells a.notes.log.disk)
        (tells e.notes.log.disk) changed

    brought_by : IsNoteLog e.notes → (flushing archives drain : Bool) (writers : ℕ)
        (ms : List Mutation) → AreMadeFor flushing archives drain a.notes.base writers ms
        (files e.notes.log.disk) growth.added
        → HasBrought files changes a.notes.log.disk e.notes.log.disk a.notes.base flushing archives
        drain writers ms ws
    brought_by notes flushing archives drain writers ms made_for = record {
      added = growth.added;
      changes_are = changed;
      made_for = made_for;
      brought = written_by e.notes.log growth.part (appends_of growth.added) growth.brought
          growth.grown;
      rise = rises_with e.notes.log.past hand growth.grown.rise growth.grown.below;
      above = λ w among. subst (λ (k : ℕ). k ≤ w.id) its_base (notes.from w among);
    }

  -- ---- whatever was answered

  module _ (appends : AppendsAlone changes e) (ordered : HasOrdered changes e)
      (settled : AreSettled e.notes e.files) (notes : IsNoteLog e.notes)
      (sound : IsSound e.notes.log) (apart : (n : EntryNote) → Contains e.notes.kept n
      → Contains e.dropped (ordinal_of n.start.0) → ⊥) (good : HasGoodDeeds (Held e))
      (there : AllStand (files e.notes.log.disk) (files_by (log_of e.notes) (deeds_by e)))
      (drain : Bool) (sizes : Sizes) (base : ℕ) (ms : List Mutation) where
    abbrev pub Brings : Bool → Type 0
    Brings flushing =
        HasBrought files changes a.notes.log.disk e.notes.log.disk a.notes.base flushing a.archives
        drain sizes.writers ms ws

    -- where writers do not flush by appends alone, or all lines are logged
    abbrev pub IsBrought : Bool → Type 0
    IsBrought flushing = (has : Brings flushing) × (flushing ≡ false
        → AreAppends has.added ⊎ LogsShares sizes base ms (Held e))

    -- a drain that has come so far, or nothing
    abbrev pub IsBegun : Type 0
    IsBegun = HasNoDeeds (Held e) ⊎ ((drain ≡ true) × LogsShares sizes base ms (Held e)
        × HasBegun (Held e) (synced_to e.notes.logged))

    by_appends : HasNoDeeds (Held e) → IsBrought false
    unfolding brought_by
    by_appends none =
        let has = appends (none_done files changes moment faults coded.code e none) in (
          brought_by has.growth notes false a.archives drain sizes.writers ms (inl has.alone),
          λ plain. inl has.alone,
        )

    -- the entries that the disk has taken are all that are logged
    all_taken : e.notes.kept ≡ []
        → entries changes e ordered settled notes sound apart (Held e) ≡ e.notes.logged
    all_taken none =
        none_taken e.notes.base e.notes.logged e.notes.kept _
        (its_taken changes e ordered settled notes sound apart (Held e)) none

    -- the changes in the words of this run, which begins as its opening told
    abbrev Told : (Bool → ℕ → ℕ → List Mutation → Option Files → List Change → Type 0) → Bool → ℕ
        → Type 0
    Told Are archives from =
        Are archives from sizes.writers ms (files e.notes.log.disk) ordered.growth.added

    as_opened : (Are : Bool → ℕ → ℕ → List Mutation → Option Files → List Change → Type 0)
        → Told Are e.archives e.notes.base → Told Are a.archives a.notes.base
    as_opened Are is =
        subst (λ (x : Bool). Told Are x a.notes.base) its_archives
        (subst (λ (k : ℕ). Told Are e.archives k) its_base is)

    has_gone : LogsShares sizes base ms (Held e) → HasBegun (Held e) (synced_to e.notes.logged)
        → Told HasGoneInOrder e.archives e.notes.base
    has_gone logs begun =
        let of = e.notes.base in
        let its_own = entries changes e ordered settled notes sound apart (Held e) in
        let all = all_taken logs.none_kept in
        let h = subst (HoldShares sizes.capacity sizes.writers ms) (sym all) logs.notes in
        let its = history sizes of ms its_own h in
        let are = lines sizes of ms its_own h in
        let low = up_to_last sizes.capacity e.notes.logged logs.notes.lawful in
        record {
          ids = ids_in (log_in changes e ordered settled notes sound apart (Held e));
          history = its;
          files = files_by (log_in changes e ordered settled notes sound apart (Held e))
              (deeds_by e);
          turns = in_turn changes e ordered settled notes sound apart (Held e) sizes its h.lawful
              are (files e.notes.log.disk) there good.none_archived good.in_sequence good.for_some;
          known = its_writer sizes of ms its_own h;
          shares = λ writer. shares sizes of ms its_own h sizes.writers writer refl;
          last = comes_last changes e ordered settled notes sound apart (Held e) sizes its h.lawful
              are (λ put among n listed.
              let end = low n (subst (λ (l : List EntryNote). Contains l n) all listed) in
              let up = (begun.wide put among).1 in omega (arith, end, up));
        }

    by_drain : drain ≡ true → LogsShares sizes base ms (Held e)
        → HasBegun (Held e) (synced_to e.notes.logged) → IsBrought false
    by_drain full logs begun = (
      brought_by ordered.growth notes false a.archives drain sizes.writers ms
          (inr (full, as_opened HasGoneInOrder (has_gone logs begun))),
      λ plain. inr logs,
    )

    -- where writers flush, what was appended are the first of each share
    by_flushes : HoldFirsts sizes.writers ms (e.notes.logged ++ e.notes.kept)
        → IsHistory sizes.capacity (e.notes.logged ++ e.notes.kept) → IsBrought true
    by_flushes held in_log = (
      brought_by ordered.growth notes true a.archives drain sizes.writers ms
          (as_opened HasComeInOrder
          (has_come changes e ordered settled notes sound apart (Held e) sizes ms held in_log
          (files e.notes.log.disk) there good.none_archived good.in_sequence good.for_some)),
      λ plain. absurd (true≢false plain),
    )

    pub brings_shares : (flushing : Bool) → (flushing ≡ false → IsBegun)
        → HoldFirsts sizes.writers ms (e.notes.logged ++ e.notes.kept)
        → IsHistory sizes.capacity (e.notes.logged ++ e.notes.kept) → IsBrought flushing
    brings_shares true begun held in_log = by_flushes held in_log
    brings_shares false begun held in_log = elim (begun refl) [
      | inl none ↦ by_appends none
      | inr part ↦ by_drain part.0 part.1 part.2
    ]
