-- What a store keeps from call to call, and what its answers tell of its disk.
use Rattle.std.proofs.Common.{
  ◌≡◌,
  ℕ,
  ◌<◌,
  ◌≤◌,
  ◌^◌,
  inl,
  inr,
  Bool,
  true,
  false,
  List,
  [],
  ◌∷◌,
  ◌++◌,
  Option,
  Some,
  refl,
  sym,
  ◌∙◌,
  ap,
  subst,
  arith,
  append-nil,
  length-append,
}
use Rattle.std.specs.Prelude.{
  ◌||◌,
  ◌-◌,
  Contains,
  length,
  Err,
  OnErr,
  OnOk,
  Ok,
  Result,
  nat_lt,
  option_map,
  unwrap_or,
}
use Rattle.std.specs.List.Sorted.{IsPermutation}
use Rattle.std.proofs.lemmas.List.Sorted.{IsPermutation-refl}
use Rattle.std.specs.FinMap as finmap
use Rattle.std.proofs.lemmas.Bool.{ltb-false, ltb-true, true≢false}
use base.Stored.{Gv}
use Rattle.clog_spec.specs.Names.{segment_name_of}
use Rattle.clog_base.specs.declared.sizes.Sizes.{Sizes}
use Rattle.clog_base.proofs.Members.{nothing_there, only_one}
use Rattle.clog_io.specs.Causes.{Rose}
use Rattle.clog_disk.specs.declared.change.Change.{Change}
use Rattle.clog_disk.specs.Files.{Files}
use Rattle.clog_disk.specs.Images.{IsLater, LastsAs}
use Rattle.clog_disk.proofs.Moments.{later_still}
use Rattle.clog_scan.specs.Cut.{Section}
use Rattle.clog_crash.specs.Grown.{Append, appends_of, grown}
use Rattle.clog_crash.specs.Log.{Write}
use Rattle.clog_crash.specs.Readings.{Reading}
use Rattle.clog_crash.specs.Sections.{segment_bytes}
use Rattle.clog_crash.proofs.counts.Growing.{appends_of-append}
use Rattle.path_core.specs.declared.note.EntryNote.{EntryNote}
use Rattle.path_core.specs.declared.keeper.KeeperFault.{KeeperFault}
use Rattle.path_core.specs.Keeper.{
  GoOnBehind,
  HasKeeperCause,
  HasRisen,
  Holding,
  MaySync,
  SyncRefused,
  Syncs,
}
use Rattle.clog_segments.specs.declared.written.StoreFault.{StoreFault}
use Rattle.clog_segments.specs.declared.written.StoreFault.TheVariants.{Stopped, OutOfMemory}
use Rattle.clog_segments.specs.Grows.{IsGrown, Writes}
use Rattle.clog_segments.specs.Life.{State}
use Rattle.clog_segments.specs.NamesLast.{NamesLast}
use Rattle.clog_segments.specs.NoteLog.{HasRefused, HasSynced, NoteState}
use Rattle.clog_segments.specs.Stepped.{HasLogCause, StopsBy}
use Rattle.clog_segments.specs.StoreFailed.{AllStay}
use Rattle.clog_segments.specs.StoreFolder.{
  HoldsStore,
  IsSound,
  StoreLog,
  fresh_log,
  log_of,
  no_deeds,
}
use Rattle.clog_store.specs.StoreNames.{RowsLast}
use Rattle.clog_segments.specs.StoreOrder.{AreOrdered, AreSettled}
use Rattle.clog_segments.specs.StoreState.{
  AppendsAlone,
  HasAppended,
  HasGrown,
  HasOrdered,
  HoldsIt,
  HoldsItButOne,
  IsStore,
  StoreState,
  deeds_by,
  holding_of,
  store_over,
  told_as,
}
use Rattle.clog_due.proofs.Cuts.{put_none}
use Rattle.clog_store.proofs.FolderFails.{all_stay, but_none, no_row}
use Rattle.clog_store.proofs.NoteGrows.{added_both, appends_both, no_appends, nothing_added}
use Rattle.clog_due.proofs.OrderGoes.{ordered_appended}
use Rattle.clog_store.proofs.OrderSyncs.{GoesOnWith}

-- ---- faults

pub fault_later : {T : Type 0} (was : Bool) (faults now : ℕ) (r : Result T StoreFault)
    → HasLogCause was faults now r → faults ≤ now
fault_later was faults now (Ok x) cause = omega (arith, cause.1)
fault_later was faults now (Err OutOfMemory) cause = omega (arith, cause.1)
fault_later was faults now (Err Stopped) cause = elim cause [
  | inl still ↦ omega (arith, still.1)
  | inr rose ↦ rose.1
]

-- a log that has not stopped had not before
pub ran_before : {T : Type 0} (was now : Bool) (before after : ℕ) (r : Result T StoreFault)
    → HasLogCause was before after r → StopsBy now r → now ≡ false → was ≡ false
ran_before was now before after (Ok x) cause stops still = cause.0
ran_before was now before after (Err OutOfMemory) cause stops still = cause.0
ran_before was now before after (Err Stopped) cause stops still =
    absurd (true≢false (sym stops ∙ still))

-- none is counted where the disk has not failed
pub quiet_call : {T : Type 0} (was stopped : Bool) (faults now : ℕ) (r : Result T StoreFault)
    → HasLogCause was faults now r → StopsBy stopped r → stopped ≡ false → now ≡ faults
quiet_call was stopped faults now (Ok x) cause stops runs = cause.1
quiet_call was stopped faults now (Err OutOfMemory) cause stops runs = cause.1
quiet_call was stopped faults now (Err Stopped) cause stops runs =
    absurd (true≢false (sym stops ∙ runs))

pub has_risen : (before now : ℕ) → now < 2 ^ 64 → Rose before now → HasRisen before now
has_risen before now fits rose = by (nat_lt before (2 ^ 64 - 1)) refl
  where
    by : (b : Bool) → nat_lt before (2 ^ 64 - 1) ≡ b → HasRisen before now
    by true is = inl (omega (arith, rose, ltb-true _ _ is))
    by false is = inr (omega (arith, rose, fits, ltb-false _ _ is))

-- a count that has risen has done so since each earlier one
pub rose_since : (first before now : ℕ) → first ≤ before → Rose before now → Rose first now
rose_since first before now le rose = omega arith

or_true : (b : Bool) → (b || true) ≡ true
or_true true = refl
or_true false = refl

or_false : (b : Bool) → b ≡ false → (b || false) ≡ false
or_false b is = ap (λ (x : Bool). x || false) is

-- why a keeper did what it did, by its log's call
pub keeper_cause : {T : Type 0} (before now : Holding) (r : Result T StoreFault)
    → HasLogCause before.stopped before.faults now.faults r → StopsBy now.stopped r
    → (now.stopped ≡ true → Rose now.at_open now.faults) → now.faults < 2 ^ 64
    → HasKeeperCause before now (told_as now.at_open now.faults r)
keeper_cause before now (Ok x) cause stops risen fits = record {
  later = omega (arith, cause.1);
  counts = tt;
  failed = λ runs no. absurd (true≢false (sym no));
  for_good = λ was. absurd (true≢false (sym was ∙ cause.0));
  kept_in_mind = stops ∙ sym (or_false before.stopped cause.0);
}
keeper_cause before now (Err OutOfMemory) cause stops risen fits = record {
  later = omega (arith, cause.1);
  counts = tt;
  failed = λ runs no. absurd (true≢false (sym no));
  for_good = λ was. absurd (true≢false (sym was ∙ cause.0));
  kept_in_mind = stops ∙ sym (or_false before.stopped cause.0);
}
keeper_cause {T} before now (Err Stopped) cause stops risen fits = record {
  later = fault_later {T = T} before.stopped before.faults now.faults (Err Stopped) cause;
  counts = (refl, refl, has_risen now.at_open now.faults fits (risen stops));
  failed = λ runs yes. elim cause [
    | inl still ↦ absurd (true≢false (sym still.0 ∙ runs))
    | inr rose ↦ has_risen before.faults now.faults fits rose.2
  ];
  for_good = λ was. refl;
  kept_in_mind = stops ∙ sym (or_true before.stopped);
}

-- with nothing pending, and nothing kept, a first sync up to the front may be asked
pub nothing_to_sync : (h : Holding) (pending : List EntryNote) → pending ≡ [] → h.synced ≡ 0
    → h.kept ≡ [] → MaySync h 0 pending
nothing_to_sync h pending none synced kept = record {
  run = [];
  left = [];
  parted = record {
    all = subst (λ (l : List EntryNote). IsPermutation l []) (sym none) (IsPermutation-refl []);
    low = λ n among. absurd (nothing_there n among);
    high = λ n among. absurd (nothing_there n among);
    in_order = λ i j d l h. absurd (omega (arith, h));
  };
  may = record {
    each = λ n among. absurd (nothing_there n among);
    tiled = sym synced;
    more = [];
    begins = sym (ap (λ (l : List EntryNote). l ++ []) kept);
    go_on = subst (λ (l : List EntryNote). GoOnBehind h.sizes.capacity l []) (sym kept) tt;
  };
}

-- ---- what it keeps

pub some_one : (f g : Files) → Some f ≡ Some g → f ≡ g
some_one f g same = ap (λ (o : Option Files). unwrap_or o f) same

module _ {D : Type 0} (files : D → Option Files) (changes : D → Option (List Change))
    (moment faults : D → ℕ) (read_at : D → ℕ → Option Reading) (lasted_at : D → ℕ → Type 0) where
  abbrev Keeping : StoreState D → Type 0
  Keeping s = IsStore files changes moment faults read_at lasted_at s

  none_grown : (id : ℕ) → IsGrown [] [] id []
  none_grown id =
      let bare : Write = record { id = id; sections = [] } in
      record {
        each = λ w among. subst
            (λ (v : Write). grown [] (segment_name_of 6 v.id) ≡ segment_bytes v.id v.sections)
            (only_one bare w among) refl;
        only = λ a among. absurd (nothing_there a among);
        filled = λ w among. subst
            (λ (v : Write). (s : Section) → Contains v.sections s → 0 < length s.payloads)
            (only_one bare w among) (λ s there. absurd (nothing_there s there));
        rise = λ i j d low inside. absurd (omega (arith, inside));
        below = λ w among. absurd (nothing_there w among);
      }

  begun_growth : (log : State D) → log.past ≡ [] → log.sections ≡ []
      → HasGrown changes log.disk log
  begun_growth log past none = record {
    added = [];
    changes_are = nothing_added (changes log.disk);
    part = [];
    brought = inl none;
    grown = subst (λ (l : List Write). IsGrown [] l log.id []) (sym past) (none_grown log.id);
  }

  pub store_begun : (log : State D) (sizes : Sizes) (archives : Bool) → log.past ≡ []
      → log.sections ≡ [] → log.opened ≡ moment log.disk → log.first ≡ log.disk
      → log.is_stopped ≡ false → IsSound log
      → ((f : Files) → files log.disk ≡ Some f
      → HoldsStore f (fresh_log log.id) (no_deeds archives) f)
      → Keeping (store_over log sizes archives)
  unfolding begun_growth
  store_begun log sizes archives past none opened began runs sound folder = record {
    opened = opened;
    began = began;
    later = record {
      no_sooner = omega arith;
      remembers = λ t le. refl;
      lasted_then = λ t le. (λ has. has, λ has. has);
    };
    no_fewer = omega arith;
    risen = λ stopped. absurd (true≢false (sym stopped ∙ runs));
    quiet = λ still. refl;
    grown = begun_growth log past none;
    appended = λ alone. record { growth = begun_growth log past none; alone = no_appends };
    order = record {
      settled = λ h has put among. absurd (nothing_there put among);
      ordered = record {
        growth = begun_growth log past none;
        ordered = record {
          each = λ front rest c is. absurd (omega (
            arith,
            ap (λ (l : List Change). length l) is,
            length-append front (c ∷ rest),
          ));
          files = put_none log.id;
        };
      };
    };
    sound = sound;
    left = λ stopped. absurd (true≢false (sym stopped ∙ runs));
    folder = λ still first now is same.
        let fresh : fresh_log log.id ≡ log_of (store_over log sizes archives).notes = λ i. record {
          base = log.id;
          past = sym past i;
          id = log.id;
          sections = sym none i;
          logged = [];
        } in
        subst (λ (g : Files). HoldsStore first (log_of (store_over log sizes archives).notes)
        (no_deeds archives) g) (some_one first now (sym is ∙ same))
        (subst (λ (l : StoreLog). HoldsStore first l (no_deeds archives) first) fresh
        (folder first is));
  }

  -- a log that has stopped has done so since the opening
  pub rose_of : (s : StoreState D) (n : NoteState D) → Keeping s → {T : Type 0}
      (r : Result T StoreFault)
      → HasLogCause s.notes.log.is_stopped (faults s.notes.log.disk) (faults n.log.disk) r
      → StopsBy n.log.is_stopped r → n.log.is_stopped ≡ true
      → Rose (faults s.first) (faults n.log.disk)
  rose_of s n kept (Ok x) cause stops stopped = absurd (true≢false (sym stopped ∙ stops))
  rose_of s n kept (Err OutOfMemory) cause stops stopped =
      absurd (true≢false (sym stopped ∙ stops))
  rose_of s n kept (Err Stopped) cause stops stopped = elim cause [
    | inl still ↦ subst (λ (k : ℕ). Rose (faults s.first) k) (sym still.1) (kept.risen still.0)
    | inr rose ↦ rose_since (faults s.first) (faults s.notes.log.disk) (faults n.log.disk)
        kept.no_fewer rose.2
  ]

  -- and while it has not, no fault was counted since
  pub quiet_of : (s : StoreState D) (n : NoteState D) → Keeping s → {T : Type 0}
      (r : Result T StoreFault)
      → HasLogCause s.notes.log.is_stopped (faults s.notes.log.disk) (faults n.log.disk) r
      → StopsBy n.log.is_stopped r → n.log.is_stopped ≡ false
      → faults n.log.disk ≡ faults s.first
  quiet_of s n kept r cause stops still =
      quiet_call s.notes.log.is_stopped n.log.is_stopped (faults s.notes.log.disk)
      (faults n.log.disk) r cause stops still
      ∙ kept.quiet (ran_before s.notes.log.is_stopped n.log.is_stopped (faults s.notes.log.disk)
      (faults n.log.disk) r cause stops still)

  -- its folder, whether or not the disk has failed
  pub left_of : (s : StoreState D) → Keeping s → HoldsItButOne files s
  left_of s kept = by s.notes.log.is_stopped refl
    where
      by : (b : Bool) → s.notes.log.is_stopped ≡ b → HoldsItButOne files s
      by true is = kept.left is
      by false is = λ first now at_first at_now.
          but_none first now (log_of s.notes) (deeds_by s)
          (kept.folder is first now at_first at_now)

  pub all_stay_of : (s : StoreState D) → Keeping s → (first now : Files)
      → files s.first ≡ Some first → files s.notes.log.disk ≡ Some now → AllStay first now
  all_stay_of s kept first now at_first at_now =
      all_stay first now (log_of s.notes) (deeds_by s) kept.sound.below kept.sound.stored.fits
      (left_of s kept first now at_first at_now)

  -- each name that it wrote lasts
  pub rows_last : (leaves : D → List ℕ → Option (List ℕ) → Type 0) (s : StoreState D)
      → Keeping s → NamesLast files leaves s.first s.notes.log → RowsLast files leaves s
  rows_last leaves s kept lasts runs first now at_first at_now holds name bytes row shut =
      let there : finmap.get now name ≡ Some bytes = holds.stands.rows name bytes row in
      elim (lasts runs first now at_first at_now name shut) [
        | inl so ↦ subst (LastsAs (leaves s.notes.log.disk) name) there so
        | inr stays ↦ absurd (no_row first now (log_of s.notes) (deeds_by s) kept.sound.below
            kept.sound.stored.fits holds name bytes (sym stays.reads ∙ there) bytes row)
      ]

  module _ (s : StoreState D) (n : NoteState D) (kept : Keeping s)
      (opened : n.log.opened ≡ s.notes.log.opened)
      (began : n.log.first ≡ s.notes.log.first)
      (later : IsLater moment read_at lasted_at s.notes.log.disk n.log.disk)
      (writes : Writes changes s.notes.log n.log)
      (stays : s.notes.log.is_stopped ≡ true → n ≡ s.notes) where
    grown_on : (h : HasGrown changes s.first s.notes.log) → s.notes.log.sections ≡ h.part
        → HasGrown changes s.first n.log
    grown_on h all =
        let before = h.added in
        let more = writes.added in
        let then = writes.writes (appends_of before)
        (subst (λ (l : List Section). IsGrown (appends_of before) s.notes.log.past s.notes.log.id l)
        (sym all) h.grown) in
        record {
          added = before ++ more;
          changes_are = writes.changes_are
              ∙ ap (option_map (λ made. made ++ more)) h.changes_are
              ∙ added_both (changes s.first) before more;
          part = then.0;
          brought = then.1;
          grown = subst (λ (l : List Append). IsGrown l n.log.past n.log.id then.0)
              (sym (appends_of-append before more)) then.2;
        }

    grown_by : (b : Bool) → s.notes.log.is_stopped ≡ b → HasGrown changes s.first n.log
    grown_by true is =
        subst (λ (x : NoteState D). HasGrown changes s.first x.log) (sym (stays is)) kept.grown
    grown_by false is = elim kept.grown.brought [
      | inl all ↦ grown_on kept.grown all
      | inr torn ↦ absurd (true≢false (sym torn.2 ∙ is))
    ]

    pub appended_by : (b : Bool) → s.notes.log.is_stopped ≡ b → AppendsAlone changes s
        → AppendsAlone changes (record s { notes = n })
    unfolding grown_on
    appended_by true is alone none =
        subst (λ (x : NoteState D). HasAppended changes s.first x.log) (sym (stays is)) (alone none)
    appended_by false is alone none =
        let h = alone none in
        elim h.growth.brought [
          | inl all ↦ record {
            growth = grown_on h.growth all;
            alone = appends_both h.growth.added writes.added h.alone writes.appends;
          }
          | inr torn ↦ absurd (true≢false (sym torn.2 ∙ is))
        ]

    -- the changes stay in order
    ordered_by : GoesOnWith s n → (b : Bool) → s.notes.log.is_stopped ≡ b
        → HasOrdered changes (record s { notes = n })
    unfolding grown_on
    ordered_by on true is =
        subst (λ (x : NoteState D). HasOrdered changes (record s { notes = x })) (sym (stays is))
        kept.order.ordered
    ordered_by on false is =
        let h = kept.order.ordered in
        elim h.growth.brought [
          | inl all ↦ record {
            growth = grown_on h.growth all;
            ordered = subst (λ (l : StoreLog).
                AreOrdered l (deeds_by s) (h.growth.added ++ writes.added))
                (λ i. record {
                  base = sym on.base_is i;
                  past = n.log.past;
                  id = n.log.id;
                  sections = n.log.sections;
                  logged = n.logged;
                })
                (ordered_appended (log_of s.notes) (deeds_by s) n.log.past on.more n.log.id
                n.log.sections n.logged on.run s.files [] s.dropped s.archived on.past_is
                on.logged_is (sym (append-nil s.files)) on.above on.apart (λ o listed. listed)
                (λ o listed. listed) h.growth.added writes.added h.ordered writes.appends refl);
          }
          | inr torn ↦ absurd (true≢false (sym torn.2 ∙ is))
        ]

    -- the folder, where the disk has failed in the call or had before
    left_by : (s.notes.log.is_stopped ≡ false → HoldsItButOne files (record s { notes = n }))
        → (b : Bool) → s.notes.log.is_stopped ≡ b → HoldsItButOne files (record s { notes = n })
    left_by failed true is =
        subst (λ (x : NoteState D). HoldsItButOne files (record s { notes = x })) (sym (stays is))
        (kept.left is)
    left_by failed false is = failed is

    -- a call of its log of notes
    pub store_on : {T : Type 0} (r : Result T StoreFault)
        → HasLogCause s.notes.log.is_stopped (faults s.notes.log.disk) (faults n.log.disk) r
        → StopsBy n.log.is_stopped r → IsSound n.log
        → (n.log.is_stopped ≡ false → HoldsIt files (record s { notes = n }))
        → (n.log.is_stopped ≡ true → s.notes.log.is_stopped ≡ false
        → HoldsItButOne files (record s { notes = n }))
        → AreSettled n s.files → GoesOnWith s n
        → Keeping (record s { notes = n })
    store_on r cause stops sound folder failed settled on = record {
      opened = opened ∙ kept.opened;
      began = began ∙ kept.began;
      later = later_still moment read_at lasted_at s.first s.notes.log.disk n.log.disk kept.later
          later;
      no_fewer = omega (
        arith,
        kept.no_fewer,
        fault_later s.notes.log.is_stopped (faults s.notes.log.disk) (faults n.log.disk) r cause,
      );
      risen = rose_of s n kept r cause stops;
      quiet = quiet_of s n kept r cause stops;
      grown = grown_by s.notes.log.is_stopped refl;
      appended = appended_by s.notes.log.is_stopped refl kept.appended;
      order = record {
        settled = settled;
        ordered = ordered_by on s.notes.log.is_stopped refl;
      };
      sound = sound;
      folder = folder;
      left = λ stopped. left_by (failed stopped) s.notes.log.is_stopped refl;
    }

-- ---- what it holds

module _ {D : Type 0} (files : D → Option Files) (changes : D → Option (List Change))
    (moment faults : D → ℕ) (code : D → Gv) (s : StoreState D) (n : NoteState D) where
  abbrev Held : StoreState D → Holding
  Held x = holding_of files changes moment faults code x

  -- after a sync that ended well
  holds_synced : (upto : ℕ) (run : List EntryNote) → n ≡ record s.notes {
    log = n.log;
    synced = upto;
    logged = s.notes.logged ++ run;
    kept = [];
    written = 0;
  } → n.log.is_stopped ≡ s.notes.log.is_stopped
      → Held (record s { notes = n }) ≡ record (Held s) {
        faults = faults n.log.disk;
        synced = upto;
        logged = s.notes.logged ++ run;
        kept = [];
      }
  holds_synced upto run is same = λ i. record (Held s) {
    base = ap (λ (x : NoteState D). x.base) is i;
    sizes = ap (λ (x : NoteState D). x.sizes) is i;
    faults = faults n.log.disk;
    stopped = same i;
    synced = ap (λ (x : NoteState D). x.synced) is i;
    logged = ap (λ (x : NoteState D). x.logged) is i;
    kept = ap (λ (x : NoteState D). x.kept) is i;
  }

  -- after one that was refused
  holds_refused : n ≡ record s.notes {
    log = n.log;
    kept = n.kept;
    written = n.written;
  } → Held (record s { notes = n }) ≡ record (Held s) {
    faults = faults n.log.disk;
    stopped = n.log.is_stopped;
    kept = n.kept;
  }
  holds_refused is = λ i. record (Held s) {
    base = ap (λ (x : NoteState D). x.base) is i;
    sizes = ap (λ (x : NoteState D). x.sizes) is i;
    faults = faults n.log.disk;
    stopped = n.log.is_stopped;
    synced = ap (λ (x : NoteState D). x.synced) is i;
    logged = ap (λ (x : NoteState D). x.logged) is i;
    kept = n.kept;
  }

  -- what a path is told of a sync
  module _ {T : Type 0} (upto : ℕ) (pending left : List EntryNote) (r : Result T StoreFault)
      (cause : HasLogCause s.notes.log.is_stopped (faults s.notes.log.disk) (faults n.log.disk) r)
      (stops : StopsBy n.log.is_stopped r) (result : Result T KeeperFault)
      (is : result ≡ told_as (faults s.first) (faults n.log.disk) r) where
    abbrev Now : Holding
    Now = Held (record s { notes = n })

    pub syncs_told : OnOk r (HasSynced s.notes n upto pending left)
        → OnOk result (Syncs (Held s) Now upto pending left)
    syncs_told h =
        subst (λ (x : Result T KeeperFault). OnOk x (Syncs (Held s) Now upto pending left)) (sym is)
        (by r cause stops h)
      where
        by : (x : Result T StoreFault)
            → HasLogCause s.notes.log.is_stopped (faults s.notes.log.disk) (faults n.log.disk) x
            → StopsBy n.log.is_stopped x → OnOk x (HasSynced s.notes n upto pending left)
            → OnOk (told_as (faults s.first) (faults n.log.disk) x)
            (Syncs (Held s) Now upto pending left)
        by (Ok done) cause stops h = record {
          run = h.run;
          parted = h.parted;
          holds = holds_synced upto h.run h.log_is (stops ∙ sym cause.0);
        }
        by (Err Stopped) cause stops h = tt
        by (Err OutOfMemory) cause stops h = tt

    refused_as : HasRefused s.notes n upto pending left
        → SyncRefused (Held s) Now upto pending left
    refused_as h = record { pends = h.pends; keeps = h.keeps; holds = holds_refused h.log_is }

    pub refused_told : OnErr r (HasRefused s.notes n upto pending left)
        → OnErr result (SyncRefused (Held s) Now upto pending left)
    refused_told h =
        subst (λ (x : Result T KeeperFault). OnErr x (SyncRefused (Held s) Now upto pending left))
        (sym is) (by r h)
      where
        by : (x : Result T StoreFault) → OnErr x (HasRefused s.notes n upto pending left)
            → OnErr (told_as (faults s.first) (faults n.log.disk) x)
            (SyncRefused (Held s) Now upto pending left)
        by (Ok done) h = tt
        by (Err Stopped) h = refused_as h
        by (Err OutOfMemory) h = refused_as h

    pub cause_told : (n.log.is_stopped ≡ true → Rose (faults s.first) (faults n.log.disk))
        → faults n.log.disk < 2 ^ 64 → HasKeeperCause (Held s) Now result
    cause_told risen fits =
        subst (HasKeeperCause (Held s) Now) (sym is)
        (keeper_cause (Held s) Now r cause stops risen fits)
