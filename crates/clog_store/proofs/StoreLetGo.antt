-- What a store keeps while segments go.
use Rattle.std.proofs.Common.{
  ◌≡◌,
  ℕ,
  ◌+◌,
  ◌<◌,
  Bool,
  true,
  false,
  List,
  [],
  ◌∷◌,
  ◌++◌,
  inl,
  inr,
  Option,
  Some,
  None,
  get_or,
  length,
  take,
  drop,
  Contains,
  refl,
  sym,
  ◌∙◌,
  ap,
  subst,
  arith,
  append-nil,
}
use Rattle.std.specs.Prelude.{
  if◌then◌else◌,
  Err,
  IfSome,
  IsErr,
  Ok,
  Result,
  is_some,
  option_map,
  unwrap_or,
}
use Rattle.std.proofs.lemmas.Bool.{true≢false}
use Rattle.std.proofs.lemmas.List.Elements.{Contains-append_cases}
use Rattle.std.proofs.lemmas.List.{take_all}
use Rattle.std.proofs.lemmas.Option.{none-some}
use base.Stored.{Gv}
use Rattle.clog_disk.specs.declared.change.Change.{Change}
use Rattle.clog_disk.specs.Files.{Files, SameTold}
use Rattle.clog_disk.specs.Images.{IsLater}
use Rattle.clog_disk.proofs.Moments.{later_still}
use Rattle.clog_crash.specs.Flush.{IsCovered}
use Rattle.clog_crash.specs.Readings.{Reading}
use Rattle.path_core.specs.Keeper.{Holding}
use Rattle.clog_segments.specs.declared.section_log.dropping.DropFault.{DropFault}
use Rattle.clog_segments.specs.declared.written.StoreFault.{StoreFault}
use Rattle.clog_segments.specs.declared.written.StoreFault.TheVariants.{Stopped, OutOfMemory}
use Rattle.clog_segments.specs.Beside.{NamesSegment}
use Rattle.clog_segments.specs.Discarding.{DropsBy, DropsButOne, DropsFiles, IsWithin, fault_of}
use Rattle.clog_segments.specs.Discards.{
  AreDroppable,
  all_gone_at,
  first_gone_at,
  next_named_at,
}
use Rattle.clog_segments.specs.Life.{State}
use Rattle.clog_segments.specs.NoteLog.{IsNoteLog, NoteState}
use Rattle.clog_segments.specs.Stepped.{HasLogCause, Passes, StopsBy}
use Rattle.clog_due.specs.StoreDrops.{
  AreDueIn,
  AreEarlier,
  HasBeside,
  HasLetGo,
  IsHowFar,
  archived_by,
  dropped_by,
  named_by,
}
use Rattle.clog_segments.specs.StoreFailed.{HoldsButOne, IsToGo}
use Rattle.clog_segments.specs.StoreFolder.{
  Deeds,
  HoldsStore,
  IsSound,
  MayBeDropped,
  StoreLog,
  log_of,
  with_first_gone,
  with_gone,
}
use Rattle.clog_segments.specs.StoreState.{
  AppendsAlone,
  HoldsIt,
  HoldsItButOne,
  IsStore,
  StoreState,
  deeds_by,
  holding_of,
}
use Rattle.clog_due.proofs.DroppedLists.{
  archived_is,
  archived_none,
  both_none,
  first_archived,
  first_dropped,
  first_record,
  next_among,
  next_left,
  none_named,
}
use Rattle.clog_due.proofs.FolderDue.{covered_due, may_be_dropped}
use Rattle.clog_due.proofs.FolderGoes.{droppable_there, holds_first_gone}
use Rattle.clog_due.proofs.GoneCuts.{made_by}
use Rattle.clog_segments.proofs.Lived.{at_told, told_before}
use Rattle.clog_store.proofs.NotePasses.{passes_same}
use Rattle.clog_store.proofs.OrderDrops.{order_gone}
use Rattle.clog_store.proofs.StoreBeside.{
  appended_still,
  dropped_by_none,
  grown_beside,
  no_change,
}
use Rattle.clog_store.proofs.StoreFolds.{some_told}
use Rattle.clog_store.proofs.StoreKept.{fault_later, quiet_of, rose_of}

-- ---- files that are told

some_before : {A B : Type 0} (g : A → B) (o : Option A) (b : B) → Some b ≡ option_map g o
    → (a : A) × (o ≡ Some a) × (b ≡ g a)
some_before g None b is = absurd (none-some b (sym is))
some_before g (Some a) b is = (a, refl, ap (λ (o : Option _). unwrap_or o b) is)

next_none : (base : ℕ) (os : List ℕ) (f : Files) → next_named_at false base os f ≡ f
next_none base [] f = refl
next_none base (o ∷ os) f = refl

all_first : (archives : Bool) (base : ℕ) (os : List ℕ) (f : Files)
    → all_gone_at archives base os f ≡ first_gone_at archives base os (length os) false f
all_first archives base os f =
    ap (λ (l : List ℕ). all_gone_at archives base l f) (sym (take_all (length os) os (omega arith)))
    ∙ sym (next_none base (drop (length os) os)
    (all_gone_at archives base (take (length os) os) f))

-- what the files are that are told while the disk has not failed
gone_files : {T : Type 0} (archives : Bool) (base : ℕ) (os : List ℕ) (told now : Option Files)
    (r : Result T DropFault) (stopped : Bool) → DropsFiles archives base os told now r
    → StopsBy stopped (fault_of r) → stopped ≡ false → (g : Files) → now ≡ Some g
    → (f : Files) × (told ≡ Some f)
    × (first_gone_at archives base os (dropped_by (length os) r) (named_by r) f ≡ g)
gone_files {T} archives base os told now (Ok done) stopped drops stops still g is =
    let found = some_before (all_gone_at archives base os) told g (sym is ∙ drops) in
    (found.0, found.1, sym (all_first archives base os found.0) ∙ sym found.2)
gone_files {T} archives base os told now (Err why) stopped drops stops still g is =
    by why.fault drops stops
  where
    by : (fault : StoreFault) → DropsFiles {T = T} archives base os told now (Err (record why {
      fault = fault;
    })) → StopsBy {T = T} stopped (Err fault)
        → (f : Files) × (told ≡ Some f)
        × (first_gone_at archives base os why.dropped why.is_named f ≡ g)
    by OutOfMemory drops stops =
        let found = some_before (first_gone_at archives base os why.dropped why.is_named) told g
        (sym is ∙ drops) in
        (found.0, found.1, sym found.2)
    by Stopped drops stops = absurd (true≢false (sym stops ∙ still))

module _ {D : Type 0} (files : D → Option Files) (changes : D → Option (List Change))
    (moment faults : D → ℕ) (read_at : D → ℕ → Option Reading) (lasted_at : D → ℕ → Type 0)
    (code : D → Gv) (tells : (d : D) → is_some (changes d) ≡ is_some (files d))
    (s : StoreState D)
    (kept : IsStore files changes moment faults read_at lasted_at s)
    (runs : s.notes.log.is_stopped ≡ false) (is : IsNoteLog s.notes) (closed : ℕ)
    (os : List ℕ) (due : AreDueIn s closed os) (low : AreEarlier s.notes os) where
  abbrev h : Holding
  h = holding_of files changes moment faults code s

  has : HasBeside s.notes s.files s.dropped h
  has = record {
    log = record {
      base_is = refl;
      sizes_are = refl;
      synced_is = refl;
      logged_are = refl;
      kept_are = refl;
    };
    files_are = refl;
    dropped_are = refl;
  }

  sound : IsSound s.notes.log
  sound = kept.sound

  -- ---- what may go

  module _ (first f : Files) (at_first : files s.first ≡ Some first)
      (now : files s.notes.log.disk ≡ Some f) where
    holds : HoldsStore first (log_of s.notes) (deeds_by s) f
    holds = kept.folder runs first f at_first now

    may : MayBeDropped (log_of s.notes) (deeds_by s) os
    may = may_be_dropped first f s.notes h holds sound is has.log closed os (due h has) low

    there : AreDroppable (Some f) s.notes.base os
    there =
        droppable_there first f (log_of s.notes) (deeds_by s) os holds sound.below
        sound.stored.fits may

    covered : (o : ℕ) → Contains os o
        → IsCovered f s.notes.log.id (take s.notes.log.synced s.notes.log.sections)
        (s.notes.base + o)
    covered o among =
        covered_due first f s.notes h holds sound is has.log closed o
        (((due h has).exact o).0 among) (low o among)

  first_told : (f : Files) → files s.notes.log.disk ≡ Some f
      → (first : Files) × (files s.first ≡ Some first)
  first_told f now =
      some_told (files s.first) (files s.notes.log.disk) (changes s.first)
      (changes s.notes.log.disk) kept.grown.added (tells s.first) (tells s.notes.log.disk)
      kept.grown.changes_are f now

  pub droppable : (told : Option Files) → files s.notes.log.disk ≡ told
      → AreDroppable told s.notes.base os
  droppable None now = record {
    fits = λ o among. omega (arith, low o among, sound.stored.fits);
    ascending = (due h has).ascending;
    there = λ o among. tt;
  }
  droppable (Some f) now =
      let first = first_told f now in there first.0 f first.1 now

  pub all_covered : (told : Option Files) → files s.notes.log.disk ≡ told
      → IfSome told (λ f. (o : ℕ) → Contains os o
      → IsCovered f s.notes.log.id (take s.notes.log.synced s.notes.log.sections)
      (s.notes.base + o))
  all_covered None now = tt
  all_covered (Some f) now =
      let first = first_told f now in covered first.0 f first.1 now

  -- ---- what has gone

  module _ (n : NoteState D) {T : Type 0} (r : Result T DropFault)
      (notes : n ≡ record s.notes { log = n.log })
      (passes : Passes s.notes.log n.log (fault_of r))
      (within : IsWithin s.archives (length os) r)
      (drops : DropsFiles s.archives s.notes.base os (files s.notes.log.disk)
      (files n.log.disk) r)
      (told : SameTold (files s.notes.log.disk) (files n.log.disk))
      (others : DropsButOne s.archives s.notes.base os (files s.notes.log.disk)
      (files n.log.disk) r)
      (made : DropsBy s.archives s.notes.base os (changes s.notes.log.disk)
      (changes n.log.disk) r)
      (later : IsLater moment read_at lasted_at s.notes.log.disk n.log.disk)
      (cause : HasLogCause s.notes.log.is_stopped (faults s.notes.log.disk) (faults n.log.disk)
      (fault_of r)) (stops : StopsBy n.log.is_stopped (fault_of r)) where
    abbrev count : ℕ
    count = dropped_by (length os) r

    abbrev now_done : Deeds
    now_done = with_first_gone (deeds_by s) os count (named_by r)

    abbrev t : StoreState D
    t = record s { notes = n; dropped = now_done.dropped; archived = now_done.archived }

    same : n.log ≡ record s.notes.log { disk = n.log.disk; is_stopped = n.log.is_stopped }
    same = passes_same s.notes n.log (fault_of r) passes

    log_same : log_of s.notes ≡ log_of n
    log_same = λ i. record {
      base = sym (ap (λ (x : NoteState D). x.base) notes) i;
      past = sym (ap (λ (x : State D). x.past) same) i;
      id = sym (ap (λ (x : State D). x.id) same) i;
      sections = sym (ap (λ (x : State D). x.sections) same) i;
      logged = sym (ap (λ (x : NoteState D). x.logged) notes) i;
    }

    sound_now : IsSound n.log
    sound_now = subst IsSound (sym same) (record {
      below = sound.below;
      past_stored = sound.past_stored;
      stored = sound.stored;
    })

    named_only : named_by r ≡ true → s.archives ≡ true
    named_only = by r within
      where
        by : (x : Result T DropFault) → IsWithin s.archives (length os) x → named_by x ≡ true
            → s.archives ≡ true
        by (Ok done) inside named = absurd (true≢false (sym named))
        by (Err why) inside named = inside.1 named

    named_inside : named_by r ≡ true → count < length os
    named_inside = by r within
      where
        by : (x : Result T DropFault) → IsWithin s.archives (length os) x → named_by x ≡ true
            → dropped_by (length os) x < length os
        by (Ok done) inside named = absurd (true≢false (sym named))
        by (Err why) inside named = inside.0

    folder : n.log.is_stopped ≡ false → HoldsIt files t
    folder still first g at_first now =
        let found = gone_files s.archives s.notes.base os (files s.notes.log.disk)
        (files n.log.disk) r n.log.is_stopped drops stops still g now in
        let f = found.0 in
        let holds_first : HoldsStore first (log_of s.notes) now_done
        (first_gone_at s.archives s.notes.base os count (named_by r) f) =
        holds_first_gone first (log_of s.notes) sound.below sound.stored.fits os count
        (named_by r) f (deeds_by s) (holds first f at_first found.1) (may first f at_first found.1)
        named_only in
        subst (λ (x : Files). HoldsStore first (log_of n) (deeds_by t) x) found.2
        (subst (λ (l : StoreLog). HoldsStore first l (deeds_by t)
        (first_gone_at s.archives s.notes.base os count (named_by r) f)) log_same
        (subst (λ (d : Deeds). HoldsStore first (log_of s.notes) d
        (first_gone_at s.archives s.notes.base os count (named_by r) f))
        (first_record (deeds_by s) os count (named_by r)) holds_first))

    -- the disk has failed with a name of the next one
    next_failed : (first f g : Files) → files s.first ≡ Some first
        → files s.notes.log.disk ≡ Some f → files n.log.disk ≡ Some g → (x : Result T DropFault)
        → IsWithin s.archives (length os) x
        → DropsButOne s.archives s.notes.base os (files s.notes.log.disk) (files n.log.disk) x
        → StopsBy n.log.is_stopped (fault_of x) → n.log.is_stopped ≡ true
        → HoldsButOne first (log_of s.notes)
        (with_first_gone (deeds_by s) os (dropped_by (length os) x) (named_by x)) g
    next_failed first f g at_first was now (Ok done) inside but stops stopped =
        absurd (true≢false (sym stopped ∙ stops))
    next_failed first f g at_first was now (Err why) inside but stops stopped =
        let allowed = may first f at_first was in
        let o = get_or os why.dropped 0 in
        let at = next_among why.dropped os allowed.ascending inside.0 in
        let change = first_gone_at s.archives s.notes.base os why.dropped why.is_named in
        let done = with_first_gone (deeds_by s) os why.dropped why.is_named in
        let goes : IsToGo (log_of s.notes) done but.0 = record {
          ordinal = o;
          past = allowed.past o at;
          stays = λ gone. elim (Contains-append_cases s.dropped (take why.dropped os) o
              (subst (λ (l : List ℕ). Contains l o)
              (first_dropped (deeds_by s) os why.dropped why.is_named) gone)) [
                | inl had ↦ allowed.stays o at had
                | inr first_one ↦
                    next_left why.dropped os allowed.ascending inside.0 first_one
              ];
          name_is = its_name why.dropped why.is_named but.0 but.1;
        } in
        record {
          last = change f;
          holds = holds_first_gone first (log_of s.notes) sound.below sound.stored.fits os
              why.dropped why.is_named f (deeds_by s) (holds first f at_first was) allowed
              inside.1;
          name = but.0;
          failing = inr (inr goes);
          others = at_told (files n.log.disk) g _ now (but.2 (change f)
              (ap (option_map change) was));
          stands = inr (inr (inr (record {
            goes = goes;
            stands = at_told (files n.log.disk) g _ now (but.3 (change f)
                (ap (option_map change) was));
          })));
        }
      where
        its_name : (k : ℕ) (named : Bool) (name : List ℕ)
            → NamesSegment s.archives (s.notes.base + get_or os k 0) name
            → NamesSegment (with_first_gone (deeds_by s) os k named).archives
            (s.notes.base + get_or os k 0) name
        its_name k named name is =
            subst (λ (b : Bool). NamesSegment b (s.notes.base + get_or os k 0) name)
            (sym (ap (λ (d : Deeds). d.archives) (first_record (deeds_by s) os k named))) is

    left : n.log.is_stopped ≡ true → HoldsItButOne files t
    left stopped first g at_first now =
        let was = told_before (files s.notes.log.disk) (files n.log.disk) g told now in
        subst (λ (l : StoreLog). HoldsButOne first l (deeds_by t) g) log_same
        (subst (λ (d : Deeds). HoldsButOne first (log_of s.notes) d g)
        (first_record (deeds_by s) os count (named_by r))
        (next_failed first was.0 g at_first was.1 now r within others stops stopped))

    -- where nothing has gone, and no archive name was given, no change was made
    alone : AppendsAlone changes t
    alone none =
        let fs : s.files ≡ [] = ap (λ (d : Deeds). d.files) none in
        let dropped : s.dropped ++ take count os ≡ [] =
        sym (first_dropped (deeds_by s) os count (named_by r))
        ∙ ap (λ (d : Deeds). d.dropped) none in
        let archived : now_done.archived ≡ [] = ap (λ (d : Deeds). d.archived) none in
        let parts = both_none s.dropped (take count os) dropped in
        let had = archived_none (deeds_by s) os count (named_by r) archived in
        let before = kept.appended (λ i. record (deeds_by s) {
          files = fs i;
          dropped = parts.0 i;
          archived = had i;
        }) in
        appended_still changes s.first s.notes.log n.log before runs same
        (no_change s.archives s.notes.base os (changes s.notes.log.disk) (changes n.log.disk) r made
        parts.1 (none_named (deeds_by s) os count (named_by r) named_only named_inside archived))

    store_let_go : IsStore files changes moment faults read_at lasted_at t
    store_let_go =
        let by_none = dropped_by_none s.archives s.notes.base os (changes s.notes.log.disk)
        (changes n.log.disk) r made in
        record {
          opened = ap (λ (x : State D). x.opened) same ∙ kept.opened;
          began = ap (λ (x : State D). x.first) same ∙ kept.began;
          later = later_still moment read_at lasted_at s.first s.notes.log.disk n.log.disk
              kept.later later;
          no_fewer = omega (
            arith,
            kept.no_fewer,
            fault_later s.notes.log.is_stopped (faults s.notes.log.disk) (faults n.log.disk)
                (fault_of r) cause,
          );
          risen = rose_of files changes moment faults read_at lasted_at s n kept (fault_of r)
              cause stops;
          quiet = quiet_of files changes moment faults read_at lasted_at s n kept (fault_of r)
              cause stops;
          grown = grown_beside changes s.first s.notes.log n.log by_none.0 kept.grown runs same
              by_none.1 by_none.2;
          appended = alone;
          order = order_gone files changes moment faults read_at lasted_at code s kept runs is
              closed os due low n notes same count (named_by r) named_only named_inside
              (made_by s.archives s.notes.base os (changes s.notes.log.disk)
              (changes n.log.disk) r made);
          sound = sound_now;
          folder = folder;
          left = left;
        }

    -- its lists
    dropped_are : s.dropped ++ take count os ≡ now_done.dropped
    dropped_are = sym (first_dropped (deeds_by s) os count (named_by r))

    archived_are : (with_gone (deeds_by s) (take (archived_by (length os) r) os)).archived
        ≡ now_done.archived
    archived_are =
        ap (λ (k : ℕ). (with_gone (deeds_by s) (take k os)).archived) (by r)
        ∙ sym (archived_is (deeds_by s) os count (named_by r) named_only named_inside)
      where
        by : (x : Result T DropFault) → archived_by (length os) x
            ≡ dropped_by (length os) x + (if named_by x then 1 else 0)
        by (Ok done) = omega arith
        by (Err why) = refl

    has_let_go : HasLetGo s t os (fault_of r)
    has_let_go = record {
      count = count;
      is_named = named_by r;
      far = by r within;
      is = λ i. record s {
        notes = notes i;
        dropped = now_done.dropped;
        archived = now_done.archived;
      };
    }
      where
        by : (x : Result T DropFault) → IsWithin s.archives (length os) x
            → IsHowFar s.archives (length os) (dropped_by (length os) x) (named_by x) (fault_of x)
        by (Ok done) inside = (refl, refl)
        by (Err why) inside = (omega (arith, inside.0), inside.1, λ named. inside.0)

    -- with the lists as they were made
    pub let_go_with : (dropped archived : List ℕ) → dropped ≡ s.dropped ++ take count os
        → archived ≡ (with_gone (deeds_by s) (take (archived_by (length os) r) os)).archived
        → IsStore files changes moment faults read_at lasted_at (record s {
          notes = n;
          dropped = dropped;
          archived = archived;
        })
        × HasLetGo s (record s { notes = n; dropped = dropped; archived = archived }) os
        (fault_of r)
    let_go_with dropped archived dropped_is archived_is =
        subst (λ (x : StoreState D). IsStore files changes moment faults read_at lasted_at x
        × HasLetGo s x os (fault_of r)) (λ i. record s {
          notes = n;
          dropped = sym (dropped_is ∙ dropped_are) i;
          archived = sym (archived_is ∙ archived_are) i;
        }) (store_let_go, has_let_go)

-- nothing has gone
pub none_let_go : {D T : Type 0} (s : StoreState D) (os dropped archived : List ℕ)
    (r : Result T StoreFault) → IsErr r → dropped ≡ s.dropped → archived ≡ s.archived
    → HasLetGo s (record s { dropped = dropped; archived = archived }) os r
none_let_go s os dropped archived (Ok done) refused dropped_is archived_is =
    absurd (true≢false (sym refused))
none_let_go s os dropped archived (Err fault) refused dropped_is archived_is = record {
  count = 0;
  is_named = false;
  far = (
    omega arith,
    λ named. absurd (true≢false (sym named)),
    λ named. absurd (true≢false (sym named)),
  );
  is = λ i. record s {
    dropped = (dropped_is ∙ sym (append-nil s.dropped)
        ∙ sym (first_dropped (deeds_by s) os 0 false)) i;
    archived = (archived_is ∙ none_more s.archives
        ∙ sym (first_archived (deeds_by s) os 0)) i;
  };
}
  where
    none_more : (b : Bool) → s.archived ≡ (if b then s.archived ++ [] else s.archived)
    none_more true = sym (append-nil s.archived)
    none_more false = refl
