-- A log of notes stands no further than what comes next, from step to step.
use Rattle.std.proofs.Common.{
  ◌≡◌,
  ℕ,
  zero,
  suc,
  ◌+◌,
  ◌≤◌,
  ◌<◌,
  inl,
  inr,
  false,
  List,
  [],
  ◌∷◌,
  ◌++◌,
  length,
  take,
  drop,
  refl,
  sym,
  ◌∙◌,
  ap,
  ap₂,
  subst,
  arith,
  append-nil,
  length-append,
}
use Rattle.std.specs.Prelude.{◌⊎◌, Ok, Err, OnErr, Result}
use Rattle.std.specs.List.{Contains}
use Rattle.std.proofs.lemmas.Bool.{cases_lt}
use Rattle.std.proofs.lemmas.List.{drop-append-le, length-drop, take-append-le}
use Rattle.clog_base.specs.declared.sizes.Sizes.{Sizes}
use Rattle.clog_base.specs.Positions.{ordinal_of}
use Rattle.path_core.specs.declared.note.EntryNote.{EntryNote}
use Rattle.clog_base.proofs.Members.{here, only_one}
use Rattle.path_core.specs.Keeper.{FollowTo, GoOnBehind, Holding, IsWritable, MayWrite, Tile}
use Rattle.path_core.specs.Keys.{after}
use Rattle.clog_segments.specs.declared.written.StoreFault.{StoreFault}
use Rattle.clog_segments.specs.declared.written.StoreFault.TheVariants.{Stopped, OutOfMemory}
use Rattle.clog_segments.specs.Life.{State}
use Rattle.clog_segments.specs.NoteLog.{
  BeginsFrom,
  HasLog,
  IsFrom,
  IsHeld,
  IsNoteLog,
  IsShortOf,
  NoteState,
  end_behind,
}
use Rattle.clog_store.specs.NoteSteps.{Enters, MayRun, ReadyAt, standing}
use Rattle.clog_segments.specs.Stepped.{Passes, Settles}
use Rattle.clog_store.specs.StoreTakes.{TakesMore}
use Rattle.clog_store.proofs.NoteCuts.{follow_rest}
use Rattle.clog_store.proofs.NoteLent.{starts_above, tile_starts}
use Rattle.clog_store.proofs.NoteLogged.{ends}
use Rattle.clog_store.proofs.NoteNext.{in_drop}
use Rattle.clog_store.proofs.NoteReaches.{begins_next, in_next, none_written}

-- ---- the log stands where it did

pub same_log : {D : Type 0} (s : NoteState D) (log : State D) (h : Holding)
    → HasLog (record s { log = log }) h → HasLog s h
same_log s log h has = record {
  base_is = has.base_is;
  sizes_are = has.sizes_are;
  synced_is = has.synced_is;
  logged_are = has.logged_are;
  kept_are = has.kept_are;
}

pub takes_moved : {D : Type 0} (s now : NoteState D) (dropped : List ℕ)
    → now ≡ record s { log = now.log } → now.log.id ≡ s.log.id → TakesMore s dropped
    → TakesMore now dropped
takes_moved s now dropped is same takes =
    let moved : TakesMore (record s { log = now.log }) dropped = λ h has is_dropped upto run may.
    subst (λ (k : ℕ). BeginsFrom s.base k (drop s.written run)) (sym same)
    (takes h (same_log s now.log h has) is_dropped upto run may) in
    subst (λ (x : NoteState _). TakesMore x dropped) (sym is) moved

pub settled_id : {D T : Type 0} (log now : State D) (result : Result T StoreFault)
    → Settles log now result → now.id ≡ log.id
settled_id log now (Ok done) settles = ap (λ (s : State _). s.id) settles
settled_id log now (Err OutOfMemory) settles = ap (λ (s : State _). s.id) settles
settled_id log now (Err Stopped) settles = ap (λ (s : State _). s.id) settles

pub passed_id : {D T : Type 0} (log now : State D) (result : Result T StoreFault)
    → Passes log now result → now.id ≡ log.id
passed_id log now (Ok done) passes = ap (λ (s : State _). s.id) passes
passed_id log now (Err OutOfMemory) passes = ap (λ (s : State _). s.id) passes
passed_id log now (Err Stopped) passes = ap (λ (s : State _). s.id) passes

-- more segments were dropped
pub takes_less : {D : Type 0} (s : NoteState D) (dropped more : List ℕ)
    → ((o : ℕ) → Contains dropped o → Contains more o) → TakesMore s dropped → TakesMore s more
takes_less s dropped more among takes h has is upto run may =
    let before : Holding = record h { dropped = dropped } in
    let has_before : HasLog s before = record {
      base_is = has.base_is;
      sizes_are = has.sizes_are;
      synced_is = has.synced_is;
      logged_are = has.logged_are;
      kept_are = has.kept_are;
    } in
    let writes : MayWrite before upto run = record {
      each = λ n there.
          let w = may.each n there in
          record {
            whole = w.whole;
            in_segment = w.in_segment;
            segment_is = w.segment_is;
            not_dropped = λ o. w.not_dropped
                (subst (λ (l : List ℕ). Contains l (ordinal_of n.start.0)) (sym is)
                (among (ordinal_of n.start.0) o));
          };
      tiled = may.tiled;
      more = may.more;
      begins = may.begins;
      go_on = may.go_on;
    } in
    takes before has_before refl upto run writes

-- ---- where what comes next stands

from_lower : (base low id : ℕ) (ns : List EntryNote) → low ≤ id → BeginsFrom base id ns
    → BeginsFrom base low ns
from_lower base low id [] le begins = tt
from_lower base low id (n ∷ ns) le begins = omega (arith, le, begins)

follows_from : (base upto key : ℕ) (ns : List EntryNote) → FollowTo upto key ns
    → BeginsFrom base (base + ordinal_of key) ns
follows_from base upto key [] follow = tt
follows_from base upto key (n ∷ ns) follow = elim follow.0 [
  | inl e ↦ omega (arith, e)
  | inr more ↦ elim more [ inl e ↦ omega (arith, e) | inr e ↦ omega (arith, e) ]
]

-- the log goes on behind a key in its segment or in the next
pub after_above : (sizes : Sizes) (key : ℕ) → key ≤ after sizes.capacity key
after_above sizes key =
    starts_above key (after sizes.capacity key)
    (tile_starts sizes.capacity key (after sizes.capacity key) sizes.within.greatest_capacity
    (inl refl))

-- the first of what is left stands in the segment where the others end, or in a later one
tile_from : (capacity base synced upto w : ℕ) (ns : List EntryNote) → capacity ≤ 33554432
    → Tile capacity synced upto ns
    → BeginsFrom base (base + ordinal_of (end_behind synced (take w ns))) (drop w ns)
tile_from capacity base synced upto zero [] low tile = tt
tile_from capacity base synced upto (suc w) [] low tile = tt
tile_from capacity base synced upto zero (n ∷ ns) low tile =
    let above = starts_above synced n.start.0 (tile_starts capacity synced n.start.0 low tile.0) in
    omega (arith, above)
tile_from capacity base synced upto (suc w) (n ∷ ns) low tile =
    follows_from base upto (end_behind n.end.0 (take w ns)) (drop w ns)
    (follow_rest upto n.end.0 w ns tile.1)

module _ {D : Type 0} (s : NoteState D) (h : Holding) (has : HasLog s h) (upto : ℕ)
    (run : List EntryNote) (may : MayWrite h upto run) where
  run_is : run ≡ s.kept ++ may.more
  run_is = may.begins ∙ ap (λ (l : List EntryNote). l ++ may.more) has.kept_are

  tiles : Tile s.sizes.capacity s.synced upto run
  tiles =
      subst (λ (z : Sizes). Tile z.capacity s.synced upto run) has.sizes_are
      (subst (λ (k : ℕ). Tile h.sizes.capacity k upto run) has.synced_is may.tiled)

  module _ (held : IsHeld s) (few : s.written ≤ length s.kept) (some : 0 < length s.kept) where
    abbrev key : ℕ
    key = end_behind s.synced (take s.written s.kept)

    ahead : BeginsFrom s.base (s.base + ordinal_of key) (drop s.written run)
    ahead =
        let front : take s.written run ≡ take s.written s.kept =
        ap (take s.written) run_is ∙ take-append-le s.written s.kept may.more few in
        subst (λ (l : List EntryNote). BeginsFrom s.base
        (s.base + ordinal_of (end_behind s.synced l)) (drop s.written run)) front
        (tile_from s.sizes.capacity s.base s.synced upto s.written run
        s.sizes.within.greatest_capacity tiles)

    -- behind a later segment's front, which was entered for the first of what is kept
    entered : (rest : List EntryNote) → drop s.written s.kept ≡ rest → s.log.sections ≡ []
        → BeginsFrom s.base s.log.id rest → BeginsFrom s.base s.log.id (rest ++ may.more)
    entered (k ∷ ks) is none begins = begins
    entered [] is none begins =
        let whole : s.written ≡ length s.kept =
        omega (arith, few, ap length is, length-drop s.written s.kept) in
        absurd (omega (arith, ap length none, held.last_here (omega (arith, whole, some)) whole))

    kept_from : BeginsFrom s.base s.log.id (drop s.written run)
    kept_from =
        let behind : drop s.written s.kept ++ may.more ≡ drop s.written run =
        sym (ap (drop s.written) run_is ∙ drop-append-le s.written s.kept may.more few) in
        elim held.ends [
          | inl e ↦ from_lower s.base s.log.id (s.base + ordinal_of key) (drop s.written run)
              (omega (arith, e.0)) ahead
          | inr none ↦ elim none.1 [
            | inl first ↦ from_lower s.base s.log.id (s.base + ordinal_of key)
                (drop s.written run) (omega (arith, first.1)) ahead
            | inr later ↦ subst (BeginsFrom s.base s.log.id) behind
                (entered (drop s.written s.kept) refl none.0 (held.begins none.0 later))
          ]
        ]

-- Where something is kept, it is this that comes next.
pub takes_kept : {D : Type 0} (s : NoteState D) → IsHeld s → s.written ≤ length s.kept
    → 0 < length s.kept → (dropped : List ℕ) → TakesMore s dropped
takes_kept s held few some dropped h has is upto run may =
    kept_from s h has upto run may held few some

-- Where nothing is, the log stands no further than behind the marker that comes next.
pub takes_behind : {D : Type 0} (s : NoteState D) → s.written ≡ 0
    → s.log.id ≤ s.base + ordinal_of (after s.sizes.capacity s.synced) → (dropped : List ℕ)
    → TakesMore s dropped
takes_behind s none low dropped h has is upto run may =
    subst (λ (w : ℕ). BeginsFrom s.base s.log.id (drop w run)) (sym none)
    (by run (tiles s h has upto run may))
  where
    by : (ns : List EntryNote) → Tile s.sizes.capacity s.synced upto ns
        → BeginsFrom s.base s.log.id ns
    by [] tile = tt
    by (n ∷ ns) tile = elim tile.0 [
      | inl e ↦ omega (arith, e, low)
      | inr e ↦ omega (arith, e, low)
    ]

-- ---- a sync

module _ {D : Type 0} (s : NoteState D) (upto : ℕ) (run : List EntryNote)
    (lends : MayRun s upto run) (inv : IsNoteLog s) (log : State D)
    (still : s.written ≡ length run → log.id ≡ s.log.id) (dropped : List ℕ)
    (takes : TakesMore s dropped) where
  -- nothing was to be written
  none_kept : run ≡ [] → (s.kept ≡ []) × (s.written ≡ 0) × (log.id ≡ s.log.id)
  none_kept none =
      let long = length-append s.kept lends.may.more in
      let short = ap length (run_is s lends.holding lends.has upto run lends.may) in
      let no_run = ap length none in
      let zero_written : s.written ≡ 0 = omega (arith, inv.few, long, short, no_run) in (
        nil_of s.kept (omega (arith, long, short, no_run)),
        zero_written,
        still (omega (arith, zero_written, no_run)),
      )
    where
      nil_of : (ns : List EntryNote) → length ns ≡ 0 → ns ≡ []
      nil_of [] none = refl
      nil_of (n ∷ ns) none = absurd (omega (arith, none))

  pub takes_unlogged : (written : ℕ) → written ≤ length run
      → IsHeld (standing s.sizes s.synced s.logged s.base log run written)
      → TakesMore (record s { log = log; kept = run; written = written }) dropped
  takes_unlogged written few held = by run refl
    where
      by : (ns : List EntryNote) → run ≡ ns
          → TakesMore (record s { log = log; kept = run; written = written }) dropped
      by (n ∷ ns) is =
          takes_kept (record s { log = log; kept = run; written = written }) held few
          (omega (arith, ap length is)) dropped
      by [] is = λ h has is_dropped upto_then more may.
          let none = none_kept is in
          let has_before : HasLog s h = record {
            base_is = has.base_is;
            sizes_are = has.sizes_are;
            synced_is = has.synced_is;
            logged_are = has.logged_are;
            kept_are = has.kept_are ∙ is ∙ sym none.0;
          } in
          let zero_written : s.written ≡ written =
          omega (arith, none.1, few, ap length is) in
          subst (λ (w : ℕ). BeginsFrom s.base log.id (drop w more)) zero_written
          (subst (λ (k : ℕ). BeginsFrom s.base k (drop s.written more)) (sym none.2)
          (takes h has_before is_dropped upto_then more may))

  module _ (ready : ReadyAt s.sizes s.synced s.logged upto s.base log run (length run))
      (lasts : log.synced ≡ length log.sections) (from : IsFrom s.base log) where
    pub takes_logged : TakesMore (record s {
      log = log;
      synced = upto;
      logged = s.logged ++ run;
      kept = [];
      written = 0;
    }) dropped
    takes_logged = by run refl
      where
        by : (ns : List EntryNote) → run ≡ ns → TakesMore (record s {
          log = log;
          synced = upto;
          logged = s.logged ++ run;
          kept = [];
          written = 0;
        }) dropped
        by (n ∷ ns) is =
            let some : 0 < length run = omega (arith, ap length is) in
            let long = ready.held.last_here some refl in
            let here : log.id ≡ s.base + ordinal_of upto =
            elim (ends s upto run lends inv log ready lasts from) [
              | inl e ↦ e.0
              | inr none ↦ absurd (omega (arith, long, ap length none.0))
            ] in
            takes_behind (record s {
              log = log;
              synced = upto;
              logged = s.logged ++ run;
              kept = [];
              written = 0;
            }) refl (omega (arith, here, after_above s.sizes upto)) dropped
        by [] is = λ h has is_dropped upto_then more may.
            let none = none_kept is in
            let same : upto ≡ s.synced =
            subst (Tile s.sizes.capacity s.synced upto) is
            (tiles s lends.holding lends.has upto run lends.may) in
            let has_before : HasLog s h = record {
              base_is = has.base_is;
              sizes_are = has.sizes_are;
              synced_is = has.synced_is ∙ same;
              logged_are = has.logged_are ∙ ap (λ (l : List EntryNote). s.logged ++ l) is
                  ∙ append-nil s.logged;
              kept_are = has.kept_are ∙ sym none.0;
            } in
            subst (λ (w : ℕ). BeginsFrom s.base log.id (drop w more)) none.1
            (subst (λ (k : ℕ). BeginsFrom s.base k (drop s.written more)) (sym none.2)
            (takes h has_before is_dropped upto_then more may))

-- ---- it goes on for no note

pub unentered_id : {D : Type 0} (T : Type 0) (before now : State D) (id : ℕ)
    (fault : StoreFault) → Enters {T = T} before now id (Err fault) → now.id ≡ before.id
unentered_id T before now id fault enters = elim enters [
  | inl same ↦ ap (λ (s : State _). s.id) same
  | inr settled ↦ ap (λ (s : State _). s.id) settled
]

pub entered_id : {D T : Type 0} (before now : State D) (id : ℕ) (result : Result T StoreFault)
    → Enters before now id result → (now.id ≡ before.id) ⊎ (now.id ≡ id)
entered_id {D} {T} before now id (Err fault) enters =
    inl (unentered_id T before now id fault enters)
entered_id before now id (Ok done) enters = elim enters [
  | inl same ↦ inl (ap (λ (s : State _). s.id) same.1)
  | inr rolls ↦ inr (ap (λ (s : State _). s.id) rolls.1)
]

pub unentered_any : {D T : Type 0} (before now : State D) (id : ℕ) (result : Result T StoreFault)
    → Enters before now id result → OnErr result (now.id ≡ before.id)
unentered_any {D} {T} before now id (Err fault) enters =
    unentered_id T before now id fault enters
unentered_any before now id (Ok done) enters = tt

more_from : (base id : ℕ) (ks more : List EntryNote) → 0 < length ks → BeginsFrom base id ks
    → BeginsFrom base id (ks ++ more)
more_from base id [] more some begins = absurd (omega (arith, some))
more_from base id (k ∷ ks) more some begins = begins

module _ {D : Type 0} (s : NoteState D) (upper : ℕ) (runs : s.log.is_stopped ≡ false)
    (n : IsNoteLog s) (most : upper ≤ after s.sizes.capacity s.synced) (short : IsShortOf s upper)
  where
    -- where no marker fits it stands in the next segment
    takes_next : (log : State D) → log.id ≡ s.log.id + 1 → (dropped : List ℕ)
        → TakesMore (record s { log = log }) dropped
    takes_next log next dropped = by s.kept refl
      where
        none : s.written ≡ 0
        none = none_written s upper runs n most short

        by : (ks : List EntryNote) → s.kept ≡ ks → TakesMore (record s { log = log }) dropped
        by [] is =
            takes_behind (record s { log = log }) none
            (omega (arith, next, short.here, in_next s upper runs n most short)) dropped
        by (k ∷ ks) is = λ h has is_dropped upto run may.
            let all = run_is s h (same_log s log h has) upto run may in
            let begins = more_from s.base (s.log.id + 1) s.kept may.more
            (omega (arith, ap length is)) (begins_next s upper runs n most short) in
            subst (λ (w : ℕ). BeginsFrom s.base log.id (drop w run)) (sym none)
            (subst (λ (id : ℕ). BeginsFrom s.base id run) (sym next)
            (subst (BeginsFrom s.base (s.log.id + 1)) (sym all) begins))

    pub takes_reached : {T : Type 0} (now : NoteState D) → now ≡ record s { log = now.log }
        → (result : Result T StoreFault) → Enters s.log now.log (s.log.id + 1) result
        → (dropped : List ℕ) → TakesMore s dropped → TakesMore now dropped
    takes_reached now is result enters dropped takes =
        elim (entered_id s.log now.log (s.log.id + 1) result enters) [
          | inl same ↦ takes_moved s now dropped is same takes
          | inr next ↦ subst (λ (x : NoteState D). TakesMore x dropped) (sym is)
              (takes_next now.log next dropped)
        ]

-- ---- it goes on behind a segment that was dropped

next_above : (base id o : ℕ) (n : EntryNote) → base + o ≡ id → (ordinal_of n.start.0 ≡ o → ⊥)
    → id ≤ base + ordinal_of n.start.0 → id + 1 ≤ base + ordinal_of n.start.0
next_above base id o n at_hand apart low = elim (cases_lt id (base + ordinal_of n.start.0)) [
  | inl above ↦ omega (arith, above)
  | inr most ↦ absurd (apart (omega (arith, at_hand, low, most)))
]

pub takes_dropped : {D : Type 0} (s now : NoteState D) (dropped : List ℕ) (o : ℕ)
    → now ≡ record s { log = now.log } → s.base + o ≡ s.log.id → now.log.id ≡ s.log.id + 1
    → Contains dropped o → TakesMore s dropped → TakesMore now dropped
takes_dropped s now dropped o is at_hand next gone takes =
    let moved : TakesMore (record s { log = now.log }) dropped = λ h has is_dropped upto run may.
    let apart : (n : EntryNote) → Contains run n → ordinal_of n.start.0 ≡ o → ⊥ = λ n among same.
    (may.each n among).not_dropped
    (subst (λ (l : List ℕ). Contains l (ordinal_of n.start.0)) (sym is_dropped)
    (subst (Contains dropped) (sym same) gone)) in
    subst (λ (k : ℕ). BeginsFrom s.base k (drop s.written run)) (sym next)
    (above (drop s.written run) (λ n among. apart n (in_drop s.written run n among))
    (takes h (same_log s now.log h has) is_dropped upto run may)) in
    subst (λ (x : NoteState _). TakesMore x dropped) (sym is) moved
  where
    above : (ns : List EntryNote)
        → ((n : EntryNote) → Contains ns n → ordinal_of n.start.0 ≡ o → ⊥)
        → BeginsFrom s.base s.log.id ns → BeginsFrom s.base (s.log.id + 1) ns
    above [] apart begins = tt
    above (n ∷ ns) apart begins =
        next_above s.base s.log.id o n at_hand (apart n (here n ns)) begins

-- ---- a log that stands further does not

pub takes_not : {D : Type 0} (s : NoteState D) (h : Holding) (n : EntryNote) → HasLog s h
    → s.kept ≡ [] → s.written ≡ 0 → IsWritable h n → n.start.0 ≡ after s.sizes.capacity s.synced
    → s.base + ordinal_of (after s.sizes.capacity s.synced) < s.log.id
    → TakesMore s h.dropped → ⊥
takes_not s h n has none none_written writable start further takes =
    let capacity = ap (λ (z : Sizes). z.capacity) has.sizes_are in
    let first : n.start.0 ≡ after h.sizes.capacity h.synced =
    start ∙ sym (ap₂ after capacity has.synced_is) in
    let no_kept : h.kept ≡ [] = has.kept_are ∙ none in
    let may : MayWrite h n.end.0 (n ∷ []) = record {
      each = λ m among. subst (IsWritable h) (only_one n m among) writable;
      tiled = (inl first, refl);
      more = n ∷ [];
      begins = ap (λ (l : List EntryNote). l ++ n ∷ []) (sym no_kept);
      go_on = subst (λ (l : List EntryNote). GoOnBehind h.sizes.capacity l (n ∷ []))
          (sym no_kept) tt;
    } in
    let begins = subst (λ (w : ℕ). BeginsFrom s.base s.log.id (drop w (n ∷ []))) none_written
    (takes h has refl n.end.0 (n ∷ []) may) in
    absurd (omega (arith, begins, further, start))
