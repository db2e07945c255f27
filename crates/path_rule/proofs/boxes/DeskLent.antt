-- What lies on the desk once its keeper was lent what is pending.
use Rattle.std.proofs.Common.{
  ◌≡◌,
  ℕ,
  zero,
  suc,
  ◌<◌,
  ◌≤◌,
  ◌||◌,
  Bool,
  true,
  false,
  List,
  [],
  ◌∷◌,
  ◌++◌,
  length,
  take,
  drop,
  get_or,
  Option,
  Some,
  Result,
  Ok,
  Err,
  refl,
  sym,
  ap,
  ◌∙◌,
  subst,
  ⊎_elim,
  arith,
}
use Rattle.std.specs.Prelude.{slice_index}
use Rattle.std.proofs.lemmas.Bool.{false≢true}
use Rattle.std.proofs.lemmas.List.{append-nil}
use Rattle.std.proofs.lemmas.List.Sorted.{IsPermutation-refl, IsPermutation-trans}
use Rattle.std.specs.List.Sorted.{IsPermutation, IsNonDecreasingBy}
use Rattle.std.specs.Prelude.{OnOk, OnErr}
use mathlib.Core.Logic.{dite, inl, inr}
use native.Mathlib.Decide.{dec_le}
use Rattle.atomic_table.specs.Table.{Me, rest}
use Rattle.path_core.specs.declared.note.EntryNote.{EntryNote}
use Rattle.path_core.specs.declared.keeper.KeeperFault.{KeeperFault}
use Rattle.path_core.specs.declared.keeper.KeeperFault.TheVariants.{Stopped, OutOfMemory}
use Rattle.path_core.specs.Keeper.{
  HasRisen,
  Holding,
  IsParted,
  MayWrite,
  MaySync,
  Syncs,
  SyncRefused,
  HasKeeperCause,
  is_stopped,
}
use Rattle.path_core.proofs.lists.PartedNotes.{parted}
use Rattle.path_rule.specs.declared.lasting.Lasting.{Lasting}
use Rattle.path_rule.specs.declared.slot.Desk.{Desk}
use Rattle.path_rule.specs.declared.slot.Slot.{Slot}
use Rattle.path_rule.specs.declared.slot.Slot.TheVariants.{Turn}
use Rattle.path_rule.specs.declared.view.View.{View}
use Rattle.path_rule.specs.Boxes.{desk_box, DeskIs}
use Rattle.path_rule.specs.Desks.{pending_on}
use Rattle.path_rule.specs.Lasts.{
  lasting_of,
  shows_of,
  stopped_with,
  more_lasting,
  refused_lasting,
}
use Rattle.path_rule.specs.SyncEnd.{stopped_by, TellsFaults}
use Rattle.path_rule.specs.TurnTold.{CarriesDesk, CarriesSynced, CarriesRefused}
use Rattle.path_rule.proofs.moves.SyncSteps.{top_box}
use Rattle.path_rule.proofs.seats.MayGives.{or_true}

pub on_desk : {K : Type 0} (holds : K → Holding) (before : Desk K) (m : Me (Slot K) View)
    (carries : CarriesDesk (shows_of holds) m) → m.1 ≡ (desk_box, Turn before) ∷ rest m.1
    → DeskIs (shows_of holds) (Turn before) m.0.hands.lasting m.0.hands.pending
    m.0.hands.progress
on_desk holds before m carries top = subst (λ (y : Slot _). DeskIs (shows_of holds) y
    m.0.hands.lasting m.0.hands.pending m.0.hands.progress)
    (ap (top_box carries.0) (sym carries.1 ∙ top)) carries.2

module _ {K : Type 0} (holds : K → Holding) (before after : Desk K) (m : Me (Slot K) View)
    (upto : ℕ) (carries : CarriesDesk (shows_of holds) m)
    (top : m.1 ≡ (desk_box, Turn before) ∷ rest m.1)
    (progress : after.progress ≡ before.progress) (uppers : after.uppers ≡ before.uppers) where
  pub lent_synced : stopped_with (holds after.keeper).stopped (holds after.keeper).faults
      ≡ stopped_with (holds before.keeper).stopped (holds before.keeper).faults
      → Syncs (holds before.keeper) (holds after.keeper) upto (pending_on before)
      (pending_on after)
      → CarriesSynced (shows_of holds) upto (m.0, (desk_box, Turn after) ∷ rest m.1)
  lent_synced stops S = let D = on_desk holds before m carries top in
      let faults = (holds after.keeper).faults in
      let still : stopped_with (holds before.keeper).stopped faults
      ≡ (lasting_of (holds before.keeper)).stopped =
      ap (λ (b : Bool). stopped_with b faults) (sym (ap (λ (h : Holding). h.stopped) S.holds))
      ∙ stops in (
        S.run,
        pending_on after,
        subst (λ (l : List EntryNote). IsParted upto l S.run (pending_on after)) D.1 S.parted,
        (
          Turn after,
          refl,
          (
            ap lasting_of S.holds
                ∙ (ap (λ (o : Option ℕ). record (more_lasting S.run upto
                (lasting_of (holds before.keeper))) { stopped = o }) still
                ∙ ap (more_lasting S.run upto) D.0),
            refl,
            progress ∙ D.2,
            (λ t few. ap (λ (l : List ℕ). slice_index l t) uppers ∙ D.3 t few),
          ),
        ),
      )

  pub lent_refused : (by : Option ℕ → Option ℕ)
      → stopped_with (holds after.keeper).stopped (holds after.keeper).faults
      ≡ by (stopped_with (holds before.keeper).stopped (holds before.keeper).faults)
      → SyncRefused (holds before.keeper) (holds after.keeper) upto (pending_on before)
      (pending_on after)
      → CarriesRefused (shows_of holds) upto (by m.0.hands.lasting.stopped)
      (m.0, (desk_box, Turn after) ∷ rest m.1)
  lent_refused by stops S = let D = on_desk holds before m carries top in (
    (holds after.keeper).kept,
    pending_on after,
    subst (λ (l : List EntryNote). IsPermutation l (pending_on after)) D.1 S.pends,
    ⊎_elim (λ same. inl (same ∙ ap (λ (l : Lasting). l.kept) D.0))
        (λ (P : (left : List EntryNote) × IsParted upto (pending_on before)
        (holds after.keeper).kept left). inr (
          P.0,
          subst
              (λ (l : List EntryNote). IsParted upto l (holds after.keeper).kept P.0) D.1 P.1,
        )) S.keeps,
    (
      Turn after,
      refl,
      (
        ap lasting_of S.holds
            ∙ (ap (λ (o : Option ℕ). refused_lasting (holds after.keeper).kept o
            (lasting_of (holds before.keeper))) stops
            ∙ ap (λ (l : Lasting). refused_lasting (holds after.keeper).kept (by l.stopped) l) D.0),
        refl,
        progress ∙ D.2,
        (λ t few. ap (λ (l : List ℕ). slice_index l t) uppers ∙ D.3 t few),
      ),
    ),
  )

-- What is pending is lent in the order of the log.

pub none_behind : (l more : List EntryNote) → more ≡ [] → l ++ more ≡ l
none_behind l more none = ap (λ (r : List EntryNote). l ++ r) none ∙ append-nil l

pub all_lent : (lent more pending : List EntryNote) → more ≡ [] → lent ++ more ≡ pending
    → lent ≡ pending
all_lent lent more pending none all = sym (none_behind lent more none) ∙ all

-- so many of them, in the order of their ends, end at or below a key
cut : (upto : ℕ) (l : List EntryNote) → IsNonDecreasingBy (λ (n : EntryNote). n.end.0) l
    → (count : ℕ) × (count ≤ length l)
    × ((k : ℕ) (d : EntryNote) → k < count → (get_or l k d).end.0 ≤ upto)
    × ((k : ℕ) (d : EntryNote) → count ≤ k → k < length l → upto < (get_or l k d).end.0)
cut upto [] order = (
  0,
  omega arith,
  (λ k d l. absurd (omega arith)),
  (λ k d l h. absurd (omega arith)),
)
cut upto (n ∷ ns) order = dite (dec_le n.end.0 upto)
    (λ low. let c = cut upto ns (λ i j d l h. order (suc i) (suc j) d (omega arith) (omega arith))
    in (
      suc c.0,
      (let b = c.1 in omega arith),
      (λ k d l. low_at low c.0 c.2 k d l),
      (λ k d l h. high_at c.0 c.3 k d l h),
    ))
    (λ high. (
      0,
      omega arith,
      (λ k d l. absurd (omega arith)),
      (λ k d l h. let o = order 0 k d (omega arith) h in omega arith),
    ))
  where
    low_at : n.end.0 ≤ upto → (count : ℕ)
        → ((k : ℕ) (d : EntryNote) → k < count → (get_or ns k d).end.0 ≤ upto)
        → (k : ℕ) (d : EntryNote) → k < suc count → (get_or (n ∷ ns) k d).end.0 ≤ upto
    low_at low count rest zero d l = low
    low_at low count rest (suc k) d l = rest k d (omega arith)

    high_at : (count : ℕ)
        → ((k : ℕ) (d : EntryNote) → count ≤ k → k < length ns → upto < (get_or ns k d).end.0)
        → (k : ℕ) (d : EntryNote) → suc count ≤ k → k < length (n ∷ ns)
        → upto < (get_or (n ∷ ns) k d).end.0
    high_at count rest zero d l h = absurd (omega arith)
    high_at count rest (suc k) d l h = rest k d (omega arith) (omega arith)

module _ (h : Holding) (upto : ℕ) (pending sorted : List EntryNote)
    (same : IsPermutation pending sorted) where
  parted_of : (run left : List EntryNote) → IsParted upto sorted run left
      → IsParted upto pending run left
  parted_of run left P = record {
    all = IsPermutation-trans pending sorted (run ++ left) same P.all;
    low = P.low;
    high = P.high;
    in_order = P.in_order;
  }

  pub may_sync : IsNonDecreasingBy (λ (n : EntryNote). n.end.0) sorted
      → ((run left : List EntryNote) → IsParted upto pending run left → MayWrite h upto run)
      → MaySync h upto sorted
  may_sync order may = let c = cut upto sorted order in
      let P = parted upto c.0 sorted sorted (IsPermutation-refl sorted) order c.1 c.2 c.3 in
      record {
        run = take c.0 sorted;
        left = drop c.0 sorted;
        parted = P;
        may = may (take c.0 sorted) (drop c.0 sorted)
            (parted_of (take c.0 sorted) (drop c.0 sorted) P);
      }

  pub synced_of : (now : Holding) (left : List EntryNote) → Syncs h now upto sorted left
      → Syncs h now upto pending left
  synced_of now left S = record {
    run = S.run;
    parted = parted_of S.run left S.parted;
    holds = S.holds;
  }

  pub refused_of : (now : Holding) (left : List EntryNote) → SyncRefused h now upto sorted left
      → SyncRefused h now upto pending left
  refused_of now left S = record {
    pends = IsPermutation-trans pending sorted left same S.pends;
    keeps = ⊎_elim (λ k. inl k) (λ (P : (others : List EntryNote) × IsParted upto sorted now.kept
        others). inr (P.0, parted_of now.kept P.0 P.1)) S.keeps;
    holds = S.holds;
  }

-- the counts of faults of a keeper that was lent entries
module _ {T : Type 0} (before now : Holding) where
  pub tells_faults : (r : Result T KeeperFault) (upto : ℕ) (pending left : List EntryNote)
      → HasKeeperCause before now r → OnErr r (SyncRefused before now upto pending left)
      → TellsFaults before.at_open r
  tells_faults (Ok a) upto pending left C R = tt
  tells_faults (Err (Stopped at_open count)) upto pending left C R =
      (C.counts.0 ∙ ap (λ (h : Holding). h.at_open) R.holds, C.counts.2)
  tells_faults (Err OutOfMemory) upto pending left C R = tt

  -- one that answers something else runs on
  runs_on : (r : Result T KeeperFault) → is_stopped r ≡ false → HasKeeperCause before now r
      → stopped_with now.stopped now.faults ≡ stopped_with before.stopped before.faults
  runs_on r goes C = by before.stopped refl
    where
      by : (b : Bool) → before.stopped ≡ b
          → stopped_with now.stopped now.faults ≡ stopped_with before.stopped before.faults
      by true e = absurd (false≢true (sym goes ∙ C.for_good e))
      by false e = ap (λ (b : Bool). stopped_with b now.faults)
          (C.kept_in_mind ∙ (λ j. (e j || goes j)))
          ∙ sym (ap (λ (b : Bool). stopped_with b before.faults) e)

  pub stops_by : (r : Result T KeeperFault) → HasKeeperCause before now r
      → stopped_with now.stopped now.faults
      ≡ stopped_by (stopped_with before.stopped before.faults) r
  stops_by (Ok a) C = runs_on (Ok a) refl C
  stops_by (Err (Stopped at_open count)) C = ap (λ (b : Bool). stopped_with b now.faults)
      (C.kept_in_mind ∙ or_true before.stopped) ∙ ap (λ (n : ℕ). Some n) (sym C.counts.1)
  stops_by (Err OutOfMemory) C = runs_on (Err OutOfMemory) refl C

-- what is said of a good answer
pub ok_holds : {A E : Type 0} (P : Type 0) (r : Result A E) (a : A) → r ≡ Ok a → OnOk r P → P
ok_holds P r a is h = subst (λ (q : Result _ _). OnOk q P) is h

-- from one clause on an answer to another

pub on_ok_with : {A : Type 0} (r : Result A KeeperFault) (P Q : Type 0) (before now : Option ℕ)
    → now ≡ stopped_by before r → (now ≡ before → P → Q) → OnOk r P → OnOk r Q
on_ok_with (Ok a) P Q before now is f h = f is h
on_ok_with (Err e) P Q before now is f h = h

-- a keeper that has stopped tells its counts
pub tells_at : {T : Type 0} (r : Result T KeeperFault) (opened : ℕ) → TellsFaults opened r
    → {fault : KeeperFault} → r ≡ Err fault → {at_open count : ℕ} → fault ≡ Stopped at_open count
    → (at_open ≡ opened) × HasRisen at_open count
tells_at {T} r opened told {fault} is {at_open} {count} stops =
    subst (λ (q : Result T KeeperFault). TellsFaults opened q)
    (is ∙ ap (λ (f : KeeperFault). Err f) stops) told
