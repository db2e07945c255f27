-- A store's log stands no further than what comes next, over each of its calls.
use Rattle.std.proofs.Common.{
  ◌≡◌,
  ℕ,
  inl,
  inr,
  Bool,
  List,
  [],
  ◌++◌,
  length,
  take,
  refl,
  sym,
  ◌∙◌,
  ap,
  subst,
  arith,
}
use Rattle.std.specs.Prelude.{Err, IsErr, Ok, Result}
use Rattle.std.specs.List.{Contains}
use Rattle.std.proofs.lemmas.Bool.{true≢false}
use Rattle.std.proofs.lemmas.List.{take_all}
use Rattle.std.proofs.lemmas.List.Elements.{Contains-append_left, Contains-append_right}
use Rattle.clog_base.specs.declared.sizes.Sizes.{Sizes}
use Rattle.clog_segments.specs.declared.written.StoreFault.{StoreFault}
use Rattle.clog_segments.specs.declared.written.StoreFault.TheVariants.{Stopped, OutOfMemory}
use Rattle.clog_segments.specs.Life.{State}
use Rattle.clog_segments.specs.Stepped.{IsQuiet}
use Rattle.clog_due.specs.StoreDrops.{AreDueIn, HasLetGo}
use Rattle.clog_segments.specs.StoreState.{HasMoved, StoreState, deeds_by, store_over, told_as}
use Rattle.clog_store.specs.StoreTakes.{
  GoesOnTaking,
  HasDueAtHand,
  StandsBehind,
  TakesBehind,
  TakesMore,
  TakesNext,
}
use Rattle.clog_due.proofs.DroppedLists.{first_dropped}
use Rattle.clog_store.proofs.NoteTakes.{takes_behind, takes_dropped, takes_less, takes_moved}
use Rattle.clog_due.proofs.StoreDropped.{let_go_on}

-- at its opening it stands in its first segment
pub takes_opened : {D : Type 0} (log : State D) (sizes : Sizes) (archives : Bool)
    → TakesNext (store_over log sizes archives)
takes_opened log sizes archives =
    takes_behind (store_over log sizes archives).notes refl (omega arith) []

-- over two calls
pub taking_both : {D : Type 0} (faults : D → ℕ) (a b c : StoreState D) → GoesOnTaking a b
    → IsQuiet faults b.notes.log c.notes.log → GoesOnTaking b c → GoesOnTaking a c
taking_both faults a b c first quiet next takes still =
    next (first takes (quiet still).0) still

-- its log of sections alone was called, and stands where it did
pub taking_moved : {D : Type 0} (a b : StoreState D) → HasMoved a b
    → b.notes.log.id ≡ a.notes.log.id → GoesOnTaking a b
taking_moved {D} a b moved same takes still =
    let notes = ap (λ (x : StoreState D). x.notes) moved in
    let dropped = ap (λ (x : StoreState D). x.dropped) moved in
    subst (λ (l : List ℕ). TakesMore b.notes l) (sym dropped)
    (takes_moved a.notes b.notes a.dropped notes same takes)

-- ---- segments go

-- What a refusal says it says whatever the answer's form.
pub taking_refused : {D E : Type 0} (before now : StoreState D) (closed : ℕ) (r : Result ℕ E)
    → IsErr r → ((HasDueAtHand before closed → ⊥) → GoesOnTaking before now)
    → TakesBehind before now closed r
taking_refused before now closed (Ok count) refused takes = absurd (true≢false (sym refused))
taking_refused before now closed (Err fault) refused takes = takes

pub taking_told : {D : Type 0} (before now : StoreState D) (closed at_open faults : ℕ)
    (r : Result ℕ StoreFault) → TakesBehind before now closed r
    → TakesBehind before now closed (told_as at_open faults r)
taking_told before now closed at_open faults (Ok count) takes = takes
taking_told before now closed at_open faults (Err Stopped) takes = takes
taking_told before now closed at_open faults (Err OutOfMemory) takes = takes

module _ {D T : Type 0} (s m t : StoreState D) (closed : ℕ) (os : List ℕ)
    (due : AreDueIn s closed os) (moved : HasMoved s m)
    (stands : StandsBehind s.notes m.notes os) (r : Result T StoreFault)
    (went : HasLetGo m t os r) (same : t.notes.log.id ≡ m.notes.log.id) where
  abbrev all_went : HasLetGo s t os r
  all_went = let_go_on {T = T} s m t os r moved went

  notes_are : t.notes ≡ record s.notes { log = t.notes.log }
  notes_are = ap (λ (x : StoreState D). x.notes) all_went.is

  dropped_are : t.dropped ≡ s.dropped ++ take all_went.count os
  dropped_are =
      ap (λ (x : StoreState D). x.dropped) all_went.is
      ∙ first_dropped (deeds_by s) os all_went.count all_went.is_named

  takes_less_now : TakesNext s → TakesMore s.notes t.dropped
  takes_less_now takes =
      takes_less s.notes s.dropped t.dropped (λ o among.
      subst (λ (l : List ℕ). Contains l o) (sym dropped_are)
      (Contains-append_left s.dropped (take all_went.count os) o among)) takes

  still_here : m.notes.log.id ≡ s.notes.log.id → TakesNext s → TakesNext t
  still_here here takes =
      takes_moved s.notes t.notes t.dropped notes_are (same ∙ here) (takes_less_now takes)

  pub taking_some : (HasDueAtHand s closed → ⊥) → GoesOnTaking s t
  taking_some apart takes still = elim stands [
    | inl here ↦ still_here here takes
    | inr behind ↦ absurd (apart (record {
      ordinal = behind.0;
      at_hand = behind.2;
      due = λ h has. ((due h has).exact behind.0).0 behind.1;
    }))
  ]

  taking_all : all_went.count ≡ length os → TakesNext s → TakesNext t
  taking_all all takes = elim stands [
    | inl here ↦ still_here here takes
    | inr behind ↦
        let gone : Contains t.dropped behind.0 =
        subst (λ (l : List ℕ). Contains l behind.0) (sym dropped_are)
        (Contains-append_right s.dropped (take all_went.count os) behind.0
        (subst (λ (l : List ℕ). Contains l behind.0)
        (sym (take_all all_went.count os (omega (arith, all)))) behind.1)) in
        takes_dropped s.notes t.notes t.dropped behind.0 notes_are behind.2
        (same ∙ behind.3) gone (takes_less_now takes)
  ]

pub taking_dropped : {D T : Type 0} (s m t : StoreState D) (closed : ℕ) (os : List ℕ)
    → AreDueIn s closed os → (moved : HasMoved s m) → StandsBehind s.notes m.notes os → (done : T)
    → (went : HasLetGo m t os (Ok done)) → t.notes.log.id ≡ m.notes.log.id → TakesNext s
    → TakesNext t
taking_dropped {D} {T} s m t closed os due moved stands done went same =
    taking_all {T = T} s m t closed os due moved stands (Ok done) went same
    (let_go_on {T = T} s m t os (Ok done) moved went).far.0
