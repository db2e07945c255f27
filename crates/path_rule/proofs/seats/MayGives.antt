-- What the steps on a cursor leave of what its holder needs to give the Sync turn back.
use Rattle.std.proofs.Common.{
  ◌≡◌,
  ◌||◌,
  ℕ,
  ◌<◌,
  ◌∷◌,
  Bool,
  true,
  false,
  List,
  Option,
  Some,
  None,
  is_some,
  refl,
  sym,
  ap,
  ◌∙◌,
  subst,
  ⊎_elim,
  arith,
}
use Rattle.std.specs.Option.{option_map, option_map_or}
use Rattle.atomic_table.specs.Table.{Me, rest}
use Rattle.path_core.specs.declared.note.EntryNote.{EntryNote}
use Rattle.path_core.specs.declared.seat.Issue.TheVariants.{Rest}
use Rattle.path_core.specs.declared.seat.SyncTurn.{SyncTurn}
use Rattle.path_core.specs.Keeper.{HasRisen}
use Rattle.path_rule.specs.declared.lasting.Lasting.{Lasting}
use Rattle.path_rule.specs.declared.slot.Slot.{Slot}
use Rattle.path_rule.specs.declared.view.Hands.{Hands}
use Rattle.path_rule.specs.declared.view.Progress.{Progress}
use Rattle.path_rule.specs.declared.view.View.{View}
use Rattle.path_rule.specs.Boxes.{desk_box, DeskIs}
use Rattle.path_rule.specs.Calls.{Holds, MayGive}
use Rattle.path_rule.specs.HandsAfter.{with_desk}
use Rattle.path_rule.specs.TurnTold.{CarriesAs, CarriesDesk}
use Rattle.path_rule.proofs.moves.SyncSteps.{desk_same, top_box}
use Rattle.path_rule.proofs.seats.HolderKnows.{still, becomes}

pub gives_still : (f : SyncTurn → SyncTurn) → ((t : SyncTurn) → (f t).issue ≡ t.issue)
    → ((t : SyncTurn) → (f t).filed ≡ t.filed) → (v v' : View)
    → v'.part.sync ≡ option_map f v.part.sync → v'.hands.box_taken ≡ v.hands.box_taken
    → MayGive v → MayGive v'
gives_still f issue filed v v' sync taken M = record {
  holds = record {
    held = ap (λ o. is_some o) sync ∙ still f v.part.sync M.holds.held;
    issue = ap (λ o. option_map_or (λ (t : SyncTurn). t.issue) o Rest) sync
        ∙ becomes f v.part.sync Rest Rest (λ t e. issue t ∙ e) M.holds.held M.holds.issue;
    empty = taken ∙ M.holds.empty;
  };
  unfiled = ap (λ o. option_map_or (λ (t : SyncTurn). t.filed) o false) sync
      ∙ (filed_stays v.part.sync ∙ M.unfiled);
}
  where
    filed_stays : (o : Option SyncTurn)
        → option_map_or (λ (t : SyncTurn). t.filed) (option_map f o) false
        ≡ option_map_or (λ (t : SyncTurn). t.filed) o false
    filed_stays None = refl
    filed_stays (Some t) = filed t

-- the same, whether it has filed or not
pub holds_still : (f : SyncTurn → SyncTurn) → ((t : SyncTurn) → (f t).issue ≡ t.issue)
    → (v v' : View) → v'.part.sync ≡ option_map f v.part.sync
    → v'.hands.box_taken ≡ v.hands.box_taken → Holds Rest v → Holds Rest v'
holds_still f issue v v' sync taken H = record {
  held = ap (λ o. is_some o) sync ∙ still f v.part.sync H.held;
  issue = ap (λ o. option_map_or (λ (t : SyncTurn). t.issue) o Rest) sync
      ∙ becomes f v.part.sync Rest Rest (λ t e. issue t ∙ e) H.held H.issue;
  empty = taken ∙ H.empty;
}

-- whether it has filed
pub filed_as : (f : SyncTurn → SyncTurn) → ((t : SyncTurn) → (f t).filed ≡ t.filed)
    → (o : Option SyncTurn) → option_map_or (λ (t : SyncTurn). t.filed) (option_map f o) false
    ≡ option_map_or (λ (t : SyncTurn). t.filed) o false
filed_as f filed None = refl
filed_as f filed (Some t) = filed t

-- What two seats know of one desk they know alike.
pub hands_as : {K : Type 0} (shows : K → Lasting) (m : Me (Slot K) View) (l k : Lasting)
    (p q : List EntryNote) (h : Hands) → CarriesAs shows l p h.progress m
    → CarriesAs shows k q h.progress m → with_desk l p h.progress h ≡ with_desk k q h.progress h
hands_as shows m l k p q h C D = let d = desk_same shows C.0 D.0 l k p q h.progress
    (ap (top_box C.0) (sym C.1 ∙ D.1)) C.2 D.2 in
    λ i. with_desk (d.0 i) (d.1 i) h.progress h

-- a seat that knows what lies on the desk carries it
pub carries_on : {K : Type 0} (shows : K → Lasting) (m m' : Me (Slot K) View) (lasting : Lasting)
    (pending : List EntryNote) (progress : Progress) (h : Hands)
    → m'.0.hands ≡ with_desk lasting pending progress h → m'.1 ≡ m.1
    → CarriesAs shows lasting pending progress m → CarriesDesk shows m'
carries_on shows m m' lasting pending progress h hands same C = (
  C.0,
  same ∙ (C.1 ∙ ap (λ l. (desk_box, C.0) ∷ rest l) (sym same)),
  subst (λ (k : Hands). DeskIs shows C.0 k.lasting k.pending k.progress) (sym hands) C.2,
)

pub or_true : (b : Bool) → (b || true) ≡ true
or_true true = refl
or_true false = refl

pub or_false : (b : Bool) → (b || false) ≡ b
or_false true = refl
or_false false = refl

-- a count that has risen is above 0
pub risen_above : (before now : ℕ) → HasRisen before now → 0 < now
risen_above before now risen = ⊎_elim (λ l. omega arith) (λ e. omega arith) risen
