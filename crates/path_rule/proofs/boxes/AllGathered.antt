-- What gathering is for: once the boxes of the last barrier were gathered, each note up to a marker
-- whose barrier is of an earlier group is lasting or on the desk.
use Rattle.std.proofs.Common.{
  ◌≡◌,
  ℕ,
  ◌<◌,
  ◌≤◌,
  true,
  List,
  length,
  Some,
  IsTrue,
  sym,
  ap,
  ◌∙◌,
  subst,
  ⊎_elim,
  arith,
}
use Rattle.std.specs.Prelude.{◌⊎◌}
use Rattle.std.proofs.lemmas.List.{get_or_default}
use Rattle.std.specs.List.{Contains}
use mathlib.Core.Logic.{inl, inr}
use mathlib.Core.Option as maybe
use Rattle.path_core.specs.declared.note.EntryNote.{EntryNote}
use Rattle.path_core.specs.declared.state.Claim.{Claim}
use Rattle.path_core.specs.declared.state.OrderGroups.{OrderGroups}
use Rattle.path_core.specs.declared.state.PathState.{PathState}
use Rattle.path_core.specs.Lawful.{IsLawfulPath}
use Rattle.path_core.specs.LawfulLog.{claim_in}
use Rattle.path_core.specs.Parts.{no_claim, is_marker, last_marker}
use Rattle.path_core.proofs.log.MarkerSteps.{last_is_marker}
use Rattle.path_core.proofs.log.MarkerTells.{last_claimed}
use Rattle.path_rule.specs.declared.lasting.Beside.{Beside}
use Rattle.path_rule.specs.declared.lasting.Filed.{Filed}
use Rattle.path_rule.specs.declared.lasting.Lasting.{Lasting}
use Rattle.path_rule.specs.declared.slot.Slot.{Slot}
use Rattle.path_rule.specs.declared.view.PathSize.{PathSize}
use Rattle.path_rule.specs.declared.view.View.{View}
use Rattle.path_rule.specs.Boxed.{Boxed}
use Rattle.path_rule.specs.Lasts.{ends, shown}

pub gathered_all : {K : Type 0} (shows : K → Lasting) (seats : ℕ) (notes : List EntryNote)
    (lasting : Lasting) (claims : List Claim) (append : OrderGroups)
    (homes : List (maybe.Option (Slot K))) (views : List View)
    (B : Boxed shows seats notes lasting claims append homes views) → B.progress.gathered ≡ true
    → (i g : ℕ) → i < length claims → IsTrue (is_marker (claim_in claims i))
    → (claim_in claims i).barrier ≡ Some g → g < append.current
    → (n : EntryNote) → Contains notes n → n.end.0 ≤ (claim_in claims i).start
    → Contains (ends lasting.logged) n.end.0 ⊎ Contains B.pending n
gathered_all shows seats notes lasting claims append homes views B all i g l mark bar below n h
    low = ⊎_elim (λ a. inl a) (λ q. ⊎_elim (λ p. inr p)
    (λ (t : (b : ℕ) × Contains (B.contents b) n). let S = B.stamped t.0 n t.1 in
    let now = S.gathered all in let up = S.above i g l mark bar (omega arith) in
    absurd (omega arith)) q) (B.noted n h)

-- The last marker stands among the claims, and its barrier is below the current group.
pub record MarkerAt (x : PathState) (c : Claim) (g : ℕ) : Type 0 where
  pub number : ℕ
  pub inside : number < length x.claims
  pub is : claim_in x.claims number ≡ c
  pub marker : IsTrue (is_marker (claim_in x.claims number))
  pub barrier : (claim_in x.claims number).barrier ≡ Some g
  pub below : g < x.append.current

pub marker_at : (x : PathState) → IsLawfulPath x → (c : Claim) → last_marker x ≡ Some c → (g : ℕ)
    → c.barrier ≡ Some g → MarkerAt x c g
marker_at x L c last g issued =
    let among = last_claimed x c last in
    let read : claim_in x.claims among.0 ≡ c =
    get_or_default x.claims among.0 no_claim c among.1 ∙ among.2 in
    let bar = ap (λ (d : Claim). d.barrier) read ∙ issued in
    record {
      number = among.0;
      inside = among.1;
      is = read;
      marker = ap (λ (d : Claim). is_marker d) read ∙ last_is_marker x.claims c last;
      barrier = bar;
      below = L.barriers_below_current.markers among.0 g among.1 bar;
    }

-- So it is for the last marker, once its barrier is issued.
pub gathered_up_to_last : {K : Type 0} (shows : K → Lasting) (o : Beside) (size : PathSize)
    (opened key : ℕ) (filed : Filed) (dropped : List ℕ) (homes : List (maybe.Option (Slot K)))
    (views : List View) (x : PathState)
    → IsLawfulPath x
    → (B : Boxed shows size.seats x.notes (shown o opened key filed dropped x) x.claims x.append
    homes views)
    → B.progress.gathered ≡ true → (c : Claim) (g : ℕ) → last_marker x ≡ Some c
    → c.barrier ≡ Some g → (n : EntryNote) → Contains x.notes n → n.end.0 ≤ c.start
    → Contains x.logged n.end.0 ⊎ Contains B.pending n
gathered_up_to_last shows o size opened key filed dropped homes views x L B all c g last issued n h
    low =
    let M = marker_at x L c last g issued in
    let start = ap (λ (d : Claim). d.start) M.is in
    ⊎_elim (λ a. inl (subst (λ (l : List ℕ). Contains l n.end.0)
    (sym L.logged_is_the_synced_part.logged) a)) (λ p. inr p)
    (gathered_all shows size.seats x.notes (shown o opened key filed dropped x) x.claims x.append
    homes views B all
    M.number g M.inside M.marker M.barrier M.below n h (omega arith))
