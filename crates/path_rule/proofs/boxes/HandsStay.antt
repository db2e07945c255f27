-- What a seat knows of its boxes stays at the steps of others, and the stamps of the notes in boxes
-- stay.
use Rattle.std.proofs.Common.{
  ◌≡◌,
  ℕ,
  suc,
  ◌%◌,
  ◌<◌,
  Bool,
  List,
  [],
  length,
  Option,
  Some,
  None,
  is_some,
  IsTrue,
  refl,
  sym,
  ap,
  ◌∙◌,
  subst,
  arith,
}
use Rattle.std.specs.Option.{option_map, option_map_or}
use Rattle.path_core.specs.declared.note.EntryNote.{EntryNote}
use Rattle.path_core.specs.declared.seat.Issue.{Issue}
use Rattle.path_core.specs.declared.seat.Issue.TheVariants.{Rest}
use Rattle.path_core.specs.declared.seat.Seat.{Seat}
use Rattle.path_core.specs.declared.seat.SyncTurn.{SyncTurn}
use Rattle.path_core.specs.declared.state.Claim.{Claim}
use Rattle.path_core.specs.declared.state.OrderGroups.{OrderGroups}
use Rattle.path_core.specs.LawfulLog.{claim_in}
use Rattle.path_core.specs.Parts.{issue_of, is_marker}
use Rattle.path_core.proofs.seats.Columns.{issue_held}
use Rattle.path_rule.specs.declared.lasting.Lasting.{Lasting}
use Rattle.path_rule.specs.declared.view.Hands.{Hands}
use Rattle.path_rule.specs.declared.view.Progress.{Progress}
use Rattle.path_rule.specs.declared.view.Role.{Role}
use Rattle.path_rule.specs.declared.view.Role.TheVariants.{Opener, Steps, Spent}
use Rattle.path_rule.specs.Boxed.{HandsAre, HandsAs, Stamped}
use Rattle.path_rule.specs.Boxes.{box_of}
use Rattle.path_rule.proofs.places.ReadBack.{is_some_held}

-- the issue that a seat is at
pub issue_known : (p q : Seat) → issue_held q ≡ issue_held p → issue_of q ≡ issue_of p
issue_known p q same = sym (by q.sync)
    ∙ (ap (λ (o : Option Issue). option_map_or (λ (i : Issue). i) o Rest) same ∙ by p.sync)
  where
    by : (o : Option SyncTurn) → option_map_or (λ (i : Issue). i)
        (option_map (λ (t : SyncTurn). t.issue) o) Rest
        ≡ option_map_or (λ (t : SyncTurn). t.issue) o Rest
    by None = refl
    by (Some t) = refl

-- What a seat knows of its boxes stays.
hands_stay : (contents : ℕ → List EntryNote) (lasting : Lasting) (pending : List EntryNote)
    (gathered : Progress) (append after : OrderGroups) (seats w : ℕ) (p q : Seat) (h : Hands)
    → after.current ≡ append.current → after.oldest ≡ append.oldest → q.append ≡ p.append
    → issue_held q ≡ issue_held p
    → HandsAre contents lasting pending gathered append seats w p h
    → HandsAre contents lasting pending gathered after seats w q h
hands_stay contents lasting pending gathered append after seats w p q h current oldest same issue
    H = let held : is_some q.sync ≡ is_some p.sync =
    sym (is_some_held q) ∙ (ap (λ (o : Option Issue). is_some o) issue ∙ is_some_held p) in record {
      own = λ g e. H.own g (sym same ∙ e);
      desk = λ e. H.desk (sym held ∙ e);
      other = λ b e. let G = H.other b e in record {
        holds = held ∙ G.holds;
        rest = issue_known p q issue ∙ G.rest;
        passed = oldest ∙ (G.passed ∙ sym current);
        parity = λ z. G.parity (z ∙ ap (λ (c : ℕ). c % 2) current);
        above = G.above;
        inside = G.inside;
        taken = G.taken;
      };
      swept = λ l. let S = H.swept l in record {
        holds = held ∙ S.holds;
        passed = oldest ∙ (S.passed ∙ sym current);
        empty = λ z q. subst (λ c. contents (box_of z (suc c)) ≡ []) (sym current) (S.empty z q);
      };
    }

pub role_hands_stay : (contents : ℕ → List EntryNote) (lasting : Lasting) (pending : List EntryNote)
    (gathered : Progress) (append after : OrderGroups) (seats : ℕ) (p q : Seat) (h : Hands)
    (ρ : Role)
    → after.current ≡ append.current → after.oldest ≡ append.oldest → q.append ≡ p.append
    → issue_held q ≡ issue_held p
    → HandsAs contents lasting pending gathered append seats p h ρ
    → HandsAs contents lasting pending gathered after seats q h ρ
role_hands_stay contents lasting pending gathered append after seats p q h
    (Opener k) current oldest same issue H = tt
role_hands_stay contents lasting pending gathered append after seats p q h Spent current oldest same
    issue H = tt
role_hands_stay contents lasting pending gathered append after seats p q h
    (Steps w) current oldest same issue H =
    hands_stay contents lasting pending gathered append after seats w p q h current oldest same
    issue H

-- the markers that have barriers are the same
abbrev pub SameBarriers : List Claim → List Claim → Type 0
SameBarriers claims after = (i g : ℕ) → i < length after → IsTrue (is_marker (claim_in after i))
    → (claim_in after i).barrier ≡ Some g
    → (i < length claims) × (claim_in claims i ≡ claim_in after i)

pub stamp_stays : (claims after : List Claim) (current c : ℕ) (gathered : Bool) (b group : ℕ)
    (n : EntryNote) → c ≡ current → SameBarriers claims after
    → Stamped claims current gathered b group n → Stamped after c gathered b group n
stamp_stays claims after current c gathered b group n is same S = record {
  own = S.own;
  not_above = (let l = S.not_above in omega arith);
  recent = (let l = S.recent in omega arith);
  gathered = λ t. S.gathered t ∙ sym is;
  above = λ i g l m bar low. let q = same i g l m bar in
      subst (λ (d : Claim). d.start < n.end.0) q.1
      (S.above i g q.0 (subst (λ (d : Claim). IsTrue (is_marker d)) (sym q.1) m)
      (subst (λ (d : Claim). d.barrier ≡ Some g) (sym q.1) bar) low);
}
