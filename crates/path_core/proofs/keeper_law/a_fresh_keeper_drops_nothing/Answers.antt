use Rattle.std.proofs.Common.{
  ◌≡◌,
  ◌++◌,
  [],
  ◌∷◌,
  Bool,
  true,
  false,
  cond,
  List,
  ℕ,
  refl,
  ap,
  subst,
  arith,
}
use Rattle.std.specs.List.{Contains}
use Rattle.path_core.specs.declared.note.EntryNote.{EntryNote}
use Rattle.path_core.specs.Keeper.{Holding, IsDue}
use Rattle.path_core.proofs.keeper_law.a_fresh_keeper_drops_nothing.Goals as goal

nothing_due : (h : Holding) → h.logged ≡ [] → (closed o : ℕ) → IsDue h closed o → ⊥
nothing_due h none closed o due =
    let among = subst (λ (l : List EntryNote). Contains l due.1.note) none due.1.among in
    absurd (let l = among.1 in omega arith)

no_more : {A : Type 0} (l : List A) → l ≡ l ++ []
no_more [] = refl
no_more (x ∷ xs) = ap (λ m. x ∷ m) (no_more xs)

same_either_way : (b : Bool) (l : List ℕ) → l ≡ cond b (l ++ []) l
same_either_way true l = no_more l
same_either_way false l = refl

pub returns : goal.returns
returns c = λ base closed sizes h F. record {
  ordinals = [];
  ascending = λ i j d l inside. absurd (omega arith);
  exact = λ o. (
    (λ among. absurd (let l = among.1 in omega arith)),
    (λ due. absurd (nothing_due h F.nothing_logged closed o due)),
  );
  counted = refl;
  holds = λ i. record h {
    dropped = no_more h.dropped i;
    archived = same_either_way h.opening.archives h.archived i;
  };
}
