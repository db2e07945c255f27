-- What is in the boxes at home, where a seat takes one, puts one back, or goes on with those that
-- it has.
use Rattle.std.proofs.Common.{
  ◌≡◌,
  ◌≢◌,
  ℕ,
  zero,
  suc,
  ◌<◌,
  List,
  [],
  ◌∷◌,
  length,
  set,
  sym,
  ap,
  ◌∙◌,
  subst,
  arith,
}
use mathlib.Core.Logic.{dite}
use mathlib.Core.Option.{some, none, some-injective, some-ne-none}
use mathlib.Core.Option as maybe
use native.Mathlib.Decide.{ℕ_discrete}
use lib.ListN.{get_elem?}
use Rattle.atomic_table.proofs.Lists.{set_here, set_else}
use Rattle.path_rule.specs.declared.slot.Slot.{Slot}
use Rattle.path_rule.specs.declared.view.View.{View}
use Rattle.path_rule.specs.Boxes.{HoldsBox, IsFree}

pub inside_list : {A : Type 0} (l : List A) (j : ℕ) (a : A) → get_elem? l j ≡ some a → j < length l
inside_list [] j a e = absurd (some-ne-none a (sym e))
inside_list (x ∷ xs) zero a e = omega arith
inside_list (x ∷ xs) (suc j) a e = let h = inside_list xs j a e in omega arith

-- what is free after seat id has changed was free before, where the seat goes on to have it
old_free : (views : List View) (id : ℕ) (v v' : View) → get_elem? views id ≡ some v → (b : ℕ)
    → (HoldsBox v b → HoldsBox v' b) → IsFree (set views id v') b → IsFree views b
old_free views id v v' at b more free j u e h = dite (ℕ_discrete j id)
    (λ is. let same : u ≡ v = some-injective u v (sym e ∙ (ap (get_elem? views) is ∙ at)) in
    free id v' (set_here views id v' (inside_list views id v at))
    (more (subst (λ z. HoldsBox z b) same h)))
    (λ apart. free j u (set_else views id j v' apart ∙ e) h)

module _ {K : Type 0} where
  abbrev AtHome : (ℕ → Slot K → Type 0) → ℕ → List (maybe.Option (Slot K)) → List View → Type 0
  AtHome P n homes views = (b : ℕ) → b < n → IsFree views b
      → (y : Slot K) × (get_elem? homes b ≡ some (some y)) × P b y

  module _ (P Q : ℕ → Slot K → Type 0) (n : ℕ) (homes : List (maybe.Option (Slot K)))
      (views : List View) (id : ℕ) (v v' : View) (at : get_elem? views id ≡ some v)
      (home : AtHome P n homes views) where
    pub same_homes : ((b : ℕ) → HoldsBox v b → HoldsBox v' b)
        → ((b : ℕ) (y : Slot K) → P b y → Q b y) → AtHome Q n homes (set views id v')
    same_homes more goes b l free = let h = home b l (old_free views id v v' at b (more b) free) in
        (h.0, h.1, goes b h.0 h.2)

    pub take_homes : (box : ℕ) → HoldsBox v' box → ((b : ℕ) → HoldsBox v b → HoldsBox v' b)
        → ((b : ℕ) (y : Slot K) → P b y → Q b y) → AtHome Q n (set homes box none) (set views id v')
    take_homes box has more goes b l free = let apart : b ≢ box =
        (λ e. free id v' (set_here views id v' (inside_list views id v at))
        (subst (HoldsBox v') (sym e) has)) in
        let old = home b l (old_free views id v v' at b (more b) free) in
        (old.0, set_else homes box b none apart ∙ old.1, goes b old.0 old.2)

    pub give_homes : (box : ℕ) (y : Slot K) → box < length homes → Q box y
        → ((b : ℕ) → b ≢ box → HoldsBox v b → HoldsBox v' b)
        → ((b : ℕ) (y : Slot K) → b ≢ box → P b y → Q b y)
        → AtHome Q n (set homes box (some y)) (set views id v')
    give_homes box y inside fits more goes b l free = dite (ℕ_discrete b box)
        (λ e. (
          y,
          ap (get_elem? (set homes box (some y))) e
              ∙ set_here homes box (some y) inside,
          subst (λ c. Q c y) (sym e) fits,
        ))
        (λ apart. let old = home b l (old_free views id v v' at b (more b apart) free) in
        (old.0, set_else homes box b (some y) apart ∙ old.1, goes b old.0 apart old.2))
