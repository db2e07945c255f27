-- What was put is what was taken and what the queue holds.
use Rattle.std.specs.Prelude.{◌≡◌, ℕ, ◌+◌, List, [], ◌∷◌, ◌++◌, IsPermutation}
use Rattle.std.specs.List.{flat_map}
use mathlib.Core.Option.{some}
use lib.ListN.{get_elem?}
use Rattle.replay_queue.specs.declared.rule.Hand.{Hand}
use Rattle.replay_queue.specs.declared.rule.Job.{Job}
use Rattle.replay_queue.specs.declared.rule.Job.TheVariants.{Item, End}

abbrev pub hand : {T : Type 0} → ℕ → List T → List T → Hand T
hand parts put taken = record { parts = parts; put = put; taken = taken }

-- the item of a job; an end mark has none
abbrev pub item_of : {T : Type 0} → Job T → List T
item_of (Item x) = x ∷ []
item_of End = []

abbrev pub total : {V : Type 0} → (V → ℕ) → List V → ℕ
total f [] = 0
total f (v ∷ vs) = f v + total f vs

-- a pass with no part has put and taken nothing
abbrev pub IdleIsEmpty : {T : Type 0} → List (Hand T) → Type 0
IdleIsEmpty views =
    (port : ℕ) (v : Hand _) → get_elem? views port ≡ some v → v.parts ≡ 0
    → (v.put ≡ []) × (v.taken ≡ [])

-- All parts are there. What was put is, in some order, what was taken and the items of the queue.
pub record Balanced {T : Type 0} (items : List (Job T)) (views : List (Hand T)) : Type 0 where
  pub parts : total (λ v. v.parts) views ≡ 1024
  pub items_are :
      IsPermutation (flat_map (λ v. v.put) views)
      (flat_map (λ v. v.taken) views ++ flat_map item_of items)
  pub idle : IdleIsEmpty views
