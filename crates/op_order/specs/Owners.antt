-- What the owner's calls leave.
use Rattle.std.specs.Prelude.{◌≡◌, ℕ, zero, suc, ◌+◌, ◌<◌, List, [], ◌∷◌, ◌++◌, Option, Some}
use Rattle.std.specs.Prelude.{None, ℤ}
use Rattle.atomic_table.specs.Seated.{TableId}
use Rattle.op_core.specs.declared.count.Tally.TheVariants.{Expired}
use Rattle.op_core.specs.Tallies.{number_of}
use Rattle.op_core.specs.CountWords.{count_word}
use Rattle.op_order.specs.declared.view.WordStep.{WordStep}
use Rattle.op_order.specs.declared.seats.Owner.{Owner}
use Rattle.op_order.specs.declared.owner.Publish.{Publish}
use Rattle.op_order.specs.declared.owner.Publish.TheVariants.{Published, Full}
use Rattle.op_order.specs.declared.owner.Reclaim.{Reclaim}
use Rattle.op_order.specs.Parts.{part_of}
use Rattle.op_order.specs.Places.{PublicationMoves, AdvanceFrees}
use Rattle.op_order.specs.Rule.{count_at}
use Rattle.op_order.specs.Told.{looked_at}

-- it is the owner of this order
abbrev pub IsOwnerOf : TableId → ℕ → Owner → Type 0
IsOwnerOf z places w = (w.seat.table_id ≡ z) × (w.places ≡ places)

-- the values that it has published, from sequence 0 on
abbrev pub values_of : Owner → List ℕ
values_of w = (part_of w.seat).values

-- its looks at counts, the newest first
abbrev pub looks_of : Owner → List WordStep
looks_of w = (part_of w.seat).looks

-- The value has the next sequence, which takes a place that was free; or no place was free, all but
-- the root were retired, and nothing changed.
abbrev pub Publishes : Publish → ℕ → Owner → Owner → Type 0
Publishes (Published s) value w w' = (s ≡ suc w.sequence) × (s < w.oldest + w.places)
    × (w'.sequence ≡ s) × (w'.oldest ≡ w.oldest) × (values_of w' ≡ values_of w ++ value ∷ [])
    × (looks_of w' ≡ looks_of w) × PublicationMoves w.places w.oldest w.sequence
Publishes (Full retired) value w w' =
    (w' ≡ w) × (w.sequence ≡ w.oldest + retired) × (retired + 1 ≡ w.places)

-- Looks behind others: so many groups from this one on were found finished, one after another, by
-- one look each. So what is told of them was found in the call.
abbrev pub finished_from : ℕ → ℕ → ℕ → List WordStep → List WordStep
finished_from places group zero looks = looks
finished_from places group (suc n) looks = looked_at (count_at places (group + n))
    (count_word (group + n) (Expired 0)) ∷ finished_from places group n looks

-- `looks` are those that freed places. The owner stopped at the current group; or at an earlier
-- one, which by one look more it found expired, with operations left.
abbrev pub StopsAt : Option (ℕ × ℤ) → Owner → List WordStep → Type 0
StopsAt None w' looks = (w'.oldest ≡ w'.sequence) × (looks_of w' ≡ looks)
StopsAt (Some (group, n)) w' looks = (group ≡ w'.oldest) × (group < w'.sequence)
    × ((m : ℕ) × (n ≡ number_of (Expired (suc m)))
    × (looks_of w' ≡ looked_at (count_at w'.places group) (count_word group (Expired (suc m)))
    ∷ looks))

-- The oldest group moved over as many as were found finished, and freed a place with each.
pub record Reclaims (r : Reclaim) (w w' : Owner) : Type 0 where
  pub published : w'.sequence ≡ w.sequence
  pub values : values_of w' ≡ values_of w
  pub freed : w'.oldest ≡ w.oldest + r.freed
  pub places : AdvanceFrees w.places w.oldest w.sequence r.freed
  pub stops : StopsAt r.running w' (finished_from w.places w.oldest r.freed (looks_of w))
