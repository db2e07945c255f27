-- Of an order at most 32 groups were made from the oldest on: each allowed step keeps it.
use Rattle.std.proofs.Common.{◌≡◌, ◌+◌, ◌≤◌, [], ◌∷◌, length, refl, arith, length-set}
use Rattle.std.proofs.Common.{length-append}
use Rattle.op_core.specs.declared.count.Order.{Order}
use Rattle.op_core.specs.declared.count.Order.TheVariants.{Write, Append}
use Rattle.op_core.specs.declared.count.Tally.TheVariants.{Open as OpenTally}
use Rattle.path_core.specs.declared.event.Event.{Event}
use Rattle.path_core.specs.declared.event.Event.TheVariants.{Register, Close, OpenGroup}
use Rattle.path_core.specs.declared.event.Event.TheVariants.{MoveCurrent, Expire, Advance}
use Rattle.path_core.specs.declared.state.OrderGroups.{OrderGroups}
use Rattle.path_core.specs.declared.state.PathState.{PathState}
use Rattle.path_core.specs.Parts.{groups_of}
use Rattle.path_core.specs.Allowed.{IsStep}
use Rattle.path_core.specs.Next.{next_of, groups_after}
use Rattle.path_core.specs.Lawful.{IsSized}
use Rattle.path_core.specs.LawfulOrders.{GroupsAreFew, IsOrderly}
use Rattle.path_core.proofs.orders.GroupsMove.{groups_move}
use Rattle.path_core.proofs.places.AtRest.{opens_new}

-- A step that makes a group.
abbrev pub MakesGroup : Event → Type 0
MakesGroup (OpenGroup by o g) = Unit {0}
MakesGroup _ = ⊥

-- any other step makes none
pub as_many_groups : (o : Order) (x : OrderGroups) (e : Event) → (MakesGroup e → ⊥)
    → length (groups_after o x e).tallies ≡ length x.tallies
as_many_groups o x (OpenGroup by p g) n = absurd (n tt)
as_many_groups Write x (Register by Write g) n = length-set x.tallies g _
as_many_groups Append x (Register by Append g) n = length-set x.tallies g _
as_many_groups Write x (Close by Write g c) n = length-set x.tallies g _
as_many_groups Append x (Close by Append g c) n = length-set x.tallies g _
as_many_groups Write x (Expire by Write g) n = length-set x.tallies g _
as_many_groups Append x (Expire by Append g) n = length-set x.tallies g _
as_many_groups Write x (Register by Append g) n = refl
as_many_groups Append x (Register by Write g) n = refl
as_many_groups Write x (Close by Append g c) n = refl
as_many_groups Append x (Close by Write g c) n = refl
as_many_groups Write x (Expire by Append g) n = refl
as_many_groups Append x (Expire by Write g) n = refl
as_many_groups Write x (MoveCurrent by Write g) n = refl
as_many_groups Append x (MoveCurrent by Append g) n = refl
as_many_groups Write x (MoveCurrent by Append g) n = refl
as_many_groups Append x (MoveCurrent by Write g) n = refl
as_many_groups Write x (Advance by Write g) n = refl
as_many_groups Append x (Advance by Append g) n = refl
as_many_groups Write x (Advance by Append g) n = refl
as_many_groups Append x (Advance by Write g) n = refl
as_many_groups o x e n = refl

pub keeps_few : (x : PathState) → IsSized x → IsOrderly x → GroupsAreFew x → (e : Event)
    → IsStep x e → GroupsAreFew (next_of x e)
keeps_few x sized O F e a o = by e a o
  where
    by : (e : Event) → IsStep x e → (o : Order)
        → length (groups_of (next_of x e) o).tallies ≤ (groups_of (next_of x e) o).oldest + 32
    by (OpenGroup b Write g) a Write = let new = opens_new x sized O b Write g a in
        let long = length-append x.write.tallies (OpenTally 0 ∷ []) in
        let free = a.row.3 in omega arith
    by (OpenGroup b Append g) a Append = let new = opens_new x sized O b Append g a in
        let long = length-append x.append.tallies (OpenTally 0 ∷ []) in
        let free = a.row.3 in omega arith
    by (OpenGroup b Append g) a Write = F Write
    by (OpenGroup b Write g) a Append = F Append
    by e a Write = let same = as_many_groups Write x.write e (λ b. b) in
        let up = (groups_move x O Write e a).oldest in let few = F Write in omega arith
    by e a Append = let same = as_many_groups Append x.append e (λ b. b) in
        let up = (groups_move x O Append e a).oldest in let few = F Append in omega arith
