-- Groups only go forward: what is current and oldest only grows, and what is finished stays so. So
-- a passed barrier stays passed.
use Rattle.std.proofs.Common.{
  ◌≡◌,
  ℕ,
  suc,
  ◌≤◌,
  true,
  ◌++◌,
  [],
  ◌∷◌,
  length,
  Some,
  refl,
  sym,
  ap,
  ◌∙◌,
  subst,
  arith,
  length-set,
  length-append,
  get_or-set_other,
}
use Rattle.std.proofs.lemmas.Bool.{cond_both, false≢true}
use mathlib.Core.Logic.{dite}
use native.Mathlib.Decide.{ℕ_discrete}
use Rattle.op_core.specs.declared.count.Order.{Order}
use Rattle.op_core.specs.declared.count.Order.TheVariants.{Write, Append}
use Rattle.op_core.specs.declared.count.Tally.{Tally}
use Rattle.op_core.specs.declared.count.Tally.TheVariants.{Open as OpenTally, Expired}
use Rattle.op_core.specs.Tallies.{is_same_order, IsOpen, tally_at, one_more, one_less, expired}
use Rattle.path_core.specs.declared.event.Event.{Event}
use Rattle.path_core.specs.declared.event.Event.TheVariants.{
  Register,
  Close,
  OpenGroup,
  MoveCurrent,
  Expire,
  Advance,
}
use Rattle.path_core.specs.declared.state.OrderGroups.{OrderGroups}
use Rattle.path_core.specs.declared.state.PathState.{PathState}
use Rattle.path_core.specs.Parts.{groups_of, tally_of, seat_of, group_in, HasPassedBarrier}
use Rattle.path_core.specs.Allowed.{IsStep}
use Rattle.path_core.specs.Next.{next_of, groups_after, with_tally}
use Rattle.path_core.specs.LawfulOrders.{IsOrderly}
use Rattle.path_core.proofs.lists.Replaced.{default_put}
use Rattle.path_core.proofs.orders.NobodyAbove.{inhabited}
use Rattle.path_core.proofs.tables.KeepsBarriers.{barrier_stays}

-- How the groups of an order may move.
pub record GroupsMove (groups after : OrderGroups) : Type 0 where
  pub current : groups.current ≤ after.current
  pub oldest : groups.oldest ≤ after.oldest
  pub made : length groups.tallies ≤ length after.tallies
  pub finished : (g : ℕ) → tally_at groups.tallies g ≡ Expired 0
      → tally_at after.tallies g ≡ Expired 0

-- groups that a step leaves
groups_still : (groups : OrderGroups) → GroupsMove groups groups
groups_still groups = record {
  current = omega arith;
  oldest = omega arith;
  made = omega arith;
  finished = λ g h. h;
}

-- the count of a group that is not finished changes
count_moves : (groups : OrderGroups) (group : ℕ) (f : Tally → Tally)
    → (tally_at groups.tallies group ≡ Expired 0 → ⊥)
    → GroupsMove groups (with_tally groups group f)
count_moves groups group f unfinished = record {
  current = omega arith;
  oldest = omega arith;
  made = let long = length-set groups.tallies group (f (tally_at groups.tallies group)) in
      omega arith;
  finished = λ g h. dite (ℕ_discrete g group)
      (λ e. absurd (unfinished (sym (ap (tally_at groups.tallies) e) ∙ h)))
      (λ n. get_or-set_other groups.tallies group g (f (tally_at groups.tallies group))
      (OpenTally 0) n ∙ h);
}

-- an open group is not finished
open_unfinished : (k : Tally) → IsOpen k → k ≡ Expired 0 → ⊥
open_unfinished k unclosed is = subst IsOpen is unclosed

-- orders that pass the test are one
same_order : (o order : Order) → is_same_order o order ≡ true → order ≡ o
same_order Write Write e = refl
same_order Write Append e = absurd (false≢true e)
same_order Append Write e = absurd (false≢true e)
same_order Append Append e = refl

module _ (x : PathState) (O : IsOrderly x) where
  -- the groups of an order, as a step of any order leaves them
  moves_by : (o : Order) (e : Event) → IsStep x e
      → GroupsMove (groups_of x o) (groups_after o (groups_of x o) e)
  moves_by o (Register by order group) a = cond_both (is_same_order o order)
      (with_tally (groups_of x o) group one_more) (groups_of x o) (GroupsMove (groups_of x o))
      (λ e. count_moves (groups_of x o) group one_more (open_unfinished _
      (subst (λ q. IsOpen (tally_of x q group)) (same_order o order e) a.row.3)))
      (λ _. groups_still (groups_of x o))
  moves_by o (Close by order group carried) a = cond_both (is_same_order o order)
      (with_tally (groups_of x o) group one_less) (groups_of x o) (GroupsMove (groups_of x o))
      (λ e. count_moves (groups_of x o) group one_less (inhabited x O o by group
      (subst (λ q. group_in q (seat_of x by) ≡ Some group) (same_order o order e) a.row.0)))
      (λ _. groups_still (groups_of x o))
  moves_by o (OpenGroup by order group) a = cond_both (is_same_order o order)
      (record (groups_of x o) { tallies = (groups_of x o).tallies ++ OpenTally 0 ∷ [] })
      (groups_of x o) (GroupsMove (groups_of x o))
      (λ e. record {
        current = omega arith;
        oldest = omega arith;
        made = let long = length-append (groups_of x o).tallies (OpenTally 0 ∷ []) in omega arith;
        finished = λ g h. default_put (groups_of x o).tallies (OpenTally 0) g ∙ h;
      })
      (λ _. groups_still (groups_of x o))
  moves_by o (MoveCurrent by order group) a = cond_both (is_same_order o order)
      (record (groups_of x o) { current = group }) (groups_of x o) (GroupsMove (groups_of x o))
      (λ e. let next = subst (λ q. group ≡ suc (groups_of x q).current) (same_order o order e)
      a.row.1 in record {
        current = omega arith;
        oldest = omega arith;
        made = omega arith;
        finished = λ g h. h;
      })
      (λ _. groups_still (groups_of x o))
  moves_by o (Expire by order group) a = cond_both (is_same_order o order)
      (with_tally (groups_of x o) group expired) (groups_of x o) (GroupsMove (groups_of x o))
      (λ e. count_moves (groups_of x o) group expired (open_unfinished _
      (subst (λ q. IsOpen (tally_of x q group)) (same_order o order e) a.row.2)))
      (λ _. groups_still (groups_of x o))
  moves_by o (Advance by order group) a = cond_both (is_same_order o order)
      (record (groups_of x o) { oldest = group }) (groups_of x o) (GroupsMove (groups_of x o))
      (λ e. let next = subst (λ q. group ≡ suc (groups_of x q).oldest) (same_order o order e)
      a.row.1 in record {
        current = omega arith;
        oldest = omega arith;
        made = omega arith;
        finished = λ g h. h;
      })
      (λ _. groups_still (groups_of x o))
  moves_by o e a = groups_still (groups_of x o)

  -- each allowed step moves the groups of an order so
  pub groups_move : (o : Order) (e : Event) → IsStep x e
      → GroupsMove (groups_of x o) (groups_of (next_of x e) o)
  groups_move Write e a = moves_by Write e a
  groups_move Append e a = moves_by Append e a

  -- a passed barrier of a memtable stays passed
  pub passed_stays : (e : Event) → IsStep x e → (t m : ℕ) → HasPassedBarrier x t m
      → HasPassedBarrier (next_of x e) t m
  passed_stays e a t m B = let M = groups_move Write e a in record {
    group = B.group;
    issued = barrier_stays x e a t m B.group B.issued;
    passed = record {
      made = let made = B.passed.made in let more = M.made in omega arith;
      finished = λ g low. M.finished g (B.passed.finished g low);
    };
  }
