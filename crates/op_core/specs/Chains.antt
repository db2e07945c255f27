-- What the calls on groups answer, and what they leave.
--
-- A relation is told the counts of an order's groups, and `becomes`, which says what they become.
use Rattle.std.specs.Prelude.{◌≡◌, ℕ, ◌<◌, ◌≤◌, List, [], ◌∷◌, ◌++◌, length, set, ℤ}
use Rattle.std.specs.Prelude.{Ok, Err}
use Rattle.std.specs.declared.result.Result.{Result}
use Rattle.op_core.specs.declared.count.GroupFault.{GroupFault}
use Rattle.op_core.specs.declared.count.GroupFault.TheVariants.{Expired, NoGroup, Idle, Last}
use Rattle.op_core.specs.declared.count.Order.{Order}
use Rattle.op_core.specs.declared.count.Order.TheVariants.{Write, Append}
use Rattle.op_core.specs.declared.count.Tally.{Tally}
use Rattle.op_core.specs.declared.count.Tally.TheVariants.{Open}
use Rattle.op_core.specs.Tallies.{
  IsOpen,
  running_of,
  number_of,
  one_more,
  one_less,
  expired,
  tally_at,
}

-- the counts of an order's groups, and how many groups may be made
pub record Chain : Type 0 where
  pub tallies : List Tally
  pub limit : ℕ

-- the counts of both orders' groups, and how many of each may be made
pub record OrderTallies : Type 0 where
  pub write : List Tally
  pub append : List Tally
  pub limit : ℕ

abbrev pub tallies_of : OrderTallies → Order → List Tally
tallies_of x Write = x.write
tallies_of x Append = x.append

abbrev pub with_tallies : OrderTallies → Order → List Tally → OrderTallies
with_tallies x Write tallies = record x { write = tallies }
with_tallies x Append tallies = record x { append = tallies }

-- group 0, open and empty
abbrev pub first_group : List Tally
first_group = Open 0 ∷ []

-- the count of a group is below 2^62
abbrev pub IsBelow : List Tally → ℕ → Type 0
IsBelow tallies group = running_of (tally_at tallies group) < 4611686018427387904

-- The group was made, and no operation may register in it.
pub record IsExpiredAt (tallies : List Tally) (group : ℕ) : Type 0 where
  pub made : group < length tallies
  pub expired : ¬ IsOpen (tally_at tallies group)

-- The group was made, and operations may register in it.
pub record IsOpenAt (tallies : List Tally) (group : ℕ) : Type 0 where
  pub made : group < length tallies
  pub open_ : IsOpen (tally_at tallies group)

-- The group was made, and no operation runs in it.
pub record IsIdleAt (tallies : List Tally) (group : ℕ) : Type 0 where
  pub made : group < length tallies
  pub idle : running_of (tally_at tallies group) ≡ 0

pub record IsBusyAt (tallies : List Tally) (group : ℕ) : Type 0 where
  pub made : group < length tallies
  pub busy : 0 < running_of (tally_at tallies group)

-- the count of the group is changed, and the new number answered
abbrev pub Changes : List Tally → ℕ → (Tally → Tally) → ℤ → (List Tally → Type 0) → Type 0
Changes tallies group change n becomes =
    (n ≡ number_of (change (tally_at tallies group)))
    × becomes (set tallies group (change (tally_at tallies group)))

-- nothing changed, and the number found is answered
abbrev pub Found : List Tally → ℕ → ℤ → (List Tally → Type 0) → Type 0
Found tallies group n becomes = (n ≡ number_of (tally_at tallies group)) × becomes tallies

abbrev pub Registers : Result ℤ GroupFault → List Tally → ℕ → (List Tally → Type 0) → Type 0
Registers (Ok n) tallies group becomes =
    IsOpenAt tallies group × Changes tallies group one_more n becomes
Registers (Err (Expired n)) tallies group becomes =
    IsExpiredAt tallies group × Found tallies group n becomes
Registers (Err NoGroup) tallies group becomes = (length tallies ≤ group) × becomes tallies
Registers (Err (Idle n)) tallies group becomes = ⊥
Registers (Err Last) tallies group becomes = ⊥

abbrev pub Closes : Result ℤ GroupFault → List Tally → ℕ → (List Tally → Type 0) → Type 0
Closes (Ok n) tallies group becomes =
    IsBusyAt tallies group × Changes tallies group one_less n becomes
Closes (Err (Idle n)) tallies group becomes =
    IsIdleAt tallies group × Found tallies group n becomes
Closes (Err NoGroup) tallies group becomes = (length tallies ≤ group) × becomes tallies
Closes (Err (Expired n)) tallies group becomes = ⊥
Closes (Err Last) tallies group becomes = ⊥

abbrev pub Expires : Result ℤ GroupFault → List Tally → ℕ → (List Tally → Type 0) → Type 0
Expires (Ok n) tallies group becomes =
    IsOpenAt tallies group × Changes tallies group expired n becomes
Expires (Err (Expired n)) tallies group becomes =
    IsExpiredAt tallies group × Found tallies group n becomes
Expires (Err NoGroup) tallies group becomes = (length tallies ≤ group) × becomes tallies
Expires (Err (Idle n)) tallies group becomes = ⊥
Expires (Err Last) tallies group becomes = ⊥

-- A further group is made, open and empty; its number is answered.
abbrev pub Opens : Result ℕ GroupFault → ℕ → List Tally → (List Tally → Type 0) → Type 0
Opens (Ok group) limit tallies becomes =
    (length tallies < limit) × (group ≡ length tallies) × becomes (tallies ++ Open 0 ∷ [])
Opens (Err Last) limit tallies becomes = (length tallies ≡ limit) × becomes tallies
Opens (Err (Expired n)) limit tallies becomes = ⊥
Opens (Err NoGroup) limit tallies becomes = ⊥
Opens (Err (Idle n)) limit tallies becomes = ⊥
