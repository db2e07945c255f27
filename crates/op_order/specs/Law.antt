-- The state of an order, and when it is lawful.
--
-- The place of sequence s is s modulo the number of places, and its barrier is group s: the owner
-- makes one group for each publication. So the places in use are those of the sequences from the
-- oldest group on, and which place is free, the root, or retired with which barrier is told by
-- three numbers.
use Rattle.std.specs.Prelude.{◌≡◌, ℕ, suc, ◌+◌, ◌<◌, ◌≤◌, Bool, true, false, ◌==◌, List, length}
use Rattle.std.specs.Prelude.{get_or, Option, Some, None}
use Rattle.std.specs.List.{count_by}
use mathlib.Core.Option.{some}
use lib.ListN.{get_elem?}
use Rattle.op_core.specs.declared.count.Tally.{Tally}
use Rattle.op_core.specs.declared.count.Tally.TheVariants.{Expired}
use Rattle.op_core.specs.Tallies.{tally_at}
use Rattle.op_order.specs.Groups.{GroupsAre}
use Rattle.op_order.specs.declared.view.OwnerPart.{OwnerPart}
use Rattle.op_order.specs.declared.view.ReaderPart.{ReaderPart}
use Rattle.op_order.specs.declared.view.Stage.{Stage}
use Rattle.op_order.specs.declared.view.Stage.TheVariants.{Rest, Stored, Rooted, Opened, Moved}
use Rattle.op_order.specs.declared.view.View.{View}
use Rattle.op_order.specs.declared.view.View.TheVariants.{Owns, Reads}

-- the last group that was made, where `current` is the current one
abbrev pub top_of : Stage → ℕ → ℕ
top_of Rest c = c
top_of Stored c = c
top_of Rooted c = c
top_of Opened c = suc c
top_of Moved c = c

-- the current group and the sequence of the root
abbrev pub AreAt : Stage → ℕ → ℕ → Type 0
AreAt Rest c n = c ≡ n
AreAt Stored c n = c ≡ n
AreAt Rooted c n = suc c ≡ n
AreAt Opened c n = suc c ≡ n
AreAt Moved c n = c ≡ n

-- the group before the current one is not yet expired
abbrev pub is_moved : Stage → Bool
is_moved Rest = false
is_moved Stored = false
is_moved Rooted = false
is_moved Opened = false
is_moved Moved = true

-- the group is this one
abbrev pub is_at : ℕ → Option ℕ → Bool
is_at g None = false
is_at g (Some h) = h == g

-- an operation of the group runs
abbrev pub is_in : ℕ → View → Bool
is_in g (Owns p) = false
is_in g (Reads r) = is_at g r.group

-- What is true of a reader. Its operation's group is at or below the barrier of the place at which
-- it looked: so that place is retired, or the root.
pub record LooksAt (part : OwnerPart) (r : ReaderPart) : Type 0 where
  pub looked : (s : ℕ) → r.looked ≡ Some s
      → (g : ℕ) × (r.group ≡ Some g) × (g ≤ s) × (s ≤ part.sequence)
  pub seen : r.seen ≤ part.sequence
  pub found : r.current ≤ part.current

-- What a seat knows: the owner, of which there is one, all of its part.
abbrev pub Knows : ℕ → OwnerPart → ℕ → View → Type 0
Knows boss part j (Owns q) = (j ≡ boss) × (q ≡ part)
Knows boss part j (Reads r) = LooksAt part r

-- the value that was published under a sequence
abbrev pub value_of : List ℕ → ℕ → ℕ
value_of values s = get_or values s 0

-- The groups, and the operations that are counted.
pub record CountsAre (part : OwnerPart) (tallies : List Tally) (views : List View) : Type 0 where
  pub groups : GroupsAre (is_moved part.stage) part.current part.oldest
      (top_of part.stage part.current) tallies (λ g. count_by (is_in g) views)
  -- what the owner found finished is so
  pub gone : part.gone ≡ true → tally_at tallies part.oldest ≡ Expired 0

-- The publications, and that the places in use are not more than there are.
pub record ValuesAre (fits : ℕ → ℕ → Type 0) (places : ℕ) (part : OwnerPart) : Type 0 where
  pub stands : AreAt part.stage part.current part.sequence
  pub small : part.sequence ≤ 1099511627776
  pub listed : length part.values ≡ suc part.sequence
  pub fit : (s : ℕ) → s ≤ part.sequence → fits s (value_of part.values s)
  pub room : part.sequence < part.oldest + places
  -- what is stored and not yet published stands in a free place
  pub next : part.stage ≡ Stored
      → fits (suc part.sequence) part.next × (suc part.sequence < part.oldest + places)
      × (part.sequence < 1099511627776)

-- All that is true of an order at each moment.
pub record IsLawful (fits : ℕ → ℕ → Type 0) (places boss : ℕ) (tallies : List Tally)
    (part : OwnerPart) (views : List View) : Type 0 where
  pub sized : (2 ≤ places) × (places ≤ 1024)
  pub chain : CountsAre part tallies views
  pub values : ValuesAre fits places part
  pub few : length views ≤ 64
  pub seated : length views ≡ part.seats
  pub knows : (j : ℕ) (v : View) → get_elem? views j ≡ some v → Knows boss part j v
