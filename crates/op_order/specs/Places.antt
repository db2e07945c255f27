-- What a place is, and what an operation that has looked has.
--
-- The place of sequence s is s modulo the number of places. `sequence` is that of the root, and
-- `oldest` the oldest group.
use Rattle.std.specs.Prelude.{◌≡◌, ◌≢◌, ◌⊎◌, ℕ, suc, ◌+◌, ◌%◌, ◌<◌, ◌≤◌, List, slice_index, Some}
use Rattle.op_order.specs.declared.view.OwnerPart.{OwnerPart}
use Rattle.op_order.specs.declared.view.ReaderPart.{ReaderPart}
use Rattle.op_order.specs.Law.{value_of}
use Rattle.op_order.specs.Rule.{value_at}

module _ (places oldest sequence : ℕ) where
  -- the place of the last published value
  abbrev pub IsRoot : ℕ → Type 0
  IsRoot i = sequence % places ≡ i

  -- the place of an earlier one, s: its barrier is group s, and that is not passed
  abbrev pub IsRetired : ℕ → ℕ → Type 0
  IsRetired i s = (oldest ≤ s) × (s < sequence) × (s % places ≡ i)

  abbrev pub IsFree : ℕ → Type 0
  IsFree i = (s : ℕ) → oldest ≤ s → s ≤ sequence → s % places ≢ i

  -- exactly one of the three
  pub record HasOne (i : ℕ) : Type 0 where
    pub some : IsRoot i ⊎ (((s : ℕ) × IsRetired i s) ⊎ IsFree i)
    pub root_alone : IsRoot i → (s : ℕ) → IsRetired i s → ⊥
    pub retired_once : (s z : ℕ) → IsRetired i s → IsRetired i z → s ≡ z
    pub root_not_free : IsRoot i → IsFree i → ⊥
    pub retired_not_free : (s : ℕ) → IsRetired i s → IsFree i → ⊥

-- What the next publication makes of the places: a free one is the root then, the root is retired,
-- and each other one stays what it is.
pub record PublicationMoves (places oldest sequence : ℕ) : Type 0 where
  pub taken : IsFree places oldest sequence (suc sequence % places)
  pub root : IsRoot places oldest (suc sequence) (suc sequence % places)
  pub retired : IsRetired places oldest (suc sequence) (sequence % places) sequence
  pub stays_free : (i : ℕ) → i ≢ suc sequence % places → IsFree places oldest sequence i
      → IsFree places oldest (suc sequence) i
  pub stays_retired : (i s : ℕ) → IsRetired places oldest sequence i s
      → IsRetired places oldest (suc sequence) i s

-- What the oldest group makes of the places when it moves over n groups: the places retired behind
-- these are free then, each of them once, and each other one stays what it is.
pub record AdvanceFrees (places oldest sequence n : ℕ) : Type 0 where
  pub freed : (s : ℕ) → oldest ≤ s → s < oldest + n
      → IsRetired places oldest sequence (s % places) s
      × IsFree places (oldest + n) sequence (s % places)
  pub once : (s z : ℕ) → oldest ≤ s → s < oldest + n → oldest ≤ z → z < oldest + n
      → s % places ≡ z % places → s ≡ z
  pub stays_free : (i : ℕ) → IsFree places oldest sequence i
      → IsFree places (oldest + n) sequence i
  pub stays_retired : (i s : ℕ) → oldest + n ≤ s → IsRetired places oldest sequence i s
      → IsRetired places (oldest + n) sequence i s

-- The place at which an operation looked is the root, or retired behind its group; and its word
-- is the value that was published there.
pub record HasPlace (fits : ℕ → ℕ → Type 0) (places : ℕ) (part : OwnerPart) (words : List ℕ)
    (r : ReaderPart) (s : ℕ) : Type 0 where
  pub group : ℕ
  pub own : r.group ≡ Some group
  pub below : group ≤ s
  pub place : (s ≡ part.sequence) ⊎ IsRetired places part.oldest part.sequence (s % places) s
  pub value : slice_index words (value_at places s) ≡ value_of part.values s
  pub fit : fits s (value_of part.values s)
