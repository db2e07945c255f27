-- What a lawful state is, in the words of places and operations.
use Rattle.std.specs.Prelude.{◌≡◌, ◌≢◌, ℕ, suc, ◌+◌, ◌%◌, ◌<◌, ◌≤◌, List, slice_index, Some}
use mathlib.Core.Option.{some}
use lib.ListN.{get_elem?}
use Rattle.atomic_table.specs.Table.{State}
use Rattle.op_core.specs.declared.count.Tally.{Tally}
use Rattle.op_core.specs.Tallies.{tally_at}
use Rattle.op_core.specs.CountWords.{count_word}
use Rattle.op_order.specs.declared.view.OwnerPart.{OwnerPart}
use Rattle.op_order.specs.declared.view.ReaderPart.{ReaderPart}
use Rattle.op_order.specs.declared.view.View.{View}
use Rattle.op_order.specs.declared.view.View.TheVariants.{Owns, Reads}
use Rattle.op_order.specs.Law.{top_of, value_of, CountsAre}
use Rattle.op_order.specs.Places.{HasOne, HasPlace, IsFree}
use Rattle.op_order.specs.Rule.{count_at, root_word, value_at}

-- some reader's operation has looked at the root of this sequence
abbrev pub IsReadBy : List View → ℕ → ReaderPart → ℕ → Type 0
IsReadBy views j r s = (get_elem? views j ≡ some (Reads r)) × (r.looked ≡ Some s)

-- some reader's operation runs in this group
abbrev pub RunsIn : List View → ℕ → ReaderPart → ℕ → Type 0
RunsIn views j r g = (get_elem? views j ≡ some (Reads r)) × (r.group ≡ Some g)

-- `part` is what the owner knows; that some view is the owner's, each of its steps shows.
pub record IsLawfulAt (fits : ℕ → ℕ → Type 0) (places : ℕ) (part : OwnerPart) {S : Type 0}
    (s : State S View) : Type 0 where
  -- the owner knows this part, and it alone changes it
  pub owned : (j : ℕ) (p : OwnerPart) → get_elem? s.views j ≡ some (Owns p) → p ≡ part
  pub root : slice_index s.words 0 ≡ root_word places part.sequence
  pub each : (i : ℕ) → i < places → HasOne places part.oldest part.sequence i
  pub current : slice_index s.words 1 ≡ part.current
  pub oldest : slice_index s.words 2 ≡ part.oldest
  -- the words have the values of the places in use, and each value published fits its sequence
  pub values : (z : ℕ) → part.oldest ≤ z → z ≤ part.sequence
      → slice_index s.words (value_at places z) ≡ value_of part.values z
  pub fit : (z : ℕ) → z ≤ part.sequence → fits z (value_of part.values z)
  -- The counts of the groups: which are open, which expired, which finished; each tells as many
  -- operations as run in its group, and so do the words from the oldest group to the last one.
  pub tallies : List Tally
  pub groups : CountsAre part tallies s.views
  pub counted : (g : ℕ) → part.oldest ≤ g → g ≤ top_of part.stage part.current
      → slice_index s.words (count_at places g) ≡ count_word g (tally_at tallies g)
  -- no operation runs in a group that is passed, nor in one that is not yet the current one
  pub runs : (j g : ℕ) (r : ReaderPart) → RunsIn s.views j r g
      → (part.oldest ≤ g) × (g ≤ part.current)
  pub held : (j z : ℕ) (r : ReaderPart) → IsReadBy s.views j r z
      → HasPlace fits places part s.words r z
  -- the place that is written next, where the owner may write one
  pub next_free : suc part.sequence < part.oldest + places
      → IsFree places part.oldest part.sequence (suc part.sequence % places)
  -- It is no place that an operation which runs has looked at: each look of an operation finds a
  -- sequence at or above its group.
  pub next_unread : suc part.sequence < part.oldest + places → (j g z : ℕ) (r : ReaderPart)
      → RunsIn s.views j r g → g ≤ z → z ≤ part.sequence
      → z % places ≢ suc part.sequence % places
