-- What the words of a ring show of the groups from the oldest to the last one made.
--
-- The ring is a function, `cell`, from its places to their words: so any row of words may have it.
use Rattle.std.specs.Prelude.{◌≡◌, ◌⊎◌, ℕ, ◌%◌, ◌^◌, ◌<◌, ◌≤◌}
use Rattle.op_core.specs.declared.count.Tally.{Tally}
use Rattle.op_core.specs.CountWords.{count_word}

-- a group in the chain has the word at this place
pub record HasWord (rows oldest top place : ℕ) : Type 0 where
  pub group : ℕ
  pub low : oldest ≤ group
  pub high : group ≤ top
  pub is_at : group % rows ≡ place

-- Each group in the chain has its word, and no other place reads as one that is open.
pub record RingShows (rows oldest top : ℕ) (cell : ℕ → ℕ) (tally : ℕ → Tally) : Type 0 where
  pub shown : (g : ℕ) → oldest ≤ g → g ≤ top → cell (g % rows) ≡ count_word g (tally g)
  -- what no group in the chain has is marked expired
  pub each : (i : ℕ) → i < rows → HasWord rows oldest top i ⊎ (2 ^ 63 ≤ cell i)
