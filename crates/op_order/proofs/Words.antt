-- What one word of a count tells.
use Rattle.std.proofs.Common.{◌≡◌, ℕ, ◌^◌, ◌<◌, ◌≤◌, sym, ap, ◌∙◌, arith}
use Rattle.op_core.specs.declared.count.Tally.{Tally}
use Rattle.op_core.specs.declared.count.Tally.TheVariants.{Open, Expired}
use Rattle.op_core.specs.Tallies.{running_of}
use Rattle.op_core.specs.CountWords.{count_word, number_in, tally_in}
use Rattle.op_core.proofs.CountWords.{number_back, tally_back}

-- that of a finished group is marked
pub marked : (g : ℕ) (k : Tally) → k ≡ Expired 0 → 2 ^ 63 ≤ count_word g k
marked g (Open r) is = absurd (let q : Open r ≡ Expired 0 = is in cc)
marked g (Expired r) is = omega arith

-- two words of small numbers that are one tell the same
pub record SameCount (g h : ℕ) (k l : Tally) : Type 0 where
  pub group : g ≡ h
  pub tally : k ≡ l

pub one_word : (g h : ℕ) (k l : Tally) → g < 2 ^ 47 → h < 2 ^ 47 → running_of k < 65536
    → running_of l < 65536 → count_word g k ≡ count_word h l → SameCount g h k l
one_word g h k l sg sh sr sq e = record {
  group = sym (number_back g k sg sr) ∙ (ap number_in e ∙ number_back h l sh sq);
  tally = sym (tally_back g k sg sr) ∙ (ap tally_in e ∙ tally_back h l sh sq);
}
