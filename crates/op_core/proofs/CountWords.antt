-- What the word of a count tells, and what it becomes where an operation registers or closes, and
-- where the group expires.
use Rattle.std.proofs.Common.{◌≡◌, ℕ, ◌+◌, ◌-◌, ◌*◌, ◌%◌, ◌^◌, ◌<◌, Bool, ap, ◌∙◌, arith, lt-ltb}
use Rattle.std.proofs.Common.{le-ltb}
use Rattle.std.specs.Prelude.{if◌then◌else◌}
use Rattle.op_core.specs.declared.count.Tally.{Tally}
use Rattle.op_core.specs.declared.count.Tally.TheVariants.{Open, Expired}
use Rattle.op_core.specs.Tallies.{running_of, IsOpen, one_more, one_less, expired}
use Rattle.op_core.specs.CountWords.{count_word, number_in, tally_in}

-- a word tells its group's number, and its count
pub number_back : (g : ℕ) (k : Tally) → g < 2 ^ 47 → running_of k < 65536
    → number_in (count_word g k) ≡ g
number_back g (Open r) low few = omega arith
number_back g (Expired r) low few = omega arith

pub tally_back : (g : ℕ) (k : Tally) → g < 2 ^ 47 → running_of k < 65536
    → tally_in (count_word g k) ≡ k
tally_back g (Open r) low few = let n : ℕ = r + 65536 * g in
    ap (λ (b : Bool). if b then Open (n % 65536) else Expired (n % 65536))
    (lt-ltb n (2 ^ 63) (omega arith)) ∙ ap Open (omega arith)
tally_back g (Expired r) low few = let n : ℕ = r + 65536 * g + 2 ^ 63 in
    ap (λ (b : Bool). if b then Open (n % 65536) else Expired (n % 65536))
    (le-ltb n (2 ^ 63) (omega arith)) ∙ ap Expired (omega arith)

-- a word has 64 bits
pub word_small : (g : ℕ) (k : Tally) → g < 2 ^ 47 → running_of k < 65536 → count_word g k < 2 ^ 64
word_small g (Open r) low few = omega arith
word_small g (Expired r) low few = omega arith

-- a word without the mark is of an open group, and one more operation is one more
pub more_word : (g : ℕ) (k : Tally) → count_word g k < 2 ^ 63
    → IsOpen k × (count_word g (one_more k) ≡ count_word g k + 1)
more_word g (Open r) l = (tt, omega arith)
more_word g (Expired r) l = absurd (omega arith)

-- one less is one less, as a word wraps
pub less_word : (g : ℕ) (k : Tally) → 0 < running_of k → count_word g k < 2 ^ 64
    → (count_word g k + (2 ^ 64 - 1)) % 2 ^ 64 ≡ count_word g (one_less k)
less_word g (Open r) l b = omega arith
less_word g (Expired r) l b = omega arith

-- the mark is added once
pub expired_word : (g : ℕ) (k : Tally) → IsOpen k → g < 2 ^ 47 → running_of k < 65536
    → (count_word g k + 2 ^ 63) % 2 ^ 64 ≡ count_word g (expired k)
expired_word g (Open r) unclosed low few = omega arith
expired_word g (Expired r) unclosed low few = absurd unclosed

-- the one word of a finished group
pub finished_word : (g : ℕ) (k : Tally) → running_of k < 65536
    → count_word g k ≡ 65536 * g + 2 ^ 63 → k ≡ Expired 0
finished_word g (Open r) few is = absurd (omega arith)
finished_word g (Expired r) few is = ap Expired (omega arith)

-- words of two groups differ
pub same_group : (g h : ℕ) (j k : Tally) → g < 2 ^ 47 → h < 2 ^ 47 → running_of j < 65536
    → running_of k < 65536 → count_word g j ≡ count_word h k → g ≡ h
same_group g h (Open r) (Open s) a b c d is = omega arith
same_group g h (Open r) (Expired s) a b c d is = absurd (omega arith)
same_group g h (Expired r) (Open s) a b c d is = absurd (omega arith)
same_group g h (Expired r) (Expired s) a b c d is = omega arith
