-- The word of a group's count. Its highest bit is the expired mark, 47 bits below tell the group's
-- number, and the lowest 16 how many operations run in it. So one more operation is one more in the
-- word, whatever the group.
use Rattle.std.specs.Prelude.{ℕ, ◌+◌, ◌*◌, ◌/◌, ◌%◌, ◌^◌, nat_lt, if◌then◌else◌}
use Rattle.op_core.specs.declared.count.Tally.{Tally}
use Rattle.op_core.specs.declared.count.Tally.TheVariants.{Open, Expired}

-- the word of a group and its count
abbrev pub count_word : ℕ → Tally → ℕ
count_word g (Open r) = r + 65536 * g
count_word g (Expired r) = r + 65536 * g + 2 ^ 63

-- the group's number that a word tells
abbrev pub number_in : ℕ → ℕ
number_in n = (n % (2 ^ 63)) / 65536

-- the count that a word tells
abbrev pub tally_in : ℕ → Tally
tally_in n = if nat_lt n (2 ^ 63) then Open (n % 65536) else Expired (n % 65536)
