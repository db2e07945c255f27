-- The lines that the generator makes. Each is made of one number of a sequence that a seed begins.
use Rattle.std.specs.Prelude.{
  ℕ,
  zero,
  suc,
  pos,
  ◌+◌,
  ◌*◌,
  ◌/◌,
  ◌%◌,
  ◌==◌,
  List,
  [],
  ◌∷◌,
  ◌++◌,
  codes,
  decimal,
  if◌then◌else◌,
}
use Rattle.clog_base.specs.declared.cell.Kind.TheVariants.{Deletion, Live}
use Rattle.clog_base.specs.declared.cell.Cell.{Cell}
use Rattle.clog_mutation.specs.declared.mutation.Update.{Update}
use Rattle.clog_mutation.specs.declared.mutation.Mutation.{Mutation}

-- the number behind another one (a linear congruence, modulo 2^32)
abbrev pub next_number : ℕ → ℕ
next_number x = (1664525 * x + 1013904223) % 4294967296

-- the number of a line; the seed stands before line 1
abbrev pub number_of : ℕ → ℕ → ℕ
number_of seed zero = seed
number_of seed (suc i) = next_number (number_of seed i)

-- what a line says, but for a live value, is told by the upper 16 of the 32 bits
abbrev pub upper_half : ℕ → ℕ
upper_half x = x / 65536

-- a sixteenth are deletions
abbrev pub made_cell : ℕ → Cell
made_cell x =
    if (upper_half x % 16) == 15
    then record { ts = pos (upper_half x % 4096); kind = Deletion; value = [] }
    else record {
      ts = pos (upper_half x % 4096);
      kind = Live;
      value = codes "v" ++ decimal x;
    }

-- the update of index j
abbrev pub made_update : ℕ → ℕ → Update
made_update x j = record {
  table = record { 0 = (upper_half x + j) % 3 };
  column = codes "c" ++ decimal (upper_half x / 8 % 8);
  cell = made_cell x;
}

-- one update or two
abbrev pub made_updates : ℕ → List Update
made_updates x =
    if (upper_half x % 2) == 0
    then made_update x 0 ∷ []
    else made_update x 0 ∷ made_update x 1 ∷ []

abbrev pub made_line : ℕ → Mutation
made_line x = record {
  key = codes "k" ++ decimal (upper_half x % 1000);
  updates = made_updates x;
}

-- lines 1 to count
abbrev pub made_lines : ℕ → ℕ → List Mutation
made_lines seed zero = []
made_lines seed (suc count) =
    made_lines seed count ++ made_line (number_of seed (suc count)) ∷ []
