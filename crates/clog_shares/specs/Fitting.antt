-- Whether the entries of lines fit into segments.
use Rattle.std.specs.Prelude.{◌≡◌, ℕ, ◌+◌, ◌-◌, ◌<◌, ◌≤◌, ◌^◌, min, List, ◌∷◌, ◌++◌, length}
use Rattle.std.specs.List.{AllByRecursion}
use Rattle.clog_mutation.specs.declared.mutation.Mutation.{Mutation}
pub use Rattle.clog_notes.specs.Entries.{entry_limit, entry_size}

abbrev pub HasFittingEntry : ℕ → Mutation → Type 0
HasFittingEntry capacity mutation = entry_size mutation ≤ entry_limit capacity

-- The first mutation whose entry is too large is that of this number, from 1; its size, or the
-- greatest number of 32 bits where the size is greater; and the most that an entry may have.
pub record HasLargeMutation (capacity : ℕ) (mutations : List Mutation) (number size most : ℕ)
    : Type 0 where
  pub front : List Mutation
  pub large : Mutation
  pub rest : List Mutation
  pub parts : mutations ≡ front ++ large ∷ rest
  pub fitting : AllByRecursion (HasFittingEntry capacity) front
  pub number_is : number ≡ length front + 1
  pub over : entry_limit capacity < entry_size large
  pub size_is : size ≡ min (entry_size large) (2 ^ 32 - 1)
  pub most_is : most ≡ entry_limit capacity
