-- The changes of a disk: its calls that answered Ok and may have changed a file, in order. They
-- tell what was done to the files, where the files themselves tell only what came of it.
use Rattle.std.specs.Prelude.{
  ◌≡◌,
  ℕ,
  List,
  [],
  ◌∷◌,
  ◌++◌,
  length,
  Option,
  Some,
  None,
  option_map,
  slice_get,
  Result,
  Ok,
  Err,
}
use Rattle.clog_disk.specs.declared.change.Change.{Change}

-- a call that answered Ok adds itself at the end, and one that was refused adds nothing
abbrev pub Adds : {T E : Type 0} → Change → Option (List Change) → Option (List Change)
    → Result T E → Type 0
Adds change before after (Ok x) = after ≡ option_map (λ changes. changes ++ change ∷ []) before
Adds change before after (Err e) = after ≡ before

-- how many there are, and 0 where they are not told
abbrev pub count_of : Option (List Change) → ℕ
count_of None = 0
count_of (Some changes) = length changes

-- the one at a place, from 0
abbrev pub change_at : Option (List Change) → ℕ → Option Change
change_at None n = None
change_at (Some changes) n = slice_get changes n
