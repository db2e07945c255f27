-- Table files that a keeper has put, one behind the other.
use Rattle.std.specs.Prelude.{◌≡◌, ◌≤◌, List, ◌∷◌, ◌++◌}
use Rattle.path_core.specs.Keeper.{PutFile, upper_from}

-- each begins where the last one of its table in front of it ended, or at 0, and does not end below
abbrev pub AreInSequence : List PutFile → Type 0
AreInSequence files = (front rest : List PutFile) (f : PutFile) → files ≡ front ++ f ∷ rest
    → (f.lower ≡ upper_from f.table 0 front) × (f.lower ≤ f.upper)
