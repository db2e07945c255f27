-- What a publication did.
use Rattle.std.specs.Prelude.{◌≡◌, ◌⊎◌, ℕ, ◌+◌, ◌≤◌, List, length, Some, slice_get}
use mathlib.Core.List.{IsPrefix}
use Rattle.version_list.specs.declared.turn.Show.{Show}
use Rattle.version_list.specs.declared.turn.Show.TheVariants.{Shown, Unshown}

module _ {E : Type 0} where
  -- the seat has seen the entry as member n, behind all that it had seen; or nothing changed
  abbrev pub Shows : Show → E → List E → List E → Type 0
  Shows (Shown n) entry before now = IsPrefix before now × (slice_get now n ≡ Some entry)
      × (length before ≤ n) × (length now ≡ n + 1)
  Shows Unshown entry before now = now ≡ before

  -- what readers find is just what the seat has seen
  abbrev pub IsPublished : Show → List E → List E → Type 0
  IsPublished (Shown n) shown seen = shown ≡ seen
  IsPublished Unshown shown seen = Unit {0}

  -- The seat has added one entry more, which is member n of the list, behind those it had added.
  pub record IsAdded (entry : E) (before now : List E) (had has n : ℕ) : Type 0 where
    pub goes_on : IsPrefix before now
    pub there : slice_get now n ≡ Some entry
    pub behind : length before ≤ n
    pub counted : has ≡ had + 1

  -- What the seat has added then: the entry that is shown; of one that is not, maybe.
  abbrev pub Adds : Show → E → List E → List E → ℕ → ℕ → Type 0
  Adds (Shown n) entry before now had has = IsAdded entry before now had has n
  Adds Unshown entry before now had has = ((now ≡ before) × (has ≡ had))
      ⊎ ((n : ℕ) × IsAdded entry before now had has n)
