-- What rows say of a key.
use Rattle.std.specs.Prelude.{ℕ, ◌==◌, if◌then◌else◌, List, [], ◌∷◌, Option, Some, None}
use Rattle.version_list_tests.specs.declared.row.Row.{Row}

-- what the last of these rows with the key says, and else what was so before
abbrev pub value_after : ℕ → Option ℕ → List Row → Option ℕ
value_after key before [] = before
value_after key before (r ∷ rs) =
    value_after key (if r.key == key then Some r.value else before) rs

-- the value of a key after these rows
abbrev pub value_of : ℕ → List Row → Option ℕ
value_of key rows = value_after key None rows
