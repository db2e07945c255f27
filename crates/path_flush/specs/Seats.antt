-- Which seat of a path it is.
use Rattle.std.specs.Prelude.{◌≡◌}
use Rattle.atomic_table.specs.Seated.{TableId}
use Rattle.path_rule.specs.declared.view.PathSize.{PathSize}
use Rattle.path_table.specs.declared.table.Member.{Member}
use Rattle.path_table.specs.Members.{IsOf}

-- It is the same seat of the path, whose table has this id and these sizes.
abbrev pub Stays : {K : Type 0} → TableId → PathSize → Member K → Member K → Type 0
Stays id size m m' = IsOf id size m' × (m'.number ≡ m.number)
