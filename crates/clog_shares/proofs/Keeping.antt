-- A seat keeps its list over one call, and over a further one.
use Rattle.std.proofs.Common.{◌≡◌, [], refl, ◌∙◌}
use Rattle.atomic_table.specs.Seated.{TableId}
use Rattle.path_rule.specs.declared.view.PathSize.{PathSize}
use Rattle.path_table.specs.declared.table.Member.{Member}
use Rattle.write_path.specs.Commits.{KeepsList}
use Rattle.write_path.proofs.Growing.{both}

pub list_first : {K : Type 0} (id : TableId) (size : PathSize) (m : Member K)
    → (m.seat.table_id ≡ id) × (m.seat.me.0.size ≡ size) → KeepsList id size m m
list_first id size m of = ((of, refl), refl, record { newer = []; is = refl })

pub list_on : {K : Type 0} (id : TableId) (size : PathSize) (m m' m'' : Member K)
    → KeepsList id size m m' → KeepsList id size m' m'' → KeepsList id size m m''
list_on id size m m' m'' A B = (
  (B.0.0, B.0.1 ∙ A.0.1),
  B.1 ∙ A.1,
  both m.seat.me.0.trail m'.seat.me.0.trail m''.seat.me.0.trail A.2 B.2,
)
