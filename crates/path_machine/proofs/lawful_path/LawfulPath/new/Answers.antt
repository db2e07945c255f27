use Rattle.std.proofs.Common.{sym, subst}
use Rattle.path_core.specs.Lawful.{IsLawfulPath}
use Rattle.path_core.proofs.runs.EveryRun.{opening_lawful}
use Rattle.path_machine.proofs.lawful_path.LawfulPath.new.Goals as goal

pub invariant_of-result : goal.invariant_of-result
invariant_of-result c =
    let sizes = c.args.sizes in (
      ∣ subst IsLawfulPath (sym c.in_ok-new.ensures) (opening_lawful sizes.tables sizes.writers
          sizes.capacity sizes.ordinals c.args.base sizes.within) ∣₁,
      _,
    )
