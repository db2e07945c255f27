use Rattle.std.proofs.Common.{refl, arith}
use Rattle.path_rule.specs.Boxes.{desk_box}
use Rattle.path_rule.proofs.boxes.OneHolder.{desk_free}
use Rattle.path_rule.proofs.log.FilingStays.{dropped_at_home}
use Rattle.path_rule.specs.Lasts.{shows_of}
use Rattle.path_rule.proofs.laws.the_keeper_at_home_shows_what_is_lasting.Goals as goal

pub returns : goal.returns
returns g c = λ o size s r free.
    let home = r.boxed.at_home desk_box (omega arith)
    (desk_free (shows_of g.K.Keeper.holds) o size s r free) in (
      home.0,
      home.1,
      home.2.desk refl,
      r.filing.ranged,
      λ ordinal h. dropped_at_home r.core size r.filed r.dropped r.filing free ordinal h,
    )
