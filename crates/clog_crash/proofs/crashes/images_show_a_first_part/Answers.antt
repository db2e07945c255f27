use Rattle.std.proofs.Common.{refl, ◌≡◌}
use Rattle.std.specs.FinMap as finmap
use Rattle.clog_crash.proofs.life.Shown.{shown_by}
use Rattle.clog_crash.proofs.rest.Shown.{shown}
use Rattle.clog_crash.proofs.crashes.images_show_a_first_part.Goals as goal

pub returns-clause-now : goal.returns-clause-now
returns-clause-now c f image id old kept more in_f lasting =
    shown f id old kept more in_f (λ name left. left ≡ finmap.get image name) lasting image
    (λ name. refl)

pub returns-clause-since : goal.returns-clause-since
returns-clause-since c f image r past id old kept more in_f lasting restores =
    shown_by f r past id old more image restores
    (shown f id old kept more in_f (λ name left. left ≡ finmap.get image name) lasting image
    (λ name. refl))
