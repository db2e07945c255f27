use Rattle.clog_closing.proofs.Dropping.{droppable_may_go, may_be_droppable}
use Rattle.clog_closing.proofs.laws.segments_may_go_that_are_droppable.Goals as goal

pub returns : goal.returns
returns c h history o is are none =
    let few = h.sizes.within.greatest_capacity in (
      may_be_droppable h history few is are o,
      droppable_may_go h history few is are o none,
    )
