use Rattle.clog_mutation.proofs.LentReading.{some_counted}
use Rattle.clog_mutation.proofs.lending.mutation.Goals as goal

pub first_and_more-requires : goal.first_and_more-requires
first_and_more-requires c =
    some_counted c.args.end c.in_ok-key.rest.now c.in_ok-count.count c.in_ok-count.rest.now
    c.in_ok-count.ensures
