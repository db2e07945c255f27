use Rattle.clog_folder.proofs.SegmentsRead.{greatest_of}
use Rattle.clog_folder.proofs.listing.greatest_id.Goals as goal

pub returns-in-Some : goal.returns-in-Some
returns-in-Some c =
    greatest_of c.args.names.now.entries c.in-Some.place.now _ c.in-Some.ensures.all_up_to
    c.in-Some.ensures.value
