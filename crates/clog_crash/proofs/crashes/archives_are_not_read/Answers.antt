use Rattle.std.proofs.Common.{[], ◌∷◌, refl, sym, arith}
use Rattle.std.specs.FinMap as finmap
use Rattle.clog_spec.specs.Names.{archive_name_of}
use Rattle.clog_base.proofs.Members.{here}
use Rattle.clog_disk.specs.Files.{bytes_at, no_files}
use Rattle.clog_disk.proofs.Named.{put_here, put_there}
use Rattle.clog_scan.specs.declared.answer.End.TheVariants.{Clean}
use Rattle.clog_crash.specs.Changes.{DiffersAt}
use Rattle.clog_crash.specs.Worked.{the_segment}
use Rattle.clog_crash.proofs.flush.Linked.{archives_are_unread, restored_stays}
use Rattle.clog_crash.proofs.rest.Standing.{reads_same}
use Rattle.clog_crash.proofs.worked.Files.{held, the_entry}
use Rattle.clog_crash.proofs.crashes.archives_are_not_read.Goals as goal

pub returns-clause-holds : goal.returns-clause-holds
returns-clause-holds c files name bytes id entries end entry named holds listed = record {
  name = name;
  named = named;
  bytes = bytes;
  there = put_here files name bytes;
  entries = entries;
  end = end;
  holds = holds;
  listed = listed;
}

pub returns-clause-row : goal.returns-clause-row
returns-clause-row c = record {
  name = archive_name_of 1000;
  named = record { form = refl; id_fits = omega arith };
  bytes = the_segment;
  there = put_here no_files (archive_name_of 1000) the_segment;
  entries = the_entry ∷ [];
  end = Clean 60;
  holds = held;
  listed = here the_entry [];
}

pub returns-clause-restores : goal.returns-clause-restores
returns-clause-restores c files name bytes id named pair =
    let now = finmap.insert files name bytes in
    let forth : DiffersAt name (bytes_at files) (bytes_at now) =
    λ n apart. reads_same files now n (put_there files name bytes n apart) in
    let back : DiffersAt name (bytes_at now) (bytes_at files) = λ n apart. sym (forth n apart) in
    let unread = archives_are_unread name id named in (
      restored_stays name unread (bytes_at now) (bytes_at files) back forth pair,
      restored_stays name unread (bytes_at files) (bytes_at now) forth back pair,
    )
