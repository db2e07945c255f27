-- A worked row: into an empty folder segment 1000 is written, with one section of one entry.
use Rattle.std.specs.Prelude.{List, [], ◌∷◌}
use Rattle.clog_mutation.specs.Payload.{payload_of}
use Rattle.clog_scan.specs.Cut.{Section}
use Rattle.clog_crash.specs.Worked.{the_mutation}

abbrev pub the_section : Section
the_section = record { until = 60; payloads = payload_of the_mutation ∷ [] }

abbrev pub one_section : List Section
one_section = the_section ∷ []
