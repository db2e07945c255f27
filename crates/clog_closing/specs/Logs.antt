-- The segments that a log has appended to.
use Rattle.std.specs.Prelude.{ℕ, ◌<◌, Bool, nat_lt, List, length, map, Contains}
use Rattle.std.specs.List.{AllPairs, filter}
use Rattle.clog_crash.specs.Log.{Write}
use Rattle.clog_crash.specs.Sections.{IsStored}

-- a section was written to it
abbrev pub has_sections : Write → Bool
has_sections w = nat_lt 0 (length w.sections)

abbrev pub id_of : Write → ℕ
id_of w = w.id

-- the ids of those to which a section was written, in their order
abbrev pub written_ids : List Write → List ℕ
written_ids writes = map id_of (filter has_sections writes)

-- Each segment can hold its sections, and they stand in the order of their ids.
pub record AreStoredInOrder (writes : List Write) : Type 0 where
  pub stored : (w : Write) → Contains writes w → IsStored w.id w.sections
  pub rise : AllPairs (λ (a b : Write). a.id < b.id) writes
