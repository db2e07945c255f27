-- Lists of allowed steps, and the state that they begin in.
use Rattle.std.specs.Prelude.{◌≡◌, ℕ, List, [], ◌∷◌, replicate}
use Rattle.clog_base.specs.Sizes.{IsWithinLimits}
use Rattle.op_core.specs.declared.count.Tally.TheVariants.{Open}
use Rattle.path_core.specs.declared.event.Event.{Event}
use Rattle.path_core.specs.declared.state.OrderGroups.{OrderGroups}
use Rattle.path_core.specs.declared.state.PathState.{PathState}
use Rattle.path_core.specs.Keys.{first_offset}
use Rattle.path_core.specs.Parts.{fresh_seat, fresh_table}
use Rattle.path_core.specs.Allowed.{IsAllowed, IsStep}
use Rattle.path_core.specs.Next.{next_of}
use Rattle.path_core.specs.Whole.{CarriesWhole}

-- group 0, open and empty
abbrev pub first_group : OrderGroups
first_group = record { tallies = Open 0 ∷ []; current = 0; oldest = 0 }

-- The opening of a path over some tables and seats: the log is at its first key, group 0 of each
-- order is open, memtable 0 of each table is live, and all else is empty.
abbrev pub opening : ℕ → ℕ → ℕ → ℕ → ℕ → PathState
opening tables seats capacity ordinals base = record {
  base = base;
  capacity = capacity;
  ordinals = ordinals;
  log = first_offset;
  claims = [];
  notes = [];
  write = first_group;
  append = first_group;
  tables = replicate tables fresh_table;
  placed = [];
  seats = replicate seats fresh_seat;
  synced = 0;
  stopped = 0;
  logged = [];
  files = [];
  dropped = [];
}

-- x is such an opening, with sizes within the limits
pub record IsOpening (x : PathState) : Type 0 where
  pub tables : ℕ
  pub seats : ℕ
  pub limits : IsWithinLimits tables seats x.capacity x.ordinals
  pub is : x ≡ opening tables seats x.capacity x.ordinals x.base

-- y is the state after these steps, the first one first. Each was allowed and carried whole notes.
abbrev pub Run : PathState → List Event → PathState → Type 0
Run x [] y = x ≡ y
Run x (e ∷ es) y = CarriesWhole e × IsAllowed x e × Run (next_of x e) es y

-- y is the state after these steps, the newest one first. Each was a step of the law, so barriers
-- may have been issued for nothing, and carried whole notes.
abbrev pub Past : PathState → List Event → PathState → Type 0
Past x [] y = x ≡ y
Past x (e ∷ es) y =
    (z : PathState) × Past x es z × CarriesWhole e × IsStep z e × (next_of z e ≡ y)
