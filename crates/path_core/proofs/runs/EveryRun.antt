-- Every run is lawful: the opening is, each allowed step keeps it, and so does each list of steps.
use Rattle.std.proofs.Common.{ℕ, List, [], ◌∷◌, refl, sym, subst}
use mathlib.Core.List.{reverse_aux}
use Rattle.std.specs.List.{Contains, filter}
use Rattle.clog_base.specs.Sizes.{IsWithinLimits}
use Rattle.path_core.specs.declared.event.Event.{Event}
use Rattle.path_core.specs.declared.note.EntryNote.{EntryNote}
use Rattle.path_core.specs.declared.state.PathState.{PathState}
use Rattle.path_core.specs.Allowed.{IsStep}
use Rattle.path_core.specs.Next.{next_of}
use Rattle.path_core.specs.Runs.{opening, IsOpening, Run, Past}
use Rattle.path_core.specs.Whole.{CarriesWhole}
use Rattle.path_core.specs.Lawful.{
  IsLawfulLog,
  IsLawfulCore,
  IsLawfulPlacing,
  IsLawfulLogged,
  IsLawfulFiling,
  IsLawfulPath,
}
use Rattle.path_core.specs.LawfulLog.{is_at_most, LoggedAreNotes, LoggedIsSynced}
use Rattle.path_core.proofs.runs.Loosened.{loosened}
use Rattle.path_core.proofs.lists.Inserted.{map_from}
use Rattle.path_core.proofs.lists.Passing.{filter_from}
use Rattle.path_core.proofs.runs.KeepsLasting.{keeps_logged_part, opening_logged}
use Rattle.path_core.proofs.runs.KeepsFiling.{keeps_filing, opening_filing}

-- what is logged are positions of notes
logged_notes : (x : PathState) → LoggedIsSynced x → LoggedAreNotes x
logged_notes x S position h =
    let r = map_from (λ (n : EntryNote). n.end.0) (filter (is_at_most x.synced) x.notes) position
    (subst (λ l. Contains l position) S.logged h) in
    (r.0, (filter_from (is_at_most x.synced) x.notes r.0 r.1).0, r.2)

-- The parts of a lawful state.
module _ (x : PathState) (L : IsLawfulPath x) where
  pub log_of : IsLawfulLog x
  log_of = record {
    sized = L.sized;
    claims_tile_the_log = L.claims_tile_the_log;
    orders = L.orders;
    own_claim = L.own_claim;
    notes_are_claims = L.notes_are_claims;
    each_claim_noted_once = L.each_claim_noted_once;
    logged_are_notes = logged_notes x L.logged_is_the_synced_part;
    dropped_was_droppable = L.dropped_was_droppable;
  }

  pub core_of : IsLawfulCore x
  core_of = record { log = log_of; switches = L.switches }

  pub placing_of : IsLawfulPlacing x
  placing_of = record { core = core_of; places = L.places }

  logged_of : IsLawfulLogged x
  logged_of = record {
    placing = placing_of;
    barriers_below_current = L.barriers_below_current;
    groups_are_few = L.groups_are_few;
    no_try_below_the_grace = L.no_try_below_the_grace;
    a_switch_has_a_holder = L.a_switch_has_a_holder;
    later_groups_log_above = L.later_groups_log_above;
    synced_below_the_log = L.synced_below_the_log;
    logged_is_the_synced_part = L.logged_is_the_synced_part;
    seats_know = L.seats_know;
  }

  filing_of : IsLawfulFiling x
  filing_of = record {
    placing = placing_of;
    last_file_is_retired = L.last_file_is_retired;
    files_begin = L.files_begin;
    retired_is_filed = L.retired_is_filed;
    running_is_unplaced = L.running_is_unplaced;
    placed_once = L.placed_once;
    closed_is_placed = L.closed_is_placed;
    files_are_true = L.files_are_true;
  }

-- They make it up.
both_parts : (x : PathState) → IsLawfulLogged x → IsLawfulFiling x → IsLawfulPath x
both_parts x G K = let W = G.placing.core in let L = W.log in record {
  sized = L.sized;
  claims_tile_the_log = L.claims_tile_the_log;
  orders = L.orders;
  each_claim_noted_once = L.each_claim_noted_once;
  a_switch_has_a_holder = G.a_switch_has_a_holder;
  switches = W.switches;
  places = G.placing.places;
  placed_once = K.placed_once;
  no_try_below_the_grace = G.no_try_below_the_grace;
  later_groups_log_above = G.later_groups_log_above;
  retired_is_filed = K.retired_is_filed;
  logged_is_the_synced_part = G.logged_is_the_synced_part;
  dropped_was_droppable = L.dropped_was_droppable;
  closed_is_placed = K.closed_is_placed;
  own_claim = L.own_claim;
  notes_are_claims = L.notes_are_claims;
  synced_below_the_log = G.synced_below_the_log;
  barriers_below_current = G.barriers_below_current;
  groups_are_few = G.groups_are_few;
  last_file_is_retired = K.last_file_is_retired;
  files_begin = K.files_begin;
  running_is_unplaced = K.running_is_unplaced;
  files_are_true = K.files_are_true;
  seats_know = G.seats_know;
}

-- Each allowed step keeps that the state is lawful.
pub keeps_lawful : (x : PathState) → IsLawfulPath x → (e : Event) → IsStep x e → CarriesWhole e
    → IsLawfulPath (next_of x e)
keeps_lawful x L e a whole = both_parts (next_of x e)
    (keeps_logged_part x (logged_of x L) e a whole) (keeps_filing x (filing_of x L) e a whole)

-- The opening is lawful.
pub opening_lawful : (tables seats capacity ordinals base : ℕ)
    → IsWithinLimits tables seats capacity ordinals
    → IsLawfulPath (opening tables seats capacity ordinals base)
opening_lawful tables seats capacity ordinals base limits =
    both_parts (opening tables seats capacity ordinals base)
    (opening_logged tables seats capacity ordinals base limits)
    (opening_filing tables seats capacity ordinals base limits)

-- Each list of allowed steps from a lawful state leads to a lawful state.
pub run_lawful : (es : List Event) (x y : PathState) → IsLawfulPath x → Run x es y → IsLawfulPath y
run_lawful [] x y law run = subst IsLawfulPath run law
run_lawful (e ∷ es) x y law run =
    run_lawful es (next_of x e) y (keeps_lawful x law e (loosened x e run.1) run.0) run.2

-- So does each run that is told from its end.
pub past_lawful : (es : List Event) (x y : PathState) → IsLawfulPath x → Past x es y
    → IsLawfulPath y
past_lawful [] x y law past = subst IsLawfulPath past law
past_lawful (e ∷ es) x y law past = subst IsLawfulPath past.4
    (keeps_lawful past.0 (past_lawful es x past.0 law past.1) e past.3 past.2)

-- So each state that an opening leads to is lawful.
pub from_opening : (x y : PathState) (es : List Event) → IsOpening x → Run x es y → IsLawfulPath y
from_opening x y es start run = run_lawful es x y (subst IsLawfulPath (sym start.is)
    (opening_lawful start.tables start.seats x.capacity x.ordinals x.base start.limits)) run

-- So does each that is told from its end.
pub past_from_opening : (x y : PathState) (es : List Event) → IsOpening x → Past x es y
    → IsLawfulPath y
past_from_opening x y es start past = past_lawful es x y (subst IsLawfulPath (sym start.is)
    (opening_lawful start.tables start.seats x.capacity x.ordinals x.base start.limits)) past

-- A list of allowed steps, told from its end, behind what was told before.
pub told_back : (es before : List Event) (x y z : PathState) → Past x before y → Run y es z
    → Past x (reverse_aux es before) z
told_back [] before x y z past run = subst (Past x before) run past
told_back (e ∷ es) before x y z past run = told_back es (e ∷ before) x (next_of y e) z
    (y, past, run.0, loosened y e run.1, refl) run.2
