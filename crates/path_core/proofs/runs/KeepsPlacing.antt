-- The log, groups and turns, memtables, and what is placed in them: what is true of them holds at
-- the opening, and each allowed step keeps it.
use Rattle.path_core.specs.declared.event.Event.{Event}
use Rattle.path_core.specs.declared.state.PathState.{PathState}
use Rattle.path_core.specs.Allowed.{IsStep}
use Rattle.path_core.specs.Next.{next_of}
use Rattle.path_core.specs.Lawful.{IsLawfulLog, IsLawfulCore, IsLawfulPlacing}
use Rattle.path_core.proofs.places.KeepsPlaces.{keeps_places}
use Rattle.path_core.proofs.tables.KeepsSwitches.{keeps_switches}
use Rattle.path_core.specs.Whole.{CarriesWhole}
use Rattle.path_core.proofs.log.KeepsClaims.{keeps_claims}
use Rattle.path_core.proofs.runs.Sizes.{keeps_sizes}
use Rattle.path_core.proofs.log.KeepsNotes.{keeps_notes}
use Rattle.path_core.proofs.log.KeepsOwned.{keeps_owned}
use Rattle.path_core.proofs.log.KeepsNotedOnce.{keeps_noted}
use Rattle.path_core.proofs.log.LoggedStay.{keeps_logged}
use Rattle.path_core.proofs.log.KeepsDropped.{keeps_dropped}
use Rattle.path_core.proofs.orders.KeepsOrders.{keeps_orders}

pub keeps_log : (x : PathState) → IsLawfulLog x → (e : Event) → IsStep x e → CarriesWhole e
    → IsLawfulLog (next_of x e)
keeps_log x L e a whole = record {
  sized = keeps_sizes x L.sized L.orders e a;
  claims_tile_the_log = keeps_claims x L.sized L.claims_tile_the_log e a;
  orders = keeps_orders x L.sized L.orders e a;
  own_claim = keeps_owned x L.sized L.orders L.own_claim e a;
  notes_are_claims = keeps_notes x L.sized L.claims_tile_the_log L.orders L.own_claim
      L.each_claim_noted_once L.notes_are_claims e a whole;
  each_claim_noted_once = keeps_noted x L.sized L.claims_tile_the_log L.orders L.own_claim
      L.each_claim_noted_once L.notes_are_claims e a;
  logged_are_notes = keeps_logged x L.logged_are_notes e;
  dropped_was_droppable = keeps_dropped x L.sized L.claims_tile_the_log L.orders L.own_claim
      L.each_claim_noted_once L.notes_are_claims L.logged_are_notes L.dropped_was_droppable e a;
}

pub keeps_core : (x : PathState) → IsLawfulCore x → (e : Event) → IsStep x e → CarriesWhole e
    → IsLawfulCore (next_of x e)
keeps_core x C e a whole = let L = C.log in record {
  log = keeps_log x L e a whole;
  switches = keeps_switches x L.sized L.claims_tile_the_log L.orders L.own_claim
      C.switches e a;
}

pub keeps_placing : (x : PathState) → IsLawfulPlacing x → (e : Event) → IsStep x e
    → CarriesWhole e
    → IsLawfulPlacing (next_of x e)
keeps_placing x C e a whole = record {
  core = keeps_core x C.core e a whole;
  places = keeps_places x C.core C.places e a;
}
