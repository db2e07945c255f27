-- What one thread took of the entries of a folder is its log.
use Rattle.std.proofs.Common.{ℕ, List, map, false, Option, Some, None, IfSome, Result, Ok}
use Rattle.std.proofs.Common.{refl, subst}
use Rattle.clog_base.specs.declared.position.Position.{Position}
use Rattle.clog_disk.specs.Files.{Files}
use Rattle.clog_folder.specs.declared.fault.OpenFault.{OpenFault}
use Rattle.clog_folder.specs.declared.tables.TableHeld.{TableHeld}
use Rattle.clog_folder.specs.Segments.{Row}
use Rattle.replay_merge.specs.Entries.{Entry as Item}
use Rattle.replay_merge.specs.declared.piped.Piped.{Piped}
use Rattle.replay_merge.specs.Logged.{AreLogged, IsLogged, IsTop}
use Rattle.replay_merge.specs.Piped.{IsDone, IsGood, IsLeastRefused, placed_of}
use Rattle.replay_merge.specs.Places.{GivesPlaces, HaveGiven}
use Rattle.replay_merge.specs.Settling.{SettlesTo}
use Rattle.replay_merge.specs.Taking.{IsTakenOf}
use Rattle.replay_merge.proofs.Kept.{AllGood, all_picked, keeps_places}
use Rattle.replay_merge.proofs.Picked.{picks_whole}

are_logged : (files : Option Files) (rows : List Row) (items : List Item) → AllGood items
    → IfSome files (λ held. HaveGiven false held rows items)
    → IfSome files (AreLogged rows (map placed_of items))
are_logged None rows items all given = tt
are_logged (Some files) rows items all given =
    let keeps = keeps_places files false given.greatest rows items items given.given
    (all_picked items all) (λ strict. all) in
    record {
      helds = keeps.helds;
      have = record { greatest = given.greatest; top = given.top; held = keeps.are_held };
      payloads = keeps.payloads;
    }

pub is_logged : (files : Option Files) (f n : ℕ) (rows : List Row) (items : List Item)
    (tables : List TableHeld) (streamed : Result Unit OpenFault) (piped : Option Piped)
    (s : Piped) (top : Position) → GivesPlaces false files f n rows items streamed
    → IfSome piped (IsDone tables items) → SettlesTo false streamed piped (Ok s)
    → IsTop (map placed_of items) top
    → IsLogged files tables rows (record { cells = s.merged.cells; top = top })
is_logged files f n rows items tables streamed piped s top given done is reaches =
    let so : IsDone tables items s =
    subst (λ (p : Option Piped). IfSome p (IsDone tables items)) is.1.0 done in
    let all : AllGood items = subst (IsLeastRefused items) (is.1.1 refl) so.first in
    let taken : IsTakenOf tables (map placed_of items) s.merged =
    subst (λ (xs : List Item). IsTakenOf tables (map placed_of xs) s.merged)
    (picks_whole IsGood items so.good all so.picks) so.taken in
    record {
      ps = map placed_of items;
      live = record {
        log = taken.log;
        say = taken.say;
        merged = s.merged;
        taken = taken.taken;
        cells_are = refl;
      };
      top = reaches;
      told = are_logged files rows items all
          (subst (GivesPlaces false files f n rows items) is.0 given);
    }
