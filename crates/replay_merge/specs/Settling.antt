-- What is answered of a folder whose segments were read and merged: for private clauses.
use Rattle.std.specs.Prelude.{◌≡◌, ◌⊎◌, ℕ, List, Bool, false, Option, Some, None, IfSome, ⊤, Result}
use Rattle.std.specs.Prelude.{Ok}
use Rattle.std.specs.declared.result.Result.TheVariants as result
use Rattle.clog_spec.specs.Names.{segment_name_of}
use Rattle.clog_disk.specs.Files.{Files}
use Rattle.clog_entry.specs.declared.cause.Cause.{Cause}
use Rattle.clog_entry.specs.declared.cause.Cause.TheVariants.{Payload}
use Rattle.clog_folder.specs.declared.fault.OpenFault.{OpenFault}
use Rattle.clog_folder.specs.declared.fault.OpenFault.TheVariants as fault
use Rattle.clog_folder.specs.declared.tables.TableHeld.{TableHeld}
use Rattle.clog_folder.specs.Segments.{Row, SegmentsRefused}
use Rattle.replay_merge.specs.Entries.{Entry as Item}
use Rattle.replay_merge.specs.declared.piped.Piped.{Piped}
use Rattle.replay_merge.specs.declared.piped.Refused.{Refused}
use Rattle.replay_merge.specs.Piped.{IsDone}
use Rattle.replay_merge.specs.Places.{HaveGiven}

-- a fault of the disk, or want of memory
abbrev pub IsFirstFault : Result Unit OpenFault → Option OpenFault → Type 0
IsFirstFault (result.Err fault.Disk) first = first ≡ Some fault.Disk
IsFirstFault (result.Err fault.OutOfMemory) first = first ≡ Some fault.OutOfMemory
IsFirstFault other first = first ≡ None

-- The first refused payload is damage of the segment of its id.
pub record IsPayloadDamage (r : Refused) (name : List ℕ) (at : ℕ) (cause : Cause) : Type 0 where
  pub name_is : name ≡ segment_name_of 6 r.id
  pub at_is : at ≡ r.start
  pub cause_is : cause ≡ Payload r.fault

-- what the threads have, or the first refused payload where damage is not passed over
abbrev pub ChecksPiped : Bool → Option Piped → Result Piped OpenFault → Type 0
ChecksPiped ignore piped (result.Ok s) = (piped ≡ Some s) × (ignore ≡ false → s.refused ≡ None)
ChecksPiped ignore piped (result.Err fault.OutOfMemory) = ⊤
ChecksPiped ignore piped (result.Err (fault.Damaged name at cause)) =
    (ignore ≡ false) × ((s : Piped) × ((r : Refused) × (piped ≡ Some s) × (s.refused ≡ Some r)
    × IsPayloadDamage r name at cause))
ChecksPiped ignore piped (result.Err other) = ⊥

-- what is answered of segments that were read so far, and of what was taken of them
abbrev pub SettlesTo : Bool → Result Unit OpenFault → Option Piped → Result Piped OpenFault → Type 0
SettlesTo ignore streamed piped (result.Ok s) =
    (streamed ≡ Ok tt) × ChecksPiped ignore piped (result.Ok s)
SettlesTo ignore streamed piped (result.Err refusal) =
    IsFirstFault streamed (Some refusal)
    ⊎ ((IsFirstFault streamed None × ChecksPiped ignore piped (result.Err refusal))
    ⊎ ((streamed ≡ result.Err refusal) × ((s : Piped) × ChecksPiped ignore piped (result.Ok s))))

-- What was merged is of all entries of the folder; where damage is not passed over, none is
-- refused.
pub record HasPiped (ignore : Bool) (files : Option Files) (tables : List TableHeld)
    (rows : List Row) (s : Piped) : Type 0 where
  pub items : List Item
  pub given : IfSome files (λ held. HaveGiven ignore held rows items)
  pub done : IsDone tables items s
  pub none : ignore ≡ false → s.refused ≡ None

abbrev pub PipesFolder : Bool → Option Files → ℕ → ℕ → List TableHeld → List Row
    → Result Piped OpenFault → Type 0
PipesFolder ignore files faults now tables rows (result.Ok s) = HasPiped ignore files tables rows s
PipesFolder ignore files faults now tables rows (result.Err refusal) =
    SegmentsRefused ignore files faults now refusal
