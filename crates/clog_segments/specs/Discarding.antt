-- What becomes of a log and of its disk where segments are to go.
use Rattle.std.specs.Prelude.{
  ◌≡◌,
  ℕ,
  ◌+◌,
  ◌<◌,
  Bool,
  false,
  List,
  ◌++◌,
  take,
  drop,
  get_or,
  Option,
  option_map,
  Result,
  Ok,
  Err,
  ⊤,
}
use Rattle.clog_disk.specs.declared.change.Change.{Change}
use Rattle.clog_disk.specs.Files.{Files}
use Rattle.clog_segments.specs.declared.section_log.dropping.DropFault.{DropFault}
use Rattle.clog_segments.specs.declared.written.StoreFault.{StoreFault}
use Rattle.clog_segments.specs.declared.written.StoreFault.TheVariants.{Stopped, OutOfMemory}
use Rattle.clog_segments.specs.Beside.{MayBeGoing, NamesSegment, StandsAs, StayButOne}
use Rattle.clog_segments.specs.Discards.{
  AreBehind,
  MayBeNamed,
  all_go_by,
  all_gone_at,
  first_gone_at,
  next_by,
}

-- what a log answered where segments were to go
abbrev pub fault_of : {T : Type 0} → Result T DropFault → Result T StoreFault
fault_of (Ok x) = Ok x
fault_of (Err why) = Err why.fault

-- A log that had stopped has dropped none.
abbrev pub HasDroppedNone : {T : Type 0} → Result T DropFault → Type 0
HasDroppedNone (Ok x) = ⊤
HasDroppedNone (Err why) = (why.dropped ≡ 0) × (why.is_named ≡ false)

-- Of so many segments the first have gone, and not all; the next one may have its archive name,
-- where segments get one.
abbrev pub IsWithin : {T : Type 0} → Bool → ℕ → Result T DropFault → Type 0
IsWithin archives count (Ok x) = ⊤
IsWithin archives count (Err why) = (why.dropped < count) × MayBeNamed archives why.is_named

-- what the files are where a call was refused for memory
abbrev pub IsLeftBy : Bool → ℕ → List ℕ → ℕ → Bool → StoreFault → Option Files → Option Files
    → Type 0
IsLeftBy archives base ordinals dropped is_named OutOfMemory told now =
    now ≡ option_map (first_gone_at archives base ordinals dropped is_named) told
IsLeftBy archives base ordinals dropped is_named Stopped told now = ⊤

-- All have gone; where memory was refused the first of them, and the next one has perhaps its
-- archive name. No other file has changed.
abbrev pub DropsFiles : {T : Type 0} → Bool → ℕ → List ℕ → Option Files → Option Files
    → Result T DropFault → Type 0
DropsFiles archives base ordinals told now (Ok x) =
    now ≡ option_map (all_gone_at archives base ordinals) told
DropsFiles archives base ordinals told now (Err why) =
    IsLeftBy archives base ordinals why.dropped why.is_named why.fault told now

-- Whatever was answered, the first have gone, and all but one name of the next one reads so; at
-- that one there stands what may of a segment that was to go.
abbrev pub DropsButOne : {T : Type 0} → Bool → ℕ → List ℕ → Option Files → Option Files
    → Result T DropFault → Type 0
DropsButOne archives base ordinals told now (Ok x) = ⊤
DropsButOne archives base ordinals told now (Err why) =
    (name : List ℕ) × NamesSegment archives (base + get_or ordinals why.dropped 0) name
    × StayButOne name
    (option_map (first_gone_at archives base ordinals why.dropped why.is_named) told) now
    × StandsAs name (MayBeGoing (base + get_or ordinals why.dropped 0) name)
    (option_map (first_gone_at archives base ordinals why.dropped why.is_named) told) now

-- The same by the disk's changes, whatever was answered.
abbrev pub DropsBy : {T : Type 0} → Bool → ℕ → List ℕ → Option (List Change)
    → Option (List Change) → Result T DropFault → Type 0
DropsBy archives base ordinals before now (Ok x) =
    AreBehind (all_go_by archives base ordinals) before now
DropsBy archives base ordinals before now (Err why) =
    AreBehind (all_go_by archives base (take why.dropped ordinals)
    ++ next_by why.is_named base (drop why.dropped ordinals)) before now
