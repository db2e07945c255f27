-- What becomes of a store where segments are to go.
use Rattle.std.specs.Prelude.{
  ◌≡◌,
  ℕ,
  ◌+◌,
  ◌<◌,
  ◌≤◌,
  Bool,
  true,
  false,
  if◌then◌else◌,
  List,
  length,
  Contains,
  Result,
  Ok,
  Err,
}
use Rattle.path_core.specs.Keeper.{DropRefused, Drops, Holding, PutFile}
use Rattle.clog_segments.specs.declared.section_log.dropping.DropFault.{DropFault}
use Rattle.clog_segments.specs.declared.written.StoreFault.{StoreFault}
use Rattle.clog_segments.specs.Discards.{MayBeNamed}
use Rattle.clog_due.specs.Dropping.{AreDue}
use Rattle.clog_segments.specs.NoteLog.{HasLog, NoteState}
use Rattle.clog_segments.specs.StoreFolder.{with_first_gone}
use Rattle.clog_segments.specs.StoreState.{StoreState, deeds_by}

-- ---- which are due

-- what a keeper holds has this log, these files and these dropped segments
pub record HasBeside {D : Type 0} (s : NoteState D) (files : List PutFile) (dropped : List ℕ)
    (h : Holding) : Type 0 where
  pub log : HasLog s h
  pub files_are : h.files ≡ files
  pub dropped_are : h.dropped ≡ dropped

-- These are due, whatever else a keeper with the store's log, files and dropped segments holds.
abbrev pub AreDueIn : {D : Type 0} → StoreState D → ℕ → List ℕ → Type 0
AreDueIn s closed ordinals =
    (h : Holding) → HasBeside s.notes s.files s.dropped h → AreDue h closed ordinals

-- the segments of these ordinals are older than the one at hand
abbrev pub AreEarlier : {D : Type 0} → NoteState D → List ℕ → Type 0
AreEarlier s ordinals = (o : ℕ) → Contains ordinals o → s.base + o < s.log.id

-- ---- what becomes of it

-- how many of so many have gone, and how many have got their archive names where they get one
abbrev pub dropped_by : {T : Type 0} → ℕ → Result T DropFault → ℕ
dropped_by all (Ok done) = all
dropped_by all (Err why) = why.dropped

-- whether the next one has got its archive name
abbrev pub named_by : {T : Type 0} → Result T DropFault → Bool
named_by (Ok done) = false
named_by (Err why) = why.is_named

abbrev pub archived_by : {T : Type 0} → ℕ → Result T DropFault → ℕ
archived_by all (Ok done) = all
archived_by all (Err why) = why.dropped + (if why.is_named then 1 else 0)

-- all of so many have gone, or the first of them, and the next one has perhaps its archive name
abbrev pub IsHowFar : {T : Type 0} → Bool → ℕ → ℕ → Bool → Result T StoreFault → Type 0
IsHowFar archives all count is_named (Ok done) = (count ≡ all) × (is_named ≡ false)
IsHowFar archives all count is_named (Err fault) =
    (count ≤ all) × MayBeNamed archives is_named × (is_named ≡ true → count < all)

-- The first of the segments were dropped, and nothing else has changed but the store's log.
pub record HasLetGo {D T : Type 0} (before now : StoreState D) (ordinals : List ℕ)
    (result : Result T StoreFault) : Type 0 where
  pub count : ℕ
  pub is_named : Bool
  pub far : IsHowFar before.archives (length ordinals) count is_named result
  pub is : now ≡ record before {
    notes = record before.notes { log = now.notes.log };
    dropped = (with_first_gone (deeds_by before) ordinals count is_named).dropped;
    archived = (with_first_gone (deeds_by before) ordinals count is_named).archived;
  }

-- what a keeper does whose segments are to be dropped
abbrev pub DropsDue : Holding → Holding → ℕ → Result ℕ StoreFault → Type 0
DropsDue before now closed (Ok count) = Drops before now closed count
DropsDue before now closed (Err fault) = DropRefused before now closed
