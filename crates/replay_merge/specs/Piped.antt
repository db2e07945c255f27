-- What entries come to that are taken in any order.
use Rattle.std.specs.Prelude.{◌≡◌, ◌⊎◌, ℕ, ◌+◌, ◌<◌, ◌≤◌, List, length, map, Option, Some, None}
use Rattle.std.specs.Prelude.{◌++◌, Contains, ⊤}
use Rattle.clog_base.specs.declared.fault.PayloadFault.{PayloadFault}
use Rattle.clog_mutation.specs.declared.mutation.Mutation.{Mutation}
use Rattle.clog_mutation.specs.Refusals.{IsRefused}
use Rattle.clog_mutation.specs.Stored.{IsPayload}
use Rattle.clog_folder.specs.declared.tables.TableHeld.{TableHeld}
use Rattle.clog_folder.specs.Folder.{PlacedPayload}
use Rattle.clog_folder.specs.Listing.{Picks}
use Rattle.replay_merge.specs.Entries.{Entry}
use Rattle.replay_merge.specs.declared.piped.Piped.{Piped}
use Rattle.replay_merge.specs.declared.piped.Refused.{Refused}
use Rattle.replay_merge.specs.Merged.{IsJoin, Takes, keyed}
use Rattle.replay_merge.specs.Taking.{IsTakenOf}

-- the payload, where its entry ends
abbrev pub placed_of : Entry → PlacedPayload
placed_of e = (record { id = e.id; offset = e.end }, e.payload)

abbrev pub IsGood : Entry → Type 0
IsGood e = (mutation : Mutation) × IsPayload e.payload mutation

-- the entry is this one, and its payload is refused so
pub record IsRefusedAs (e : Entry) (r : Refused) : Type 0 where
  pub id : r.id ≡ e.id
  pub start : r.start ≡ e.start
  pub fault : IsRefused e.payload r.fault

-- by id and place
abbrev pub IsUpTo : ℕ → ℕ → ℕ → ℕ → Type 0
IsUpTo id at id' at' = (id < id') ⊎ ((id ≡ id') × (at ≤ at'))

-- an entry counts, or is refused at this place or behind it
abbrev pub IsGoodOrBehind : Refused → Entry → Type 0
IsGoodOrBehind r e = IsGood e ⊎ IsUpTo r.id r.start e.id e.start

-- of these entries none is refused, or this is the first by id and place
abbrev pub IsLeastRefused : List Entry → Option Refused → Type 0
IsLeastRefused items None = (e : Entry) → Contains items e → IsGood e
IsLeastRefused items (Some r) =
    ((e : Entry) × (Contains items e) × IsRefusedAs e r)
    × ((e : Entry) → Contains items e → IsGoodOrBehind r e)

-- The good ones are merged and counted, and the first that is none is known.
pub record IsDone (tables : List TableHeld) (items : List Entry) (s : Piped) : Type 0 where
  pub good : List Entry
  pub picks : Picks IsGood items good
  pub taken : IsTakenOf tables (map placed_of good) s.merged
  pub entries : s.entries ≡ length good
  pub first : IsLeastRefused items s.refused

-- the refusal that comes first of one that may be and another
abbrev pub IsFirstOf : Option Refused → Refused → Option Refused → Type 0
IsFirstOf old r None = ⊥
IsFirstOf None r (Some new) = new ≡ r
IsFirstOf (Some old) r (Some new) =
    ((new ≡ old) × IsUpTo old.id old.start r.id r.start)
    ⊎ ((new ≡ r) × IsUpTo r.id r.start old.id old.start)

-- the same of two that may be
abbrev pub IsFirstOfBoth : Option Refused → Option Refused → Option Refused → Type 0
IsFirstOfBoth old (Some r) new = IsFirstOf old r new
IsFirstOfBoth old None new = new ≡ old

-- what two threads have is joined
pub record JoinsPiped (mine other joined : Piped) : Type 0 where
  pub merged : IsJoin mine.merged other.merged joined.merged
  pub entries : joined.entries ≡ mine.entries + other.entries
  pub first : IsFirstOfBoth mine.refused other.refused joined.refused

-- why bytes are no payload
abbrev pub IsRefusal : List ℕ → Option PayloadFault → Type 0
IsRefusal bytes (Some fault) =
    IsRefused bytes fault × ((mutation : Mutation) → ¬ IsPayload bytes mutation)
IsRefusal bytes None = ⊤

-- a good entry's mutation is merged
pub record TakesGood (tables : List TableHeld) (e : Entry) (mutation : Mutation) (old new : Piped)
    : Type 0 where
  pub takes :
      Takes tables
      (map (keyed (record { id = e.id; offset = e.end }) mutation.key) mutation.updates)
      old.merged new.merged
  pub entries : new.entries ≡ old.entries + 1
  pub refused : new.refused ≡ old.refused

-- another is refused
pub record TakesRefused (e : Entry) (old new : Piped) : Type 0 where
  pub r : Refused
  pub is : IsRefusedAs e r
  pub bad : ¬ IsGood e
  pub merged : new.merged ≡ old.merged
  pub entries : new.entries ≡ old.entries
  pub first : IsFirstOf old.refused r new.refused

-- these are taken in behind whatever was
abbrev pub TakesItems : List TableHeld → List Entry → Piped → Piped → Type 0
TakesItems tables items old new =
    (before : List Entry) → IsDone tables before old → IsDone tables (before ++ items) new

-- an entry is taken in, one way or the other
abbrev pub TakesPiped : List TableHeld → Entry → Piped → Piped → Type 0
TakesPiped tables e old new =
    ((mutation : Mutation) × IsPayload e.payload mutation
    × TakesGood tables e mutation old new)
    ⊎ TakesRefused e old new
