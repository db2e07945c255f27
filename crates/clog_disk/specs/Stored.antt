-- A file in memory, and what a crash may leave of it.
use Rattle.std.specs.Prelude.{
  ◌≡◌,
  ℕ,
  ◌≤◌,
  List,
  ◌++◌,
  length,
  take,
  Option,
  Some,
  None,
  Bool,
  true,
  false,
}

-- its bytes, how many of them last, and whether its name lasts
pub record Stored : Type 0 where
  pub bytes : List ℕ
  pub synced : ℕ
  pub sure : Bool

-- What a crash may leave of a name. A file keeps its bytes up to the last synced length; past it
-- any bytes may stand, up to the length written, or it ends anywhere from the synced length on. A
-- file that was never synced may be absent.
abbrev pub may_leave : Option Stored → Option (List ℕ) → Type 0
may_leave None left = left ≡ None
may_leave (Some file) None = file.sure ≡ false
may_leave (Some file) (Some bytes) =
    (take file.synced bytes ≡ take file.synced file.bytes) × (length bytes ≤ length file.bytes)

-- with bytes behind its end
abbrev pub grown : Stored → List ℕ → Stored
grown file more = record file { bytes = file.bytes ++ more }

-- made by an append, and not synced
abbrev pub made_of : List ℕ → Stored
made_of bytes = record { bytes = bytes; synced = 0; sure = false }

-- what stands at a name, with bytes behind its end
abbrev pub grown_at : Option Stored → List ℕ → Stored
grown_at None bytes = made_of bytes
grown_at (Some file) bytes = grown file bytes

-- all of it lasts
abbrev pub settled : Stored → Stored
settled file = record { bytes = file.bytes; synced = length file.bytes; sure = true }

-- cut back to what it was
abbrev pub cut_to : Option Stored → ℕ → ℕ → Bool → Option Stored
cut_to None size synced sure = None
cut_to (Some file) size synced sure =
    Some (record { bytes = take size file.bytes; synced = synced; sure = sure })

-- put in place, all of it lasting
abbrev pub lasting_of : List ℕ → Stored
lasting_of bytes = record { bytes = bytes; synced = length bytes; sure = true }
