-- Why bytes begin with no field: what they begin with is well formed up to a place, and what stands
-- there is refused. A field stands where `rest` begins, which ends `end` bytes.
use Rattle.std.specs.Prelude.{◌≡◌, ℕ, ◌-◌, ◌<◌, ◌^◌, List, [], ◌∷◌, ◌++◌, ◌⊎◌, length}
use Rattle.std.specs.Prelude.{Bool, true, false, nat_lt, nat_le, ◌&&◌, zero, suc}
use Rattle.std.specs.Prelude.{ℤ, FitsSigned}
use Rattle.std.specs.Str.{is_utf8}
use Rattle.std.specs.Int.{w16, w32, w64, to_be_bytes}
use Rattle.clog_spec.specs.Sizes.{longest_name}
use Rattle.clog_base.specs.declared.fault.PayloadFault.{PayloadFault}
use Rattle.clog_base.specs.declared.fault.PayloadFault.TheVariants.{Short, BadTag, NotUtf8}
use Rattle.clog_base.specs.declared.fault.PayloadFault.TheVariants.{NameLength}

-- the offset of what is left of so many bytes
abbrev pub place : ℕ → List ℕ → ℕ
place end rest = end - length rest

-- a way to refuse bytes
abbrev pub Refusing : Type 1
Refusing = List ℕ → PayloadFault → Type 0

-- Behind a well-formed x the rest is refused.
pub record IsRefusedBehind {X : Type 0} (spell : X → List ℕ) (good : X → Type 0)
    (refuses : X → Refusing)
    (bytes : List ℕ) (fault : PayloadFault) : Type 0 where
  pub read : X
  pub rest : List ℕ
  pub is_good : good read
  pub parts : bytes ≡ spell read ++ rest
  pub refused : refuses read rest fault

-- A field is refused itself, or behind it the rest is.
abbrev pub Either : Refusing → Refusing → Refusing
Either first next bytes fault = first bytes fault ⊎ next bytes fault

-- fewer bytes are left than the field has
pub record IsShort (end size : ℕ) (rest : List ℕ) (fault : PayloadFault) : Type 0 where
  pub few : length rest < size
  pub fault_is : fault ≡ Short (place end rest)

-- the field fits, and its value x is refused
pub record IsBad {X : Type 0} (end : ℕ) (spell : X → List ℕ) (good : X → Type 0) (test : X → Bool)
    (fault_at : ℕ → PayloadFault) (rest : List ℕ) (fault : PayloadFault) : Type 0 where
  pub read : X
  pub behind : List ℕ
  pub is_good : good read
  pub parts : rest ≡ spell read ++ behind
  pub fails : test read ≡ false
  pub fault_is : fault ≡ fault_at (place end rest)

-- ---- the fields

abbrev pub one_byte : ℕ → List ℕ
one_byte n = n ∷ []

abbrev pub same_bytes : List ℕ → List ℕ
same_bytes text = text

abbrev pub IsByte : ℕ → Type 0
IsByte n = n < 256

abbrev pub IsShortNumber : ℕ → Type 0
IsShortNumber n = n < 2 ^ 16

abbrev pub IsLongNumber : ℕ → Type 0
IsLongNumber n = n < 2 ^ 32

abbrev pub IsTimestamp : ℤ → Type 0
IsTimestamp ts = FitsSigned w64 ts

abbrev pub HasLength : ℕ → List ℕ → Type 0
HasLength n text = length text ≡ n

abbrev pub is_name_length : ℕ → Bool
is_name_length n = nat_lt 0 n && nat_le n longest_name

abbrev pub is_tag : ℕ → Bool
is_tag n = nat_lt n 2

-- a number of two bytes, or a byte, that passes
abbrev pub IsLength : ℕ → Type 0
IsLength n = IsShortNumber n × (is_name_length n ≡ true)

abbrev pub IsTag : ℕ → Type 0
IsTag n = IsByte n × (is_tag n ≡ true)

-- a length of 0 or above the longest name's
abbrev pub LengthIsRefused : ℕ → Refusing
LengthIsRefused end =
    Either (IsShort end 2) (IsBad end (to_be_bytes w16) IsShortNumber is_name_length NameLength)

-- a text of n bytes: first whether it fits, then its UTF-8
abbrev pub TextIsRefused : ℕ → ℕ → Refusing
TextIsRefused end n = Either (IsShort end n) (IsBad end same_bytes (HasLength n) is_utf8 NotUtf8)

-- a tag above 1
abbrev pub TagIsRefused : ℕ → Refusing
TagIsRefused end = Either (IsShort end 1) (IsBad end one_byte IsByte is_tag BadTag)

-- ---- what they make up

-- a key or a column
abbrev pub NameIsRefused : ℕ → Refusing
NameIsRefused end =
    Either (LengthIsRefused end) (IsRefusedBehind (to_be_bytes w16) IsLength (TextIsRefused end))

abbrev pub LiveIsRefused : ℕ → Refusing
LiveIsRefused end =
    Either (IsShort end 4) (IsRefusedBehind (to_be_bytes w32) IsLongNumber (TextIsRefused end))

-- behind a tag: nothing of a deletion, the value of a live cell
abbrev pub UntaggedIsRefused : ℕ → ℕ → Refusing
UntaggedIsRefused end zero bytes fault = ⊥
UntaggedIsRefused end (suc tag) bytes fault = LiveIsRefused end bytes fault

-- a tag and what stands behind it
abbrev pub TaggedIsRefused : ℕ → Refusing
TaggedIsRefused end =
    Either (TagIsRefused end) (IsRefusedBehind one_byte IsTag (UntaggedIsRefused end))
