-- Reading fields from left to right: a reader gives a value and the rest, or the first refusal. The
-- bytes end `end` bytes, so that offsets are known.
use Rattle.std.specs.Prelude.{◌≡◌, ℕ, zero, suc, List, [], length, take, drop, Bool, nat_lt}
use Rattle.std.specs.Prelude.{if◌then◌else◌, Result, Ok, Err, ℤ, slice_index}
use Rattle.std.specs.Str.{is_utf8}
use Rattle.std.specs.Int.{Width, w16, w32, w64, byte_len, from_be_bytes, cast_signed}
use Rattle.clog_base.specs.declared.fault.PayloadFault.{PayloadFault}
use Rattle.clog_base.specs.declared.fault.PayloadFault.TheVariants.{Short, BadTag, NotUtf8}
use Rattle.clog_base.specs.declared.fault.PayloadFault.TheVariants.{NameLength}
use Rattle.clog_base.specs.declared.cell.Kind.{Kind}
use Rattle.clog_base.specs.declared.cell.Kind.TheVariants.{Deletion, Live}
use Rattle.clog_fields.specs.Refusals.{place, is_name_length, is_tag}

infixl 10 ◌>>=◌
abbrev pub ◌>>=◌ : {A B : Type 0} → Result A PayloadFault → (A → Result B PayloadFault)
    → Result B PayloadFault
(Ok x) >>= f = f x
(Err e) >>= f = Err e

abbrev pub Reader : Type 0 → Type 0
Reader X = List ℕ → Result (X × List ℕ) PayloadFault

-- what a function returned, seen by view, is what reading gives
abbrev pub Finds : {X Y : Type 0} → (X → Y) → Result X PayloadFault → Result Y PayloadFault → Type 0
Finds view (Ok x) read = read ≡ Ok (view x)
Finds view (Err e) read = read ≡ Err e

-- ---- what readers are made of

-- n bytes
abbrev pub field_at : ℕ → ℕ → Reader (List ℕ)
field_at end n bytes =
    if nat_lt (length bytes) n then Err (Short (place end bytes))
    else Ok (take n bytes, drop n bytes)

abbrev pub seen : {X Y : Type 0} → (X → Y) → Result (X × List ℕ) PayloadFault
    → Result (Y × List ℕ) PayloadFault
seen f read = read >>= λ x. Ok (f x.0, x.1)

abbrev pub mapped : {X Y : Type 0} → (X → Y) → Reader X → Reader Y
mapped f read bytes = seen f (read bytes)

abbrev pub checked : {X : Type 0} → ℕ → (X → Bool) → (ℕ → PayloadFault) → Reader X → Reader X
checked end test fault_at read bytes =
    read bytes >>= λ x. if test x.0 then Ok x else Err (fault_at (place end bytes))

abbrev pub paired : {X Y : Type 0} → X → Result (Y × List ℕ) PayloadFault
    → Result ((X × Y) × List ℕ) PayloadFault
paired x read = read >>= λ y. Ok ((x, y.0), y.1)

abbrev pub then_read : {X Y : Type 0} → (X → Reader Y) → Result (X × List ℕ) PayloadFault
    → Result ((X × Y) × List ℕ) PayloadFault
then_read next read = read >>= λ x. paired x.0 (next x.0 x.1)

abbrev pub both_of : {X Y : Type 0} → Reader X → (X → Reader Y) → Reader (X × Y)
both_of first next bytes = then_read next (first bytes)

-- ---- the fields

abbrev pub number_at : Width → ℕ → Reader ℕ
number_at w end = mapped (from_be_bytes w) (field_at end (byte_len w))

abbrev pub first_byte : List ℕ → ℕ
first_byte bytes = slice_index bytes 0

abbrev pub byte_at : ℕ → Reader ℕ
byte_at end = mapped first_byte (field_at end 1)

unfoldable pub length_at : ℕ → Reader ℕ
length_at end = checked end is_name_length NameLength (number_at w16 end)

unfoldable pub tag_at : ℕ → Reader ℕ
tag_at end = checked end is_tag BadTag (byte_at end)

unfoldable pub text_at : ℕ → ℕ → Reader (List ℕ)
text_at end n = checked end is_utf8 NotUtf8 (field_at end n)

unfoldable pub ts_at : ℕ → Reader ℤ
ts_at end = mapped (cast_signed w64) (number_at w64 end)

-- ---- what they make up

abbrev pub second : {X Y : Type 0} → X × Y → Y
second x = x.1

unfoldable pub name_at : ℕ → Reader (List ℕ)
name_at end = mapped second (both_of (length_at end) (text_at end))

unfoldable pub live_at : ℕ → Reader (List ℕ)
live_at end = mapped second (both_of (number_at w32 end) (text_at end))

-- what stands behind a tag
abbrev pub untagged_at : ℕ → ℕ → Reader (List ℕ)
untagged_at end zero bytes = Ok ([], bytes)
untagged_at end (suc tag) bytes = live_at end bytes

abbrev pub kind_of : ℕ → Kind
kind_of zero = Deletion
kind_of (suc tag) = Live

abbrev pub of_kind : ℕ × List ℕ → Kind × List ℕ
of_kind x = (kind_of x.0, x.1)

unfoldable pub tagged_at : ℕ → Reader (Kind × List ℕ)
tagged_at end = mapped of_kind (both_of (tag_at end) (untagged_at end))
