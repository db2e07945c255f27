-- The readers of fields and their grammars.
use Rattle.std.proofs.Common.{◌≡◌, ℕ, zero, suc, ◌^◌, Fits, ◌<◌, true, List, [], ◌∷◌, ◌++◌}
use Rattle.std.proofs.Common.{length, Ok, refl, sym, ap, subst, arith}
use Rattle.std.specs.Prelude.{nat_lt, nat_le, ℤ, pos, negsuc}
use Rattle.std.specs.Str.{is_utf8}
use Rattle.std.specs.Int.{Width, w16, w32, w64, byte_len, from_be_bytes, to_be_bytes}
use Rattle.std.specs.Int.{cast_signed, cast_unsigned}
use Rattle.std.proofs.lemmas.Bool.{ltb-true, lt-ltb, leb-true, le-leb, and_from, and_parts}
use Rattle.std.proofs.lemmas.Nat.{be_bytes_2, be_bytes_4, be_bytes_8, from_be_bytes-to_be_bytes_2}
use Rattle.std.proofs.lemmas.Nat.{from_be_bytes-to_be_bytes_4, from_be_bytes-to_be_bytes_8}
use Rattle.std.proofs.lemmas.Int.{of_z-to_z, to_z-of_z}
use Rattle.std.proofs.Math.Facts.{sfits_to_z}
use Rattle.clog_spec.specs.Crc.{IsBytes}
use Rattle.clog_spec.specs.Sizes.{longest_name}
use Rattle.clog_spec.proofs.Bytes.{one_byte-IsBytes, short_number, number-IsBytes, long_number}
use Rattle.clog_base.specs.declared.cell.Kind.{Kind}
use Rattle.clog_base.specs.declared.cell.Kind.TheVariants.{Deletion, Live}
use Rattle.clog_base.specs.declared.fault.PayloadFault.TheVariants.{BadTag, NotUtf8, NameLength}
use Rattle.clog_fields.specs.Fields.{short_text, timestamp_bytes, tagged}
use Rattle.clog_fields.specs.Limits.{IsNameLength, IsNameText, IsValueText, IsStoredValue}
use Rattle.clog_fields.specs.Refusals.{is_name_length, is_tag, one_byte, same_bytes, IsByte}
use Rattle.clog_fields.specs.Refusals.{IsShortNumber, IsLongNumber, IsTimestamp, HasLength}
use Rattle.clog_fields.specs.Refusals.{IsShort, LengthIsRefused, TextIsRefused, TagIsRefused}
use Rattle.clog_fields.specs.Refusals.{NameIsRefused, LiveIsRefused, IsLength, IsTag}
use Rattle.clog_fields.specs.Refusals.{UntaggedIsRefused, TaggedIsRefused}
use Rattle.clog_fields.specs.Reading.{field_at, both_of, number_at, first_byte, byte_at, length_at}
use Rattle.clog_fields.specs.Reading.{tag_at, text_at, ts_at, second, name_at, live_at}
use Rattle.clog_fields.specs.Reading.{untagged_at, of_kind, tagged_at}
use Rattle.clog_fields.proofs.Texts.{utf8_passes, utf8_from_test}
use Rattle.clog_fields.proofs.Readers.{IsReader, field_reader, bytes_reader}
use Rattle.clog_fields.proofs.Readers.{checked_reader, mapped_reader, both_reader}

-- ---- numbers
pub record IsWide (w : Width) (limit : ℕ) : Type 0 where
  pub len : (n : ℕ) → length (to_be_bytes w n) ≡ byte_len w
  pub fits : (n : ℕ) → n < limit → IsBytes (to_be_bytes w n)
  pub back : (bytes : List ℕ) → length bytes ≡ byte_len w → IsBytes bytes
      → to_be_bytes w (from_be_bytes w bytes) ≡ bytes
  pub again : (n : ℕ) → n < limit → from_be_bytes w (to_be_bytes w n) ≡ n
  pub below : (bytes : List ℕ) → IsBytes bytes → from_be_bytes w bytes < limit

pub wide16 : IsWide w16 (2 ^ 16)
wide16 = record {
  len = λ n. refl;
  fits = λ n lt. short_number n;
  back = λ bytes len fits. be_bytes_2 bytes _ len fits refl;
  again = λ n lt. from_be_bytes-to_be_bytes_2 n lt;
  below = λ bytes fits. omega (arith, fits 0, fits 1);
}

pub wide32 : IsWide w32 (2 ^ 32)
wide32 = record {
  len = λ n. refl;
  fits = λ n lt. number-IsBytes n;
  back = λ bytes len fits. be_bytes_4 bytes _ len fits refl;
  again = λ n lt. from_be_bytes-to_be_bytes_4 n lt;
  below = λ bytes fits. omega (arith, fits 0, fits 1, fits 2, fits 3);
}

pub wide64 : IsWide w64 (2 ^ 64)
wide64 = record {
  len = λ n. refl;
  fits = λ n lt. long_number n;
  back = λ bytes len fits. be_bytes_8 bytes _ len fits refl;
  again = λ n lt. from_be_bytes-to_be_bytes_8 n lt;
  below = λ bytes fits. omega
      (arith, fits 0, fits 1, fits 2, fits 3, fits 4, fits 5, fits 6, fits 7);
}

pub number_reader : (w : Width) (limit : ℕ) → IsWide w limit → (end : ℕ)
    → IsReader (number_at w end) (to_be_bytes w) (λ n. n < limit) (IsShort end (byte_len w))
number_reader w limit wide end =
    mapped_reader (field_at end (byte_len w)) same_bytes
    (λ text. HasLength (byte_len w) text × IsBytes text) (IsShort end (byte_len w))
    (from_be_bytes w) (to_be_bytes w) (to_be_bytes w) (λ n. n < limit)
    (bytes_reader end (byte_len w))
    (λ text h. wide.back text h.0 h.1) (λ text h. wide.below text h.1)
    (λ n h. (wide.len n, wide.fits n h)) (λ n h. wide.again n h)

one_of : (text : List ℕ) → length text ≡ 1 → one_byte (first_byte text) ≡ text
one_of [] e = absurd (omega arith)
one_of (b ∷ []) e = refl
one_of (b ∷ c ∷ text) e = absurd (omega arith)

pub byte_reader : (end : ℕ) → IsReader (byte_at end) one_byte IsByte (IsShort end 1)
byte_reader end =
    mapped_reader (field_at end 1) same_bytes (λ text. HasLength 1 text × IsBytes text)
    (IsShort end 1)
    first_byte one_byte one_byte IsByte (bytes_reader end 1)
    (λ text h. one_of text h.0) (λ text h. h.1 0)
    (λ n h. (refl, one_byte-IsBytes n h)) (λ n h. refl)

-- ---- fields
pub length_reader : (end : ℕ)
    → IsReader (length_at end) (to_be_bytes w16) IsLength (LengthIsRefused end)
unfolding length_at
length_reader end =
    checked_reader end is_name_length NameLength (number_at w16 end) (to_be_bytes w16) IsShortNumber
    (IsShort end 2) (number_reader w16 (2 ^ 16) wide16 end)

pub tag_reader : (end : ℕ) → IsReader (tag_at end) one_byte IsTag (TagIsRefused end)
unfolding tag_at
tag_reader end =
    checked_reader end is_tag BadTag (byte_at end) one_byte IsByte (IsShort end 1) (byte_reader end)

abbrev pub IsTextOf : ℕ → List ℕ → Type 0
IsTextOf n text = HasLength n text × (is_utf8 text ≡ true)

pub text_reader : (end n : ℕ)
    → IsReader (text_at end n) same_bytes (IsTextOf n) (TextIsRefused end n)
unfolding text_at
text_reader end n =
    checked_reader end is_utf8 NotUtf8 (field_at end n) same_bytes (HasLength n) (IsShort end n)
    (field_reader end n)

-- ---- texts with their lengths
name_length : (n : ℕ) → IsNameLength n → is_name_length n ≡ true
name_length n h =
    and_from (nat_lt 0 n) (nat_le n longest_name) (lt-ltb _ _ h.some) (le-leb _ _ h.few)

from_name_length : (n : ℕ) → is_name_length n ≡ true → IsNameLength n
from_name_length n h =
    let parts = and_parts (nat_lt 0 n) (nat_le n longest_name) h in
    record { some = ltb-true _ _ parts.0; few = leb-true _ _ parts.1 }

good_name : (x : ℕ × List ℕ) → IsLength x.0 × IsTextOf x.0 x.1 → IsNameText x.1
good_name x h = record {
  size = subst IsNameLength (sym h.1.0) (from_name_length x.0 h.0.1);
  utf8 = utf8_from_test x.1 h.1.1;
}

name_good : (text : List ℕ) → IsNameText text → IsLength (length text) × IsTextOf (length text) text
name_good text h = (
  (omega (arith, h.size.few), name_length (length text) h.size),
  (refl, utf8_passes text h.utf8),
)

sized : {A : Type 0} → List A → ℕ × List A
sized text = (length text, text)

pub name_reader : (end : ℕ) → IsReader (name_at end) short_text IsNameText (NameIsRefused end)
unfolding name_at sized
name_reader end =
    mapped_reader (both_of (length_at end) (text_at end)) (λ x. to_be_bytes w16 x.0 ++ x.1)
    (λ x. IsLength x.0 × IsTextOf x.0 x.1) (NameIsRefused end) second sized short_text IsNameText
    (both_reader (length_at end) (to_be_bytes w16) IsLength (LengthIsRefused end)
    (text_at end) (λ n text. text) IsTextOf (TextIsRefused end)
    (length_reader end) (λ n h. text_reader end n))
    (λ x h. ap (λ n. to_be_bytes w16 n ++ x.1) h.1.0) good_name name_good (λ text h. refl)

abbrev pub long_text : List ℕ → List ℕ
long_text text = to_be_bytes w32 (length text) ++ text

good_value : (x : ℕ × List ℕ) → IsLongNumber x.0 × IsTextOf x.0 x.1 → IsValueText x.1
good_value x h = record {
  size = subst IsLongNumber (sym h.1.0) h.0;
  utf8 = utf8_from_test x.1 h.1.1;
}

value_good : (text : List ℕ) → IsValueText text
    → IsLongNumber (length text) × IsTextOf (length text) text
value_good text h = (h.size, (refl, utf8_passes text h.utf8))

pub live_reader : (end : ℕ) → IsReader (live_at end) long_text IsValueText (LiveIsRefused end)
unfolding live_at sized
live_reader end =
    mapped_reader (both_of (number_at w32 end) (text_at end)) (λ x. to_be_bytes w32 x.0 ++ x.1)
    (λ x. IsLongNumber x.0 × IsTextOf x.0 x.1)
    (LiveIsRefused end) second sized long_text IsValueText
    (both_reader (number_at w32 end) (to_be_bytes w32) IsLongNumber (IsShort end 4)
    (text_at end) (λ n text. text) IsTextOf (TextIsRefused end)
    (number_reader w32 (2 ^ 32) wide32 end) (λ n h. text_reader end n))
    (λ x h. ap (λ n. to_be_bytes w32 n ++ x.1) h.1.0) good_value value_good (λ text h. refl)

signed_fits : (n : ℕ) → n < 2 ^ 64 → IsTimestamp (cast_signed w64 n)
signed_fits n h = let fits : Fits w64 n = omega arith in sfits_to_z fits

unsigned_fits : (ts : ℤ) → IsTimestamp ts → cast_unsigned w64 ts < 2 ^ 64
unsigned_fits (pos n) h = omega (arith, h)
unsigned_fits (negsuc n) h = omega arith

pub ts_reader : (end : ℕ) → IsReader (ts_at end) timestamp_bytes IsTimestamp (IsShort end 8)
unfolding ts_at
ts_reader end =
    mapped_reader (number_at w64 end) (to_be_bytes w64) (λ n. n < 2 ^ 64) (IsShort end 8)
    (cast_signed w64) (cast_unsigned w64) timestamp_bytes IsTimestamp
    (number_reader w64 (2 ^ 64) wide64 end)
    (λ n h. ap (to_be_bytes w64) (of_z-to_z w64 n h)) (λ n h. signed_fits n h)
    (λ ts h. unsigned_fits ts h) (λ ts h. to_z-of_z w64 ts h)

-- ---- a value and its tag
nothing_reader : (end : ℕ)
    → IsReader (untagged_at end zero) (λ value. []) (λ value. value ≡ [])
    (UntaggedIsRefused end zero)
nothing_reader end = record {
  takes = λ bytes rest value fits e.
      (let same : ◌≡◌ {A = List ℕ × List ℕ} ([], bytes) (value, rest) = cc in
      (ap (λ x. x.1) same, sym (ap (λ x. x.0) same)));
  again = λ rest value h. ap (λ v. Ok (v, rest)) (sym h);
  fails = λ bytes fault fits e. absurd cc;
  refused = λ bytes fault h. absurd h;
}

untagged : ℕ → List ℕ → List ℕ
untagged zero value = []
untagged (suc tag) value = long_text value

IsUntagged : ℕ → List ℕ → Type 0
IsUntagged zero value = value ≡ []
IsUntagged (suc tag) value = IsValueText value

untagged_reader : (end tag : ℕ)
    → IsReader (untagged_at end tag) (untagged tag) (IsUntagged tag) (UntaggedIsRefused end tag)
unfolding untagged IsUntagged
untagged_reader end zero = nothing_reader end
untagged_reader end (suc tag) = live_reader end

tag_of : Kind → ℕ
tag_of Deletion = 0
tag_of Live = 1

parts_of : Kind × List ℕ → ℕ × List ℕ
parts_of x = (tag_of x.0, x.1)

abbrev pub tagged_bytes : Kind × List ℕ → List ℕ
tagged_bytes x = tagged x.0 x.1

abbrev pub IsTagged : Kind × List ℕ → Type 0
IsTagged x = IsStoredValue x.0 x.1

abbrev IsParts : ℕ × List ℕ → Type 0
IsParts x = IsTag x.0 × IsUntagged x.0 x.1

tagged_spelled : (x : ℕ × List ℕ) → IsParts x
    → tagged_bytes (of_kind x) ≡ one_byte x.0 ++ untagged x.0 x.1
unfolding untagged IsUntagged
tagged_spelled (zero, value) h = refl
tagged_spelled (suc zero, value) h = refl
tagged_spelled (suc (suc tag), value) h =
    absurd (let below : suc (suc tag) < 2 = ltb-true _ _ h.0.1 in omega arith)

tagged_good : (x : ℕ × List ℕ) → IsParts x → IsTagged (of_kind x)
unfolding untagged IsUntagged
tagged_good (zero, value) h = h.1
tagged_good (suc tag, value) h = h.1

good_tagged : (x : Kind × List ℕ) → IsTagged x → IsParts (parts_of x)
unfolding IsUntagged parts_of tag_of
good_tagged (Deletion, value) h = ((omega arith, refl), h)
good_tagged (Live, value) h = ((omega arith, refl), h)

tagged_again : (x : Kind × List ℕ) → IsTagged x → of_kind (parts_of x) ≡ x
unfolding parts_of tag_of
tagged_again (Deletion, value) h = refl
tagged_again (Live, value) h = refl

pub tagged_reader : (end : ℕ) → IsReader (tagged_at end) tagged_bytes IsTagged (TaggedIsRefused end)
unfolding tagged_at
tagged_reader end =
    mapped_reader (both_of (tag_at end) (untagged_at end))
    (λ x. one_byte x.0 ++ untagged x.0 x.1) IsParts (TaggedIsRefused end)
    of_kind parts_of tagged_bytes IsTagged
    (both_reader (tag_at end) one_byte IsTag (TagIsRefused end)
    (untagged_at end) untagged IsUntagged (UntaggedIsRefused end)
    (tag_reader end) (λ tag h. untagged_reader end tag))
    tagged_spelled tagged_good good_tagged tagged_again
