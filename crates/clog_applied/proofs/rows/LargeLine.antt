-- A line with a value of so many letters: its mutation can be stored, and its payload has 22 bytes
-- more.
use Rattle.std.proofs.Common.{
  ◌≡◌,
  ℕ,
  zero,
  suc,
  ◌+◌,
  ◌<◌,
  ◌^◌,
  List,
  [],
  ◌∷◌,
  length,
  refl,
  arith,
  pos,
  lit<,
}
use Rattle.std.specs.Str.{IsAscii}
use Rattle.std.specs.Int.{w64}
use Rattle.std.proofs.lemmas.Int.{fits_signed_from_abs}
use Rattle.std.proofs.lemmas.Str.{IsUtf8-from_ascii}
use Rattle.std.proofs.lemmas.List.{length-append}
use Rattle.clog_base.specs.declared.cell.Kind.TheVariants.{Live}
use Rattle.clog_mutation.specs.declared.mutation.Mutation.{Mutation}
use Rattle.clog_mutation.specs.declared.mutation.Update.{Update}
use Rattle.clog_mutation.specs.Payload.{payload_of}
use Rattle.clog_mutation.specs.Stored.{IsStored}

-- so many letters
letters : ℕ → List ℕ
letters zero = []
letters (suc n) = 120 ∷ letters n

letters_long : (n : ℕ) → length (letters n) ≡ n
unfolding letters
letters_long zero = refl
letters_long (suc n) = omega (arith, letters_long n)

letters_ascii : (n : ℕ) → IsAscii (letters n)
unfolding letters
letters_ascii zero i = lit< tt
letters_ascii (suc n) zero = lit< tt
letters_ascii (suc n) (suc i) = letters_ascii n i

one_ascii : (c : ℕ) → c < 128 → IsAscii (c ∷ [])
one_ascii c low zero = low
one_ascii c low (suc i) = lit< tt

-- over any value
module _ (value : List ℕ) where
  abbrev large_update : Update
  large_update = record {
    table = record { 0 = 0 };
    column = 99 ∷ [];
    cell = record { ts = pos 1; kind = Live; value = value };
  }

  abbrev large_mutation : Mutation
  large_mutation = record { key = 107 ∷ []; updates = large_update ∷ [] }

  large_long : length (payload_of large_mutation) ≡ 22 + length value
  large_long = omega (arith, length-append value [])

  large_stored : IsAscii value → length value < 2 ^ 32 → IsStored large_mutation
  large_stored ascii few = record {
    key = record {
      size = record { some = omega arith; few = omega arith };
      utf8 = IsUtf8-from_ascii (107 ∷ []) (one_ascii 107 (omega arith));
    };
    some = omega arith;
    few = omega arith;
    updates = (
      record {
        table = omega arith;
        column = record {
          size = record { some = omega arith; few = omega arith };
          utf8 = IsUtf8-from_ascii (99 ∷ []) (one_ascii 99 (omega arith));
        };
        ts = fits_signed_from_abs w64 (pos 1) (omega arith);
        value = record { size = few; utf8 = IsUtf8-from_ascii value ascii };
      },
      tt,
    );
  }

-- one whose payload has 2036 bytes
pub a_large_line : (m : Mutation) × IsStored m × (length (payload_of m) ≡ 2036)
a_large_line =
    let value = letters 2014 in
    let long = letters_long 2014 in (
      large_mutation value,
      large_stored value (letters_ascii 2014) (omega (arith, long)),
      omega (arith, large_long value, long),
    )
