-- Made lines are as many as were asked for; each is within limits, and small.
use Rattle.std.proofs.Common.{
  ◌≡◌,
  ℕ,
  ℤ,
  pos,
  zero,
  suc,
  ◌/◌,
  ◌%◌,
  ◌<◌,
  ◌≤◌,
  ◌^◌,
  List,
  [],
  ◌∷◌,
  ◌++◌,
  length,
  Bool,
  true,
  false,
  refl,
  arith,
  codes,
  length-append,
}
use Rattle.std.specs.Prelude.{decimal, if◌then◌else◌, ◌==◌}
use Rattle.std.specs.List.{AllByRecursion, flat_map}
use Rattle.std.specs.Int.{w16, w32, w64, to_be_bytes, cast_unsigned}
use Rattle.std.proofs.lemmas.Fmt.{length-decimal-le}
use Rattle.clog_base.specs.declared.cell.Cell.{Cell}
use Rattle.clog_base.specs.declared.cell.Kind.TheVariants.{Deletion, Live}
use Rattle.clog_base.proofs.Members.{all_more}
use Rattle.clog_mutation.specs.declared.mutation.Mutation.{Mutation}
use Rattle.clog_mutation.specs.declared.mutation.Update.{Update}
use Rattle.clog_mutation.specs.Limits.{
  IsNameLength,
  IsValueOf,
  IsWithinLimits,
  UpdateIsWithinLimits,
}
use Rattle.clog_mutation.specs.Payload.{short_text, tagged, update_bytes}
use Rattle.clog_text.specs.Made.{
  made_line,
  made_lines,
  made_update,
  number_of,
  upper_half,
}
use Rattle.clog_shares.specs.Fitting.{HasFittingEntry}

-- ---- a name and a value

name_few : (front : List ℕ) (n : ℕ) → length front ≡ 1 → n < 2 ^ 32
    → length (front ++ decimal n) ≤ 11
name_few front n one small =
    let long = length-append front (decimal n) in
    let few = length-decimal-le 10 n (omega arith) (omega (arith, small)) (omega (arith, small)) in
    omega (arith, long, one, few)

name_length : (front : List ℕ) (n : ℕ) → length front ≡ 1 → n < 2 ^ 32
    → IsNameLength (length (front ++ decimal n))
name_length front n one small =
    let long = length-append front (decimal n) in
    record {
      some = omega (arith, long, one);
      few = omega (arith, name_few front n one small);
    }

abbrev chosen : Bool → ℤ → List ℕ → Cell
chosen b ts value =
    if b
    then record { ts = ts; kind = Deletion; value = [] }
    else record { ts = ts; kind = Live; value = value }

value_good : (b : Bool) (ts : ℤ) (value : List ℕ)
    → IsValueOf (chosen b ts value).kind (chosen b ts value).value
value_good true ts value = refl
value_good false ts value = tt

value_few : (b : Bool) (ts : ℤ) (value : List ℕ) → length value ≤ 11
    → length (tagged (chosen b ts value).kind (chosen b ts value).value) ≤ 16
value_few true ts value few = omega arith
value_few false ts value few =
    omega (arith, length-append (to_be_bytes w32 (length value)) value, few)

-- ---- an update

module _ (x j : ℕ) (small : x < 2 ^ 32) where
  column_small : upper_half x / 8 % 8 < 2 ^ 32
  column_small = omega arith

  update_good : UpdateIsWithinLimits (made_update x j)
  update_good = record {
    table = omega arith;
    column = name_length (codes "c") (upper_half x / 8 % 8) refl column_small;
    value = value_good ((upper_half x % 16) == 15) (pos (upper_half x % 4096))
        (codes "v" ++ decimal x);
  }

  update_few : length (update_bytes (made_update x j)) ≤ 38
  update_few =
      let u = made_update x j in
      let stamp = to_be_bytes w64 (cast_unsigned w64 u.cell.ts) in
      let named = (u.table.0 ∷ []) ++ short_text u.column in
      let tag = tagged u.cell.kind u.cell.value in
      omega (
        arith,
        length-append (named ++ stamp) tag,
        length-append named stamp,
        length-append (to_be_bytes w16 (length u.column)) u.column,
        name_few (codes "c") (upper_half x / 8 % 8) refl column_small,
        value_few ((upper_half x % 16) == 15) (pos (upper_half x % 4096))
            (codes "v" ++ decimal x) (name_few (codes "v") x refl small),
      )

-- ---- a line

abbrev some_of : Bool → Update → Update → List Update
some_of b u w = if b then u ∷ [] else u ∷ w ∷ []

one_or_two : (b : Bool) (u w : Update) → 1 ≤ length (some_of b u w)
one_or_two true u w = omega arith
one_or_two false u w = omega arith

not_many : (b : Bool) (u w : Update) → length (some_of b u w) ≤ 2
not_many true u w = omega arith
not_many false u w = omega arith

each_good : (b : Bool) (u w : Update) → UpdateIsWithinLimits u → UpdateIsWithinLimits w
    → AllByRecursion UpdateIsWithinLimits (some_of b u w)
each_good true u w good other = (good, tt)
each_good false u w good other = (good, (other, tt))

all_few : (b : Bool) (u w : Update) → length (update_bytes u) ≤ 38
    → length (update_bytes w) ≤ 38 → length (flat_map update_bytes (some_of b u w)) ≤ 76
all_few true u w few other = omega (arith, length-append (update_bytes u) [], few)
all_few false u w few other =
    omega (
      arith,
      length-append (update_bytes u) (update_bytes w ++ []),
      length-append (update_bytes w) [],
      few,
      other,
    )

module _ (x : ℕ) (small : x < 2 ^ 32) where
  key_small : upper_half x % 1000 < 2 ^ 32
  key_small = omega arith

  line_good : IsWithinLimits (made_line x)
  line_good =
      let b = (upper_half x % 2) == 0 in
      let u = made_update x 0 in
      let w = made_update x 1 in
      record {
        key = name_length (codes "k") (upper_half x % 1000) refl key_small;
        some = one_or_two b u w;
        few = omega (arith, not_many b u w);
        updates = each_good b u w (update_good x 0 small) (update_good x 1 small);
      }

  line_fits : HasFittingEntry 1048576 (made_line x)
  line_fits =
      let b = (upper_half x % 2) == 0 in
      let us = some_of b (made_update x 0) (made_update x 1) in
      let key = codes "k" ++ decimal (upper_half x % 1000) in
      let count = to_be_bytes w16 (length us) in
      omega (
        arith,
        length-append (short_text key ++ count) (flat_map update_bytes us),
        length-append (short_text key) count,
        length-append (to_be_bytes w16 (length key)) key,
        name_few (codes "k") (upper_half x % 1000) refl key_small,
        all_few b (made_update x 0) (made_update x 1) (update_few x 0 small)
            (update_few x 1 small),
      )

-- ---- lines

number_small : (seed i : ℕ) → seed < 2 ^ 32 → number_of seed i < 2 ^ 32
number_small seed zero small = small
number_small seed (suc i) small = omega arith

all_made : (P : Mutation → Type 0) (seed count : ℕ) → seed < 2 ^ 32
    → ((x : ℕ) → x < 2 ^ 32 → P (made_line x)) → AllByRecursion P (made_lines seed count)
all_made P seed zero small each = tt
all_made P seed (suc count) small each =
    let x = number_of seed (suc count) in
    all_more P (made_lines seed count) (made_line x) (all_made P seed count small each)
    (each x (number_small seed (suc count) small))

pub made_many : (seed count : ℕ) → length (made_lines seed count) ≡ count
made_many seed zero = refl
made_many seed (suc count) =
    let line = made_line (number_of seed (suc count)) in
    omega (arith, length-append (made_lines seed count) (line ∷ []), made_many seed count)

pub made_within : (seed count : ℕ) → seed < 2 ^ 32
    → AllByRecursion IsWithinLimits (made_lines seed count)
made_within seed count small = all_made IsWithinLimits seed count small line_good

pub made_fit : (seed count : ℕ) → seed < 2 ^ 32
    → AllByRecursion (HasFittingEntry 1048576) (made_lines seed count)
made_fit seed count small = all_made (HasFittingEntry 1048576) seed count small line_fits
