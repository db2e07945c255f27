-- How many members a JSON object has, and how many items an array.
use Rattle.std.proofs.Common.{Err, ◌<◌, ◌≤◌, ◌≡◌, ℕ, List, [], ◌∷◌, length, Some, eqb, refl, sym}
use Rattle.std.proofs.Common.{ap, arith}
use Rattle.std.specs.Prelude.{String}
use Rattle.std.specs.declared.alloc.Global.{Global}
use Rattle.serde_json.specs.Data.{Data, null, boolean, number, string, array, object, Members}
use Rattle.serde_json.specs.Find.{as_object}
use Rattle.serde_json.specs.View.{members_view, items_view}
use Rattle.serde_json.specs.declared.value.Value.{Value}
use Rattle.clog_spec.specs.Sizes.{most_updates}
use Rattle.clog_text.specs.declared.refusal.Part.TheVariants.{Updates}
use Rattle.clog_text.specs.declared.refusal.BadLine.TheVariants.{Range}
use Rattle.std.proofs.lemmas.Bool.Decides.{nat_tests}
use Rattle.clog_text.specs.LineMutation.{members_len, items_len, has_members, counted, updates_of}

pub with_members : (d : Data) (ms : Members) (n : ℕ) → Some ms ≡ as_object d
    → has_members n d ≡ eqb (members_len ms) n
with_members null ms n e = cc
with_members (boolean b) ms n e = cc
with_members (number x) ms n e = cc
with_members (string s) ms n e = cc
with_members (array ds) ms n e = cc
with_members (object ns) ms n e =
    let same : ms ≡ ns = cc in ap (λ l. eqb (members_len l) n) (sym same)

pub members_len-members_view : (ms : List (String Global × Value))
    → members_len (members_view ms) ≡ length ms
members_len-members_view [] = refl
members_len-members_view (m ∷ ms) = omega (arith, members_len-members_view ms)

pub items_len-items_view : (vs : List Value) → items_len (items_view vs) ≡ length vs
items_len-items_view [] = refl
items_len-items_view (v ∷ vs) = omega (arith, items_len-items_view vs)

pub counted_some : (vs : List Value) → 1 ≤ length vs → length vs ≤ most_updates
    → counted (items_view vs) ≡ updates_of (items_view vs)
counted_some vs l h = let e = items_len-items_view vs in grind (arith, nat_tests)

pub counted_many : (vs : List Value) → most_updates < length vs
    → counted (items_view vs) ≡ Err (Range Updates)
counted_many vs h = let e = items_len-items_view vs in grind (arith, nat_tests)
