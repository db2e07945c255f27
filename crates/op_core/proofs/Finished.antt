-- A test of the counts up to a group shows whether its barrier is passed.
use Rattle.std.proofs.Common.{
  ◌≡◌,
  ℕ,
  ◌+◌,
  ◌<◌,
  ◌↔◌,
  Bool,
  true,
  false,
  List,
  length,
  take,
  sym,
  ap,
  ◌∙◌,
  arith,
  eqb-true,
}
use Rattle.std.specs.Prelude.{IsTrue}
use Rattle.std.specs.List.{list_all}
use Rattle.std.proofs.lemmas.List.{length-take, get_or-take, get_or_default}
use Rattle.std.proofs.lemmas.List.Sums.{AllPass-from_list_all, list_all-from_AllPass}
use Rattle.op_core.specs.declared.count.Tally.{Tally}
use Rattle.op_core.specs.declared.count.Tally.TheVariants.{Open, Expired}
use Rattle.op_core.specs.Tallies.{is_finished, tally_at, IsPassed}

-- a count that passes the test is finished
pub is_finished-true : (k : Tally) → is_finished k ≡ true → k ≡ Expired 0
is_finished-true (Open r) e = absurd (let q : false ≡ true = e in cc)
is_finished-true (Expired r) e = ap Expired (eqb-true r 0 e)

length_upto : (ts : List Tally) (g : ℕ) → g < length ts → length (take (g + 1) ts) ≡ g + 1
length_upto ts g made = omega (arith, length-take (g + 1) ts)

pub passed_from_test : (ts : List Tally) (g : ℕ) → g < length ts
    → list_all is_finished (take (g + 1) ts) ≡ true → IsPassed ts g
passed_from_test ts g made e = record {
  made = made;
  finished = λ h le. is_finished-true (tally_at ts h)
      (let l = length_upto ts g made in
      ap is_finished (sym (get_or-take (g + 1) ts h (Open 0) (omega arith)))
      ∙ AllPass-from_list_all is_finished (take (g + 1) ts) e h (Open 0) (omega arith));
}

pub test_from_passed : (ts : List Tally) (g : ℕ) → IsPassed ts g
    → list_all is_finished (take (g + 1) ts) ≡ true
test_from_passed ts g p = list_all-from_AllPass is_finished (take (g + 1) ts) (λ h d inside.
    let l = length_upto ts g p.made in
    let below : h < g + 1 = omega arith in
    ap is_finished (get_or-take (g + 1) ts h d below
    ∙ (get_or_default ts h d (Open 0) (let m = p.made in omega arith) ∙ p.finished h
    (omega arith))))

-- the answer of the test on the counts that a slice shows
pub test_is_passed : (ts shown : List Tally) (g : ℕ) (r : Bool) → g < length ts → shown ≡ ts
    → r ≡ list_all is_finished (take (g + 1) shown) → IsTrue r ↔ IsPassed ts g
test_is_passed ts shown g r made same is =
    let e : r ≡ list_all is_finished (take (g + 1) ts)
    = is ∙ ap (λ l. list_all is_finished (take (g + 1) l)) same in
    ((λ t. passed_from_test ts g made (sym e ∙ t)), (λ p. e ∙ test_from_passed ts g p))
