-- What a refusal says of the bytes contradicts that they are good.
use Rattle.std.proofs.Common.{
  ◌≡◌,
  ℕ,
  ◌<◌,
  List,
  [],
  ◌∷◌,
  ◌++◌,
  length,
  Option,
  Some,
  None,
  Result,
  Ok as ok,
  Err as err,
  sym,
  ap,
  subst,
  ◌∙◌,
  arith,
}
use Rattle.std.specs.Prelude.{IfSome}
use Rattle.std.specs.List.{AllByRecursion}
use Rattle.std.specs.Result.{result_unwrap_or}
use Rattle.clog_io.specs.Bytes.{TakesAll}
use Rattle.clog_mutation.specs.declared.mutation.Mutation.{Mutation}
use Rattle.clog_text.specs.declared.refusal.BadLine.{BadLine as Cause}
use Rattle.clog_text.specs.FileMutations.{Refused, file_mutations}
use Rattle.clog_shares.specs.Fitting.{HasFittingEntry, HasLargeMutation}
use Rattle.clog_engine.specs.Apply.{ReadsToEnd}
use Rattle.clog_engine.specs.Completes.{Tells}
use Rattle.clog_engine.specs.Input.{
  IsGood,
  HasLargeLine,
  HasManyLines,
  HasBadLine,
}
use Rattle.clog_spec.specs.Sizes.{file_limit}
use Rattle.clog_engine.specs.Outside.{Outside}

-- the bytes that were taken are those that were told
same_bytes : (left left_now : Option (List ℕ)) (bytes : List ℕ) (P : List ℕ → Type 0)
    → Tells left P → TakesAll left left_now bytes → P bytes
same_bytes None left_now bytes P good taken = absurd good
same_bytes (Some left) None bytes P good taken = absurd taken
same_bytes (Some left) (Some now) bytes P good taken = subst P (sym taken.0) good

-- a file has one list of mutations
one_list : (bytes : List ℕ) (ms ms' : List Mutation) → file_mutations bytes ≡ ok ms
    → file_mutations bytes ≡ ok ms' → ms ≡ ms'
one_list bytes ms ms' a b =
    ap (λ (r : Result (List Mutation) Refused). result_unwrap_or r []) (sym a ∙ b)

not_both : (bytes : List ℕ) (ms : List Mutation) (r : Refused) → file_mutations bytes ≡ ok ms
    → file_mutations bytes ≡ err r → ⊥
not_both bytes ms r a b = let same : ok ms ≡ err r = sym a ∙ b in cc

all_fit_in : (capacity : ℕ) (front : List Mutation) (m : Mutation) (rest : List Mutation)
    → AllByRecursion (HasFittingEntry capacity) (front ++ m ∷ rest) → HasFittingEntry capacity m
all_fit_in capacity [] m rest all = all.0
all_fit_in capacity (x ∷ front) m rest all = all_fit_in capacity front m rest all.1

pub none_is_large : (capacity : ℕ) (ms : List Mutation) (number size most : ℕ)
    → AllByRecursion (HasFittingEntry capacity) ms
    → HasLargeMutation capacity ms number size most → ⊥
none_is_large capacity ms number size most all large =
    let fits = all_fit_in capacity large.front large.large large.rest
    (subst (AllByRecursion (HasFittingEntry capacity)) large.parts all) in
    omega (arith, fits, large.over)

-- what the bytes that were taken say contradicts that those that were told are good
pub taken_good : (capacity : ℕ) (o : Outside) (P : List ℕ → Type 0)
    → Tells o.left (IsGood capacity) → ReadsToEnd o P
    → ((bytes : List ℕ) → IsGood capacity bytes → P bytes → ⊥) → ⊥
taken_good capacity o P good reads clash =
    clash reads.0 (same_bytes o.left o.left_now reads.0 (IsGood capacity) good reads.1) reads.2

pub good_is_no_bad_line : (capacity number : ℕ) (cause : Cause) (bytes : List ℕ)
    → IsGood capacity bytes → HasBadLine bytes number cause → ⊥
good_is_no_bad_line capacity number cause bytes good bad =
    not_both bytes good.mutations (number, cause) good.sized.read.read bad.refused

pub good_is_not_large : (capacity number size most : ℕ) (bytes : List ℕ) → IsGood capacity bytes
    → HasLargeLine capacity bytes number size most → ⊥
good_is_not_large capacity number size most bytes good large =
    none_is_large capacity large.mutations number size most
    (subst (AllByRecursion (HasFittingEntry capacity))
    (one_list bytes good.mutations large.mutations good.sized.read.read large.read.read)
    good.sized.sized) large.large

pub good_has_few_lines : (capacity : ℕ) (bytes : List ℕ) → IsGood capacity bytes
    → HasManyLines bytes → ⊥
good_has_few_lines capacity bytes good many =
    omega (arith, good.sized.read.split.few_lines, many.many_lines)

pub good_is_short : (capacity : ℕ) (left : Option (List ℕ)) → Tells left (IsGood capacity)
    → IfSome left (λ bytes. file_limit < length bytes) → ⊥
good_is_short capacity None good long = good
good_is_short capacity (Some bytes) good long =
    omega (arith, good.sized.read.split.few_bytes, long)
