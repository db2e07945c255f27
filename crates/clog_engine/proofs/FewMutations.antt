-- A file has as many mutations as lines.
use Rattle.std.proofs.Common.{
  ◌≡◌,
  ℕ,
  suc,
  ◌+◌,
  ◌≤◌,
  List,
  [],
  ◌∷◌,
  length,
  Result,
  Ok,
  Err,
  refl,
  sym,
  ap,
  ◌∙◌,
  arith,
}
use Rattle.std.specs.Prelude.{IfOk}
use Rattle.std.specs.Result.{result_unwrap_or}
use Rattle.clog_mutation.specs.declared.mutation.Mutation.{Mutation}
use Rattle.clog_text.specs.declared.refusal.BadLine.{BadLine}
use Rattle.clog_text.specs.FileLines.{line_limit, lines_of}
use Rattle.clog_text.specs.LineMutation.{line_mutation}
use Rattle.clog_text.specs.FileMutations.{Refused, first_then, mutations_from}
use Rattle.clog_engine.specs.declared.status.Status.{Status}
use Rattle.clog_engine.specs.Reading.{GivesMutations}

one_more : (first : Result Mutation BadLine) (n k : ℕ) (rest : Result (List Mutation) Refused)
    (all : List Mutation) → first_then first n rest ≡ Ok all
    → ((others : List Mutation) → rest ≡ Ok others → length others ≡ k) → length all ≡ suc k
one_more (Err cause) n k rest all is others = cc
one_more (Ok m) n k (Ok ms) all is others =
    sym (ap (λ (r : Result (List Mutation) Refused). length (result_unwrap_or r [])) is)
    ∙ ap suc (others ms refl)
one_more (Ok m) n k (Err refused) all is others = cc

length-mutations_from : (n : ℕ) (lines : List (List ℕ)) (all : List Mutation)
    → mutations_from n lines ≡ Ok all → length all ≡ length lines
unfolding mutations_from
length-mutations_from n [] all is =
    sym (ap (λ (r : Result (List Mutation) Refused). length (result_unwrap_or r [])) is)
length-mutations_from n (line ∷ lines) all is =
    one_more (line_mutation line) n (length lines) (mutations_from (n + 1) lines) all is
    (length-mutations_from (n + 1) lines)

-- the mutations of a file that is not too long are few
pub few_mutations : (bytes : List ℕ) (r : Result (List Mutation) Status) → GivesMutations bytes r
    → IfOk r (λ ms. length ms ≤ line_limit)
few_mutations bytes (Ok ms) given =
    let same : length ms ≡ length (lines_of bytes) =
    length-mutations_from 1 (lines_of bytes) ms given.1 in
    omega (arith, same, given.0)
few_mutations bytes (Err status) given = tt
