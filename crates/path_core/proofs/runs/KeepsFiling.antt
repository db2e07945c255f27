-- Files, and the places of closed writes: what is true of them holds at the opening, and each
-- allowed step keeps it.
use Rattle.std.proofs.Common.{◌≡◌, ℕ, ap, arith}
use Rattle.clog_base.specs.Sizes.{IsWithinLimits}
use Rattle.path_core.specs.declared.event.Event.{Event}
use Rattle.path_core.specs.declared.state.PathState.{PathState}
use Rattle.path_core.specs.declared.state.TableState.{TableState}
use Rattle.path_core.specs.Parts.{table_of, fresh_table}
use Rattle.path_core.specs.Allowed.{IsStep}
use Rattle.path_core.specs.Next.{next_of}
use Rattle.path_core.specs.Whole.{CarriesWhole}
use Rattle.path_core.specs.Runs.{opening}
use Rattle.path_core.specs.Lawful.{IsLawfulPlacing, IsLawfulFiling}
use Rattle.path_core.specs.LawfulPlaces.{PlacedOnce, RunningAreUnplaced}
use Rattle.path_core.specs.LawfulTables.{LastFiles, FilesBegin, RetiredAreFiled}
use Rattle.path_core.proofs.files.KeepsLast.{keeps_last, keeps_begin}
use Rattle.path_core.proofs.files.KeepsRetired.{keeps_retired}
use Rattle.path_core.proofs.places.KeepsOnce.{
  keeps_unplaced,
  keeps_one,
  placed_once,
  closed_is_placed,
}
use Rattle.path_core.proofs.files.FilesTrue.{files_true}
use Rattle.path_core.proofs.runs.KeepsPlacing.{keeps_placing}
use Rattle.path_core.proofs.runs.OpeningPlaces.{opening_placing}
use Rattle.path_core.proofs.lists.Replaced.{replicated}

-- What closed writes and files are follows from the other fields.
lawful_filing : (x : PathState) → IsLawfulPlacing x → LastFiles x → FilesBegin x
    → RetiredAreFiled x → RunningAreUnplaced x → PlacedOnce x → IsLawfulFiling x
lawful_filing x Z F B R U S = record {
  placing = Z;
  last_file_is_retired = F;
  files_begin = B;
  retired_is_filed = R;
  running_is_unplaced = U;
  placed_once = S;
  closed_is_placed = closed_is_placed x Z S;
  files_are_true = files_true x Z F B R;
}

-- Each allowed step keeps that files are lawful.
pub keeps_filing : (x : PathState) → IsLawfulFiling x → (e : Event) → IsStep x e
    → CarriesWhole e → IsLawfulFiling (next_of x e)
keeps_filing x K e a whole =
    let N = keeps_placing x K.placing e a whole in
    let U = keeps_unplaced x K.placing K.running_is_unplaced e a in
    lawful_filing (next_of x e) N (keeps_last x K.placing K.last_file_is_retired e a)
    (keeps_begin x K.placing K.last_file_is_retired K.files_begin e a)
    (keeps_retired x K.placing K.last_file_is_retired K.retired_is_filed e a N) U
    (placed_once (next_of x e) N U
    (keeps_one x K.placing K.running_is_unplaced K.placed_once e a))

-- At the opening there is no file and nothing is placed.
pub opening_filing : (tables seats capacity ordinals base : ℕ)
    → IsWithinLimits tables seats capacity ordinals
    → IsLawfulFiling (opening tables seats capacity ordinals base)
opening_filing tables seats capacity ordinals base limits =
    lawful_filing x Z (record {
      below = λ t inside. omega arith;
      each = λ f h. absurd (let l = h.1 in omega arith);
    }) (λ f h. absurd (let l = h.1 in omega arith)) (record {
      each = λ t m inside l. absurd (let z : (table_of x t).oldest_live ≡ 0
          = ap (λ (tb : TableState). tb.oldest_live) (replicated tables t fresh_table)
          in omega arith);
      follow = λ t. tt;
    }) U (placed_once x Z U (λ t entry. omega arith))
  where
    x : PathState
    x = opening tables seats capacity ordinals base

    Z : IsLawfulPlacing x
    Z = opening_placing tables seats capacity ordinals base limits

    U : RunningAreUnplaced x
    U w r p claim h is = let l = h.1 in absurd (omega arith)
