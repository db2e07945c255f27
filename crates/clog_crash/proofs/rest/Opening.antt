-- A folder that has no segment, and one above all that it names: there the log may begin.
use Rattle.std.proofs.Common.{
  ◌≡◌,
  ℕ,
  ◌<◌,
  ◌^◌,
  inl,
  inr,
  List,
  [],
  Option,
  Some,
  None,
  refl,
  ap,
  arith,
}
use Rattle.std.specs.Prelude.{IsSome, unwrap_or}
use Rattle.std.specs.FinMap as finmap
use Rattle.clog_spec.specs.Names.{segment_name_of}
use Rattle.clog_base.specs.declared.position.Position.{Position}
use Rattle.clog_base.specs.Positions.{IsUpTo}
use Rattle.clog_disk.specs.Files.{Files, bytes_at}
use Rattle.clog_table.specs.declared.table_file.TableFile.{TableFile}
use Rattle.clog_crash.specs.Flush.{IsSettled}
use Rattle.clog_crash.specs.Folder.{HasSegmentFile}
use Rattle.clog_crash.specs.Readings.{IsTableIn}
use Rattle.clog_crash.specs.Rest.{IsAtRest, IsBeyond, IsInFiles}
use Rattle.clog_crash.proofs.changes.Names.{is_named}
use Rattle.clog_crash.proofs.rest.Rolling.{at_rest_anew}

absent_of : (o : Option (List ℕ)) → (IsSome o → ⊥) → o ≡ None
absent_of None refused = refl
absent_of (Some b) refused = absurd (refused refl)

-- no interval that ends below the segment reaches into it
not_reached : (id : ℕ) (file : TableFile) (at : Position) → file.upper.id < id
    → IsBeyond id [] at → IsUpTo at file.upper → ⊥
not_reached id file at below far up_to =
    let further : file.upper.id < at.id = elim far [
      | inl here ↦ omega (arith, below, here.0)
      | inr later ↦ omega (arith, below, later.0)
    ] in
    elim up_to [
      | inl less ↦ omega (arith, further, less)
      | inr same ↦ omega (arith, further, same.0)
    ]

pub at_opening : (f : Files) (leaves : List ℕ → Option (List ℕ) → Type 0) (id : ℕ) → id < 2 ^ 63
    → IsSettled f leaves → ¬ HasSegmentFile f
    → ((file : TableFile) → IsTableIn (bytes_at f) file → file.upper.id < id)
    → IsAtRest f leaves id [] []
at_opening f leaves id fits settled none below =
    let s = segment_name_of 6 id in
    let absent : finmap.get f s ≡ None =
    absent_of (finmap.get f s) (λ held. none (s, held, (6, (id, is_named id fits)))) in
    let in_f : IsInFiles f id [] [] = record {
      reads = ap (λ (o : Option (List ℕ)). unwrap_or o []) absent;
      live = λ table at far skipped.
          not_reached id skipped.file at (below skipped.file skipped.there) far
          skipped.inside.up_to;
      tables = settled.undamaged.tables;
      segments = λ name version other named apart held.
          absurd (none (name, held, (version, (other, named))));
    } in
    at_rest_anew f leaves id fits in_f absent settled.exact
