-- A table file that was put stands yet. The one with which the disk has failed does too, or is its
-- table's next one.
use Rattle.std.proofs.Common.{
  ◌≡◌,
  ℕ,
  inl,
  inr,
  Bool,
  true,
  List,
  Option,
  Some,
  None,
  IfSome,
  refl,
  sym,
  ◌∙◌,
  ap,
  subst,
}
use Rattle.std.specs.FinMap as finmap
use Rattle.clog_spec.specs.Names.{IsTableName, table_name_of}
use Rattle.clog_disk.specs.Files.{Files, PutsAt}
use Rattle.clog_disk.proofs.Named.{put_here}
use Rattle.clog_scan.specs.Cut.{Section}
use Rattle.clog_table.specs.declared.table_file.TableFile.{TableFile}
use Rattle.clog_table.specs.Refusals.{IsFileOf}
use Rattle.clog_crash.specs.Folder.{IsBase}
use Rattle.clog_crash.proofs.OneMore.{some_is}
use Rattle.clog_segments.specs.AtMost.{IsNextWithin, StandsYet}
use Rattle.clog_segments.specs.Named.{HasSequence, OneHas}
use Rattle.clog_segments.specs.Publishes.{IsTrueHere, MayHaveCome}
use Rattle.clog_segments.proofs.AtMost.{free_here}
use Rattle.clog_segments.proofs.NextNames.{held_next}

pub put_yet : (told now : Option Files) (own : List ℕ) (file : TableFile) (bytes : List ℕ)
    (is_stopped : Bool) → PutsAt told now own (Some bytes) → IsFileOf file.table bytes file
    → (g : Files) → now ≡ Some g → (other : List ℕ) → IsFileOf file.table other file
    → StandsYet g is_stopped own other
put_yet None now own file bytes is_stopped puts spelled g at_now other same =
    let no : None ≡ Some g = sym puts ∙ at_now in cc
put_yet (Some h) now own file bytes is_stopped puts spelled g at_now other same =
    inl (subst (λ (x : Files). finmap.get x own ≡ Some other)
    (some_is (finmap.insert h own bytes) g (sym puts ∙ at_now))
    (put_here h own bytes ∙ ap Some (spelled.spelled ∙ sym same.spelled)))

pub maybe_yet : (told now : Option Files) (id : ℕ) (old : List Section) (file : TableFile)
    (sequence : ℕ)
    → IsTableName (table_name_of file.table.0 sequence) file.table.0 sequence
    → IsNextWithin told id file sequence
    → IfSome told (λ h. IsTrueHere h id old file sequence) → MayHaveCome told now file sequence
    → (g : Files) → now ≡ Some g → (bytes : List ℕ) → IsFileOf file.table bytes file
    → StandsYet g true (table_name_of file.table.0 sequence) bytes
maybe_yet told now id old file sequence named next here maybe g at_now bytes spelled =
    elim maybe [
      | inl same ↦
          let still : told ≡ Some g = sym same ∙ at_now in
          let base = subst (λ (o : Option Files). IfSome o (λ h.
          IsBase (OneHas (HasSequence file.table) (finmap.keys h)) 1 sequence)) still next.next in
          inr (
            refl,
            record {
              table = file.table.0;
              sequence = sequence;
              named = named;
              next = held_next g file.table sequence base;
              free = free_here told g id old file sequence still here;
            },
          )
      | inr came ↦
          put_yet told now (table_name_of file.table.0 sequence) file came.0 true came.2 came.1 g
          at_now bytes spelled
    ]
