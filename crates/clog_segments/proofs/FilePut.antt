-- A table file for an interval of the log is the one that is put, as its one spelling.
use Rattle.std.proofs.Common.{
  ◌≡◌,
  ℕ,
  List,
  [],
  ◌∷◌,
  ◌++◌,
  Option,
  Some,
  None,
  inl,
  inr,
  refl,
  subst,
}
use Rattle.std.specs.Prelude.{OnErr, OnOk, Result, Ok, Err, option_map}
use Rattle.clog_spec.specs.Names.{table_name_of}
use Rattle.clog_base.specs.declared.cell.Cell.{Cell}
use Rattle.clog_base.specs.declared.cell.CellKey.{CellKey}
use Rattle.clog_base.specs.declared.position.Position.{Position}
use Rattle.clog_base.specs.Positions.{position_of}
use Rattle.clog_disk.specs.declared.change.Change.{Change}
use Rattle.clog_disk.specs.Changes.{Adds}
use Rattle.clog_disk.specs.Files.{Files, MayPutAt}
use Rattle.clog_scan.specs.Cut.{Section}
use Rattle.clog_table.specs.declared.table_file.TableFile.{TableFile}
use Rattle.clog_table.specs.Format.{file_of}
use Rattle.clog_table.specs.Refusals.{IsFileOf}
use Rattle.clog_crash.specs.Log.{Write}
use Rattle.clog_crash.specs.Readings.{Reading}
use Rattle.clog_segments.specs.declared.publishing.Published.{Published}
use Rattle.clog_segments.specs.Coming.{MayCome}
use Rattle.clog_segments.specs.Publishes.{IsNumbered, MayHaveCome, MayPut, file_at}
use Rattle.clog_segments.specs.Resting.{RestsAt}

-- what was written between two positions, and read from another place
pub spelled_at : (base : ℕ) (p : Published) (cells : List (CellKey × Cell))
    (lower upper : Position) (bytes given : List ℕ)
    → IsFileOf p.table bytes (file_of p.table lower upper cells)
    → lower ≡ position_of base p.lower.0 → upper ≡ position_of base p.upper.0 → bytes ≡ given
    → IsFileOf p.table given (file_at base p cells)
spelled_at base p cells lower upper bytes given spelled lower_is upper_is same =
    subst (λ (b : List ℕ). IsFileOf p.table b (file_at base p cells)) same
    (subst (λ (u : Position). IsFileOf p.table bytes (file_of p.table (position_of base p.lower.0) u
    cells)) upper_is
    (subst (λ (l : Position). IsFileOf p.table bytes (file_of p.table l upper cells)) lower_is
    spelled))

pub may_come : (base sequence : ℕ) (p : Published) (cells : List (CellKey × Cell))
    (told : Option Files) (leaves : List ℕ → Option (List ℕ) → Type 0) (r : Reading)
    (past : List Write) (id : ℕ) (old kept : List Section) (bytes : List ℕ)
    → IsNumbered base sequence p cells → IsFileOf p.table bytes (file_at base p cells)
    → MayPut told leaves r past id old kept (file_at base p cells) sequence
    → MayCome told leaves r past id old kept (file_at base p cells) sequence bytes
may_come base sequence p cells None leaves r past id old kept bytes numbered spelled may =
    absurd may
may_come base sequence p cells (Some f) leaves r past id old kept bytes numbered spelled may = (
  may.0,
  record {
    new = record {
      named = record {
        form = refl;
        table_fits = numbered.writable.table;
        sequence_starts = numbered.starts;
        sequence_fits = numbered.fits;
      };
      spelled = spelled;
      free = may.1.free;
      is_true = may.1.is_true;
    };
    below = may.1.below;
  },
)

pub put_rests : (told : Option Files) (leaves : List ℕ → Option (List ℕ) → Type 0) (r : Reading)
    (past : List Write) (id : ℕ) (old kept : List Section) (file : TableFile) (sequence : ℕ)
    → MayPut told leaves r past id old kept file sequence → RestsAt told leaves r past id old kept
put_rests None leaves r past id old kept file sequence may = absurd may
put_rests (Some f) leaves r past id old kept file sequence may = may.0

pub added : {T E : Type 0} (change : Change) (before now : Option (List Change))
    (result : Result T E) → Adds change before now result
    → OnOk result (now ≡ option_map (λ changes. changes ++ change ∷ []) before)
added change before now (Ok x) adds = adds
added change before now (Err e) adds = tt

-- it has perhaps come
pub may_have_come : {T E : Type 0} (file : TableFile) (sequence : ℕ) (bytes : List ℕ)
    → IsFileOf file.table bytes file → (told now : Option Files) (r : Result T E)
    → OnErr r (MayPutAt told now (table_name_of file.table.0 sequence) (Some bytes))
    → OnErr r (MayHaveCome told now file sequence)
may_have_come file sequence bytes spelled told now (Ok done) may = tt
may_have_come file sequence bytes spelled None now (Err fault) may = inl may
may_have_come file sequence bytes spelled (Some f) now (Err fault) may = elim may [
  | inl same ↦ inl same
  | inr puts ↦ inr (bytes, spelled, puts)
]
