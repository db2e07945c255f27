-- A new table file beside the others.
use Rattle.std.proofs.Common.{
  ◌≡◌,
  ◌⊎◌,
  ℕ,
  inl,
  inr,
  List,
  [],
  Option,
  sym,
  ◌∙◌,
  ap,
  subst,
}
use Rattle.std.specs.Prelude.{unwrap_or}
use Rattle.std.specs.FinMap as finmap
use Rattle.clog_spec.specs.Names.{table_name_of, IsSegmentName, IsTableName}
use Rattle.clog_base.specs.declared.cell.Table.{Table}
use Rattle.clog_base.proofs.NameLaws.{one_table, segment_is_no_other}
use Rattle.clog_disk.specs.Files.{Files, bytes_at}
use Rattle.clog_disk.proofs.Named.{same_or_other, put_here, put_there}
use Rattle.clog_table.specs.declared.table_file.TableFile.{TableFile}
use Rattle.clog_table.specs.Refusals.{IsFileOf}
use Rattle.clog_crash.specs.Changes.{DiffersAt, Puts}
use Rattle.clog_crash.specs.Flush.{IsNewFile}
use Rattle.clog_crash.specs.Folder.{AreGoodTables, IsGoodTable, IsNameOf, Place}
use Rattle.clog_crash.specs.Readings.{Reading, IsTableIn}
use Rattle.clog_table.proofs.Again.{one_table_file}
use Rattle.clog_crash.proofs.changes.Nothing.{no_table}
use Rattle.clog_crash.proofs.rest.Standing.{held_before, table_stands, reads_same}

-- the tables of one name are one
pub one_place : (name : List ℕ) (table other : Table) (sequence number : ℕ)
    → IsTableName name table.0 sequence → IsTableName name other.0 number → table ≡ other
one_place name table other sequence number a b =
    let is = one_table name table.0 sequence other.0 number a b in
    λ i. record { 0 = is.0 i }

module _ (f : Files) (r : Reading) (file : TableFile) (sequence : ℕ) (bytes : List ℕ)
    (new : IsNewFile f r file sequence bytes) where
  abbrev t : List ℕ
  t = table_name_of file.table.0 sequence

  abbrev g : Files
  g = finmap.insert f t bytes

  pub beside : (n : List ℕ) → (n ≡ t → ⊥) → finmap.get g n ≡ finmap.get f n
  beside n apart = put_there f t bytes n apart

  pub reads_new : bytes_at g t ≡ bytes
  reads_new = ap (λ (o : Option (List ℕ)). unwrap_or o []) (put_here f t bytes)

  -- no segment has its name
  pub no_segment : (n : List ℕ) (version other : ℕ) → IsSegmentName n version other
      → n ≡ t → ⊥
  no_segment n version other named same =
      (segment_is_no_other n version other named).1 file.table.0 sequence
      (subst (λ (m : List ℕ). IsTableName m file.table.0 sequence) (sym same) new.named)

  -- a reading at this name that then reads the bytes there has taken it in
  pub new_puts : (q : Reading) → DiffersAt t r q → r t ≡ bytes_at f t → q t ≡ bytes
      → Puts r q file sequence
  new_puts q others before now = record {
    named = new.named;
    others = others;
    spelled = subst (λ (b : List ℕ). IsFileOf file.table b file) (sym now) new.spelled;
    free = λ other is. no_table other.table other (r t)
        (before ∙ ap (λ (o : Option (List ℕ)). unwrap_or o []) new.free) is;
    is_true = new.is_true;
  }

  -- a table file that is there is the new one, or was there before
  pub new_or_older : (other : TableFile) → IsTableIn (bytes_at g) other
      → (other ≡ file) ⊎ IsTableIn (bytes_at f) other
  new_or_older other x =
      let its = table_name_of other.table.0 x.sequence in
      elim (same_or_other its t) [
        | inl same ↦
            let table = one_place its other.table file.table x.sequence sequence x.named
            (subst (λ (n : List ℕ). IsTableName n file.table.0 sequence) (sym same) new.named) in
            let spelled : IsFileOf other.table bytes other =
            subst (λ (b : List ℕ). IsFileOf other.table b other)
            (ap (bytes_at g) same ∙ reads_new) x.spelled in
            inl (one_table_file file.table bytes file other new.spelled
            (subst (λ (y : Table). IsFileOf y bytes other) table spelled))
        | inr apart ↦ inr (record {
          sequence = x.sequence;
          named = x.named;
          spelled = subst (λ (b : List ℕ). IsFileOf other.table b other)
              (reads_same f g its (beside its apart)) x.spelled;
        })
      ]

  new_is_good : (place : Place) (name : List ℕ) → IsNameOf place name → name ≡ t
      → IsGoodTable g place name file
  new_is_good place name named same =
      let table = one_place name file.table place.0 sequence place.1
      (subst (λ (n : List ℕ). IsTableName n file.table.0 sequence) (sym same) new.named) named in
      record {
        bytes = bytes;
        there = ap (finmap.get g) same ∙ put_here f t bytes;
        spelled = subst (λ (y : Table). IsFileOf y bytes file) table new.spelled;
      }

  pub tables_with : AreGoodTables f → AreGoodTables g
  tables_with tables place name named held = elim (same_or_other name t) [
    | inl same ↦ (file, new_is_good place name named same)
    | inr apart ↦
        let good = tables place name named (held_before f g name (beside name apart) held) in
        (good.0, table_stands f g name (beside name apart) place good.0 good.1)
  ]
