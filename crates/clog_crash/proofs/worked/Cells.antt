-- The cells of the table file and of the log, in the folder of the worked row.
use Rattle.std.proofs.Common.{
  ◌≡◌,
  ◌<◌,
  ◌^◌,
  ℕ,
  List,
  [],
  ◌∷◌,
  inl,
  inr,
  sym,
  ap,
  subst,
  ◌∙◌,
  arith,
  codes,
}
use Rattle.std.specs.Prelude.{Contains}
use Rattle.clog_spec.specs.Names.{IsSegmentName}
use Rattle.clog_spec.specs.Sizes.{most_tables}
use Rattle.clog_base.proofs.NameLaws.{one_segment, segment_is_no_other}
use Rattle.clog_base.specs.declared.cell.Cell.{Cell}
use Rattle.clog_base.specs.declared.cell.CellKey.{CellKey}
use Rattle.clog_base.specs.declared.cell.Table.{Table}
use Rattle.clog_mutation.specs.declared.mutation.Mutation.{Mutation}
use Rattle.clog_mutation.specs.declared.mutation.Update.{Update}
use Rattle.clog_mutation.specs.Payload.{pair_of}
use Rattle.clog_mutation.proofs.Decoding.{one_mutation}
use Rattle.clog_scan.specs.declared.answer.End.TheVariants.{Clean}
use Rattle.clog_scan.specs.Segment.{Entry, IsSegment}
use Rattle.clog_scan.proofs.Theorems.{one_segment as one_reading}
use Rattle.clog_table.specs.declared.table_file.TableFile.{TableFile}
use Rattle.clog_crash.specs.Restore.{IsLogged, IsLoggedCell, IsTableCell}
use Rattle.clog_crash.specs.Worked.{
  a_deletion,
  filed,
  first_table,
  logged,
  the_folder,
  the_mutation,
  the_segment,
}
use Rattle.clog_base.proofs.Members.{here, only_one}
use Rattle.clog_crash.proofs.worked.Files.{held, is_segment_file, segment_name, stored, the_entry}
use Rattle.clog_crash.proofs.worked.Folder.{
  is_read,
  named_segment,
  named_table,
  read_is,
  stands,
  the_read,
}

-- ---- its cells

pub filed_is : (table : Table) (upper : ℕ) (pair : CellKey × Cell) → table.0 < most_tables
    → upper < 2 ^ 32 → IsTableCell (the_folder table upper) pair → filed table ≡ pair
filed_is table upper pair few fits c =
    only_one (filed table) pair
    (subst (λ (f : TableFile). Contains f.cells pair)
    (sym (read_is table upper few fits c.read c.there)) c.listed)

pub is_filed : (table : Table) (upper : ℕ) → table.0 < most_tables → upper < 2 ^ 32
    → IsTableCell (the_folder table upper) (filed table)
is_filed table upper few fits = record {
  read = the_read table upper;
  there = is_read table upper few fits;
  listed = here (filed table) [];
}

-- ---- its log

pub logged_is : (table : Table) (upper id : ℕ) (entry : Entry) → table.0 < most_tables
    → IsLogged (the_folder table upper) id entry → (1000 ≡ id) × (the_entry ≡ entry)
logged_is table upper id entry few l =
    let s = l.segment in
    elim (stands table upper l.name s.bytes s.there) [
      | inl is ↦ absurd ((segment_is_no_other l.name 6 id s.named).1 table.0 1
          (named_table table l.name few is.0))
      | inr is ↦
          let ids = one_segment segment_name 6 1000 6 id named_segment
          (subst (λ (n : List ℕ). IsSegmentName n 6 id) is.0 s.named) in
          let holds : IsSegment the_segment 1000 l.entries l.end =
          subst (λ (i : ℕ). IsSegment the_segment i l.entries l.end) (sym ids.1)
          (subst (λ (b : List ℕ). IsSegment b id l.entries l.end) (sym is.1) s.holds) in
          let one = one_reading the_segment 1000 l.entries l.end (the_entry ∷ []) (Clean 60)
          is_segment_file (omega arith) holds held in (
            ids.1,
            only_one the_entry entry
                (subst (λ (es : List Entry). Contains es entry) one.entries_are l.listed),
          )
    ]

abbrev pub the_update : Update
the_update = record { table = first_table; column = codes "cd"; cell = a_deletion }

pub update_is : (table : Table) (upper : ℕ) (pair : CellKey × Cell) → table.0 < most_tables
    → (c : IsLoggedCell (the_folder table upper) pair)
    → (1000 ≡ c.id) × (the_entry ≡ c.entry) × (the_mutation ≡ c.mutation)
    × (the_update ≡ c.update)
update_is table upper pair few c =
    let l = logged_is table upper c.id c.entry few c.logged in
    let same : c.mutation ≡ the_mutation =
    one_mutation c.mutation the_mutation c.said.stored stored
    (sym c.said.spelled ∙ ap (λ (e : Entry). e.payload) (sym l.1)) in (
      l.0,
      l.1,
      sym same,
      only_one the_update c.update
          (subst (λ (m : Mutation). Contains m.updates c.update) same c.listed),
    )

pub logged_cell_is : (table : Table) (upper : ℕ) (pair : CellKey × Cell) → table.0 < most_tables
    → IsLoggedCell (the_folder table upper) pair → logged ≡ pair
logged_cell_is table upper pair few c =
    let u = update_is table upper pair few c in
    sym (subst (λ (v : Update). pair ≡ pair_of (codes "ab") v) (sym u.3)
    (subst (λ (m : Mutation). pair ≡ pair_of m.key c.update) (sym u.2) c.is))
