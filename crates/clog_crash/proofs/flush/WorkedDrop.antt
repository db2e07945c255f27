-- A segment may be dropped once files of both its tables stand for their parts, and not before.
use Rattle.std.proofs.Common.{
  ◌≡◌,
  ◌⊎◌,
  ◌≤◌,
  inl,
  inr,
  List,
  [],
  ◌∷◌,
  refl,
  sym,
  ◌∙◌,
  ap,
  subst,
  arith,
}
use Rattle.std.specs.Prelude.{Contains}
use Rattle.clog_base.specs.declared.cell.Table.{Table}
use Rattle.clog_base.proofs.Members.{first_or_further, here, further, only_one}
use Rattle.clog_mutation.specs.declared.mutation.Mutation.{Mutation}
use Rattle.clog_mutation.specs.declared.mutation.Update.{Update}
use Rattle.clog_mutation.specs.Payload.{payload_of}
use Rattle.clog_mutation.specs.Stored.{IsStored}
use Rattle.clog_mutation.proofs.Decoding.{one_mutation}
use Rattle.clog_scan.specs.Segment.{Entry}
use Rattle.clog_table.specs.declared.table_file.TableFile.{TableFile}
use Rattle.clog_crash.specs.Droppable.{IsDroppable, Touches}
use Rattle.clog_crash.specs.Worked.{first_table, second_table, the_mutation}
use Rattle.clog_crash.specs.WorkedDrop.{
  both_entries,
  file_over,
  the_first_entry,
  the_other_mutation,
  the_other_update,
  the_second_entry,
}
use Rattle.clog_crash.proofs.worked.Cells.{the_update}
use Rattle.clog_crash.proofs.worked.Files.{ab, cd, stored}

other_stored : IsStored the_other_mutation
other_stored = record {
  key = record { size = record { some = omega arith; few = omega arith }; utf8 = ab };
  some = omega arith;
  few = omega arith;
  updates = (
    record {
      table = omega arith;
      column = record { size = record { some = omega arith; few = omega arith }; utf8 = cd };
      ts = record { sfits = omega arith };
      value = refl;
    },
    tt,
  );
}

-- ---- which tables the entries touch

touched : (m : Mutation) (u : Update) (entry : Entry) (table : Table) → IsStored m
    → m.updates ≡ u ∷ [] → entry.payload ≡ payload_of m → Touches entry table → u.table ≡ table
touched m u entry table is_stored one payload t =
    let same : t.mutation ≡ m =
    one_mutation t.mutation m t.said.stored is_stored (sym t.said.spelled ∙ payload) in
    let listed : Contains (u ∷ []) t.update =
    subst (λ (us : List Update). Contains us t.update) one
    (subst (λ (x : Mutation). Contains x.updates t.update) same t.listed) in
    ap (λ (x : Update). x.table) (only_one u t.update listed) ∙ t.same_table

-- an entry is one of the two, and ends from 60 to 92; and its table is one of the two
pub record IsOne (entry : Entry) (table : Table) : Type 0 where
  pub from : 60 ≤ entry.end
  pub to : entry.end ≤ 92
  pub tables : (first_table ≡ table) ⊎ (second_table ≡ table)

is_one : (entry : Entry) (table : Table) → Contains both_entries entry → Touches entry table
    → IsOne entry table
is_one entry table h t =
    elim (first_or_further the_first_entry (the_second_entry ∷ []) entry h) [
      | inl first ↦ record {
        from = omega (arith, ap (λ (e : Entry). e.end) first);
        to = omega (arith, ap (λ (e : Entry). e.end) first);
        tables = inl (touched the_mutation the_update entry table stored refl
            (ap (λ (e : Entry). e.payload) (sym first)) t);
      }
      | inr more ↦
          let second = only_one the_second_entry entry more in
          record {
            from = omega (arith, ap (λ (e : Entry). e.end) second);
            to = omega (arith, ap (λ (e : Entry). e.end) second);
            tables = inr (touched the_other_mutation the_other_update entry table other_stored refl
                (ap (λ (e : Entry). e.payload) (sym second)) t);
          }
    ]

second_touches : Touches the_second_entry second_table
second_touches = record {
  mutation = the_other_mutation;
  said = record { stored = other_stored; spelled = refl };
  update = the_other_update;
  listed = here the_other_update [];
  same_table = refl;
}

-- ---- with one file, and with both

pub one_is_not_enough : IsDroppable (file_over first_table ∷ []) 1000 both_entries → ⊥
one_is_not_enough d =
    let second = further the_first_entry (the_second_entry ∷ []) the_second_entry
    (here the_second_entry []) in
    let filed = d.filed second_table the_second_entry the_second_entry second second
    second_touches second_touches 92 (omega arith) (omega arith) in
    let file = only_one (file_over first_table) filed.file filed.listed in
    let tables : 0 ≡ 1 =
    ap (λ (f : TableFile). f.table.0) file ∙ ap (λ (t : Table). t.0) filed.same_table in
    omega (arith, tables)

abbrev both_files : List TableFile
both_files = file_over first_table ∷ file_over second_table ∷ []

has_file : (table : Table) → (first_table ≡ table) ⊎ (second_table ≡ table)
    → Contains both_files (file_over table)
has_file table (inl same) =
    subst (λ (t : Table). Contains both_files (file_over t)) same
    (here (file_over first_table) (file_over second_table ∷ []))
has_file table (inr same) =
    subst (λ (t : Table). Contains both_files (file_over t)) same
    (further (file_over first_table) (file_over second_table ∷ []) (file_over second_table)
    (here (file_over second_table) []))

pub both_are_enough : IsDroppable both_files 1000 both_entries
both_are_enough = record {
  entry = the_first_entry;
  has_entry = here the_first_entry (the_second_entry ∷ []);
  filed = λ table a b in_a in_b touches_a touches_b offset from to.
      let one = is_one a table in_a touches_a in
      let other = is_one b table in_b touches_b in
      record {
        file = file_over table;
        listed = has_file table one.tables;
        same_table = refl;
        inside = record {
          above = inr (refl, omega (arith, one.from, from));
          up_to = inr (refl, omega (arith, other.to, to));
        };
      };
}
