-- The worked row of the order: its table file, and two further orders that are wrong.
use Rattle.std.proofs.Common.{
  ◌≡◌,
  ◌≤◌,
  inl,
  inr,
  Bool,
  true,
  [],
  ◌∷◌,
  refl,
  sym,
  ◌∙◌,
  ap,
  subst,
  arith,
}
use Rattle.clog_spec.specs.Names.{archive_name_of, segment_name_of}
use Rattle.clog_base.proofs.Members.{first_or_further, here, only_one}
use Rattle.clog_disk.specs.declared.change.Change.{Change}
use Rattle.clog_disk.specs.declared.change.Change.TheVariants as change
use Rattle.clog_crash.specs.Worked.{logged}
use Rattle.clog_crash.proofs.worked.Files.{ab, cd, one_in_order}
use Rattle.path_core.specs.Keeper.{PutFile}
use Rattle.clog_segments.specs.Discards.{goes_by}
use Rattle.clog_segments.specs.Notes.{note_at}
use Rattle.clog_segments.specs.StoreFolder.{PlacedFile}
use Rattle.clog_segments.specs.StoreOrder.{AreOrdered, publish_of}
use Rattle.clog_due.specs.WorkedOrder.{
  IsFirstFile,
  the_append,
  the_deeds,
  the_early_file,
  the_first_file,
  the_late_name,
  the_log,
}

-- ---- its table file

pub first_file : IsFirstFile the_first_file
first_file = record {
  spelled = record {
    named = record {
      form = refl;
      table_fits = omega arith;
      sequence_starts = omega arith;
      sequence_fits = omega arith;
    };
    spelled = record {
      is_file = record {
        table = omega arith;
        lower = record { id = omega arith; offset = omega arith };
        upper = record { id = omega arith; offset = omega arith };
        interval = inr (refl, omega arith);
        stored = (
          record {
            same_table = refl;
            key = record { size = record { some = omega arith; few = omega arith }; utf8 = ab };
            column = record { size = record { some = omega arith; few = omega arith }; utf8 = cd };
            ts = record { sfits = omega arith };
            value = refl;
          },
          tt,
        );
        map = record { ordered = one_in_order logged; few = omega arith };
      };
      same_table = refl;
      spelled = refl;
    };
  };
  table_is = refl;
  lower_is = refl;
  upper_is = refl;
}

-- ---- wrong orders

-- the file comes before its entry was appended
pub early : (archives : Bool) (p : PlacedFile) → IsFirstFile p
    → AreOrdered the_log (the_deeds archives p.put) (the_early_file archives p) → ⊥
early archives p first ordered =
    let c = ordered.each [] (the_append ∷ goes_by archives 1000) (publish_of p) refl in
    let same = only_one p.put c.file.put c.was_put in
    let upper : c.file.put.upper ≡ 60 =
    ap (λ (f : PutFile). f.upper) (sym same) ∙ first.upper_is in
    let long : 60 ≤ 0 = c.behind (note_at 28) (here (note_at 28) []) (omega (arith, upper)) in
    omega (arith, long)

abbrev IsNoLink : Change → Type 0
IsNoLink (change.Link old new) = ⊥
IsNoLink other = Unit {0}

-- the segment goes before it has its archive name
pub late : (p : PlacedFile) → IsFirstFile p
    → AreOrdered the_log (the_deeds true p.put) (the_late_name p) → ⊥
late p first ordered =
    let its_name = segment_name_of 6 1000 in
    let name = change.Link its_name (archive_name_of 1000) in
    let c = ordered.each (the_append ∷ publish_of p ∷ []) (name ∷ []) (change.Remove its_name) refl
    in
    let link = change.Link its_name (archive_name_of c.past.segment.id) in
    elim (first_or_further the_append (publish_of p ∷ []) link (c.archived refl)) [
      | inl same ↦ subst IsNoLink same tt
      | inr more ↦ subst IsNoLink (only_one (publish_of p) link more) tt
    ]
