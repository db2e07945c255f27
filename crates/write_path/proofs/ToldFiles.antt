-- What seats' trails tell of the keeper's files, and that each of these stands for an entry.
use Rattle.std.proofs.Common.{◌≡◌, ℕ, List, map, sym, ap, ◌∙◌, subst}
use Rattle.std.specs.List.{Contains}
use Rattle.std.proofs.lemmas.Bool.{and_parts, leb-true, ltb-true}
use Rattle.path_core.specs.declared.event.Event.{Event}
use Rattle.path_core.specs.declared.state.Bound.TheVariants.{Final}
use Rattle.path_core.specs.declared.state.PathState.{PathState}
use Rattle.path_core.specs.declared.state.WrittenFile.{WrittenFile}
use Rattle.path_core.specs.History.{is_touching}
use Rattle.path_core.specs.Keeper.{PutFile}
use Rattle.path_core.specs.Lawful.{IsLawfulPath}
use Rattle.path_core.specs.Parts.{memtable_of}
use Rattle.path_core.proofs.lists.Inserted.{map_from, map_old}
use Rattle.path_core.proofs.lists.Passing.{filter_from}
use Rattle.path_rule.specs.declared.view.OwnStep.{OwnStep}
use Rattle.path_rule.specs.Filing.{file_range}
use Rattle.path_rule.specs.Trails.{HasFileFrom, TrailTells}
use Rattle.write_path.specs.ClosedFiles.{AreGiven, HasEntryBetween, IsGiven, held_range}
use Rattle.write_path.proofs.FilesGiven.{CameBy}

module _ (x : PathState) (files : List PutFile)
    (same : map held_range files ≡ map file_range x.files) where
  -- the keeper has the file that the run has
  is_given : (t m from : ℕ) → HasFileFrom x t m from → IsGiven x files t m from
  is_given t m from H =
      let g = map_from held_range files (file_range H.file)
      (subst (λ (l : List (ℕ × (ℕ × ℕ))). Contains l (file_range H.file)) (sym same)
      (map_old file_range x.files H.file H.among)) in record {
        file = g.0;
        among = g.1;
        of_table = ap (λ (r : ℕ × (ℕ × ℕ)). r.0) g.2 ∙ H.table;
        lower = ap (λ (r : ℕ × (ℕ × ℕ)). r.1.0) g.2 ∙ H.lower;
        upper = subst (λ (k : ℕ). (memtable_of x t m).bound ≡ Final (record { 0 = k }))
            (sym (ap (λ (r : ℕ × (ℕ × ℕ)). r.1.1) g.2)) H.upper;
      }

  pub are_given : (capacity : ℕ) (trail : List OwnStep) → TrailTells capacity x trail
      → AreGiven x files trail
  are_given capacity trail T t m lower R =
      (T.filled t m lower R, is_given t.0 m lower (T.filed t m lower R))

  module _ (L : IsLawfulPath x) (count : ℕ) (events : List Event)
      (came : (f : WrittenFile) → Contains x.files f → CameBy count events x f) where
    -- what is placed in a file's memtable ends within the file's interval
    in_run : (f : WrittenFile) → Contains x.files f
        → HasEntryBetween x.notes f.table f.lower f.upper
    in_run f there = let G = came f there in
        let I = (L.files_are_true f there G.entry).0 (subst (λ (t : ℕ).
        Contains x.placed (record { table = t; entry = G.entry; memtable = f.memtable }))
        G.of_table G.placed) in
        let among = filter_from (is_touching f.table f.lower f.upper) x.notes I.note I.among in
        let p = and_parts _ _ among.1 in let q = and_parts _ _ p.0 in record {
          note = I.note;
          among = among.0;
          touched = q.0;
          above = ltb-true f.lower I.note.end.0 q.1;
          up_to = leb-true I.note.end.0 f.upper p.1;
        }

    pub stand_for_some : (f : PutFile) → Contains files f
        → HasEntryBetween x.notes f.table f.lower f.upper
    stand_for_some f put =
        let g = map_from file_range x.files (held_range f)
        (subst (λ (l : List (ℕ × (ℕ × ℕ))). Contains l (held_range f)) same
        (map_old held_range files f put)) in
        subst (λ (r : ℕ × (ℕ × ℕ)). HasEntryBetween x.notes r.0 r.1.0 r.1.1) g.2
        (in_run g.0 g.1)
