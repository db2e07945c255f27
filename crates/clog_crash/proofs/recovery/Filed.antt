-- One table's file after another comes, each true; then files stand for all of the log.
use Rattle.std.proofs.Common.{◌⊎◌, ℕ, inl, inr, List, [], ◌∷◌, sym, ◌∙◌, ap, subst}
use Rattle.std.specs.Prelude.{Contains, ◌↔◌}
use Rattle.clog_base.specs.declared.cell.Cell.{Cell}
use Rattle.clog_base.specs.declared.cell.CellKey.{CellKey}
use Rattle.clog_base.specs.declared.cell.Table.{Table}
use Rattle.clog_base.specs.declared.position.Position.{Position}
use Rattle.clog_base.proofs.Members.{first_or_further, here, further, nothing_there}
use Rattle.clog_cells.proofs.Merging.{of_same}
use Rattle.clog_table.specs.declared.table_file.TableFile.{TableFile}
use Rattle.clog_crash.specs.Changes.{AreCovered, IsLiveInside, IsTrueOf, Puts}
use Rattle.clog_crash.specs.Readings.{Reading, IsSkippedIn}
use Rattle.clog_crash.specs.Recovery.{
  AreAllLive,
  AreFiled,
  HoldsAll,
  IsLiveOf,
  IsRecoveryFile,
}
use Rattle.clog_crash.specs.Restore.{end_position}
use Rattle.clog_crash.proofs.changes.Came.{log_before, log_now, new_or_older, new_there, older}
use Rattle.clog_crash.proofs.changes.Covering.{merges_are_true}
use Rattle.clog_crash.proofs.recovery.Whole.{recovery_file_holds_all}

-- ---- the first step, and each next one

pub none_filed : (r : Reading) → AreFiled r r []
none_filed r = record {
  log = λ id entry. (λ l. l, λ l. l);
  older = λ file t. t;
  no_other = λ file t. inl t;
  filed = λ table h. absurd (nothing_there table h);
  others = λ table at apart s. s;
}

pub filed_next : (r q q' : Reading) (done : List Table) (file : TableFile) (sequence : ℕ)
    → AreFiled r q done → IsRecoveryFile r file → Puts q q' file sequence
    → AreFiled r q' (file.table ∷ done)
filed_next r q q' done file sequence so_far is p = record {
  log = λ id entry. (
    λ l. (so_far.log id entry).0 (log_before q q' file sequence p id entry l),
    λ l. log_now q q' file sequence p id entry ((so_far.log id entry).1 l),
  );
  older = λ other t. older q q' file sequence p other (so_far.older other t);
  no_other = λ other t. elim (new_or_older q q' file sequence p other t) [
    | inl new ↦ inr (subst (IsRecoveryFile r) (sym new) is)
    | inr before ↦ so_far.no_other other before
  ];
  filed = λ table h id entry l. elim (first_or_further file.table done table h) [
    | inl same ↦ record {
      file = file;
      there = new_there q q' file sequence p;
      same_table = same;
      inside = recovery_file_holds_all r file is id entry l;
    }
    | inr before ↦
        let s = so_far.filed table before id entry l in
        record {
          file = s.file;
          there = older q q' file sequence p s.file s.there;
          same_table = s.same_table;
          inside = s.inside;
        }
  ];
  others = λ table at apart s. elim (new_or_older q q' file sequence p s.file s.there) [
    | inl new ↦ absurd (apart (subst (Contains (file.table ∷ done))
        (ap (λ (f : TableFile). f.table) (sym new) ∙ s.same_table) (here file.table done)))
    | inr before ↦ so_far.others table at
        (λ listed. apart (further file.table done table listed)) (record {
          file = s.file;
          there = before;
          same_table = s.same_table;
          inside = s.inside;
        })
  ];
}

-- ---- what is live of the other tables is as at first

module _ (r q : Reading) (done : List Table) (so_far : AreFiled r q done) (table : Table)
    (apart : Contains done table → ⊥) where
  skipped_now : (at : Position) → IsSkippedIn r table at → IsSkippedIn q table at
  skipped_now at s = record {
    file = s.file;
    there = so_far.older s.file s.there;
    same_table = s.same_table;
    inside = s.inside;
  }

  live_now : (pair : CellKey × Cell) → IsLiveOf r table pair → IsLiveOf q table pair
  live_now pair l = record {
    cell = record {
      id = l.cell.id;
      entry = l.cell.entry;
      logged = (so_far.log l.cell.id l.cell.entry).1 l.cell.logged;
      cell = l.cell.cell;
      kept = λ s. l.cell.kept (subst (λ (t : Table).
          IsSkippedIn r t (end_position l.cell.id l.cell.entry)) l.same_table
          (so_far.others table (end_position l.cell.id l.cell.entry) apart
          (subst (λ (t : Table). IsSkippedIn q t (end_position l.cell.id l.cell.entry))
          (sym l.same_table) s)));
    };
    same_table = l.same_table;
  }

  live_before : (pair : CellKey × Cell) → IsLiveOf q table pair → IsLiveOf r table pair
  live_before pair l = record {
    cell = record {
      id = l.cell.id;
      entry = l.cell.entry;
      logged = (so_far.log l.cell.id l.cell.entry).0 l.cell.logged;
      cell = l.cell.cell;
      kept = λ s. l.cell.kept (subst (λ (t : Table).
          IsSkippedIn q t (end_position l.cell.id l.cell.entry)) l.same_table
          (skipped_now (end_position l.cell.id l.cell.entry)
          (subst (λ (t : Table). IsSkippedIn r t (end_position l.cell.id l.cell.entry))
          (sym l.same_table) s)));
    };
    same_table = l.same_table;
  }

  pub live_same : (pair : CellKey × Cell) → IsLiveOf r table pair ↔ IsLiveOf q table pair
  live_same pair = (live_now pair, live_before pair)

-- ---- the next file is true

-- where the interval holds the whole log, what is live inside is all that is live of the table
live_inside : (r q : Reading) (done : List Table) (file : TableFile) → AreFiled r q done
    → HoldsAll r file → (pair : CellKey × Cell)
    → IsLiveOf q file.table pair ↔ IsLiveInside q file pair
live_inside r q done file so_far holds pair = (
  λ l. record {
    cell = l.cell;
    same_table = l.same_table;
    inside = holds l.cell.id l.cell.entry
        ((so_far.log l.cell.id l.cell.entry).0 l.cell.logged);
  },
  λ l. record { cell = l.cell; same_table = l.same_table },
)

pub next_is_true : (r q : Reading) (done : List Table) (file : TableFile) → AreFiled r q done
    → (Contains done file.table → ⊥) → IsRecoveryFile r file → IsTrueOf q file
next_is_true r q done file so_far apart is =
    let holds = recovery_file_holds_all r file is in
    merges_are_true q file
    (of_same (IsLiveOf q file.table) (IsLiveInside q file) file.cells
    (live_inside r q done file so_far holds)
    (of_same (IsLiveOf r file.table) (IsLiveOf q file.table) file.cells
    (live_same r q done so_far file.table apart) is.cells))

-- ---- at the end files stand for each segment

pub all_covered : (r q : Reading) (done : List Table) (id : ℕ) → AreFiled r q done
    → AreAllLive r done
    → ((table : Table) (at : Position)
    → IsSkippedIn r table at ⊎ (IsSkippedIn r table at → ⊥)) → AreCovered q id
all_covered r q done id so_far live decides entry l pair cell =
    let logged = (so_far.log id entry).0 l in
    elim (decides pair.0.table (end_position id entry)) [
      | inl s ↦ record {
        file = s.file;
        there = so_far.older s.file s.there;
        same_table = s.same_table;
        inside = s.inside;
      }
      | inr kept ↦ so_far.filed pair.0.table (live pair (record {
        id = id;
        entry = entry;
        logged = logged;
        cell = cell;
        kept = kept;
      })) id entry logged
    ]
