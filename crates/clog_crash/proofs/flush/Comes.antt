-- A true table file comes, or a name that the folder does not read turns: the folder restores the
-- same.
use Rattle.std.proofs.Common.{◌≡◌, ℕ, inl, inr, List, ◌++◌, Some, sym, ◌∙◌, ap, subst}
use Rattle.std.specs.FinMap as finmap
use Rattle.clog_spec.specs.Names.{segment_name_of, table_name_of}
use Rattle.clog_disk.specs.Files.{Files}
use Rattle.clog_disk.proofs.Named.{same_or_other, put_here}
use Rattle.clog_scan.specs.Cut.{Section}
use Rattle.clog_table.specs.declared.table_file.TableFile.{TableFile}
use Rattle.clog_crash.specs.Changes.{DiffersAt}
use Rattle.clog_crash.specs.Flush.{IsTrueFile}
use Rattle.clog_crash.specs.Rest.{IsInFiles, settled}
use Rattle.clog_crash.specs.Restore.{IsInInterval}
use Rattle.clog_crash.specs.Sections.{IsStored}
use Rattle.clog_crash.proofs.changes.Came.{came}
use Rattle.clog_crash.proofs.changes.Names.{not_segment}
use Rattle.clog_crash.proofs.flush.NewFile.{
  beside,
  reads_new,
  no_segment,
  new_puts,
  new_or_older,
  tables_with,
}
use Rattle.clog_crash.proofs.flush.Turns.{Turns}
use Rattle.clog_crash.proofs.rest.Settled.{settled_here, settled_there}
use Rattle.clog_crash.proofs.rest.Standing.{held_before, older_stands, reads_same}

-- with the old sections alone the readings differ where the folders do
pub settled_differs : (f g : Files) (name : List ℕ) (id : ℕ) (old : List Section)
    → ((n : List ℕ) → (n ≡ name → ⊥) → finmap.get g n ≡ finmap.get f n)
    → DiffersAt name (settled f id old) (settled g id old)
settled_differs f g name id old elsewhere n apart =
    elim (same_or_other n (segment_name_of 6 id)) [
      | inl same ↦ ap (settled g id old) same ∙ settled_here g id old
          ∙ sym (settled_here f id old) ∙ ap (settled f id old) (sym same)
      | inr other ↦ settled_there g id old n other ∙ reads_same f g n (elsewhere n apart)
          ∙ sym (settled_there f id old n other)
    ]

module _ (f : Files) (id : ℕ) (old kept : List Section) (file : TableFile) (sequence : ℕ)
    (bytes : List ℕ) (stored : IsStored id (old ++ kept)) (in_f : IsInFiles f id old kept)
    (true_file : IsTrueFile f id old file sequence bytes) where
  abbrev t : List ℕ
  t = table_name_of file.table.0 sequence

  abbrev g : Files
  g = finmap.insert f t bytes

  abbrev r_f : List ℕ → List ℕ
  r_f = settled f id old

  off : (n : List ℕ) → (n ≡ t → ⊥) → finmap.get g n ≡ finmap.get f n
  off n apart = beside f r_f file sequence bytes true_file.new n apart

  t_apart : t ≡ segment_name_of 6 id → ⊥
  t_apart = not_segment id t file.table.0 sequence stored.fits true_file.new.named

  in_g : IsInFiles g id old kept
  in_g = record {
    reads = reads_same f g (segment_name_of 6 id)
        (off (segment_name_of 6 id) (λ same. t_apart (sym same))) ∙ in_f.reads;
    live = λ table at far skipped.
        elim (new_or_older f r_f file sequence bytes true_file.new skipped.file skipped.there) [
          | inl new ↦ true_file.below at
              (subst (λ (x : TableFile). IsInInterval x at) new skipped.inside) far
          | inr before ↦ in_f.live table at far (record {
            file = skipped.file;
            there = before;
            same_table = skipped.same_table;
            inside = skipped.inside;
          })
        ];
    tables = tables_with f r_f file sequence bytes true_file.new in_f.tables;
    segments = λ name version other named apart held.
        let stays = off name
        (no_segment f r_f file sequence bytes true_file.new name version other named) in
        older_stands f g name stays version other id
        (in_f.segments name version other named apart (held_before f g name stays held));
  }

  pub put_turns : Turns f g t (Some bytes) id old kept
  put_turns = record {
    apart = t_apart;
    beside = off;
    here = put_here f t bytes;
    same = came (settled f id old) (settled g id old) file sequence
        (new_puts f r_f file sequence bytes true_file.new (settled g id old)
        (settled_differs f g t id old off)
        (settled_there f id old t t_apart)
        (settled_there g id old t t_apart
        ∙ reads_new f r_f file sequence bytes true_file.new));
    in_files = in_g;
  }
