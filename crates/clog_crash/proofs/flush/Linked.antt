-- A name that is no segment's and no table file's turns, as that of an archive: the folder restores
-- the same.
use Rattle.std.proofs.Common.{◌≡◌, ℕ, ◌<◌, ◌^◌, inl, inr, List, ◌++◌, Some, sym, ◌∙◌, subst}
use Rattle.std.specs.FinMap as finmap
use Rattle.clog_spec.specs.Names.{
  segment_name_of,
  table_name_of,
  IsArchiveName,
  IsSegmentName,
  IsTableName,
}
use Rattle.clog_base.specs.declared.cell.Cell.{Cell}
use Rattle.clog_base.specs.declared.cell.CellKey.{CellKey}
use Rattle.clog_base.specs.declared.cell.Table.{Table}
use Rattle.clog_base.specs.declared.position.Position.{Position}
use Rattle.clog_base.proofs.NameLaws.{segment_is_no_other, archive_is_no_table}
use Rattle.clog_disk.specs.Files.{Files, bytes_at}
use Rattle.clog_disk.proofs.Named.{put_here, put_there}
use Rattle.clog_scan.specs.Cut.{Section}
use Rattle.clog_scan.specs.Segment.{Entry, IsSegment}
use Rattle.clog_table.specs.declared.table_file.TableFile.{TableFile}
use Rattle.clog_table.specs.Refusals.{IsFileOf}
use Rattle.clog_crash.specs.Changes.{DiffersAt}
use Rattle.clog_crash.specs.Readings.{
  Reading,
  IsLoggedIn,
  IsSkippedIn,
  IsTableIn,
  RestoresIn,
}
use Rattle.clog_crash.specs.Rest.{IsInFiles, settled}
use Rattle.clog_crash.specs.Restore.{end_position}
use Rattle.clog_crash.specs.Sections.{IsStored}
use Rattle.clog_crash.proofs.changes.Covering.{exactly}
use Rattle.clog_crash.proofs.changes.Names.{is_named}
use Rattle.clog_crash.proofs.flush.Comes.{settled_differs}
use Rattle.clog_crash.proofs.flush.Turns.{Turns}
use Rattle.clog_crash.proofs.rest.Standing.{
  held_before,
  older_stands,
  reads_same,
  table_stands,
}

-- the name of no segment and of no table file
pub record IsUnread (name : List ℕ) : Type 0 where
  pub no_segment : (version id : ℕ) → ¬ IsSegmentName name version id
  pub no_table : (table sequence : ℕ) → ¬ IsTableName name table sequence

pub archives_are_unread : (name : List ℕ) (id : ℕ) → IsArchiveName name id → IsUnread name
archives_are_unread name id named = record {
  no_segment = λ version other is. (segment_is_no_other name version other is).0 id named;
  no_table = archive_is_no_table name id named;
}

-- ---- readings that differ there

module _ (name : List ℕ) (unread : IsUnread name) (r q : Reading) (others : DiffersAt name r q)
  where
    segment_reads : (id : ℕ) → id < 2 ^ 63
        → q (segment_name_of 6 id) ≡ r (segment_name_of 6 id)
    segment_reads id fits =
        others (segment_name_of 6 id) (λ same. unread.no_segment 6 id
        (subst (λ (n : List ℕ). IsSegmentName n 6 id) same (is_named id fits)))

    pub table_stays : (file : TableFile) → IsTableIn r file → IsTableIn q file
    table_stays file t =
        let its = table_name_of file.table.0 t.sequence in
        record {
          sequence = t.sequence;
          named = t.named;
          spelled = subst (λ (b : List ℕ). IsFileOf file.table b file)
              (sym (others its (λ same. unread.no_table file.table.0 t.sequence
              (subst (λ (n : List ℕ). IsTableName n file.table.0 t.sequence) same t.named))))
              t.spelled;
        }

    log_stays : (id : ℕ) (entry : Entry) → IsLoggedIn r id entry → IsLoggedIn q id entry
    log_stays id entry l = record {
      fits = l.fits;
      entries = l.entries;
      end = l.end;
      holds = subst (λ (b : List ℕ). IsSegment b id l.entries l.end)
          (sym (segment_reads id l.fits)) l.holds;
      listed = l.listed;
    }

pub skipped_stays : (name : List ℕ) → IsUnread name → (r q : Reading) → DiffersAt name r q
    → (table : Table) (at : Position) → IsSkippedIn r table at → IsSkippedIn q table at
skipped_stays name unread r q others table at s = record {
  file = s.file;
  there = table_stays name unread r q others s.file s.there;
  same_table = s.same_table;
  inside = s.inside;
}

pub restored_stays : (name : List ℕ) → IsUnread name → (r q : Reading) → DiffersAt name r q
    → DiffersAt name q r → (pair : CellKey × Cell) → RestoresIn r pair → RestoresIn q pair
restored_stays name unread r q others back pair restored = elim restored [
  | inl c ↦ inl (record {
    file = c.file;
    there = table_stays name unread r q others c.file c.there;
    listed = c.listed;
  })
  | inr c ↦ inr (record {
    id = c.id;
    entry = c.entry;
    logged = log_stays name unread r q others c.id c.entry c.logged;
    cell = c.cell;
    kept = λ s. c.kept
        (skipped_stays name unread q r back pair.0.table (end_position c.id c.entry) s);
  })
]

-- ---- at rest

module _ (f : Files) (id : ℕ) (old kept : List Section) (name bytes : List ℕ)
    (unread : IsUnread name) (stored : IsStored id (old ++ kept)) (in_f : IsInFiles f id old kept)
  where
    abbrev g : Files
    g = finmap.insert f name bytes

    off : (n : List ℕ) → (n ≡ name → ⊥) → finmap.get g n ≡ finmap.get f n
    off n apart = put_there f name bytes n apart

    apart : name ≡ segment_name_of 6 id → ⊥
    apart same = unread.no_segment 6 id
        (subst (λ (n : List ℕ). IsSegmentName n 6 id) (sym same) (is_named id stored.fits))

    in_g : IsInFiles g id old kept
    in_g = record {
      reads = reads_same f g (segment_name_of 6 id)
          (off (segment_name_of 6 id) (λ same. apart (sym same))) ∙ in_f.reads;
      live = λ table at far skipped. in_f.live table at far
          (skipped_stays name unread (bytes_at g) (bytes_at f)
          (λ n other. sym (reads_same f g n (off n other))) table at skipped);
      tables = λ place n named held.
          let stays = off n (λ same. unread.no_table place.0.0 place.1
          (subst (λ (m : List ℕ). IsTableName m place.0.0 place.1) same named)) in
          let good = in_f.tables place n named (held_before f g n stays held) in
          (good.0, table_stands f g n stays place good.0 good.1);
      segments = λ n version other named not held.
          let stays = off n (λ same. unread.no_segment version other
          (subst (λ (m : List ℕ). IsSegmentName m version other) same named)) in
          older_stands f g n stays version other id
          (in_f.segments n version other named not (held_before f g n stays held));
    }

    pub link_turns : Turns f g name (Some bytes) id old kept
    link_turns =
        let forth = settled_differs f g name id old off in
        let back : DiffersAt name (settled g id old) (settled f id old) =
        λ n other. sym (forth n other) in
        record {
          apart = apart;
          beside = off;
          here = put_here f name bytes;
          same = exactly (RestoresIn (settled g id old)) (RestoresIn (settled f id old))
              (λ pair. (
                restored_stays name unread (settled g id old) (settled f id old) back forth pair,
                restored_stays name unread (settled f id old) (settled g id old) forth back pair,
              ));
          in_files = in_g;
        }
