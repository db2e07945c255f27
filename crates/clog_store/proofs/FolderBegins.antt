-- At the end of its opening a folder is that of a store that has done nothing yet.
use Rattle.std.proofs.Common.{◌≡◌, ℕ, ◌+◌, ◌≤◌, List, [], length, refl, sym, ap, inl, inr, arith}
use Rattle.std.specs.Prelude.{Bool}
use Rattle.std.specs.FinMap as finmap
use Rattle.std.proofs.lemmas.Bool.{cases_lt}
use Rattle.clog_spec.specs.Names.{IsArchiveName, IsTableName}
use Rattle.clog_base.proofs.Members.{nothing_there, only_one}
use Rattle.clog_base.proofs.NameLaws.{archive_is_no_table, one_table}
use Rattle.clog_disk.specs.Files.{Files}
use Rattle.clog_crash.specs.Folder.{IsHeld}
use Rattle.clog_crash.specs.Log.{Write}
use Rattle.clog_crash.proofs.OneMore.{bytes_of}
use Rattle.clog_folder.proofs.Listed.{held_of}
use Rattle.clog_segments.specs.Named.{sequence_limit}
use Rattle.clog_segments.specs.Opened.{IsOpened, IsRecovered}
use Rattle.clog_segments.specs.StoreFolder.{HoldsStore, IsBegun, fresh_log, no_deeds}
use Rattle.clog_due.proofs.Cuts.{not_cut}
use Rattle.clog_segments.proofs.FolderReads.{absent_or_held}

module _ (before now : Files) (base moment : ℕ) (opened : IsOpened before moment base now) where
  abbrev recovered : IsRecovered before base now
  recovered = opened.recovered

  -- a name that is there now was there before, or has come
  archive_before : (name : List ℕ) (id : ℕ) → IsArchiveName name id → IsHeld now name
      → IsHeld before name
  archive_before name id named held = elim (absent_or_held (finmap.get before name)) [
    | inr there ↦ there
    | inl none ↦
        let there = bytes_of (finmap.get now name) held in
        let put = recovered.came name there.0 there.1 none in
        absurd (archive_is_no_table name id named put.file.table.0 put.sequence put.named)
  ]

  sequence_before : (name : List ℕ) (table sequence : ℕ) → IsTableName name table sequence
      → IsHeld before name → sequence ≤ sequence_limit
  sequence_before name table sequence named held =
      elim (cases_lt sequence_limit sequence) [
        | inl late ↦ absurd (opened.within.few (name, held, (table, (sequence, named, late))))
        | inr few ↦ few
      ]

  few_now : (name : List ℕ) (table sequence : ℕ) → IsTableName name table sequence
      → IsHeld now name → sequence ≤ sequence_limit + 1
  few_now name table sequence named held = elim (absent_or_held (finmap.get before name)) [
    | inr there ↦
        let was = sequence_before name table sequence named there in
        omega (arith, was)
    | inl none ↦
        let there = bytes_of (finmap.get now name) held in
        let put = recovered.came name there.0 there.1 none in
        let same : sequence ≡ put.sequence =
        (one_table name table sequence put.file.table.0 put.sequence named put.named).1 in
        elim put.next.one [
          | inl least ↦ omega (arith, same, least)
          | inr next ↦
              let one = next.1 in
              let was = sequence_before one.0 put.file.table.0 next.0 one.2
              (held_of before (finmap.keys before) refl one.0 one.1) in
              omega (arith, same, next.2, was)
        ]
  ]

  pub begun_here : IsBegun now base
  begun_here = record {
    no_segment = recovered.no_segment;
    archives = λ id has. opened.is_base.above id
        (inr (inl (has.0, archive_before has.0 id has.2 has.1, has.2)));
    tables = recovered.below;
    few = few_now;
  }

  -- a store that was just opened
  pub holds_opened : (archives : Bool)
      → HoldsStore now (fresh_log base) (no_deeds archives) now
  holds_opened archives = record {
    begun = begun_here;
    done = record {
      dropped = λ o none. absurd (nothing_there o none);
      archived = λ o none. absurd (nothing_there o none);
      all_archived = λ is o none. absurd (nothing_there o none);
      none_archived = λ is. refl;
      filed = λ n none. absurd (nothing_there n none);
      tiled = λ put none. absurd (nothing_there put none);
    };
    placed = [];
    are_placed = record {
      are = refl;
      each = λ p none. absurd (nothing_there p none);
      ascending = λ i j d low inside. absurd (omega (arith, inside));
      next = λ before behind p cut. absurd (not_cut before p behind cut);
    };
    stands = record {
      rows = λ name bytes row. absurd (elim row [
        | inl r ↦ omega (
          arith,
          r.some,
          ap (λ (w : Write). length w.sections)
              (sym (only_one (record { id = base; sections = [] }) r.segment r.among)),
        )
        | inr rest ↦ elim rest [
          | inl r ↦ nothing_there r.segment r.among
          | inr r ↦ nothing_there r.file r.among
        ]
      ]);
      others = λ name none. refl;
    };
  }
