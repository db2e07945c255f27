-- A table file may come that says what is restored anyway.
use Rattle.std.proofs.Common.{◌≡◌, ◌⊎◌, ℕ, ◌<◌, ◌^◌, inl, inr, List, sym, ◌∙◌, ap, subst}
use Rattle.std.specs.Prelude.{Contains}
use Rattle.clog_spec.specs.Names.{segment_name_of, table_name_of, IsTableName}
use Rattle.clog_base.proofs.NameLaws.{one_table}
use Rattle.clog_base.specs.declared.cell.Cell.{Cell}
use Rattle.clog_base.specs.declared.cell.CellKey.{CellKey}
use Rattle.clog_base.specs.declared.cell.Table.{Table}
use Rattle.clog_disk.proofs.Named.{same_or_other}
use Rattle.clog_scan.specs.Segment.{Entry, IsSegment}
use Rattle.clog_table.specs.declared.table_file.TableFile.{TableFile}
use Rattle.clog_table.specs.Refusals.{IsFileOf}
use Rattle.clog_crash.specs.Changes.{Puts}
use Rattle.clog_crash.specs.Covering.{Covers, IsUnder, SameMerge}
use Rattle.clog_crash.specs.Readings.{
  Reading,
  IsLoggedIn,
  IsTableIn,
  IsLoggedCellIn,
  RestoresIn,
}
use Rattle.clog_crash.specs.Restore.{IsInInterval, end_position}
use Rattle.clog_crash.proofs.changes.Covering.{under_itself}
use Rattle.clog_crash.proofs.changes.Intervals.{inside_or_not, table_or_not}
use Rattle.clog_crash.proofs.changes.Names.{not_segment}
use Rattle.clog_table.proofs.Again.{one_table_file}

module _ (r q : Reading) (file : TableFile) (sequence : ℕ) (p : Puts r q file sequence) where
  abbrev name : List ℕ
  name = table_name_of file.table.0 sequence

  -- ---- the log is as before

  segment_is : (other : ℕ) → other < 2 ^ 63
      → q (segment_name_of 6 other) ≡ r (segment_name_of 6 other)
  segment_is other fits =
      p.others (segment_name_of 6 other)
      (λ same. not_segment other name file.table.0 sequence fits p.named (sym same))

  pub log_now : (other : ℕ) (entry : Entry) → IsLoggedIn r other entry → IsLoggedIn q other entry
  log_now other entry l = record {
    fits = l.fits;
    entries = l.entries;
    end = l.end;
    holds = subst (λ (b : List ℕ). IsSegment b other l.entries l.end)
        (sym (segment_is other l.fits)) l.holds;
    listed = l.listed;
  }

  pub log_before : (other : ℕ) (entry : Entry) → IsLoggedIn q other entry → IsLoggedIn r other entry
  log_before other entry l = record {
    fits = l.fits;
    entries = l.entries;
    end = l.end;
    holds = subst (λ (b : List ℕ). IsSegment b other l.entries l.end)
        (segment_is other l.fits) l.holds;
    listed = l.listed;
  }

  -- ---- table files

  -- an older table file stays
  pub older : (other : TableFile) → IsTableIn r other → IsTableIn q other
  older other t = record {
    sequence = t.sequence;
    named = t.named;
    spelled = subst (λ (b : List ℕ). IsFileOf other.table b other)
        (sym (p.others (table_name_of other.table.0 t.sequence)
        (λ same. p.free other
        (subst (λ (n : List ℕ). IsFileOf other.table (r n) other) same t.spelled)))) t.spelled;
  }

  -- at the new file's name stands the new file
  is_new : (other : TableFile) (its : List ℕ) (number : ℕ) → its ≡ name
      → IsTableName its other.table.0 number → IsFileOf other.table (q its) other → other ≡ file
  is_new other its number same named spelled =
      let numbers = one_table its other.table.0 number file.table.0 sequence named
      (subst (λ (n : List ℕ). IsTableName n file.table.0 sequence) (sym same) p.named) in
      let table : other.table ≡ file.table = λ i. record { 0 = numbers.0 i } in
      let here : IsFileOf other.table (q name) other =
      subst (λ (n : List ℕ). IsFileOf other.table (q n) other) same spelled in
      one_table_file file.table (q name) file other p.spelled
      (subst (λ (x : Table). IsFileOf x (q name) other) table here)

  -- one that is there is the new one, or older
  pub new_or_older : (other : TableFile) → IsTableIn q other → (other ≡ file) ⊎ IsTableIn r other
  new_or_older other t =
      let its = table_name_of other.table.0 t.sequence in
      elim (same_or_other its name) [
        | inl same ↦ inl (is_new other its t.sequence same t.named t.spelled)
        | inr apart ↦ inr (record {
          sequence = t.sequence;
          named = t.named;
          spelled = subst (λ (b : List ℕ). IsFileOf other.table b other) (p.others its apart)
              t.spelled;
        })
      ]

  pub new_there : IsTableIn q file
  new_there = record { sequence = sequence; named = p.named; spelled = p.spelled }

  -- ---- what is restored now was so before

  forth : Covers (RestoresIn q) (RestoresIn r)
  forth pair (inl c) = elim (new_or_older c.file c.there) [
    | inl new ↦ p.is_true.no_more pair
        (subst (λ (f : TableFile). Contains f.cells pair) new c.listed)
    | inr before ↦ (
      pair,
      inl (record { file = c.file; there = before; listed = c.listed }),
      under_itself pair,
    )
  ]
  forth pair (inr c) = (
    pair,
    inr (record {
      id = c.id;
      entry = c.entry;
      logged = log_before c.id c.entry c.logged;
      cell = c.cell;
      kept = λ s. c.kept (record {
        file = s.file;
        there = older s.file s.there;
        same_table = s.same_table;
        inside = s.inside;
      });
    }),
    under_itself pair,
  )

  -- ---- what was restored before is so now

  -- a logged cell that the new file does not stand for
  live_still : (pair : CellKey × Cell) → (c : IsLoggedCellIn r pair)
      → (file.table ≡ pair.0.table → IsInInterval file (end_position c.id c.entry) → ⊥)
      → IsLoggedCellIn q pair
  live_still pair c not = record {
    id = c.id;
    entry = c.entry;
    logged = log_now c.id c.entry c.logged;
    cell = c.cell;
    kept = λ s. elim (new_or_older s.file s.there) [
      | inl new ↦ not (ap (λ (f : TableFile). f.table) (sym new) ∙ s.same_table)
          (subst (λ (f : TableFile). IsInInterval f (end_position c.id c.entry)) new s.inside)
      | inr before ↦ c.kept (record {
        file = s.file;
        there = before;
        same_table = s.same_table;
        inside = s.inside;
      })
    ];
  }

  back_logged : (pair : CellKey × Cell) → IsLoggedCellIn r pair
      → (other : CellKey × Cell) × RestoresIn q other × IsUnder pair other
  back_logged pair c = elim (table_or_not file.table pair.0.table) [
    | inr apart ↦ (pair, inr (live_still pair c (λ same in_it. apart same)), under_itself pair)
    | inl same ↦ elim (inside_or_not file (end_position c.id c.entry)) [
      | inr not ↦ (pair, inr (live_still pair c (λ is in_it. not in_it)), under_itself pair)
      | inl in_it ↦
          let over = p.is_true.covers pair
          (record { cell = c; same_table = same; inside = in_it }) in
          (over.0, inl (record { file = file; there = new_there; listed = over.1 }), over.2)
    ]
  ]

  back : Covers (RestoresIn r) (RestoresIn q)
  back pair (inl c) = (
    pair,
    inl (record { file = c.file; there = older c.file c.there; listed = c.listed }),
    under_itself pair,
  )
  back pair (inr c) = back_logged pair c

  pub came : SameMerge (RestoresIn q) (RestoresIn r)
  came = record { forth = forth; back = back }
