-- Of an opened folder: its table files end in segments of before, and its opening appends nothing.
use Rattle.std.proofs.Common.{
  ◌≡◌,
  ℕ,
  ◌<◌,
  ◌^◌,
  inl,
  inr,
  List,
  [],
  ◌∷◌,
  ◌++◌,
  Option,
  Some,
  None,
  refl,
  sym,
  ◌∙◌,
  ap,
  subst,
}
use Rattle.std.specs.Prelude.{Contains, is_some}
use Rattle.std.specs.FinMap as finmap
use Rattle.clog_spec.specs.Names.{segment_name_of, table_name_of, IsTableName}
use Rattle.clog_base.specs.declared.cell.Table.{Table}
use Rattle.clog_base.specs.declared.position.Position.{Position}
use Rattle.clog_base.proofs.Members.{here, further}
use Rattle.clog_base.proofs.NameLaws.{one_table, segment_is_no_other}
use Rattle.clog_disk.specs.declared.change.Change.{Change}
use Rattle.clog_disk.specs.declared.change.Change.TheVariants as change
use Rattle.clog_disk.specs.Files.{Files, bytes_at}
use Rattle.clog_table.specs.declared.table_file.TableFile.{TableFile}
use Rattle.clog_table.specs.Refusals.{IsFileOf}
use Rattle.clog_table.proofs.Again.{one_table_file}
use Rattle.clog_crash.specs.Folder.{HasSegmentOf, IsNameOfSegment}
use Rattle.clog_crash.specs.Grown.{Append, appends_of}
use Rattle.clog_crash.specs.Readings.{IsTableIn}
use Rattle.clog_crash.specs.Recovery.{IsRecoveryFile, NamesAny}
use Rattle.clog_crash.proofs.changes.Names.{is_named, one_id}
use Rattle.clog_crash.proofs.changes.Nothing.{
  no_table,
  none_logged,
  reads_as,
  there_or_nothing,
}
use Rattle.clog_crash.proofs.counts.Growing.{appends_of-append}
use Rattle.clog_applied.specs.Early.{SaysFile}
use Rattle.clog_applied.specs.Opening.{IsOpening, IsRecoveryChange, SaysRecovered}

-- ---- names

pub table_is_no_segment : (name : List ℕ) (table sequence : ℕ) → IsTableName name table sequence
    → ¬ IsNameOfSegment name
table_is_no_segment name table sequence named s =
    (segment_is_no_other name s.0 s.1.0 s.1.1).1 table sequence named

-- one name and bytes are those of one table file
pub one_says : (name bytes : List ℕ) (file other : TableFile) → SaysFile name bytes file
    → SaysFile name bytes other → other ≡ file
one_says name bytes file other a b =
    let numbers = one_table name other.table.0 b.sequence file.table.0 a.sequence b.named a.named in
    let number : other.table.0 ≡ file.table.0 = numbers.0 in
    let same : other.table ≡ file.table = λ i. record { 0 = number i } in
    one_table_file file.table bytes file other a.spelled
    (subst (λ (t : Table). IsFileOf t bytes other) same b.spelled)

-- ---- table files that recovery puts

pub names_its_end : (before : Files) (file : TableFile) → IsRecoveryFile (bytes_at before) file
    → NamesAny before file.upper.id
names_its_end before file is =
    let greatest = is.to_end in
    let l = greatest.logged in
    let name = segment_name_of 6 greatest.id in
    elim (there_or_nothing before name) [
      | inr none ↦ absurd (none_logged greatest.id l.entries l.end (bytes_at before name) none
          l.holds greatest.entry l.listed)
      | inl there ↦
          subst (λ (n : ℕ). NamesAny before n) (ap (λ (p : Position). p.id) greatest.is)
          (inl (name, (6, is_named greatest.id l.fits, ap is_some there)))
    ]

module _ (before opened : Files) (recovery : List Change) (base : ℕ)
    (o : IsOpening before opened recovery base) where
  -- a table file that is there then ends in a segment that the folder named
  pub older : (file : TableFile) → IsTableIn (bytes_at opened) file
      → NamesAny before file.upper.id
  older file t = by_case (finmap.get before (table_name_of file.table.0 t.sequence)) refl
    where
      by_case : (was : Option (List ℕ))
          → finmap.get before (table_name_of file.table.0 t.sequence) ≡ was
          → NamesAny before file.upper.id
      by_case (Some bytes) is =
          let name = table_name_of file.table.0 t.sequence in
          let stands = o.others name bytes
          (table_is_no_segment name file.table.0 t.sequence t.named) is in
          let reads : bytes_at opened name ≡ bytes_at before name =
          reads_as opened name bytes stands ∙ sym (reads_as before name bytes is) in
          inr (inr (
            file,
            record {
              sequence = t.sequence;
              named = t.named;
              spelled = subst (λ (b : List ℕ). IsFileOf file.table b file) reads t.spelled;
            },
            refl,
          ))
      by_case None is =
          let name = table_name_of file.table.0 t.sequence in
          elim (there_or_nothing opened name) [
            | inr none ↦ absurd (no_table file.table file (bytes_at opened name) none t.spelled)
            | inl there ↦
                let came = o.came name (bytes_at opened name) there is in
                let same = one_says name (bytes_at opened name) came.file file came.says
                (record { sequence = t.sequence; named = t.named; spelled = t.spelled }) in
                subst (λ (f : TableFile). NamesAny before f.upper.id) (sym same)
                (names_its_end before came.file came.recovers)
          ]

  -- a file that was put then ends in a segment that the folder named
  pub publishes_older : (name bytes : List ℕ) (file : TableFile)
      → Contains recovery (change.Publish name bytes) → SaysFile name bytes file
      → NamesAny before file.upper.id
  publishes_older name bytes file h says =
      let came : SaysRecovered before name bytes = o.changes (change.Publish name bytes) h in
      let same = one_says name bytes came.file file came.says says in
      subst (λ (f : TableFile). NamesAny before f.upper.id) (sym same)
      (names_its_end before came.file came.recovers)

  -- a segment that went then is below the base
  pub removes_older : (id : ℕ) → id < 2 ^ 63
      → Contains recovery (change.Remove (segment_name_of 6 id)) → id < base
  removes_older id fits h =
      let was : IsRecoveryChange before (change.Remove (segment_name_of 6 id)) =
      o.changes (change.Remove (segment_name_of 6 id)) h in
      let held : HasSegmentOf before was.0 = was.2 in
      let named = held.2.1 in
      let same = one_id id was.0 fits named.id_fits (sym was.1) in
      subst (λ (n : ℕ). n < base) same
      (o.base_above was.0 (inl (held.0, (held.2.0, held.2.1, held.1))))

-- it appends nothing
appends_none : (before : Files) (recovery : List Change)
    → ((c : Change) → Contains recovery c → IsRecoveryChange before c) → appends_of recovery ≡ []
appends_none before [] all = refl
appends_none before (change.Append name bytes ∷ cs) all =
    absurd (all (change.Append name bytes) (here (change.Append name bytes) cs))
appends_none before (change.Publish name bytes ∷ cs) all =
    appends_none before cs (λ c h. all c (further (change.Publish name bytes) cs c h))
appends_none before (change.Link old new ∷ cs) all =
    appends_none before cs (λ c h. all c (further (change.Link old new) cs c h))
appends_none before (change.Remove name ∷ cs) all =
    appends_none before cs (λ c h. all c (further (change.Remove name) cs c h))

pub appends_behind : (before opened : Files) (recovery : List Change) (base : ℕ)
    → IsOpening before opened recovery base → (later : List Change)
    → appends_of (recovery ++ later) ≡ appends_of later
appends_behind before opened recovery base o later =
    appends_of-append recovery later
    ∙ ap (λ (l : List Append). l ++ appends_of later) (appends_none before recovery o.changes)
