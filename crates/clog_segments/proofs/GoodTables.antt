-- No table file of a store's folder is a bad one, also where its disk has failed.
use Rattle.std.proofs.Common.{
  ◌≡◌,
  ℕ,
  ◌+◌,
  ◌<◌,
  ◌^◌,
  inl,
  inr,
  List,
  Some,
  Contains,
  refl,
  sym,
  ◌∙◌,
  ap,
  subst,
  arith,
}
use Rattle.std.specs.Prelude.{IsSome}
use Rattle.std.specs.FinMap as finmap
use Rattle.clog_spec.specs.Names.{IsTableName}
use Rattle.clog_base.specs.declared.cell.Table.{Table}
use Rattle.clog_base.proofs.NameLaws.{archive_is_no_table}
use Rattle.clog_disk.specs.Files.{Files}
use Rattle.clog_disk.proofs.Named.{same_or_other}
use Rattle.clog_table.specs.declared.table_file.TableFile.{TableFile}
use Rattle.clog_table.specs.Refusals.{IsFileOf}
use Rattle.clog_crash.specs.Folder.{AreGoodTables, IsGoodTable, IsHeld, IsNameOf, Place}
use Rattle.clog_crash.proofs.changes.Names.{not_segment}
use Rattle.clog_crash.proofs.flush.NewFile.{one_place}
use Rattle.clog_segments.specs.OnDisk.{file_on}
use Rattle.clog_segments.specs.StoreFailed.{HoldsButOne}
use Rattle.clog_segments.specs.StoreFolder.{Deeds, HoldsStore, PlacedFile, StoreLog, name_of}
use Rattle.clog_segments.proofs.FolderNames.{AreBelow, table_elsewhere}
use Rattle.clog_segments.proofs.FolderReads.{one_or_none}

-- a file of the place is there, and good
abbrev GoodAt : Files → Place → List ℕ → Type 0
GoodAt files place name = (file : TableFile) × IsGoodTable files place name file

-- what is spelled under a table file's name is good
pub good_spelled : (files : Files) (place : Place) (name bytes : List ℕ) (file : TableFile)
    (sequence : ℕ) → IsNameOf place name → IsTableName name file.table.0 sequence
    → finmap.get files name ≡ Some bytes → IsFileOf file.table bytes file
    → GoodAt files place name
good_spelled files place name bytes file sequence at named there spelled = (
  file,
  record {
    bytes = bytes;
    there = there;
    spelled = subst (λ (t : Table). IsFileOf t bytes file)
        (one_place name file.table place.0 sequence place.1 named at) spelled;
  },
)

-- what reads as a good one did is good
pub good_same : (first files : Files) (place : Place) (name : List ℕ) → AreGoodTables first
    → IsNameOf place name → finmap.get files name ≡ finmap.get first name → IsHeld files name
    → GoodAt files place name
good_same first files place name good at same held =
    let was = good place name at (subst IsSome same held) in (
      was.0,
      record {
        bytes = was.1.bytes;
        there = same ∙ was.1.there;
        spelled = was.1.spelled;
      },
    )

-- as a file that was put
placed_good : (base : ℕ) (files : Files) (place : Place) (name : List ℕ) (p : PlacedFile)
    → IsNameOf place name → IsTableName name p.put.table p.sequence
    → finmap.get files name ≡ Some p.bytes
    → IsFileOf (file_on base p.put).table p.bytes (file_on base p.put) → GoodAt files place name
placed_good base files place name p at named there spelled =
    good_spelled files place name p.bytes (file_on base p.put) p.sequence at named there spelled

module _ (first : Files) (log : StoreLog) (deeds : Deeds) (low : AreBelow log)
    (fits : log.id < 2 ^ 63) (good : AreGoodTables first) where
  -- in the folder of a store, or one that reads the same there
  module _ (f : Files) (holds : HoldsStore first log deeds f) (files : Files) (place : Place)
      (name : List ℕ) (at : IsNameOf place name)
      (same : finmap.get files name ≡ finmap.get f name) (held : IsHeld files name) where
    good_of_put : (p : PlacedFile) → Contains holds.placed p → name ≡ name_of p
        → GoodAt files place name
    good_of_put p among is =
        let its = holds.are_placed.each p among in
        placed_good log.base files place name p at
        (subst (λ (l : List ℕ). IsTableName l p.put.table p.sequence) (sym is) its.named)
        (same ∙ ap (finmap.get f) is ∙ holds.stands.rows (name_of p) p.bytes (inr (inr (record {
          file = p;
          among = among;
          name_is = refl;
          bytes_are = refl;
        })))) its.spelled

    good_of_old : ((p : PlacedFile) → Contains holds.placed p → name ≡ name_of p → ⊥)
        → GoodAt files place name
    good_of_old none =
        good_same first files place name good at
        (same ∙ table_elsewhere first f log deeds holds low fits name place.0.0 place.1 at none)
        held

    pub good_held : GoodAt files place name
    good_held =
        elim (one_or_none (λ (p : PlacedFile). name ≡ name_of p)
        (λ p. same_or_other name (name_of p)) holds.placed) [
          | inl found ↦ good_of_put found.0 found.1 found.2
          | inr none ↦ good_of_old none
        ]

  -- so it is once its disk has failed
  pub good_tables : (now : Files) → HoldsButOne first log deeds now → AreGoodTables now
  good_tables now b place name at held = elim (same_or_other name b.name) [
    | inr apart ↦ good_held b.last b.holds now place name at (b.others name apart) held
    | inl is ↦ elim b.stands [
      | inl same ↦ good_held b.last b.holds now place name at
          (ap (finmap.get now) is ∙ same ∙ ap (finmap.get b.last) (sym is)) held
      | inr other ↦ elim other [
        | inl hand ↦ absurd (not_segment log.id name place.0.0 place.1 fits at (is ∙ hand.name_is))
        | inr more ↦ elim more [
          | inl come ↦ placed_good log.base now place name come.file at
              (subst (λ (l : List ℕ). IsTableName l come.file.put.table come.file.sequence)
              (sym (is ∙ come.name_is)) come.next.named)
              (ap (finmap.get now) is ∙ come.what_is) come.next.spelled
          | inr going ↦
              let goes = going.goes in
              let id_is = goes.past.id_is in
              let limit : log.base + goes.ordinal < 2 ^ 63 =
              omega (arith, low goes.past.segment goes.past.among, id_is, fits) in
              absurd (elim goes.name_is [
                | inl own ↦ not_segment (log.base + goes.ordinal) name place.0.0 place.1 limit at
                    (is ∙ own)
                | inr archive ↦ archive_is_no_table name (log.base + goes.ordinal) (record {
                  form = is ∙ archive.1;
                  id_fits = limit;
                }) place.0.0 place.1 at
              ])
        ]
      ]
    ]
  ]
