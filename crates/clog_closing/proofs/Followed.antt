-- Behind a run the folder can be opened again.
use Rattle.std.proofs.Common.{
  ◌≡◌,
  ℕ,
  ◌+◌,
  ◌^◌,
  ◌<◌,
  ◌≤◌,
  inl,
  inr,
  zero,
  suc,
  List,
  Option,
  Some,
  None,
  get_or,
  length,
  refl,
  sym,
  ◌∙◌,
  ap,
  subst,
  arith,
}
use Rattle.std.specs.Prelude.{Contains, IsSome}
use Rattle.std.specs.FinMap as finmap
use Rattle.std.specs.List.{range_with_len}
use Rattle.std.proofs.lemmas.Option.{none-some}
use Rattle.clog_spec.specs.Names.{IsArchiveName, IsSegmentName, segment_name_of}
use Rattle.clog_spec.specs.Sizes.{file_limit}
use Rattle.clog_base.specs.declared.cell.Table.{Table}
use Rattle.clog_base.proofs.Members.{first_or_further, in_map, nothing_there}
use Rattle.clog_base.proofs.NameLaws.{archive_is_no_table, one_archive}
use Rattle.clog_disk.specs.declared.change.Change.{Change}
use Rattle.clog_disk.specs.Files.{Files}
use Rattle.clog_mutation.specs.declared.mutation.Mutation.{Mutation}
use Rattle.clog_table.specs.declared.table_file.TableFile.{TableFile}
use Rattle.clog_table.specs.Refusals.{IsFileOf}
use Rattle.clog_words.specs.declared.request.ApplyOptions.{ApplyOptions}
use Rattle.clog_crash.specs.Folder.{AreGoodTables, HoldsName, IsGoodTable, IsHeld}
use Rattle.clog_crash.specs.Recovery.{NamesAny}
use Rattle.clog_crash.proofs.OneMore.{bytes_of}
use Rattle.clog_crash.proofs.flush.NewFile.{one_place}
use Rattle.clog_folder.specs.Segments.{IsTooLong}
use Rattle.clog_segments.specs.Filing.{AreRecoveryPuts}
use Rattle.clog_segments.specs.Named.{IsLateTable, id_limit}
use Rattle.clog_segments.specs.Opened.{CanBeOpened, HasRoomFor}
use Rattle.clog_applied.specs.Appended.{appended, entries_in}
use Rattle.clog_applied.specs.Asked.{capacity_of}
use Rattle.clog_applied.specs.Closed.{ClosedRun}
use Rattle.clog_applied.specs.Onward.{ReachesNoFurther}
use Rattle.clog_applied.proofs.Merged.{merge_kept, old_or_new}
use Rattle.clog_applied.proofs.Opened.{older, table_is_no_segment}
use Rattle.clog_closing.specs.NextNames.{HaveNextNames}
use Rattle.clog_closing.proofs.RoomFor.{none_late}

-- a member of a range is below its end
in_range : (base n i : ℕ) → Contains (range_with_len base n) i → i < base + n
in_range base zero i h = absurd (nothing_there i h)
in_range base (suc n) i h =
    elim (first_or_further base (range_with_len (base + 1) n) i h) [
      | inl same ↦ omega (arith, same)
      | inr more ↦ let low = in_range (base + 1) n i more in omega (arith, low)
    ]

module _ (o : ApplyOptions) (before after : Files) (changes : List Change)
    (mutations : List Mutation) (run : ClosedRun o before after changes mutations)
    (reach : ReachesNoFurther o run.base run.later run.ids run.history run.files)
    (can : CanBeOpened before) (short : capacity_of o ≤ file_limit)
    (room : run.base + length run.ids < id_limit) (few : ¬ HoldsName after IsLateTable) where
  below : (i : ℕ) → Contains run.ids i → i < run.base + length run.ids
  below i listed =
      in_range run.base (length run.ids) i
      (subst (λ (l : List ℕ). Contains l i) reach.follow listed)

  -- ---- table files

  tables : AreGoodTables after
  tables place name named held = elim (run.store.tables place name named held) [
    | inl same ↦ stood same (bytes_of (finmap.get after name) held) (finmap.get before name) refl
    | inr put ↦ (put.file, put.good)
  ]
    where
      stood : finmap.get after name ≡ finmap.get run.opened name
          → (bytes : List ℕ) × (finmap.get after name ≡ Some bytes) → (was : Option (List ℕ))
          → finmap.get before name ≡ was
          → (file : TableFile) × IsGoodTable after place name file
      stood same there (Some old) is =
          let good = can.readable.tables place name named
          (subst (λ (b : Option (List ℕ)). IsSome b) (sym is) refl) in (
            good.0,
            record {
              bytes = good.1.bytes;
              there = same ∙ run.opening.others name good.1.bytes
                  (table_is_no_segment name place.0.0 place.1 named) good.1.there;
              spelled = good.1.spelled;
            },
          )
      stood same there None is =
          let came = run.opening.came name there.0 (sym same ∙ there.1) is in
          let its = one_place name place.0 came.file.table place.1 came.says.sequence named
          came.says.named in (
            came.file,
            record {
              bytes = there.0;
              there = there.1;
              spelled = subst (λ (t : Table). IsFileOf t there.0 came.file) (sym its)
                  came.says.spelled;
            },
          )

  -- ---- segments

  none_long : (name : List ℕ) (id : ℕ) → IsSegmentName name 6 id → ¬ IsTooLong after name
  none_long name id named long =
      let held = subst (λ (b : Option (List ℕ)). IsSome b) (sym long.there) refl in
      let listed = (run.store.no_other name 6 id named held).1 in
      let form : name ≡ segment_name_of 6 id = named.form in
      let there = sym (ap (finmap.get after) form) ∙ long.there in
      elim (run.store.segments id listed) [
        | inl went ↦ none-some long.bytes (sym went.1.segment ∙ there)
        | inr stays ↦
            let same : Some (appended run.later id) ≡ Some long.bytes =
            sym stays.1.segment ∙ there in
            let bytes : appended run.later id ≡ long.bytes = cc in
            let size = ap length bytes in
            let most = reach.fit id listed in
            let more = long.long in
            omega (arith, size, most, more, short)
      ]

  -- ---- ids

  fits : (i : ℕ) → Contains run.ids i → i < 2 ^ 63
  fits i listed =
      (run.store.is_appended.kept.each (i, entries_in i run.history)
      (in_map (λ (j : ℕ). (j, entries_in j run.history)) run.ids i listed)).0.fits

  its_archive : (id : ℕ) (name : List ℕ) → IsHeld after name → IsArchiveName name id
      → id < id_limit
  its_archive id name held is = by (finmap.get run.opened name) refl
    where
      first : (bytes : List ℕ) → finmap.get run.opened name ≡ Some bytes
          → (was : Option (List ℕ)) → finmap.get before name ≡ was → id < id_limit
      first bytes there (Some old) was =
          can.low id (inr (inl (
            name,
            subst (λ (b : Option (List ℕ)). IsSome b) (sym was) refl,
            is,
          )))
      first bytes there None was =
          let came = run.opening.came name bytes there was in
          absurd (archive_is_no_table name id is came.file.table.0 came.says.sequence
          came.says.named)

      by : (then : Option (List ℕ)) → finmap.get run.opened name ≡ then → id < id_limit
      by (Some bytes) there = first bytes there (finmap.get before name) refl
      by None there = elim (run.store.no_stray name there held) [
        | inl segment ↦
            let no : 67 ≡ 65 = sym (ap (λ l. get_or l 0 0) segment.2)
            ∙ ap (λ l. get_or l 0 0) is.form in
            absurd (omega (arith, no))
        | inr other ↦ elim other [
          | inl archive ↦
              let same = one_archive name id archive.0 is
              (record { form = archive.2; id_fits = fits archive.0 archive.1 }) in
              let low = below archive.0 archive.1 in
              omega (arith, same, low, room)
          | inr table ↦ absurd (archive_is_no_table name id is table.0 table.1 table.2)
        ]
      ]

  low : (id : ℕ) → NamesAny after id → id < id_limit
  low id any = elim any [
    | inl segment ↦
        let less = below id
        (run.store.no_other segment.0 segment.1.0 id segment.1.1 segment.1.2).1 in
        omega (arith, less, room)
    | inr other ↦ elim other [
      | inl archive ↦ its_archive id archive.0 archive.1 archive.2
      | inr table ↦
          let same = table.2 in
          elim (old_or_new o before after changes mutations run table.0 table.1) [
            | inl old ↦
                let less = can.low table.0.upper.id
                (older before run.opened run.recovery run.base run.opening table.0 old) in
                omega (arith, less, same)
            | inr listed ↦
                let near = reach.near table.0 listed in
                let end = near.near in
                let less = below near.line.id
                (run.store.is_appended.no_other near.line near.listed) in
                omega (arith, less, room, end, same)
          ]
    ]
  ]

  opens_within : CanBeOpened after
  opens_within = record {
    readable = record {
      tables = tables;
      short = none_long;
      undamaged = λ _. (merge_kept o before after changes mutations run).undamaged;
    };
    few = few;
    low = low;
  }

pub opens_again : (o : ApplyOptions) (before after : Files) (changes : List Change)
    (mutations : List Mutation) (run : ClosedRun o before after changes mutations)
    → ReachesNoFurther o run.base run.later run.ids run.history run.files
    → HaveNextNames run.opened after run.files → AreRecoveryPuts before run.opened
    → CanBeOpened before → HasRoomFor before (1 + length run.files) → capacity_of o ≤ file_limit
    → run.base + length run.ids < id_limit → CanBeOpened after
opens_again o before after changes mutations run reach names came can free short room =
    opens_within o before after changes mutations run reach can short room
    (none_late before run.opened after run.files came names free)
