-- Table files that a store has put stand in its folder, also where its disk has failed.
use Rattle.std.proofs.Common.{
  ◌≡◌,
  ◌<◌,
  ◌^◌,
  inl,
  inr,
  List,
  Some,
  refl,
  sym,
  ◌∙◌,
  ap,
  subst,
  arith,
}
use Rattle.std.specs.Prelude.{Contains}
use Rattle.std.specs.FinMap as finmap
use Rattle.std.proofs.lemmas.Option.{none-some}
use Rattle.clog_spec.specs.Names.{archive_name_of, segment_name_of}
use Rattle.clog_base.proofs.Members.{from_map}
use Rattle.clog_base.proofs.NameLaws.{archive_is_no_table}
use Rattle.clog_disk.specs.Files.{Files, bytes_at}
use Rattle.clog_table.specs.declared.table_file.TableFile.{TableFile}
use Rattle.clog_table.specs.Refusals.{IsFileOf}
use Rattle.clog_crash.specs.Log.{Write}
use Rattle.clog_crash.specs.Readings.{IsTableIn}
use Rattle.clog_crash.proofs.changes.Names.{not_segment}
use Rattle.clog_crash.proofs.changes.Nothing.{reads_as}
use Rattle.path_core.specs.Keeper.{PutFile}
use Rattle.clog_segments.specs.OnDisk.{file_on}
use Rattle.clog_segments.specs.StoreFailed.{HoldsButOne, IsToGo}
use Rattle.clog_segments.specs.StoreFolder.{Deeds, PlacedFile, StoreLog, name_of}
use Rattle.clog_closing.specs.Stores.{files_by}

module _ (opened : Files) (log : StoreLog) (deeds : Deeds) (now : Files)
    (but : HoldsButOne opened log deeds now)
    (below : (w : Write) → Contains log.past w → w.id < log.id) (fits : log.id < 2 ^ 63) where
  abbrev placed : List PlacedFile
  placed = but.holds.placed

  stands : (p : PlacedFile) → Contains placed p
      → finmap.get but.last (name_of p) ≡ Some p.bytes
  stands p among =
      but.holds.stands.rows (name_of p) p.bytes (inr (inr (record {
        file = p;
        among = among;
        name_is = refl;
        bytes_are = refl;
      })))

  -- an earlier segment's names are not those of table files
  not_to_go : (p : PlacedFile) → Contains placed p → IsToGo log deeds (name_of p) → ⊥
  not_to_go p among goes =
      let named = (but.holds.are_placed.each p among).named in
      let w = goes.past.segment in
      let low = below w goes.past.among in
      let id = sym goes.past.id_is in
      elim goes.name_is [
        | inl segment ↦
            not_segment w.id (name_of p) p.put.table p.sequence (omega (arith, low, fits)) named
            (segment ∙ ap (segment_name_of 6) id)
        | inr archive ↦ archive_is_no_table (name_of p) w.id (record {
          form = archive.1 ∙ ap archive_name_of id;
          id_fits = omega (arith, low, fits);
        }) p.put.table p.sequence named
      ]

  -- the disk has failed with none of their names
  spared : (p : PlacedFile) → Contains placed p → name_of p ≡ but.name → ⊥
  spared p among same = elim but.failing [
    | inl hand ↦
        not_segment log.id (name_of p) p.put.table p.sequence fits
        (but.holds.are_placed.each p among).named (same ∙ hand)
    | inr other ↦ elim other [
      | inl free ↦
          none-some p.bytes (sym free.free ∙ ap (finmap.get but.last) (sym same) ∙ stands p among)
      | inr goes ↦ not_to_go p among (subst (IsToGo log deeds) (sym same) goes)
    ]
  ]

  pub each_stands : (file : TableFile) → Contains (files_by log deeds) file
      → IsTableIn (bytes_at now) file
  each_stands file listed =
      let put = from_map (file_on log.base) deeds.files file listed in
      let found = from_map (λ (x : PlacedFile). x.put) placed put.0
      (subst (λ (l : List PutFile). Contains l put.0) (sym but.holds.are_placed.are) put.1) in
      let p = found.0 in
      let is = but.holds.are_placed.each p found.1 in
      let its = file_on log.base p.put in
      let there = but.others (name_of p) (spared p found.1) ∙ stands p found.1 in
      subst (IsTableIn (bytes_at now)) (ap (file_on log.base) found.2 ∙ put.2) (record {
        sequence = p.sequence;
        named = is.named;
        spelled = subst (λ (b : _). IsFileOf its.table b its)
            (sym (reads_as now (name_of p) p.bytes there)) is.spelled;
      })
