-- The segments of what a crash leaves are bytes, and short enough to be read.
use Rattle.std.proofs.Common.{
  ◌≡◌,
  ℕ,
  ◌<◌,
  ◌^◌,
  inl,
  inr,
  List,
  [],
  ◌∷◌,
  ◌++◌,
  length,
  Some,
  Contains,
  refl,
  sym,
  ◌∙◌,
  ap,
  subst,
  arith,
}
use Rattle.std.specs.Prelude.{get_or, is_some}
use Rattle.std.specs.FinMap as finmap
use Rattle.std.proofs.lemmas.Bool.{cases_lt}
use Rattle.std.proofs.lemmas.List.Elements.{
  Contains-append_left,
  Contains-append_right,
  Contains-push_cases,
}
use Rattle.clog_spec.specs.Crc.{IsBytes}
use Rattle.clog_spec.specs.Names.{IsSegmentName, archive_name_of, segment_name_of}
use Rattle.clog_spec.specs.Sizes.{file_limit}
use Rattle.clog_base.proofs.Members.{first_or_further, here, nothing_there}
use Rattle.clog_base.proofs.NameLaws.{segment_is_no_other}
use Rattle.clog_disk.specs.Files.{Files, bytes_at}
use Rattle.clog_crash.specs.Chance.{NoChance}
use Rattle.clog_crash.specs.Damage.{AreSegmentFiles}
use Rattle.clog_crash.specs.Folder.{HasSegmentFile}
use Rattle.clog_crash.specs.Log.{GoesOn, NoChances, Write}
use Rattle.clog_crash.proofs.changes.Nothing.{reads_as}
use Rattle.clog_segments.specs.AtMost.{IsPartOf}
use Rattle.clog_segments.specs.Filing.{ComesFrom}
use Rattle.clog_segments.specs.Grows.{segments_with}
use Rattle.clog_segments.specs.Opened.{CanBeOpened}
use Rattle.clog_segments.specs.StoreFolder.{Deeds, StoreLog}
use Rattle.clog_segments.specs.StoreImages.{HoldsAtMost}

-- a folder without segments
pub of_none : (files : Files) → ¬ HasSegmentFile files → AreSegmentFiles files
of_none files none name bytes id named there =
    absurd (none (name, ap is_some there, (6, (id, named))))

-- what a recovery puts is no segment
pub of_coming : (first image : Files) → AreSegmentFiles first → ComesFrom first image
    → AreSegmentFiles image
of_coming first image are from name bytes id named there = elim (from name bytes there) [
  | inl same ↦ are name bytes id named same
  | inr put ↦ absurd ((segment_is_no_other name 6 id named).1 put.file.table.0 put.sequence
      put.named)
]

-- a segment's name is no archive's, by its first letter
no_archive : (name : List ℕ) (id other : ℕ) → IsSegmentName name 6 id
    → name ≡ archive_name_of other → ⊥
no_archive name id other named archive =
    let same : segment_name_of 6 id ≡ archive_name_of other = sym named.form ∙ archive in
    let no : 67 ≡ 65 = ap (λ (l : List ℕ). get_or l 0 0) same in omega (arith, no)

-- each segment that was written has nothing by chance
chance_at : (written : List Write) (image : Files) (w : Write) → NoChances written image
    → Contains written w → NoChance w.id w.sections (bytes_at image (segment_name_of 6 w.id))
chance_at [] image w none among = absurd (nothing_there w among)
chance_at (v ∷ vs) image w none among = elim (first_or_further v vs w among) [
  | inl same ↦ subst (λ (x : Write).
      NoChance x.id x.sections (bytes_at image (segment_name_of 6 x.id))) same none.0
  | inr later ↦ chance_at vs image w none.1 later
]

module _ (first image : Files) (log : StoreLog) (deeds : Deeds) (written : List Write)
    (are : AreSegmentFiles first) (most : HoldsAtMost first log deeds image)
    (on : GoesOn log.past log.id log.sections written) (none : NoChances written image)
    (can : CanBeOpened image) where
  -- a segment of the log was written, with perhaps further sections
  was_written : (w : Write) → Contains (segments_with log.past log.id log.sections) w
      → (v : Write) × Contains written v × (v.id ≡ w.id)
  was_written w among =
      let hand : Write = record { id = log.id; sections = log.sections ++ on.more } in
      let whole = log.past ++ hand ∷ on.next in
      let In : Write → List Write → Type 0 = λ v l. Contains l v in
      elim (Contains-push_cases log.past (record { id = log.id; sections = log.sections }) w
      among) [
        | inl before ↦ (
          w,
          subst (In w) (sym on.is) (Contains-append_left log.past (hand ∷ on.next) w before),
          refl,
        )
        | inr same ↦ (
          hand,
          subst (In hand) (sym on.is)
              (Contains-append_right log.past (hand ∷ on.next) hand (here hand on.next)),
          ap (λ (x : Write). x.id) same,
        )
      ]

  part_is_bytes : (name bytes : List ℕ) → finmap.get image name ≡ Some bytes
      → IsPartOf (segments_with log.past log.id log.sections) name bytes → IsBytes bytes
  part_is_bytes name bytes there part =
      let was = was_written part.segment part.among in
      let at : segment_name_of 6 was.0.id ≡ name =
      ap (segment_name_of 6) was.2 ∙ sym part.name_is in
      let reads : bytes_at image (segment_name_of 6 was.0.id) ≡ bytes =
      ap (bytes_at image) at ∙ reads_as image name bytes there in
      subst IsBytes reads (chance_at written image was.0 none was.1).are_bytes

  short : (name bytes : List ℕ) (id : ℕ) → IsSegmentName name 6 id
      → finmap.get image name ≡ Some bytes → length bytes < 2 ^ 31
  short name bytes id named there = elim (cases_lt file_limit (length bytes)) [
    | inl long ↦ absurd (can.readable.short name id named (record {
      bytes = bytes;
      there = there;
      long = long;
    }))
    | inr fits ↦ omega (arith, fits)
  ]

  pub of_a_store : AreSegmentFiles image
  of_a_store name bytes id named there = elim (most name bytes there) [
    | inl same ↦ are name bytes id named same
    | inr brought ↦ elim brought [
      | inl part ↦ record {
        are_bytes = part_is_bytes name bytes there part;
        short = short name bytes id named there;
      }
      | inr other ↦ elim other [
        | inl archive ↦ absurd (no_archive name id archive.0 named archive.2)
        | inr file ↦
            absurd ((segment_is_no_other name 6 id named).1 file.file.table.0 file.sequence
            file.named)
      ]
    ]
  ]
