-- A folder whose segment is torn behind its old sections has no damage.
use Rattle.std.proofs.Common.{◌≡◌, ℕ, inl, inr, List, ◌++◌, take, drop, sym, subst, arith}
use Rattle.std.specs.Prelude.{Contains}
use Rattle.std.specs.FinMap as finmap
use Rattle.std.proofs.lemmas.List.{take-append-drop}
use Rattle.std.proofs.lemmas.List.Elements.{
  Contains-append_left,
  Contains-append_right,
  Contains-append_cases,
}
use Rattle.clog_spec.specs.Sizes.{header_size}
use Rattle.clog_spec.specs.Names.{segment_name_of, IsSegmentName}
use Rattle.clog_base.proofs.NameLaws.{one_segment as one_name}
use Rattle.clog_disk.specs.Files.{Files, bytes_at}
use Rattle.clog_disk.proofs.Named.{same_or_other}
use Rattle.clog_scan.specs.declared.answer.End.{End}
use Rattle.clog_scan.specs.declared.answer.End.TheVariants.{Clean, Torn}
use Rattle.clog_scan.specs.Cut.{Section, last_until}
use Rattle.clog_scan.specs.Segment.{Entry, entries_of, IsSegment}
use Rattle.clog_scan.proofs.Appended.{entries_of-append}
use Rattle.clog_crash.specs.Folder.{IsHeld, AreGoodTables}
use Rattle.clog_crash.specs.Rest.{IsInFiles}
use Rattle.clog_crash.specs.Restore.{AreMutations, IsGoodSegment, IsLastId, IsUndamaged, MayEnd}
use Rattle.clog_crash.specs.Sections.{IsStored}
use Rattle.clog_crash.specs.Tail.{IsSoftEnd, ReadsFirst}
use Rattle.clog_crash.proofs.OneMore.{bytes_of}
use Rattle.clog_crash.proofs.changes.Names.{is_named, not_segment}
use Rattle.clog_crash.proofs.changes.Nothing.{reads_as}
use Rattle.clog_crash.proofs.rest.Standing.{held_before, table_stands, segment_stands}

module _ (f : Files) (id : ℕ) (old kept more : List Section) (stored : IsStored id (old ++ more))
    (in_f : IsInFiles f id old kept) (image : Files)
    (others : (name : List ℕ) → (name ≡ segment_name_of 6 id → ⊥)
    → finmap.get image name ≡ finmap.get f name)
    (read : ReadsFirst id old more (bytes_at image (segment_name_of 6 id))) where
  abbrev s : List ℕ
  s = segment_name_of 6 id

  abbrev entries : List Entry
  entries = entries_of (last_until header_size old) more

  abbrev extra : List Entry
  extra = take read.n entries

  pub among : (entry : Entry) → Contains extra entry → Contains entries entry
  among entry h =
      subst (λ (l : List Entry). Contains l entry) (take-append-drop read.n entries)
      (Contains-append_left extra (drop read.n entries) entry h)

  said : AreMutations (entries_of header_size old ++ extra)
  said entry h =
      stored.said entry (subst (λ (es : List Entry). Contains es entry)
      (sym (entries_of-append header_size old more))
      (elim (Contains-append_cases (entries_of header_size old) extra entry h) [
        | inl before ↦ Contains-append_left (entries_of header_size old) entries entry before
        | inr new ↦ Contains-append_right (entries_of header_size old) entries entry
            (among entry new)
      ]))

  -- the name of a segment is this one, or that of an older one
  is_this : (name : List ℕ) (version other : ℕ) → IsSegmentName name version other
      → name ≡ s → (version ≡ 6) × (other ≡ id)
  is_this name version other named same =
      one_name s version other 6 id
      (subst (λ (n : List ℕ). IsSegmentName n version other) same named)
      (is_named id stored.fits)

  is_last : IsLastId image id
  is_last name version other named held = elim (same_or_other name s) [
    | inl same ↦ let one = is_this name version other named same in omega (arith, one.1)
    | inr apart ↦
        let older = in_f.segments name version other named apart
        (held_before f image name (others name apart) held) in
        omega (arith, older.below)
  ]

  may_end : (end : End) → IsSoftEnd end → MayEnd image id end
  may_end (Clean at) soft = tt
  may_end (Torn at cause) soft = (soft, is_last)

  tables : AreGoodTables image
  tables place name named held =
      let apart = not_segment id name place.0.0 place.1 stored.fits named in
      let good = in_f.tables place name named
      (held_before f image name (others name apart) held) in
      (good.0, table_stands f image name (others name apart) place good.0 good.1)

  this_is_good : IsHeld image s → IsGoodSegment image s id
  this_is_good held =
      let there = bytes_of (finmap.get image s) held in
      record {
        entries = entries_of header_size old ++ extra;
        end = read.end;
        holds = record {
          named = is_named id stored.fits;
          bytes = there.0;
          there = there.1;
          holds = subst
              (λ (b : List ℕ). IsSegment b id (entries_of header_size old ++ extra) read.end)
              (reads_as image s there.0 there.1) read.holds;
        };
        may_end = may_end read.end read.soft;
        payloads = said;
      }

  segments : (name : List ℕ) (version other : ℕ) → IsSegmentName name version other
      → IsHeld image name → (version ≡ 6) × IsGoodSegment image name other
  segments name version other named held = elim (same_or_other name s) [
    | inl same ↦
        let one = is_this name version other named same in (
          one.0,
          subst (λ (n : List ℕ). IsGoodSegment image n other) (sym same)
              (subst (λ (i : ℕ). IsGoodSegment image s i) (sym one.1)
              (this_is_good (subst (λ (n : List ℕ). IsHeld image n) same held))),
        )
    | inr apart ↦
        let older = in_f.segments name version other named apart
        (held_before f image name (others name apart) held) in (
          older.version_is,
          record {
            entries = older.entries;
            end = Clean older.at;
            holds = segment_stands f image name (others name apart) other older.entries
                (Clean older.at) older.holds;
            may_end = tt;
            payloads = older.payloads;
          },
        )
  ]

  pub undamaged_image : IsUndamaged image
  undamaged_image = record { tables = tables; segments = segments }
