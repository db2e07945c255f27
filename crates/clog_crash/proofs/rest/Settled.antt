-- How names read where of a segment the old sections alone stand.
use Rattle.std.proofs.Common.{
  ◌≡◌,
  ℕ,
  inl,
  inr,
  List,
  [],
  ◌++◌,
  length,
  Option,
  refl,
  sym,
  ◌∙◌,
  ap,
  subst,
}
use Rattle.std.specs.Prelude.{Contains, ◌↔◌, unwrap_or}
use Rattle.std.specs.FinMap as finmap
use Rattle.clog_spec.specs.Sizes.{header_size}
use Rattle.clog_spec.specs.Names.{segment_name_of}
use Rattle.clog_base.specs.declared.cell.Table.{Table}
use Rattle.clog_disk.specs.Files.{Files, bytes_at}
use Rattle.clog_disk.proofs.Named.{same_or_other, put_here, put_there}
use Rattle.clog_scan.specs.Cut.{Section, last_until}
use Rattle.clog_scan.specs.Segment.{Entry, entries_of}
use Rattle.clog_scan.proofs.Appended.{entries_of-append}
use Rattle.clog_crash.specs.Changes.{DiffersAt, Gains}
use Rattle.clog_crash.specs.Covering.{Either, SameMerge}
use Rattle.clog_crash.specs.Readings.{Reading, RestoresIn, IsLoggedIn, IsSkippedIn, IsCellAmong}
use Rattle.clog_crash.specs.Rest.{IsInFiles, settled}
use Rattle.clog_crash.specs.Restore.{end_position}
use Rattle.clog_crash.specs.Sections.{segment_bytes, IsStored}
use Rattle.clog_crash.proofs.changes.Covering.{exactly}
use Rattle.clog_crash.proofs.changes.Elsewhere.{skipped_now}
use Rattle.clog_crash.proofs.changes.Gained.{gained}
use Rattle.clog_crash.proofs.rest.Sectioned.{stored_front, logged_of, end_above}
use Rattle.clog_crash.proofs.rest.Standing.{reads_same}
use Rattle.clog_crash.proofs.torn.Whole.{whole_back}

pub settled_here : (f : Files) (id : ℕ) (old : List Section)
    → settled f id old (segment_name_of 6 id) ≡ segment_bytes id old
settled_here f id old =
    ap (λ (o : Option (List ℕ)). unwrap_or o [])
    (put_here f (segment_name_of 6 id) (segment_bytes id old))

pub settled_there : (f : Files) (id : ℕ) (old : List Section) (name : List ℕ)
    → (name ≡ segment_name_of 6 id → ⊥) → settled f id old name ≡ bytes_at f name
settled_there f id old name apart =
    ap (λ (o : Option (List ℕ)). unwrap_or o [])
    (put_there f (segment_name_of 6 id) (segment_bytes id old) name apart)

-- where they are all that stands, names read as they do
pub settled_is : (f : Files) (id : ℕ) (all : List Section)
    → bytes_at f (segment_name_of 6 id) ≡ segment_bytes id all → settled f id all ≡ bytes_at f
settled_is f id all reads = λ i n. point n i
  where
    point : (n : List ℕ) → settled f id all n ≡ bytes_at f n
    point n = elim (same_or_other n (segment_name_of 6 id)) [
      | inl same ↦ ap (settled f id all) same ∙ settled_here f id all ∙ sym reads
          ∙ ap (bytes_at f) (sym same)
      | inr apart ↦ settled_there f id all n apart
    ]

-- two folders that differ at the segment alone read alike where its old sections alone stand
pub settled_same : (f g : Files) (id : ℕ) (old : List Section)
    → ((name : List ℕ) → (name ≡ segment_name_of 6 id → ⊥)
    → finmap.get g name ≡ finmap.get f name) → settled g id old ≡ settled f id old
settled_same f g id old others = λ i n. point n i
  where
    point : (n : List ℕ) → settled g id old n ≡ settled f id old n
    point n = elim (same_or_other n (segment_name_of 6 id)) [
      | inl same ↦ ap (settled g id old) same ∙ settled_here g id old
          ∙ sym (settled_here f id old) ∙ ap (settled f id old) (sym same)
      | inr apart ↦ settled_there g id old n apart ∙ reads_same f g n (others n apart)
          ∙ sym (settled_there f id old n apart)
    ]

-- ---- what sections behind the old ones add

module _ (f : Files) (id : ℕ) (old kept more : List Section) (stored : IsStored id (old ++ more))
    (in_f : IsInFiles f id old kept) where
  abbrev entries : List Entry
  entries = entries_of (last_until header_size old) more

  module _ (q : Reading) (extra : List Entry)
      (others : DiffersAt (segment_name_of 6 id) (settled f id old) q)
      (among : (entry : Entry) → Contains extra entry → Contains entries entry)
      (logged : (entry : Entry)
      → IsLoggedIn q id entry ↔ Contains (entries_of header_size old ++ extra) entry) where
    live : (entry : Entry) → Contains extra entry → (table : Table)
        → IsSkippedIn (settled f id old) table (end_position id entry) → ⊥
    live entry h table skipped =
        in_f.live table (end_position id entry) (inl (
          refl,
          end_above (length (segment_bytes id (old ++ more)))
              (last_until header_size old) more entry
              (whole_back (length (segment_bytes id
              (old ++ more))) header_size old more stored.whole)
              (among entry h),
        ))
        (skipped_now (settled f id old) (bytes_at f) id stored.fits
        (λ name apart. sym (settled_there f id old name apart)) table (end_position id entry)
        skipped)

    gains : Gains (settled f id old) q id extra
    gains =
        let was = logged_of (settled f id old) id old (stored_front id old more stored)
        (settled_here f id old) in
        record {
          fits = stored.fits;
          others = others;
          old = entries_of header_size old;
          was = λ entry. (was entry).0;
          stays = λ entry. (was entry).1;
          now = λ entry. (logged entry).0;
          holds = λ entry. (logged entry).1;
          live = live;
        }

    pub adds : SameMerge (RestoresIn q) (Either (RestoresIn (settled f id old)) (IsCellAmong extra))
    adds = exactly (RestoresIn q) (Either (RestoresIn (settled f id old)) (IsCellAmong extra))
        (gained (settled f id old) q id extra gains)

  -- with all of them
  pub all_restored : SameMerge (RestoresIn (settled f id (old ++ more)))
      (Either (RestoresIn (settled f id old)) (IsCellAmong entries))
  all_restored =
      adds (settled f id (old ++ more)) entries
      (λ n apart. settled_there f id (old ++ more) n apart ∙ sym (settled_there f id old n apart))
      (λ entry h. h)
      (subst (λ (es : List Entry). (entry : Entry)
      → IsLoggedIn (settled f id (old ++ more)) id entry ↔ Contains es entry)
      (entries_of-append header_size old more)
      (logged_of (settled f id (old ++ more)) id (old ++ more) stored
      (settled_here f id (old ++ more))))
