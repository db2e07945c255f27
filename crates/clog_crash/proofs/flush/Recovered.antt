-- A folder where everything lasts is recovered: true table files come, and covered segments go.
-- What a crash leaves meanwhile restores the same and has no damage.
use Rattle.std.proofs.Common.{◌≡◌, ◌⊎◌, ℕ, inl, inr, List, Option, refl, sym, ◌∙◌, ap, subst}
use Rattle.std.specs.FinMap as finmap
use Rattle.clog_spec.specs.Names.{segment_name_of, table_name_of, IsSegmentName}
use Rattle.clog_disk.specs.Files.{Files, bytes_at}
use Rattle.clog_disk.specs.Images.{IsImage, LastsAs, TurnsTo}
use Rattle.clog_disk.proofs.Named.{same_or_other, gone_there, same_files}
use Rattle.clog_scan.specs.declared.answer.End.{End}
use Rattle.clog_scan.specs.declared.answer.End.TheVariants.{Clean, Torn}
use Rattle.clog_scan.specs.Segment.{Entry, IsSegment}
use Rattle.clog_table.specs.declared.table_file.TableFile.{TableFile}
use Rattle.clog_crash.specs.Changes.{Loses}
use Rattle.clog_crash.specs.Flush.{IsNewFile, IsSettled, IsSameFolder, IsCoveredHere}
use Rattle.clog_crash.specs.Folder.{IsHeld}
use Rattle.clog_crash.specs.Readings.{IsLoggedIn, RestoresIn}
use Rattle.clog_crash.specs.Restore.{IsGoodSegment, IsUndamaged, MayEnd, end_position}
use Rattle.clog_crash.proofs.changes.Came.{came}
use Rattle.clog_crash.proofs.changes.Covering.{exactly, merge_then}
use Rattle.clog_crash.proofs.changes.Elsewhere.{skipped_now}
use Rattle.clog_crash.proofs.changes.Lost.{lost}
use Rattle.clog_crash.proofs.flush.Goes.{not_gone, reads_nothing}
use Rattle.clog_crash.proofs.flush.NewFile.{
  beside,
  reads_new,
  no_segment,
  new_puts,
  tables_with,
}
use Rattle.clog_crash.proofs.rest.Sectioned.{nothing_logged_in}
use Rattle.clog_crash.proofs.rest.Standing.{
  held_before,
  segment_stands,
  table_stands,
  reads_same,
}

-- ---- the same folder

pub same_itself : (f : Files) → IsUndamaged f → IsSameFolder f f
same_itself f undamaged = record {
  same = exactly (RestoresIn (bytes_at f)) (RestoresIn (bytes_at f)) (λ pair. (λ x. x, λ x. x));
  undamaged = undamaged;
}

pub same_then : (f g h : Files) → IsSameFolder f g → IsSameFolder g h → IsSameFolder f h
same_then f g h one two = record {
  same = merge_then (RestoresIn (bytes_at h)) (RestoresIn (bytes_at g)) (RestoresIn (bytes_at f))
      two.same one.same;
  undamaged = two.undamaged;
}

-- each image of a folder where everything lasts
pub settled_images : (f : Files) (leaves : List ℕ → Option (List ℕ) → Type 0)
    → IsSettled f leaves → (image : Files) → IsImage leaves image → IsSameFolder f image
settled_images f leaves settled image left =
    subst (IsSameFolder f)
    (sym (same_files image f (λ n. settled.exact n (finmap.get image n) (left n))))
    (same_itself f settled.undamaged)

-- ---- one name turns to another content

module _ (f g : Files) (name : List ℕ) (what : Option (List ℕ))
    (off : (n : List ℕ) → (n ≡ name → ⊥) → finmap.get g n ≡ finmap.get f n)
    (here : finmap.get g name ≡ what) (same : IsSameFolder f g)
    (leaves now : List ℕ → Option (List ℕ) → Type 0) (turns : TurnsTo leaves now name what)
    (settled : IsSettled f leaves) where
  elsewhere : (n : List ℕ) (left : Option (List ℕ)) → (n ≡ name → ⊥) → now n left
      → left ≡ finmap.get f n
  elsewhere n left apart has = elim (turns n left has) [
    | inl before ↦ settled.exact n left before
    | inr turned ↦ absurd (apart turned.0)
  ]

  one_of : (image : Files) → IsImage now image → (image ≡ f) ⊎ (image ≡ g)
  one_of image left = elim (turns name (finmap.get image name) (left name)) [
    | inl before ↦ inl (same_files image f (λ n. elim (same_or_other n name) [
      | inl is ↦ ap (finmap.get image) is
          ∙ settled.exact name (finmap.get image name) before ∙ ap (finmap.get f) (sym is)
      | inr apart ↦ elsewhere n (finmap.get image n) apart (left n)
    ]))
    | inr turned ↦ inr (same_files image g (λ n. elim (same_or_other n name) [
      | inl is ↦ ap (finmap.get image) is ∙ turned.1 ∙ sym here ∙ ap (finmap.get g) (sym is)
      | inr apart ↦ elsewhere n (finmap.get image n) apart (left n) ∙ sym (off n apart)
    ]))
  ]

  pub folder_turns : (image : Files) → IsImage now image → IsSameFolder f image
  folder_turns image left = elim (one_of image left) [
    | inl before ↦ subst (IsSameFolder f) (sym before) (same_itself f settled.undamaged)
    | inr after ↦ subst (IsSameFolder f) (sym after) same
  ]

  pub folder_settles : LastsAs now name what → IsSettled g now
  folder_settles lasts = record {
    exact = λ n left has. elim (same_or_other n name) [
      | inl is ↦ lasts left (subst (λ (m : List ℕ). now m left) is has) ∙ sym here
          ∙ ap (finmap.get g) (sym is)
      | inr apart ↦ elsewhere n left apart has ∙ sym (off n apart)
    ];
    undamaged = same.undamaged;
  }

-- a good segment stays good where no further one has come
good_stands : (f g : Files) (name : List ℕ) (id : ℕ) → finmap.get g name ≡ finmap.get f name
    → ((n : List ℕ) (version other : ℕ) → IsSegmentName n version other → IsHeld g n → IsHeld f n)
    → IsGoodSegment f name id → IsGoodSegment g name id
good_stands f g name id same fewer good = record {
  entries = good.entries;
  end = good.end;
  holds = segment_stands f g name same id good.entries good.end good.holds;
  may_end = still good.end good.may_end;
  payloads = good.payloads;
}
  where
    still : (end : End) → MayEnd f id end → MayEnd g id end
    still (Clean at) may = tt
    still (Torn at cause) may = (
      may.0,
      λ n version other named held. may.1 n version other named
          (fewer n version other named held),
    )

-- ---- a table file comes

pub file_comes : (f : Files) (file : TableFile) (sequence : ℕ) (bytes : List ℕ) → IsUndamaged f
    → IsNewFile f (bytes_at f) file sequence bytes
    → IsSameFolder f (finmap.insert f (table_name_of file.table.0 sequence) bytes)
file_comes f file sequence bytes undamaged new =
    let r = bytes_at f in
    let t = table_name_of file.table.0 sequence in
    let g = finmap.insert f t bytes in
    let off = beside f r file sequence bytes new in
    let stays : (n : List ℕ) (version other : ℕ) → IsSegmentName n version other
    → finmap.get g n ≡ finmap.get f n =
    λ n version other named.
    off n (no_segment f r file sequence bytes new n version other named) in
    record {
      same = came (bytes_at f) (bytes_at g) file sequence
          (new_puts f r file sequence bytes new (bytes_at g)
          (λ n apart. reads_same f g n (off n apart)) refl
          (reads_new f r file sequence bytes new));
      undamaged = record {
        tables = tables_with f r file sequence bytes new undamaged.tables;
        segments = λ name version id named held.
            let same = stays name version id named in
            let good = undamaged.segments name version id named
            (held_before f g name same held) in (
              good.0,
              good_stands f g name id same
                  (λ n v o is there. held_before f g n (stays n v o is) there) good.1,
            );
      };
    }

-- ---- a segment goes

module _ (f : Files) (other : ℕ) (undamaged : IsUndamaged f) (covered : IsCoveredHere f other) where
  abbrev u : List ℕ
  u = segment_name_of 6 other

  abbrev h : Files
  h = finmap.remove f u

  off : (n : List ℕ) → (n ≡ u → ⊥) → finmap.get h n ≡ finmap.get f n
  off n apart = gone_there f u n apart

  loses : Loses (bytes_at f) (bytes_at h) other
  loses = record {
    fits = covered.fits;
    others = λ n apart. reads_same f h n (off n apart);
    none = λ entry l. nothing_logged_in (bytes_at h) other entry (reads_nothing f u) l;
    covered = covered.covered;
  }

  stays : (n : List ℕ) → IsHeld h n → finmap.get h n ≡ finmap.get f n
  stays n held = off n (not_gone f u n held)

  pub segment_goes : IsSameFolder f h
  segment_goes = record {
    same = exactly (RestoresIn (bytes_at h)) (RestoresIn (bytes_at f))
        (lost (bytes_at f) (bytes_at h) other loses);
    undamaged = record {
      tables = λ place name named held.
          let same = stays name held in
          let good = undamaged.tables place name named (held_before f h name same held) in
          (good.0, table_stands f h name same place good.0 good.1);
      segments = λ name version id named held.
          let same = stays name held in
          let good = undamaged.segments name version id named (held_before f h name same held) in (
            good.0,
            good_stands f h name id same
                (λ n v o is there. held_before f h n (stays n there) there) good.1,
          );
    };
  }

  logged_before : (id : ℕ) (entry : Entry) → IsLoggedIn (bytes_at h) id entry
      → IsLoggedIn (bytes_at f) id entry
  logged_before id entry l = elim (same_or_other (segment_name_of 6 id) u) [
    | inl same ↦ absurd (nothing_logged_in (bytes_at h) id entry
        (ap (bytes_at h) same ∙ reads_nothing f u) l)
    | inr apart ↦ record {
      fits = l.fits;
      entries = l.entries;
      end = l.end;
      holds = subst (λ (b : List ℕ). IsSegment b id l.entries l.end)
          (reads_same f h (segment_name_of 6 id) (off (segment_name_of 6 id) apart)) l.holds;
      listed = l.listed;
    }
  ]

  -- what is covered stays so
  pub still_covered : (id : ℕ) → IsCoveredHere f id → IsCoveredHere h id
  still_covered id c = record {
    fits = c.fits;
    covered = λ entry l pair cell.
        skipped_now (bytes_at f) (bytes_at h) other covered.fits
        (λ n apart. reads_same f h n (off n apart)) pair.0.table (end_position id entry)
        (c.covered entry (logged_before id entry l) pair cell);
  }
