-- Sections come behind those that are kept: what a crash leaves meanwhile, and what stands then.
use Rattle.std.proofs.Common.{
  ◌≡◌,
  ℕ,
  ◌≤◌,
  ⊎_elim,
  List,
  [],
  ◌++◌,
  length,
  Option,
  Some,
  refl,
  sym,
  ◌∙◌,
  ap,
  subst,
  arith,
}
use Rattle.std.specs.Prelude.{unwrap_or}
use Rattle.std.specs.FinMap as finmap
use Rattle.clog_spec.specs.Names.{segment_name_of}
use Rattle.clog_disk.specs.Files.{Files, bytes_at, AppendsTo}
use Rattle.clog_disk.specs.Images.{IsImage, Tears, Within}
use Rattle.clog_disk.proofs.Named.{put_here, put_there}
use Rattle.clog_scan.specs.Cut.{Section}
use Rattle.clog_crash.specs.Rest.{IsInFiles, IsAtRest, Lasting, Tail}
use Rattle.clog_crash.specs.Sections.{segment_bytes, Brings}
use Rattle.clog_crash.specs.Showing.{Shows}
use Rattle.clog_crash.proofs.changes.Elsewhere.{skipped_now}
use Rattle.clog_crash.proofs.changes.Names.{not_segment}
use Rattle.clog_crash.proofs.rest.Sectioned.{no_longer_than}
use Rattle.clog_crash.proofs.rest.Shown.{shown}
use Rattle.clog_crash.proofs.rest.Standing.{
  reads_same,
  held_before,
  table_stands,
  older_stands,
}
use Rattle.clog_crash.proofs.rest.Tails.{grown, longer}

-- ---- where nothing is written

-- a crash leaves no more than before
pub lasting_within : (f : Files) (id : ℕ) (old all : List Section)
    (leaves now : List ℕ → Option (List ℕ) → Type 0) → Within leaves now
    → Lasting f leaves id old all → Lasting f now id old all
lasting_within f id old all leaves now within lasting = record {
  others = λ name apart left has. lasting.others name apart left (within name left has);
  tail = λ left has. lasting.tail left (within (segment_name_of 6 id) left has);
}

-- it is at rest as before
pub rests_on : (f : Files) (leaves now : List ℕ → Option (List ℕ) → Type 0) (id : ℕ)
    (old kept : List Section) → Within leaves now → IsAtRest f leaves id old kept
    → IsAtRest f now id old kept
rests_on f leaves now id old kept within rest = record {
  stored = rest.stored;
  in_files = rest.in_files;
  lasting = lasting_within f id old (old ++ kept) leaves now within rest.lasting;
}

-- each image of a folder at rest
pub rest_shows : (f : Files) (leaves : List ℕ → Option (List ℕ) → Type 0) (id : ℕ)
    (old kept : List Section) → IsAtRest f leaves id old kept → (image : Files)
    → IsImage leaves image → Shows f id old kept image
rest_shows f leaves id old kept rest image left =
    shown f id old kept kept rest.in_files leaves rest.lasting image left

-- ---- bytes are appended

module _ (f : Files) (id : ℕ) (old kept new : List Section) (bytes : List ℕ)
    (brings : Brings id old kept new bytes) where
  abbrev s : List ℕ
  s = segment_name_of 6 id

  abbrev all : List Section
  all = old ++ (kept ++ new)

  abbrev k : ℕ
  k = length (segment_bytes id old)

  -- before the append
  pub lasting_before : (leaves : List ℕ → Option (List ℕ) → Type 0)
      → IsAtRest f leaves id old kept → Lasting f leaves id old all
  lasting_before leaves rest = record {
    others = rest.lasting.others;
    tail = λ left has. subst (λ (l : List ℕ). Tail k l left) brings.spelled
        (longer k (segment_bytes id (old ++ kept)) bytes left (no_longer_than id old kept)
        (rest.lasting.tail left has));
  }

  -- while the append is made, and where it has failed
  pub lasting_torn : (leaves now : List ℕ → Option (List ℕ) → Type 0)
      → IsAtRest f leaves id old kept → Tears (Some f) leaves now s (length bytes)
      → Lasting f now id old all
  lasting_torn leaves now rest tears = record {
    others = λ name apart left has.
        ⊎_elim (rest.lasting.others name apart left) (λ here. absurd (apart here.0))
        (tears name left has);
    tail = λ left has.
        let reads = rest.in_files.reads in
        let within : k ≤ length (bytes_at f s) =
        omega (arith, no_longer_than id old kept, ap length reads) in
        let before : (o : Option (List ℕ)) → leaves s o → Tail k (bytes_at f s) o =
        λ o was. subst (λ (l : List ℕ). Tail k l o) (sym reads) (rest.lasting.tail o was) in
        subst (λ (l : List ℕ). Tail k l left)
        (ap (λ (l : List ℕ). l ++ bytes) reads ∙ brings.spelled)
        (grown f leaves now s k (length bytes) bytes refl within before tears left has);
  }

  -- each image meanwhile
  pub torn_shows : (leaves now : List ℕ → Option (List ℕ) → Type 0)
      → IsAtRest f leaves id old kept → Tears (Some f) leaves now s (length bytes)
      → (image : Files) → IsImage now image → Shows f id old (kept ++ new) image
  torn_shows leaves now rest tears image left =
      shown f id old kept (kept ++ new) rest.in_files now (lasting_torn leaves now rest tears)
      image left

  -- ---- the files, once the bytes stand there

  abbrev g : Files
  g = finmap.insert f s (segment_bytes id all)

  there : (name : List ℕ) → (name ≡ s → ⊥) → finmap.get g name ≡ finmap.get f name
  there name apart = put_there f s (segment_bytes id all) name apart

  pub appended : (now : Option Files) → IsInFiles f id old kept → AppendsTo (Some f) now s bytes
      → now ≡ Some g
  appended now in_f is =
      is ∙ ap (λ (l : List ℕ). Some (finmap.insert f s l))
      (ap (λ (l : List ℕ). l ++ bytes) in_f.reads ∙ brings.spelled)

  files_now : IsInFiles f id old kept → IsInFiles g id old (kept ++ new)
  files_now in_f = record {
    reads = ap (λ (o : Option (List ℕ)). unwrap_or o []) (put_here f s (segment_bytes id all));
    live = λ table at far skipped. in_f.live table at far
        (skipped_now (bytes_at g) (bytes_at f) id brings.stored.fits
        (λ name apart. sym (reads_same f g name (there name apart))) table at skipped);
    tables = λ place name named held.
        let apart = not_segment id name place.0.0 place.1 brings.stored.fits named in
        let good = in_f.tables place name named (held_before f g name (there name apart) held) in
        (good.0, table_stands f g name (there name apart) place good.0 good.1);
    segments = λ name version other named apart held.
        older_stands f g name (there name apart) version other id
        (in_f.segments name version other named apart
        (held_before f g name (there name apart) held));
  }

  -- the sections are kept, and do not last yet
  pub keeps : (leaves now : List ℕ → Option (List ℕ) → Type 0) → IsAtRest f leaves id old kept
      → Tears (Some f) leaves now s (length bytes) → IsAtRest g now id old (kept ++ new)
  keeps leaves now rest tears =
      let lasting = lasting_torn leaves now rest tears in
      record {
        stored = brings.stored;
        in_files = files_now rest.in_files;
        lasting = record {
          others = λ name apart left has.
              lasting.others name apart left has ∙ sym (there name apart);
          tail = lasting.tail;
        };
      }
