-- The sections that are kept are made to last.
use Rattle.std.proofs.Common.{
  ◌≡◌,
  ℕ,
  ◌≤◌,
  inl,
  inr,
  List,
  [],
  ◌∷◌,
  ◌++◌,
  length,
  take,
  Option,
  Some,
  None,
  refl,
  sym,
  ◌∙◌,
  ap,
  subst,
  arith,
}
use Rattle.std.specs.Prelude.{unwrap_or}
use Rattle.std.specs.FinMap as finmap
use Rattle.std.proofs.lemmas.List.{append-nil}
use Rattle.clog_spec.specs.Sizes.{header_size}
use Rattle.clog_spec.specs.Names.{segment_name_of}
use Rattle.clog_disk.specs.Files.{Files}
use Rattle.clog_disk.specs.Images.{LastsAs, Within}
use Rattle.clog_scan.specs.Cut.{Section, last_until}
use Rattle.clog_crash.specs.Rest.{IsAtRest, Tail}
use Rattle.clog_crash.specs.Sections.{segment_bytes, IsStored}
use Rattle.clog_crash.proofs.changes.Nothing.{reads_as}
use Rattle.clog_crash.proofs.torn.Whole.{until_grows, whole_back}

pub last_until-append : (at : ℕ) (ss more : List Section)
    → last_until at (ss ++ more) ≡ last_until (last_until at ss) more
last_until-append at [] more = refl
last_until-append at (s ∷ ss) more = last_until-append s.until ss more

-- ---- the device has synced: what is read at the segment's name lasts

module _ (f : Files) (id : ℕ) (old kept : List Section)
    (leaves now : List ℕ → Option (List ℕ) → Type 0) (rest : IsAtRest f leaves id old kept)
    (within : Within leaves now)
    (lasts : LastsAs now (segment_name_of 6 id) (finmap.get f (segment_name_of 6 id))) where
  abbrev s : List ℕ
  s = segment_name_of 6 id

  abbrev all : List Section
  all = old ++ kept

  none : all ++ [] ≡ all
  none = append-nil all

  further : last_until header_size old ≤ last_until header_size all
  further =
      let len = length (segment_bytes id all) in
      let grows = until_grows len (last_until header_size old) kept
      (whole_back len header_size old kept rest.stored.whole) in
      omega (arith, grows, last_until-append header_size old kept)

  tail_of : (o : Option (List ℕ)) → finmap.get f s ≡ o
      → Tail (length (segment_bytes id all)) (segment_bytes id (all ++ [])) o
  tail_of None is =
      ap length (sym rest.in_files.reads ∙ ap (λ (x : Option (List ℕ)). unwrap_or x []) is)
  tail_of (Some b) is =
      let bytes : b ≡ segment_bytes id all = sym (reads_as f s b is) ∙ rest.in_files.reads in
      let same : segment_bytes id (all ++ []) ≡ segment_bytes id all =
      ap (segment_bytes id) none in
      record {
        front = ap (take (length (segment_bytes id all))) (bytes ∙ sym same);
        no_shorter = omega (arith, ap length bytes);
        no_longer = omega (arith, ap length bytes, ap length same);
      }

  pub settles : IsAtRest f now id all []
  settles = record {
    stored = subst (IsStored id) (sym none) rest.stored;
    in_files = record {
      reads = rest.in_files.reads ∙ ap (segment_bytes id) (sym none);
      live = λ table at far skipped. rest.in_files.live table at (elim far [
        | inl here ↦ inl (here.0, omega (arith, here.1, further))
        | inr later ↦ inr later
      ]) skipped;
      tables = rest.in_files.tables;
      segments = rest.in_files.segments;
    };
    lasting = record {
      others = λ n apart o has. rest.lasting.others n apart o (within n o has);
      tail = λ o has. subst (λ (x : Option (List ℕ)).
          Tail (length (segment_bytes id all)) (segment_bytes id (all ++ [])) x)
          (sym (lasts o has)) (tail_of (finmap.get f s) refl);
    };
  }
