-- A file is read whole, piece by piece.
use Rattle.std.proofs.Common.{
  ◌≡◌,
  ℕ,
  ◌<◌,
  ◌≤◌,
  List,
  [],
  ◌++◌,
  length,
  take,
  drop,
  Option,
  Some,
  None,
  refl,
  sym,
  ap,
  subst,
  ◌∙◌,
  arith,
  append_assoc,
  length-append,
}
use Rattle.std.specs.FinMap as finmap
use Rattle.std.proofs.lemmas.List.{append-nil, nil_from_length, take-append-drop, length-take}
use Rattle.std.proofs.Math.Seq.{drop-append_seam}
use Rattle.clog_disk.specs.Files.{Files, IsLength, Reads}
use Rattle.clog_crash.proofs.OneMore.{some_is}
use Rattle.clog_folder.specs.Whole.{IsFirstPart, HasFirstPart, IsWhole}

pub front_none : (files : Option Files) (name : List ℕ) (size : ℕ) → IsLength files name size
    → HasFirstPart files name size []
front_none None name size is = tt
front_none (Some files) name size is = record {
  whole = is.0;
  rest = is.0;
  there = is.1;
  size_is = is.2;
  parts = refl;
}

-- what was read of the disk as it stands now was read of it as it was
pub read_before : (files now : Option Files) (name : List ℕ) (place at count : ℕ)
    (piece : List ℕ) → now ≡ files → place ≡ at → Reads now name place count piece
    → Reads files name at count piece
read_before files now name place at count piece same is read =
    subst (λ (f : Option Files). Reads f name at count piece) same
    (subst (λ (n : ℕ). Reads now name n count piece) is read)

-- what a piece is of the rest
piece_of_rest : (files : Files) (name bytes piece : List ℕ) (size count : ℕ)
    (f : IsFirstPart files name size bytes) → Reads (Some files) name (length bytes) count piece
    → piece ≡ take count f.rest
piece_of_rest files name bytes piece size count f read =
    let held : read.0 ≡ f.whole = some_is read.0 f.whole (sym read.1 ∙ f.there) in
    read.2
    ∙ ap (λ (l : List ℕ). take count (drop (length bytes) l)) (held ∙ f.parts)
    ∙ ap (take count) (drop-append_seam bytes f.rest)

pub front_more : (files : Option Files) (name bytes piece : List ℕ) (size count : ℕ)
    → HasFirstPart files name size bytes → Reads files name (length bytes) count piece
    → HasFirstPart files name size (bytes ++ piece)
front_more None name bytes piece size count f read = tt
front_more (Some files) name bytes piece size count f read = record {
  whole = f.whole;
  rest = drop count f.rest;
  there = f.there;
  size_is = f.size_is;
  parts = f.parts
      ∙ ap (λ (l : List ℕ). bytes ++ l) (sym (take-append-drop count f.rest)
      ∙ ap (λ (l : List ℕ). l ++ drop count f.rest)
      (sym (piece_of_rest files name bytes piece size count f read)))
      ∙ sym (append_assoc bytes piece (drop count f.rest));
}

no_rest : (files : Files) (name bytes : List ℕ) (size : ℕ) (f : IsFirstPart files name size bytes)
    → f.rest ≡ [] → finmap.get files name ≡ Some bytes
no_rest files name bytes size f none =
    f.there ∙ ap Some (f.parts ∙ ap (λ (l : List ℕ). bytes ++ l) none ∙ append-nil bytes)

nothing_taken : (count : ℕ) (rest : List ℕ) → 0 < count → take count rest ≡ [] → rest ≡ []
nothing_taken count rest some none =
    nil_from_length rest (omega (arith, some, ap length none, length-take count rest))

-- as many bytes as the file has are the file
pub whole_by_size : (files : Option Files) (name bytes : List ℕ) (size : ℕ) → size ≤ length bytes
    → HasFirstPart files name size bytes → IsWhole files name bytes
whole_by_size None name bytes size all f = tt
whole_by_size (Some files) name bytes size all f =
    no_rest files name bytes size f
    (nil_from_length f.rest (omega (
      arith,
      all,
      f.size_is,
      ap length f.parts,
      length-append bytes f.rest,
    )))

-- where no byte comes, the file has ended
pub whole_by_end : (files : Option Files) (name bytes piece : List ℕ) (size count : ℕ) → 0 < count
    → piece ≡ [] → HasFirstPart files name size bytes → Reads files name (length bytes) count piece
    → IsWhole files name bytes
whole_by_end None name bytes piece size count some none f read = tt
whole_by_end (Some files) name bytes piece size count some none f read =
    no_rest files name bytes size f
    (nothing_taken count f.rest some
    (sym (piece_of_rest files name bytes piece size count f read) ∙ none))
