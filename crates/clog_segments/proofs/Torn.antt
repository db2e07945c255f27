-- What stands under the name of the segment at hand, whether or not the disk has failed.
use Rattle.std.proofs.Common.{
  ◌≡◌,
  ℕ,
  ◌≤◌,
  inl,
  inr,
  List,
  [],
  ◌∷◌,
  ◌++◌,
  length,
  take,
  Option,
  Some,
  None,
  refl,
  sym,
  ◌∙◌,
  ap,
  subst,
  arith,
  length-append,
}
use Rattle.std.specs.Prelude.{option_map, unwrap_or}
use Rattle.std.proofs.lemmas.List.{take_all}
use Rattle.std.proofs.Math.Seq.{take-append_seam}
use Rattle.std.specs.FinMap as finmap
use Rattle.clog_spec.specs.Names.{segment_name_of}
use Rattle.clog_disk.specs.Files.{Files, MayAppend, SameTold, Told, bytes_at}
use Rattle.clog_disk.proofs.Named.{put_here}
use Rattle.clog_scan.specs.Cut.{Section}
use Rattle.clog_crash.specs.Rest.{Kept, Tail}
use Rattle.clog_crash.specs.Sections.{segment_bytes}
use Rattle.clog_segments.specs.Beside.{StayButOne}
use Rattle.clog_segments.specs.Life.{HasEnd}
use Rattle.clog_segments.specs.Torn.{HandStands, StandsTorn}

-- ---- bytes

whole_tail : (all : List ℕ) (what : Option (List ℕ)) → unwrap_or what [] ≡ all
    → Tail (length all) all what
whole_tail all None reads = sym (ap length reads)
whole_tail all (Some bytes) reads = record {
  front = ap (take (length all)) reads;
  no_shorter = omega (arith, ap length reads);
  no_longer = omega (arith, ap length reads);
}

-- behind the first bytes any others
torn_bytes : (front more all other : List ℕ) → front ++ more ≡ all → length other ≤ length more
    → Kept (length front) all (front ++ other)
torn_bytes front more all other spelled few = record {
  front = take-append_seam front other ∙ sym (take-append_seam front more)
      ∙ ap (take (length front)) spelled;
  no_shorter = omega (arith, length-append front other);
  no_longer = omega (
    arith,
    length-append front other,
    length-append front more,
    ap length spelled,
    few,
  );
}

-- nothing more than the first bytes
front_tail : (front more all : List ℕ) (what : Option (List ℕ)) → front ++ more ≡ all
    → unwrap_or what [] ≡ front → Tail (length front) all what
front_tail front more all None spelled reads = sym (ap length reads)
front_tail front more all (Some bytes) spelled reads = record {
  front = ap (take (length front)) reads ∙ take_all (length front) front (omega arith)
      ∙ sym (take-append_seam front more) ∙ ap (take (length front)) spelled;
  no_shorter = omega (arith, ap length reads);
  no_longer = omega (arith, ap length reads, length-append front more, ap length spelled);
}

-- ---- the segment at hand

-- all of it
pub stands_whole : (id count : ℕ) (sections : List Section) (what : Option (List ℕ))
    → count ≤ length sections → unwrap_or what [] ≡ segment_bytes id sections
    → StandsTorn id count sections what
stands_whole id count sections what few reads = record {
  part = sections;
  parted = inl refl;
  enough = few;
  tail = whole_tail (segment_bytes id sections) what reads;
}

-- while the disk has not failed
pub end_stands : (told : Option Files) (id size count : ℕ) (sections : List Section)
    → count ≤ length sections → HasEnd told id size sections → HandStands told id count sections
end_stands None id size count sections few end = tt
end_stands (Some f) id size count sections few end =
    stands_whole id count sections (finmap.get f (segment_name_of 6 id)) few end.reads

-- fewer of its sections are asked for
pub stands_fewer : (id count : ℕ) (sections : List Section) (what : Option (List ℕ))
    → StandsTorn id count sections what → StandsTorn id 0 sections what
stands_fewer id count sections what stands = record {
  part = stands.part;
  parted = stands.parted;
  enough = omega arith;
  tail = stands.tail;
}

-- the disk has failed to append a section
module _ (id count : ℕ) (sections : List Section) (x : Section) (bytes : List ℕ)
    (spelled : segment_bytes id sections ++ bytes ≡ segment_bytes id (sections ++ x ∷ []))
    (few : count ≤ length sections) where
  abbrev own : List ℕ
  own = segment_name_of 6 id

  all_but_it : (what : Option (List ℕ))
      → Tail (length (segment_bytes id sections)) (segment_bytes id (sections ++ x ∷ [])) what
      → StandsTorn id count (sections ++ x ∷ []) what
  all_but_it what tail = record {
    part = sections;
    parted = inr (x, refl);
    enough = few;
    tail = tail;
  }

  pub stands_appended : (told now : Option Files) (size : ℕ) → HasEnd told id size sections
      → MayAppend told now own (length bytes) → HandStands now id count (sections ++ x ∷ [])
  stands_appended None now size end may =
      subst (λ (o : Option Files). HandStands o id count (sections ++ x ∷ [])) (sym may) tt
  stands_appended (Some f) now size end may = elim may [
    | inl same ↦ subst (λ (o : Option Files). HandStands o id count (sections ++ x ∷ [])) (sym same)
        (all_but_it (finmap.get f own)
        (front_tail (segment_bytes id sections) bytes (segment_bytes id (sections ++ x ∷ []))
        (finmap.get f own) spelled end.reads))
    | inr some ↦
        let held = bytes_at f own ++ some.0 in
        subst (λ (o : Option Files). HandStands o id count (sections ++ x ∷ [])) (sym some.2)
        (all_but_it (finmap.get (finmap.insert f own held) own)
        (subst (Tail (length (segment_bytes id sections)) (segment_bytes id (sections ++ x ∷ [])))
        (sym (put_here f own held))
        (subst (λ (l : List ℕ). Kept (length (segment_bytes id sections))
        (segment_bytes id (sections ++ x ∷ [])) (l ++ some.0)) (sym end.reads)
        (torn_bytes (segment_bytes id sections) bytes (segment_bytes id (sections ++ x ∷ [])) some.0
        spelled some.1))))
  ]

-- ---- other files

-- the files are the same
pub stands_same : (told now : Option Files) (id count : ℕ) (sections : List Section)
    → now ≡ told → HandStands told id count sections → HandStands now id count sections
stands_same told now id count sections same stands =
    subst (λ (o : Option Files). HandStands o id count sections) (sym same) stands

stands_at : (id count : ℕ) (sections : List Section) (f : Files) (now : Option Files)
    → Told now (λ g. finmap.get g (segment_name_of 6 id) ≡ finmap.get f (segment_name_of 6 id))
    → StandsTorn id count sections (finmap.get f (segment_name_of 6 id))
    → HandStands now id count sections
stands_at id count sections f None same stands = tt
stands_at id count sections f (Some g) same stands =
    subst (StandsTorn id count sections) (sym same) stands

at_other : (hand name : List ℕ) (f : Files) (now : Option Files) → (hand ≡ name → ⊥)
    → Told now (λ g. (other : List ℕ) → (other ≡ name → ⊥)
    → finmap.get g other ≡ finmap.get f other)
    → Told now (λ g. finmap.get g hand ≡ finmap.get f hand)
at_other hand name f None apart same = same
at_other hand name f (Some g) apart same = same hand apart

-- another file has changed
pub stands_beside : (told now : Option Files) (id count : ℕ) (sections : List Section)
    (name : List ℕ) → SameTold told now → StayButOne name told now
    → (segment_name_of 6 id ≡ name → ⊥) → HandStands told id count sections
    → HandStands now id count sections
stands_beside None now id count sections name same others apart stands =
    subst (λ (o : Option Files). HandStands o id count sections) (sym same) tt
stands_beside (Some f) now id count sections name same others apart stands =
    stands_at id count sections f now
    (at_other (segment_name_of 6 id) name f now apart (others f refl)) stands

-- others have, and then one more
pub stands_behind : (told now : Option Files) (id count : ℕ) (sections : List Section)
    (name : List ℕ) (change : Files → Files) → SameTold told now
    → ((f : Files) → told ≡ Some f
    → (finmap.get (change f) (segment_name_of 6 id) ≡ finmap.get f (segment_name_of 6 id))
    × (segment_name_of 6 id ≡ name → ⊥))
    → StayButOne name (option_map change told) now → HandStands told id count sections
    → HandStands now id count sections
stands_behind None now id count sections name change same aside others stands =
    subst (λ (o : Option Files). HandStands o id count sections) (sym same) tt
stands_behind (Some f) now id count sections name change same aside others stands =
    let own = aside f refl in
    stands_at id count sections (change f) now
    (at_other (segment_name_of 6 id) name (change f) now own.1 (others (change f) refl))
    (subst (StandsTorn id count sections) (sym own.0) stands)
