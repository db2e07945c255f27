-- Places are read one after another, up to the first that is refused.
use Rattle.std.proofs.Common.{◌≡◌, ℕ, ◌≤◌, ◌==◌, List, [], ◌∷◌, ◌++◌, Bool, Option, Some, None, Ok}
use Rattle.std.proofs.Common.{Err, IfSome, Result, refl, sym, ap, subst, ◌∙◌, inl, inr, arith}
use Rattle.std.proofs.Common.{append_assoc}
use Rattle.std.proofs.lemmas.Grind.{flat_map-append}
use Rattle.std.proofs.lemmas.List.{append-nil}
use Rattle.clog_base.specs.declared.fault.Quantity.TheVariants.{SegmentBytes}
use Rattle.clog_disk.specs.Files.{Files}
use Rattle.clog_scan.specs.declared.answer.End.{End}
use Rattle.clog_folder.specs.declared.fault.OpenFault.{OpenFault}
use Rattle.clog_folder.specs.declared.fault.OpenFault.TheVariants as fault
use Rattle.clog_folder.specs.Entries.{JudgesEnd}
use Rattle.clog_folder.specs.Segments.{IsGreatestId, IsTooLong, Row}
use Rattle.replay_merge.specs.declared.piped.Batch.{Batch}
use Rattle.replay_merge.specs.Entries.{Entry as Item, all_items, items_of}
use Rattle.replay_merge.specs.Places.{AreGiven, GivesLength, GivesPlace, GivesPlaces, IsGivenAt}
use Rattle.replay_merge.specs.Places.{IsLongAt, IsTornBehind, PassesOther, StopsAt}
use Rattle.replay_merge.specs.Streaming.{IsReadOf, Streams}

told : (files : Option Files) (P : Files → Type 0) → ((held : Files) → P held) → IfSome files P
told None P each = tt
told (Some held) P each = each held

told_so : (files : Option Files) (P Q : Files → Type 0) → ((held : Files) → P held → Q held)
    → IfSome files P → IfSome files Q
told_so None P Q each is = tt
told_so (Some held) P Q each is = each held is

-- ---- one place

module _ (ignore last : Bool) (files : Option Files) (f n : ℕ) (row : Row) where
  abbrev Gives : List Item → Result Unit OpenFault → Type 0
  Gives items r = GivesPlace ignore last files f n row items r

  pub other_gives : (r : Result Unit OpenFault) → (row.0.1 ≡ 6 → ⊥)
      → PassesOther ignore row.0 row.1 r → Gives [] r
  other_gives (Ok done) other passes =
      told files (λ held. IsGivenAt ignore last held row []) (λ held. inl (other, passes, refl))
  other_gives (Err (fault.Damaged name at cause)) other passes = (
    passes.0,
    passes.1,
    told files (λ held. IsTornBehind last held row [] at cause)
        (λ held. inl (other, refl, passes.2, passes.3)),
  )
  other_gives (Err why) other passes = absurd passes

  pub length_refused : (refusal : OpenFault) → row.0.1 ≡ 6
      → GivesLength files f n row.1 (Err refusal) → Gives [] (Err refusal)
  length_refused fault.Disk six refused = refused
  length_refused fault.OutOfMemory six refused = tt
  length_refused (fault.Limit SegmentBytes most) six refused = (
    refused.0,
    told_so files (λ held. IsTooLong held row.1) (λ held. IsLongAt held row [])
        (λ held long. (six, long, refl)) refused.1,
  )
  length_refused other six refused = absurd refused

  pub file_refused : (items : List Item) (mid : ℕ) (now : Option Files) (refusal : OpenFault)
      → mid ≡ f → Streams now mid n row.1 row.0.0 items (Err refusal)
      → Gives items (Err refusal)
  file_refused items mid now fault.Disk same refused = omega (arith, same, refused)
  file_refused items mid now fault.OutOfMemory same refused = tt
  file_refused items mid now other same refused = absurd refused

  pub end_judged : (items : List Item) (mid k : ℕ) (now : Option Files) (end : End)
      (r : Result Unit OpenFault) → row.0.1 ≡ 6 → now ≡ files
      → Streams now mid k row.1 row.0.0 items (Ok end) → JudgesEnd ignore last row.1 end r
      → Gives items r
  end_judged items mid k now end (Ok done) six same streams judged =
      told_so files (λ held. IsReadOf held row.1 row.0.0 items end)
      (λ held. IsGivenAt ignore last held row items)
      (λ held read. inr (six, (end, read, judged)))
      (subst (λ (o : Option Files). IfSome o (λ held. IsReadOf held row.1 row.0.0 items end)) same
      streams)
  end_judged items mid k now end (Err (fault.Damaged name at cause)) six same streams judged = (
    judged.0,
    judged.1,
    told_so files (λ held. IsReadOf held row.1 row.0.0 items end)
        (λ held. IsTornBehind last held row items at cause)
        (λ held read. inr (
          six,
          subst (λ (e : End). IsReadOf held row.1 row.0.0 items e) judged.2 read,
          judged.3,
        ))
        (subst (λ (o : Option Files). IfSome o (λ held. IsReadOf held row.1 row.0.0 items end))
        same streams),
  )
  end_judged items mid k now end (Err other) six same streams judged = absurd judged

-- ---- all places

one_more : (ignore : Bool) (greatest : ℕ) (files : Files) (rows : List Row) (row : Row)
    (items here : List Item) → AreGiven ignore greatest files rows items
    → IsGivenAt ignore (row.0.0 == greatest) files row here
    → AreGiven ignore greatest files (rows ++ row ∷ []) (items ++ here)
one_more ignore greatest files [] row items here none is = (
  here,
  ([], ap (λ (xs : List Item). xs ++ here) none ∙ sym (append-nil here), is, refl),
)
one_more ignore greatest files (r ∷ rows) row items here given is = (
  given.0,
  (
    given.1.0 ++ here,
    ap (λ (xs : List Item). xs ++ here) given.1.1 ∙ append_assoc given.0 given.1.0 here,
    given.1.2,
    one_more ignore greatest files rows row given.1.0 here given.1.3 is,
  ),
)

pub none_given : (ignore : Bool) (greatest : ℕ) (files : Option Files)
    → IfSome files (λ held. AreGiven ignore greatest held [] [])
none_given ignore greatest files =
    told files (λ held. AreGiven ignore greatest held [] []) (λ held. refl)

given_more : (ignore : Bool) (greatest : ℕ) (files now : Option Files) (rows : List Row)
    (row : Row) (items here : List Item) → now ≡ files
    → IfSome files (λ held. AreGiven ignore greatest held rows items)
    → IfSome now (λ held. IsGivenAt ignore (row.0.0 == greatest) held row here)
    → IfSome files (λ held. AreGiven ignore greatest held (rows ++ row ∷ []) (items ++ here))
given_more ignore greatest None now rows row items here same given is = tt
given_more ignore greatest (Some files) now rows row items here same given is =
    one_more ignore greatest files rows row items here given
    (subst (λ (o : Option Files). IfSome o (λ held.
    IsGivenAt ignore (row.0.0 == greatest) held row here)) same is)

-- the same of batches
pub batches_more : (ignore : Bool) (greatest : ℕ) (files now : Option Files) (rows : List Row)
    (row : Row) (batches here : List Batch) → now ≡ files
    → IfSome files (λ held. AreGiven ignore greatest held rows (all_items batches))
    → IfSome now (λ held. IsGivenAt ignore (row.0.0 == greatest) held row (all_items here))
    → IfSome files
    (λ held. AreGiven ignore greatest held (rows ++ row ∷ []) (all_items (batches ++ here)))
batches_more ignore greatest files now rows row batches here same given is =
    subst (λ (es : List Item). IfSome files
    (λ held. AreGiven ignore greatest held (rows ++ row ∷ []) es))
    (sym (flat_map-append items_of batches here))
    (given_more ignore greatest files now rows row (all_items batches) (all_items here) same given
    is)

-- why the next place is not read, by the disk as it was
module _ (ignore : Bool) (greatest : ℕ) (rows front left rest : List Row) (row : Row)
    (items here : List Item) (top : IsGreatestId rows greatest) (parts : rows ≡ front ++ left)
    (taken : left ≡ row ∷ rest) where
  stops_at : (files : Files) → AreGiven ignore greatest files front items
      → StopsAt ignore files rows (items ++ here) row here (row.0.0 == greatest)
  stops_at files given = record {
    greatest = greatest;
    top = top;
    is_last = refl;
    front = front;
    rest = rest;
    parts = parts ∙ ap (λ (l : List Row). front ++ l) taken;
    before = items;
    items_are = refl;
    given = given;
  }

  pub place_stops : (files now : Option Files) (f g k : ℕ) (refusal : OpenFault) → now ≡ files
      → IfSome files (λ held. AreGiven ignore greatest held front items) → f ≤ g
      → GivesPlace ignore (row.0.0 == greatest) now g k row here (Err refusal)
      → GivesPlaces ignore files f k rows (items ++ here) (Err refusal)
  place_stops files now f g k fault.Disk same given later refused = omega (arith, later, refused)
  place_stops files now f g k fault.OutOfMemory same given later refused = tt
  place_stops None now f g k (fault.Limit SegmentBytes most) same given later refused =
      (refused.0, tt)
  place_stops (Some files) now f g k (fault.Limit SegmentBytes most) same given later refused = (
    refused.0,
    record {
      row = row;
      here = here;
      last = row.0.0 == greatest;
      stops = stops_at files given;
      long = subst (λ (o : Option Files). IfSome o (λ held. IsLongAt held row here)) same
          refused.1;
    },
  )
  place_stops None now f g k (fault.Damaged name at cause) same given later refused =
      (refused.0, tt)
  place_stops (Some files) now f g k (fault.Damaged name at cause) same given later refused = (
    refused.0,
    record {
      row = row;
      here = here;
      last = row.0.0 == greatest;
      stops = subst (λ (i : Bool). StopsAt i files rows (items ++ here) row here
          (row.0.0 == greatest)) refused.0 (stops_at files given);
      name_is = refused.1;
      torn = subst (λ (o : Option Files). IfSome o (λ held.
          IsTornBehind (row.0.0 == greatest) held row here at cause)) same refused.2;
    },
  )
  place_stops files now f g k other same given later refused = absurd refused

-- all places were read
pub all_given : (ignore : Bool) (greatest : ℕ) (files : Option Files) (rows front : List Row)
    (items : List Item) → IsGreatestId rows greatest → rows ≡ front
    → IfSome files (λ held. AreGiven ignore greatest held front items)
    → (f k : ℕ) (done : Unit) → GivesPlaces ignore files f k rows items (Ok done)
all_given ignore greatest None rows front items top all given f k done = tt
all_given ignore greatest (Some files) rows front items top all given f k done = record {
  greatest = greatest;
  top = top;
  given = subst (λ (rs : List Row). AreGiven ignore greatest files rs items) (sym all) given;
}
