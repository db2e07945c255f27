-- Where a log may go on: what holds of the segment at hand, and where that has no section, of each
-- later one.
use Rattle.std.proofs.Common.{
  ◌≡◌,
  ℕ,
  ◌<◌,
  ◌^◌,
  inl,
  inr,
  List,
  [],
  ◌∷◌,
  ◌++◌,
  length,
  take,
  Option,
  Some,
  None,
  refl,
  sym,
  ◌∙◌,
  ap,
  subst,
  arith,
}
use Rattle.std.specs.Prelude.{IfSome, IsSome, unwrap_or}
use Rattle.std.proofs.lemmas.List.{take_all}
use Rattle.std.proofs.lemmas.Option.{none-some}
use Rattle.std.specs.FinMap as finmap
use Rattle.clog_spec.specs.Names.{segment_name_of}
use Rattle.clog_base.specs.declared.position.Position.{Position}
use Rattle.clog_disk.specs.Files.{Files, SameTold, bytes_at}
use Rattle.clog_disk.specs.Images.{LastsAll}
use Rattle.clog_scan.specs.Cut.{Section}
use Rattle.clog_table.specs.declared.table_file.TableFile.{TableFile}
use Rattle.clog_crash.specs.Changes.{AreCovered, IsTrueOf}
use Rattle.clog_crash.specs.Flush.{IsCovered}
use Rattle.clog_crash.specs.Folder.{HasSegmentFile}
use Rattle.clog_crash.specs.Readings.{Reading}
use Rattle.clog_crash.specs.Rest.{IsAtRest, IsBeyond, settled}
use Rattle.clog_crash.proofs.changes.Names.{is_named}
use Rattle.clog_crash.proofs.rest.Rolling.{at_rest_anew}
use Rattle.clog_crash.proofs.rest.Settled.{settled_is}
use Rattle.clog_segments.specs.Life.{MayGoOnIn}
use Rattle.clog_segments.specs.Publishes.{IsTrueHere}

-- behind a section the log goes on in the segment at hand alone
pub here_only : (id : ℕ) (sections : List Section) (P : ℕ → Type 0) → 0 < length sections → P id
    → (at : ℕ) → MayGoOnIn id sections at → P at
here_only id sections P some here at may = elim may [
  | inl same ↦ subst P (sym same) here
  | inr far ↦ absurd (omega (arith, some, ap length far.0))
]

none_before : (ss more : List Section) → ss ++ more ≡ [] → ss ≡ []
none_before [] more none = refl
none_before (s ∷ ss) more none = absurd (omega (arith, ap length none))

-- where it goes on with more sections, it may have gone on before
pub went_on : (id : ℕ) (ss more all : List Section) → ss ++ more ≡ all → (at : ℕ)
    → MayGoOnIn id all at → MayGoOnIn id ss at
went_on id ss more all are at may = elim may [
  | inl same ↦ inl same
  | inr far ↦ inr (none_before ss more (are ∙ far.0), far.1, far.2)
]

-- a later segment in which it goes on is above each one below the segment at hand
pub further_on : (id next : ℕ) → id < next → next < 2 ^ 63 → (at : ℕ) → MayGoOnIn next [] at
    → (id < at) × (at < 2 ^ 63)
further_on id next above fits at may = elim may [
  | inl same ↦ (omega (arith, same, above), omega (arith, same, fits))
  | inr far ↦ (omega (arith, far.1, above), far.2)
]

-- ---- at an opening

absent_of : (o : Option (List ℕ)) → (IsSome o → ⊥) → o ≡ None
absent_of None refused = refl
absent_of (Some b) refused = absurd (refused refl)

-- a folder without segments in which all lasts is at rest at each later id
pub rests_later : (f : Files) (leaves : List ℕ → Option (List ℕ) → Type 0) (id at : ℕ) → id < at
    → at < 2 ^ 63 → ¬ HasSegmentFile f → LastsAll f leaves → IsAtRest f leaves id [] []
    → IsAtRest f leaves at [] []
rests_later f leaves id at above fits none lasts rest =
    let name = segment_name_of 6 at in
    let absent : finmap.get f name ≡ None =
    absent_of (finmap.get f name) (λ held. none (name, held, (6, (at, is_named at fits)))) in
    at_rest_anew f leaves at fits (record {
      reads = ap (λ (o : Option (List ℕ)). unwrap_or o []) absent;
      live = λ table p far skipped. rest.in_files.live table p (inr (elim far [
        | inl here ↦ (omega (arith, here.0, above), omega (arith, here.1))
        | inr later ↦ (omega (arith, later.0, above), later.1)
      ])) skipped;
      tables = rest.in_files.tables;
      segments = λ other version id named apart held.
          absurd (none (other, held, (version, (id, named))));
    }) absent (λ other left has. lasts other left has)

rests_each : (f : Files) (leaves : List ℕ → Option (List ℕ) → Type 0) (base : ℕ)
    → ¬ HasSegmentFile f → (LastsAll f leaves → IsAtRest f leaves base [] []) → LastsAll f leaves
    → (at : ℕ) → MayGoOnIn base [] at → IsAtRest f leaves at [] []
rests_each f leaves base none rests lasts at may = elim may [
  | inl is ↦ subst (λ (k : ℕ). IsAtRest f leaves k [] []) (sym is) (rests lasts)
  | inr far ↦ rests_later f leaves base at far.1 far.2 none lasts (rests lasts)
]

pub rests_wherever : (old now : Option Files) (leaves : List ℕ → Option (List ℕ) → Type 0)
    (base : ℕ) → SameTold old now
    → ((f g : Files) → old ≡ Some f → now ≡ Some g → ¬ HasSegmentFile g)
    → IfSome now (λ f. LastsAll f leaves → IsAtRest f leaves base [] [])
    → IfSome now (λ f. LastsAll f leaves → (at : ℕ) → MayGoOnIn base [] at
    → IsAtRest f leaves at [] [])
rests_wherever old None leaves base same none rests = tt
rests_wherever None (Some g) leaves base same none rests = absurd (none-some g (sym same))
rests_wherever (Some f) (Some g) leaves base same none rests =
    rests_each g leaves base (none f g refl refl) rests

-- ---- what is put or goes meanwhile

-- where nothing stands at either name, both are settled alike
settled_alike : (f : Files) (id at : ℕ) → bytes_at f (segment_name_of 6 id) ≡ []
    → bytes_at f (segment_name_of 6 at) ≡ [] → settled f id [] ≡ settled f at []
settled_alike f id at here there = settled_is f id [] here ∙ sym (settled_is f at [] there)

not_beyond : (id at : ℕ) → id < at → (p : Position) → IsBeyond at [] p → IsBeyond id [] p
not_beyond id at above p far = inr (elim far [
  | inl here ↦ (omega (arith, here.0, above), omega (arith, here.1))
  | inr later ↦ (omega (arith, later.0, above), later.1)
])

module _ (f : Files) (id : ℕ) (sections : List Section) (synced at : ℕ)
    (may : MayGoOnIn id sections at)
    (here : sections ≡ [] → bytes_at f (segment_name_of 6 id) ≡ [])
    (there : sections ≡ [] → bytes_at f (segment_name_of 6 at) ≡ []) where
  none_last : sections ≡ [] → take synced sections ≡ []
  none_last none = take_all synced sections (omega (arith, ap length none)) ∙ none

  pub true_wherever : (file : TableFile) (sequence : ℕ)
      → IsTrueHere f id (take synced sections) file sequence
      → IsTrueHere f at (take synced sections) file sequence
  true_wherever file sequence is = elim may [
    | inl same ↦ subst (λ (k : ℕ). IsTrueHere f k (take synced sections) file sequence) (sym same)
        is
    | inr far ↦
        let old = none_last far.0 in
        let bare : IsTrueHere f id [] file sequence =
        subst (λ (l : List Section). IsTrueHere f id l file sequence) old is in
        let then : IsTrueHere f at [] file sequence = record {
          free = bare.free;
          is_true = subst (λ (q : Reading). IsTrueOf q file)
              (settled_alike f id at (here far.0) (there far.0)) bare.is_true;
          below = λ p inside beyond. bare.below p inside (not_beyond id at far.1 p beyond);
        } in
        subst (λ (l : List Section). IsTrueHere f at l file sequence) (sym old) then
  ]

  pub covered_wherever : (other : ℕ) → IsCovered f id (take synced sections) other
      → IsCovered f at (take synced sections) other
  covered_wherever other is = elim may [
    | inl same ↦ subst (λ (k : ℕ). IsCovered f k (take synced sections) other) (sym same) is
    | inr far ↦
        let old = none_last far.0 in
        let bare : IsCovered f id [] other =
        subst (λ (l : List Section). IsCovered f id l other) old is in
        let then : IsCovered f at [] other = record {
          below = omega (arith, bare.below, far.1);
          covered = subst (λ (q : Reading). AreCovered q other)
              (settled_alike f id at (here far.0) (there far.0)) bare.covered;
        } in
        subst (λ (l : List Section). IsCovered f at l other) (sym old) then
  ]
