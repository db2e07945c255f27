-- The log goes on in a further segment, once all of this one lasts.
use Rattle.std.proofs.Common.{
  ◌≡◌,
  ℕ,
  ◌<◌,
  ◌≤◌,
  ◌^◌,
  inl,
  inr,
  List,
  [],
  ◌∷◌,
  ◌++◌,
  length,
  take,
  Option,
  Some,
  None,
  refl,
  sym,
  ◌∙◌,
  ap,
  subst,
  arith,
}
use Rattle.std.specs.Prelude.{unwrap_or, IsSome}
use Rattle.std.specs.FinMap as finmap
use Rattle.std.proofs.lemmas.List.{append-nil, take_all}
use Rattle.clog_spec.specs.Sizes.{header_size}
use Rattle.clog_spec.specs.Names.{segment_name_of, IsSegmentName}
use Rattle.clog_base.proofs.Members.{nothing_there}
use Rattle.clog_base.proofs.NameLaws.{one_segment as one_name}
use Rattle.clog_disk.specs.Files.{Files, bytes_at}
use Rattle.clog_disk.proofs.Named.{same_or_other}
use Rattle.clog_scan.specs.declared.answer.End.TheVariants.{Clean}
use Rattle.clog_scan.specs.Cut.{Section}
use Rattle.clog_scan.specs.Segment.{entries_of, IsSegment}
use Rattle.clog_crash.specs.Folder.{IsHeld}
use Rattle.clog_crash.specs.Rest.{IsAtRest, IsInFiles, IsOlder, Tail}
use Rattle.clog_crash.specs.Sections.{segment_bytes, IsStored}
use Rattle.clog_crash.proofs.OneMore.{bytes_of}
use Rattle.clog_crash.proofs.changes.Names.{is_named}
use Rattle.clog_crash.proofs.changes.Nothing.{reads_as}
use Rattle.clog_crash.proofs.rest.Sectioned.{ends_at, stored_holds}
use Rattle.clog_crash.proofs.torn.Whole.{until_grows}

-- a segment with sections is not empty
not_empty : (id : ℕ) (s : Section) (ss : List Section) → IsStored id (s ∷ ss)
    → length (segment_bytes id (s ∷ ss)) ≡ 0 → ⊥
not_empty id s ss stored none =
    let len = length (segment_bytes id (s ∷ ss)) in
    absurd (omega (
      arith,
      none,
      ends_at id len s ss stored.whole,
      until_grows len header_size (s ∷ ss) stored.whole,
    ))

-- where all of a segment lasts, nothing else is left of it
pub whole_left : (id : ℕ) (s : Section) (ss : List Section) → IsStored id (s ∷ ss)
    → (left : Option (List ℕ))
    → Tail (length (segment_bytes id (s ∷ ss))) (segment_bytes id ((s ∷ ss) ++ [])) left
    → left ≡ Some (segment_bytes id (s ∷ ss))
whole_left id s ss stored None t = absurd (not_empty id s ss stored t)
whole_left id s ss stored (Some b) t =
    let w = segment_bytes id (s ∷ ss) in
    let same : segment_bytes id ((s ∷ ss) ++ []) ≡ w =
    ap (segment_bytes id) (append-nil (s ∷ ss)) in
    let short : length b ≤ length w = omega (arith, t.no_longer, ap length same) in
    ap Some (sym (take_all (length w) b short) ∙ t.front
    ∙ ap (take (length w)) same ∙ take_all (length w) w (omega arith))

-- nothing is written to a segment yet
pub none_stored : (id : ℕ) → id < 2 ^ 63 → IsStored id []
none_stored id fits = record {
  fits = fits;
  short = omega arith;
  bytes = λ i. omega arith;
  whole = tt;
  said = λ entry h. absurd (nothing_there entry h);
}

-- A folder where everything lasts, and a segment that is above all that it names.
pub at_rest_anew : (f : Files) (leaves : List ℕ → Option (List ℕ) → Type 0) (id : ℕ) → id < 2 ^ 63
    → IsInFiles f id [] [] → finmap.get f (segment_name_of 6 id) ≡ None
    → ((name : List ℕ) (left : Option (List ℕ)) → leaves name left
    → left ≡ finmap.get f name) → IsAtRest f leaves id [] []
at_rest_anew f leaves id fits in_f absent exact = record {
  stored = none_stored id fits;
  in_files = in_f;
  lasting = record {
    others = λ name apart left has. exact name left has;
    tail = λ left has. subst (λ (x : Option (List ℕ)). Tail 0 [] x)
        (sym (exact (segment_name_of 6 id) left has ∙ absent)) refl;
  };
}

module _ (f : Files) (leaves : List ℕ → Option (List ℕ) → Type 0) (id : ℕ) (s : Section)
    (ss : List Section) (next : ℕ) (above : id < next) (fits : next < 2 ^ 63)
    (rest : IsAtRest f leaves id (s ∷ ss) []) where
  abbrev all : List Section
  all = s ∷ ss

  none : all ++ [] ≡ all
  none = append-nil all

  stored : IsStored id all
  stored = subst (IsStored id) none rest.stored

  reads : bytes_at f (segment_name_of 6 id) ≡ segment_bytes id all
  reads = rest.in_files.reads ∙ ap (segment_bytes id) none

  -- this segment is then an older one
  this_is_older : IsHeld f (segment_name_of 6 id)
      → IsOlder f (segment_name_of 6 id) 6 id next
  this_is_older held =
      let there = bytes_of (finmap.get f (segment_name_of 6 id)) held in
      let same : there.0 ≡ segment_bytes id all =
      sym (reads_as f (segment_name_of 6 id) there.0 there.1) ∙ reads in
      record {
        version_is = refl;
        below = above;
        entries = entries_of header_size all;
        at = length (segment_bytes id all);
        holds = record {
          named = is_named id stored.fits;
          bytes = there.0;
          there = there.1;
          holds = subst (λ (b : List ℕ).
              IsSegment b id (entries_of header_size all) (Clean (length (segment_bytes id all))))
              (sym same) (stored_holds id s ss stored);
        };
        payloads = stored.said;
      }

  known : (name : List ℕ) (version other : ℕ) → IsSegmentName name version other
      → IsHeld f name → IsOlder f name version other next
  known name version other named held = elim (same_or_other name (segment_name_of 6 id)) [
    | inr apart ↦
        let older = rest.in_files.segments name version other named apart held in
        record {
          version_is = older.version_is;
          below = omega (arith, older.below, above);
          entries = older.entries;
          at = older.at;
          holds = older.holds;
          payloads = older.payloads;
        }
    | inl same ↦
        let one = one_name (segment_name_of 6 id) version other 6 id
        (subst (λ (n : List ℕ). IsSegmentName n version other) same named)
        (is_named id stored.fits) in
        let Older = λ (n : List ℕ) (v o : ℕ). IsOlder f n v o next in
        subst (λ (n : List ℕ). Older n version other) (sym same)
        (subst (λ (v : ℕ). Older (segment_name_of 6 id) v other) (sym one.0)
        (subst (λ (o : ℕ). Older (segment_name_of 6 id) 6 o) (sym one.1)
        (this_is_older (subst (λ (n : List ℕ). IsHeld f n) same held))))
  ]

  absent_of : (o : Option (List ℕ)) → (IsSome o → ⊥) → o ≡ None
  absent_of None refused = refl
  absent_of (Some b) refused = absurd (refused refl)

  pub next_absent : finmap.get f (segment_name_of 6 next) ≡ None
  next_absent = absent_of (finmap.get f (segment_name_of 6 next)) (λ held.
      let older = known (segment_name_of 6 next) 6 next (is_named next fits) held in
      omega (arith, older.below))

  whole_there : (o : Option (List ℕ)) → finmap.get f (segment_name_of 6 id) ≡ o
      → finmap.get f (segment_name_of 6 id) ≡ Some (segment_bytes id all)
  whole_there None is =
      absurd (not_empty id s ss stored
      (ap length (sym reads ∙ ap (λ (x : Option (List ℕ)). unwrap_or x []) is)))
  whole_there (Some b) is =
      is ∙ ap Some (sym (reads_as f (segment_name_of 6 id) b is) ∙ reads)

  exact : (name : List ℕ) (left : Option (List ℕ)) → leaves name left
      → left ≡ finmap.get f name
  exact name left has = elim (same_or_other name (segment_name_of 6 id)) [
    | inl same ↦ whole_left id s ss stored left (rest.lasting.tail left
        (subst (λ (m : List ℕ). leaves m left) same has))
        ∙ sym (whole_there (finmap.get f (segment_name_of 6 id)) refl)
        ∙ ap (finmap.get f) (sym same)
    | inr apart ↦ rest.lasting.others name apart left has
  ]

  pub rolled : IsAtRest f leaves next [] []
  rolled = at_rest_anew f leaves next fits (record {
    reads = ap (λ (o : Option (List ℕ)). unwrap_or o []) next_absent;
    live = λ table at far skipped.
        rest.in_files.live table at (inr (elim far [
          | inl here ↦ (omega (arith, here.0, above), omega (arith, here.1))
          | inr later ↦ (omega (arith, later.0, above), later.1)
        ])) skipped;
    tables = rest.in_files.tables;
    segments = λ name version other named apart held. known name version other named held;
  }) next_absent exact
