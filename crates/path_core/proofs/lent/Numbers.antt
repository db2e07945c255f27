-- Where an entry starts that is claimed at a key, behind an entry or behind a marker; and claims by
-- their numbers.
use Rattle.std.proofs.Common.{
  ◌≡◌,
  ℕ,
  ◌+◌,
  ◌/◌,
  ◌<◌,
  ◌≤◌,
  cond,
  Bool,
  true,
  false,
  List,
  [],
  ◌∷◌,
  length,
  refl,
  sym,
  ap,
  ◌∙◌,
  subst,
  ⊎_elim,
  arith,
}
use Rattle.std.specs.Prelude.{◌⊎◌}
use Rattle.std.specs.List.{Contains, AllPairs}
use Rattle.std.proofs.lemmas.Bool.{false≢true, ltb-true, ltb-false}
use mathlib.Core.Logic.{dite, inl, inr}
use native.Mathlib.Decide.{ℕ_discrete, dec_lt}
use Rattle.path_core.specs.declared.event.ClaimKind.{ClaimKind}
use Rattle.path_core.specs.declared.event.ClaimKind.TheVariants.{Entry, Marker}
use Rattle.path_core.specs.declared.note.EntryNote.{EntryNote}
use Rattle.path_core.specs.declared.state.Claim.{Claim}
use Rattle.path_core.specs.Keys.{
  offset_of,
  next_segment,
  fits,
  marker_size,
  entry_start,
  behind_marker,
  after,
}
use Rattle.path_core.specs.LawfulLog.{
  TileTo,
  StandsAt,
  EntryStandsAt,
  MarkerStandsAt,
  claim_in,
  key_before,
}
use Rattle.path_core.specs.Parts.{is_marker_kind}
use Rattle.path_core.specs.Keeper.{Follows}
use Rattle.path_core.proofs.lists.Heads.{first_or_later, ahead}

-- where an entry may start that stands first behind a log key
abbrev pub StartsAt : ℕ → ℕ → Type 0
StartsAt key start = (start ≡ key) ⊎ (start ≡ next_segment key)

pub starts_at : (capacity key size start : ℕ) → start ≡ entry_start capacity key size
    → StartsAt key start
starts_at capacity key size start e = by (fits capacity key size) e
  where
    by : (b : Bool) → start ≡ cond b key (next_segment key) → StartsAt key start
    by true e = inl e
    by false e = inr e

pub follows_entry : (capacity end size start : ℕ) → start ≡ entry_start capacity end size
    → Follows end start
follows_entry capacity end size start e = by (fits capacity end size) e
  where
    by : (b : Bool) → start ≡ cond b end (next_segment end) → Follows end start
    by true e = inl e
    by false e = inr (inr e)

pub follows_marker : (capacity end size start : ℕ) → capacity ≤ 33554432 → 64 ≤ capacity
    → size ≤ capacity / 2 → start ≡ entry_start capacity (behind_marker capacity end) size
    → Follows end start
follows_marker capacity end size start few much small e = by (fits capacity end marker_size) refl e
  where
    on : (b : Bool) → fits capacity (end + marker_size) size ≡ b
        → offset_of end + marker_size < capacity
        → start ≡ cond b (end + marker_size) (next_segment (end + marker_size)) → Follows end start
    on true f l e = inr (inl e)
    on false f l e = inr (inr (omega arith))

    off : (b : Bool) → fits capacity (next_segment end) size ≡ b
        → start ≡ cond b (next_segment end) (next_segment (next_segment end)) → Follows end start
    off true f e = inr (inr e)
    off false f e = absurd (let l = ltb-false (offset_of (next_segment end) + size) capacity f in
        omega arith)

    by : (b : Bool) → fits capacity end marker_size ≡ b
        → start ≡ entry_start capacity (cond b (end + marker_size) (next_segment end)) size
        → Follows end start
    by true f e = on (fits capacity (end + marker_size) size) refl
        (ltb-true (offset_of end + marker_size) capacity f) e
    by false f e = off (fits capacity (next_segment end) size) refl e

-- the first starts where an entry that is claimed behind the key starts
abbrev pub FirstStarts : ℕ → ℕ → List EntryNote → Type 0
FirstStarts capacity key [] = Unit {0}
FirstStarts capacity key (n ∷ ns) =
    (size : ℕ) × (size ≤ capacity / 2)
    × (n.start.0 ≡ entry_start capacity (after capacity key) size)

-- the note is the claim of this number
pub record IsEntryAt (claims : List Claim) (n : EntryNote) (k : ℕ) : Type 0 where
  pub inside : k < length claims
  pub what : (claim_in claims k).what ≡ Entry
  pub start : (claim_in claims k).start ≡ n.start.0
  pub end : (claim_in claims k).end ≡ n.end.0

abbrev pub Rising : EntryNote → EntryNote → Type 0
Rising a b = a.end.0 < b.end.0

module _ (capacity ordinals log : ℕ) (claims : List Claim)
    (T : TileTo capacity ordinals log claims) where
  pub which : (i : ℕ) → ((claim_in claims i).what ≡ Entry) ⊎ ((claim_in claims i).what ≡ Marker)
  which i = by (claim_in claims i).what
    where
      by : (k : ClaimKind) → (k ≡ Entry) ⊎ (k ≡ Marker)
      by Entry = inl refl
      by Marker = inr refl

  pub not_both : (i : ℕ) → (claim_in claims i).what ≡ Entry → (claim_in claims i).what ≡ Marker → ⊥
  not_both i a b = let q : Entry ≡ Marker = sym a ∙ b in
      absurd (false≢true (ap (λ k. is_marker_kind k) q))

  pub stands_entry : (i : ℕ) → i < length claims → (claim_in claims i).what ≡ Entry
      → EntryStandsAt capacity ordinals (key_before capacity claims i) (claim_in claims i).start
      (claim_in claims i).end
  stands_entry i l e = subst (λ k. StandsAt k capacity ordinals (key_before capacity claims i)
      (claim_in claims i).start (claim_in claims i).end) e (T.stands i l)

  pub stands_marker : (i : ℕ) → i < length claims → (claim_in claims i).what ≡ Marker
      → MarkerStandsAt capacity (key_before capacity claims i) (claim_in claims i).start
      (claim_in claims i).end
  stands_marker i l e = subst (λ k. StandsAt k capacity ordinals (key_before capacity claims i)
      (claim_in claims i).start (claim_in claims i).end) e (T.stands i l)

  pub long_at : (i : ℕ) → i < length claims → (claim_in claims i).what ≡ Entry
      → (claim_in claims i).start < (claim_in claims i).end
  long_at i l e = let s = (stands_entry i l e).least in omega arith

  -- a note is the claim of one number alone
  pub one_number : (n : EntryNote) (i k : ℕ) → IsEntryAt claims n i → IsEntryAt claims n k → i ≡ k
  one_number n i k a b = let p = long_at i a.inside a.what in
      let q = long_at k b.inside b.what in let ast = a.start in let ae = a.end in
      let bst = b.start in let be = b.end in
      dite (ℕ_discrete i k) (λ e. e)
      (λ other. dite (dec_lt i k) (λ l. absurd (let t = T.apart i k l b.inside in
      omega arith)) (λ g. absurd (let t = T.apart k i (omega arith) a.inside in omega arith)))

  -- later numbers are of later notes
  pub in_line : (n m : EntryNote) (i k : ℕ) → IsEntryAt claims n i → IsEntryAt claims m k
      → n.end.0 < m.end.0 → i < k
  in_line n m i k a b l = let q = long_at i a.inside a.what in let ae = a.end in
      let be = b.end in dite (dec_lt i k) (λ y. y) (λ g. dite (ℕ_discrete i k)
      (λ e. absurd (let z = ap (λ j. (claim_in claims j).end) e in omega arith))
      (λ apart. absurd (let t = T.apart k i (omega arith) a.inside in omega arith)))

  -- the first of the notes is the first entry
  pub head_is : (j k : ℕ) (n : EntryNote) (ns : List EntryNote) → AllPairs Rising (n ∷ ns)
      → IsEntryAt claims n k → j ≤ k → (m : EntryNote) → Contains (n ∷ ns) m
      → IsEntryAt claims m j → k ≡ j
  head_is j k n ns order at low m among is = dite (ℕ_discrete k j) (λ e. e)
      (λ apart. absurd (let t = T.apart j k (omega arith) at.inside in
      let q = long_at k at.inside at.what in let ae = at.end in let me = is.end in
      ⊎_elim (λ same. let z = ap (λ (a : EntryNote). a.end.0) same in omega arith)
      (λ h. let r = ahead Rising n ns order m h in omega arith) (first_or_later n m ns among)))
