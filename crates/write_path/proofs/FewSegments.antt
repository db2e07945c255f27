-- A log has at most two segments for each of its entries, but for one: each claim but the first
-- moves it on by at most one, and in front of each marker stands an entry.
use Rattle.std.proofs.Common.{
  ◌≡◌,
  ℕ,
  zero,
  suc,
  ◌+◌,
  ◌-◌,
  ◌*◌,
  ◌<◌,
  ◌≤◌,
  ◌/◌,
  ◌==◌,
  ◌&&◌,
  Bool,
  true,
  false,
  cond,
  not,
  List,
  [],
  ◌∷◌,
  get_or,
  length,
  IsTrue,
  Option,
  None,
  is_none,
  refl,
  sym,
  ap,
  ◌∙◌,
  subst,
  arith,
}
use Rattle.std.specs.List.{AllPairs, Contains, count_by, filter}
use Rattle.std.specs.Option.{option_map_or}
use Rattle.std.proofs.lemmas.Bool.{eqb-true, false≢true, lt-ltb}
use Rattle.std.proofs.lemmas.List.{get_or_default}
use Rattle.std.proofs.lemmas.List.Elements.{Contains-get_or}
use Rattle.std.proofs.lemmas.List.Kept.{AllPairs-filter}
use mathlib.Core.Logic.{dite, inl, inr}
use native.Mathlib.Decide.{dec_lt}
use Rattle.path_core.specs.declared.event.ClaimKind.{ClaimKind}
use Rattle.path_core.specs.declared.event.ClaimKind.TheVariants.{Entry, Marker}
use Rattle.path_core.specs.declared.note.EntryNote.{EntryNote}
use Rattle.path_core.specs.declared.seat.Range.{Range}
use Rattle.path_core.specs.declared.state.Claim.{Claim as ClaimOf}
use Rattle.path_core.specs.declared.state.PathState.{PathState}
use Rattle.path_core.specs.Keys.{entry_start, first_offset, next_segment, offset_of, ordinal_of}
use Rattle.path_core.specs.Lawful.{IsLawfulPath}
use Rattle.path_core.specs.LawfulLog.{
  StandsAt,
  TileTo,
  claim_in,
  is_note_at,
  is_undeposited,
  key_before,
  key_behind,
}
use Rattle.path_core.specs.Parts.{
  fresh_seat,
  is_entry,
  is_marker,
  is_marker_kind,
  no_claim,
  seat_of,
}
use Rattle.path_core.proofs.lent.Beginnings.{notes_rise}
use Rattle.path_core.proofs.lists.Counted.{counted_there}
use Rattle.path_core.proofs.lists.Heads.{ahead, behind, first_in, first_or_later, later_in}
use Rattle.path_core.proofs.lists.Passing.{filter_from}
use Rattle.path_core.proofs.lists.Replaced.{counted_from}
use Rattle.path_core.proofs.log.ClaimEnds.{entry_is_long}
use Rattle.path_core.proofs.log.ClaimPlaces.{entry_placed, marker_placed}

-- ---- a claim moves the log on by at most one segment

module _ (capacity ordinals : ℕ) (large : 4096 ≤ capacity) (small : capacity ≤ 33554432) where
  -- so far the log key may go from one to another
  pub record GoesNear (from to : ℕ) : Type 0 where
    pub front : first_offset ≤ offset_of to
    pub near : ordinal_of to ≤ ordinal_of from + 1

  goes : (what : ClaimKind) (key start end : ℕ) → first_offset ≤ offset_of key
      → StandsAt what capacity ordinals key start end
      → GoesNear key (key_behind what capacity start end)
  goes Entry key start end front S =
      let placed = entry_placed capacity key (end - start) large S.greatest front in
      let at = subst (λ k. (first_offset ≤ offset_of k) × (offset_of k + (end - start) < capacity)
      × (ordinal_of k ≤ ordinal_of key + 1)) (sym S.starts)
      (placed.behind_front, placed.room, placed.near) in
      let ends : end ≡ start + (end - start) = S.ends
      ∙ ap (λ k. k + (end - start)) (sym S.starts) in
      let a = at.0 in let b = at.1 in let c = at.2 in
      record {
        front = omega (arith, small, a, b, ends);
        near = omega (arith, small, a, b, c, ends);
      }
  goes Marker key start end front S =
      let placed = marker_placed capacity key large small front in
      subst (λ k. GoesNear key (key_behind Marker capacity k end)) (sym S.starts)
      (record { front = placed.behind_front; near = placed.near })

  -- the first entry fits the first segment
  first_fits : (size : ℕ) → size ≤ capacity / 2
      → entry_start capacity first_offset size ≡ first_offset
  first_fits size few = ap (λ (b : Bool). cond b first_offset (next_segment first_offset))
      (lt-ltb (offset_of first_offset + size) capacity (omega (arith, large, few)))

  first_stays : (what : ClaimKind) (start end : ℕ) → (what ≡ Marker → ⊥)
      → StandsAt what capacity ordinals first_offset start end
      → ordinal_of (key_behind what capacity start end) ≡ 0
  first_stays Entry start end none S =
      let at = S.starts ∙ first_fits (end - start) S.greatest in
      let ends = S.ends ∙ ap (λ k. k + (end - start)) (first_fits (end - start) S.greatest) in
      let few = S.greatest in omega (arith, at, ends, few, small)
  first_stays Marker start end none S = absurd (none refl)

-- ---- in front of each marker stands an entry

-- the claim before this one of the list is an entry; p is so of the one before the list
abbrev Before : Bool → List ClaimOf → ℕ → Type 0
Before p cs zero = p ≡ true
Before p cs (suc k) = IsTrue (is_entry (claim_in cs k))

few_markers : (cs : List ClaimOf) (p : Bool)
    → ((i : ℕ) → i < length cs → IsTrue (is_marker (claim_in cs i)) → Before p cs i)
    → length cs ≤ 2 * length (filter is_entry cs) + cond p 1 0
few_markers [] p each = omega arith
few_markers (c ∷ cs) p each = by (is_marker c) refl (few_markers cs (is_entry c) rest)
  where
    rest : (i : ℕ) → i < length cs → IsTrue (is_marker (claim_in cs i)) → Before (is_entry c) cs i
    rest zero l m = each 1 (omega arith) m
    rest (suc k) l m = each (suc (suc k)) (omega arith) m

    by : (b : Bool) → is_marker c ≡ b
        → length cs ≤ 2 * length (filter is_entry cs) + cond (is_entry c) 1 0
        → length (c ∷ cs) ≤ 2 * length (filter is_entry (c ∷ cs)) + cond p 1 0
    by true e f = let q = each zero (omega arith) e in
        let g : length cs ≤ 2 * length (filter is_entry cs) + 0 =
        subst (λ b. length cs ≤ 2 * length (filter is_entry cs) + cond (not b) 1 0) e f in
        subst (λ b. length (c ∷ cs) ≤ 2 * length (cond (not b) (c ∷ filter is_entry cs)
        (filter is_entry cs)) + cond p 1 0) (sym e)
        (subst (λ b. length (c ∷ cs) ≤ 2 * length (filter is_entry cs) + cond b 1 0) (sym q)
        (omega (arith, g)))
    by false e f =
        let g : length cs ≤ 2 * length (filter is_entry cs) + 1 =
        subst (λ b. length cs ≤ 2 * length (filter is_entry cs) + cond (not b) 1 0) e f in
        subst (λ b. length (c ∷ cs) ≤ 2 * length (cond (not b) (c ∷ filter is_entry cs)
        (filter is_entry cs)) + cond p 1 0) (sym e) (omega (arith, g))

-- ---- claims that rise are at most as many as the notes that end where they do

abbrev Above : ClaimOf → ClaimOf → Type 0
Above a b = a.end < b.end

covered : (cs : List ClaimOf) (ns : List EntryNote) → AllPairs Above cs
    → AllPairs (λ (a b : EntryNote). a.end.0 < b.end.0) ns
    → ((c : ClaimOf) → Contains cs c → (n : EntryNote) × Contains ns n × (n.end.0 ≡ c.end))
    → length cs ≤ length ns
covered [] ns up over all = omega arith
covered (c ∷ cs) [] up over all =
    absurd (let h = all c (first_in c cs) in let l = h.1.1 in omega (arith, l))
covered (c ∷ cs) (n ∷ ns) up over all =
    let R = λ (a b : EntryNote). a.end.0 < b.end.0 in
    let h = all c (first_in c cs) in elim (first_or_later n h.0 ns h.1) [
      | inl same ↦
          let ends = ap (λ (m : EntryNote). m.end.0) same ∙ h.2 in
          let rest = covered cs ns (behind Above c cs up) (behind R n ns over) (λ d g.
          let k = all d (later_in c d cs g) in elim (first_or_later n k.0 ns k.1) [
            | inl is ↦ absurd (let q = ap (λ (m : EntryNote). m.end.0) is ∙ k.2 in
                let l = ahead Above c cs up d g in omega (arith, q, l, ends))
            | inr r ↦ (k.0, r, k.2)
          ]) in omega (arith, rest)
      | inr late ↦
          let low = ahead R n ns over h.0 late in let at = h.2 in
          let rest = covered (c ∷ cs) ns up (behind R n ns over) (λ d g. let k = all d g in
          elim (first_or_later n k.0 ns k.1) [
            | inl is ↦ absurd (let q = ap (λ (m : EntryNote). m.end.0) is ∙ k.2 in
                elim (first_or_later c d cs g) [
                  | inl e ↦ let z = ap (λ (a : ClaimOf). a.end) e in omega (arith, low, at, q, z)
                  | inr l ↦ let z = ahead Above c cs up d l in omega (arith, low, at, q, z)
                ])
            | inr r ↦ (k.0, r, k.2)
          ]) in omega (arith, rest)
    ]

-- ---- in a state where no seat has claimed anything that it did not deposit

module _ (x : PathState) (L : IsLawfulPath x)
    (idle : (w : ℕ) → w < length x.seats → (seat_of x w).claim ≡ None) where
  -- each entry claim is a note
  pub noted_end : (c : ClaimOf) → Contains x.claims c → IsTrue (is_entry c)
      → (n : EntryNote) × Contains x.notes n × (n.end.0 ≡ c.end)
  noted_end c h e = let once = L.each_claim_noted_once.once c h e in
      let found = counted_from (is_note_at c.end) x.notes (by once) in
      (found.0, found.1, eqb-true found.0.end.0 c.end found.2)
    where
      none : 0 < count_by (is_undeposited c.end) x.seats → ⊥
      none some = let r = counted_there (is_undeposited c.end) x.seats fresh_seat some in
          false≢true (subst (λ (o : Option Range). (option_map_or (λ (r : Range). r.end == c.end)
          o false && is_none (seat_of x r.0).note) ≡ true) (idle r.0 r.1) r.2)

      by : count_by (is_undeposited c.end) x.seats + count_by (is_note_at c.end) x.notes ≡ 1
          → 0 < count_by (is_note_at c.end) x.notes
      by once = dite (dec_lt 0 (count_by (is_undeposited c.end) x.seats))
          (λ some. absurd (none some)) (λ no. omega (arith, once, no))

  T : TileTo x.capacity x.ordinals x.log x.claims
  T = L.claims_tile_the_log

  abbrev entries : List ClaimOf
  entries = filter is_entry x.claims

  -- they rise
  apart : AllPairs (λ (a b : ClaimOf). a.end ≤ b.start) x.claims
  apart i j d l h = subst (λ (a : ClaimOf). a.end ≤ (get_or x.claims j d).start)
      (get_or_default x.claims i no_claim d (omega (arith, l, h)))
      (subst (λ (b : ClaimOf). (claim_in x.claims i).end ≤ b.start)
      (get_or_default x.claims j no_claim d h) (T.apart i j l h))

  rise : AllPairs Above entries
  rise i j d l h =
      let up = AllPairs-filter (λ (a b : ClaimOf). a.end ≤ b.start) is_entry x.claims apart i j d
      l h in
      let one = filter_from is_entry x.claims (get_or entries j d)
      (Contains-get_or entries j d h) in
      let long = entry_is_long x.capacity x.ordinals x.log x.claims T (get_or entries j d) one.0
      one.1 in omega (arith, up, long)

  pub few_entries : length (filter is_entry x.claims) ≤ length x.notes
  few_entries = covered entries x.notes rise (notes_rise x L) (λ c h.
      let one = filter_from is_entry x.claims c h in noted_end c one.0 one.1)

  -- the claim before a marker is an entry
  each : (i : ℕ) → i < length x.claims → IsTrue (is_marker (claim_in x.claims i))
      → Before false x.claims i
  each zero inside m = absurd (let r = (T.entry_before zero inside m).1 in omega (arith, r))
  each (suc k) inside m = let r = T.entry_before (suc k) inside m in
      subst (λ j. IsTrue (is_entry (claim_in x.claims j))) (let q = r.1 in omega (arith, q)) r.2

  -- so at least half of the claims are entries
  pub few_claims : length x.claims ≤ 2 * length (filter is_entry x.claims)
  few_claims = let few : length x.claims ≤ 2 * length entries + 0 = few_markers x.claims false each
      in omega (arith, few)

  large : 4096 ≤ x.capacity
  large = L.sized.limits.least_capacity

  small : x.capacity ≤ 33554432
  small = L.sized.limits.greatest_capacity

  -- the first claim is no marker
  no_marker : 0 < length x.claims → (claim_in x.claims 0).what ≡ Marker → ⊥
  no_marker inside is = let m : IsTrue (is_marker (claim_in x.claims 0)) = ap is_marker_kind is in
      let r = (T.entry_before 0 inside m).1 in absurd (omega (arith, r))

  -- behind so many claims the log is behind a segment's front, and in one of so many segments
  pub walk : (i : ℕ) → i ≤ length x.claims
      → (first_offset ≤ offset_of (key_before x.capacity x.claims i))
      × (ordinal_of (key_before x.capacity x.claims i) ≤ i - 1)
  walk zero inside = (omega arith, omega arith)
  walk (suc zero) inside = let c = claim_in x.claims 0 in
      let S = T.stands 0 (omega (arith, inside)) in
      let N = goes x.capacity x.ordinals large small c.what first_offset c.start c.end (omega arith)
      S in
      let stays = first_stays x.capacity x.ordinals large small c.what c.start c.end
      (no_marker (omega (arith, inside))) S in (N.front, omega (arith, stays))
  walk (suc (suc k)) inside = let c = claim_in x.claims (suc k) in
      let before = walk (suc k) (omega (arith, inside)) in let low = before.1 in
      let N = goes x.capacity x.ordinals large small c.what
      (key_before x.capacity x.claims (suc k)) c.start c.end before.0
      (T.stands (suc k) (omega (arith, inside))) in
      let near = N.near in (N.front, omega (arith, low, near))

  pub few_segments : ordinal_of x.log ≤ 2 * length x.notes - 1
  few_segments = let low = (walk (length x.claims) (omega arith)).1 in
      let at = ap ordinal_of T.log_is_behind in
      let few = few_claims in let noted = few_entries in
      omega (arith, low, at, few, noted)
