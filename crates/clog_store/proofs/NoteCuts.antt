-- Notes that are to come, cut where the first section of them ends.
use Rattle.std.proofs.Common.{
  ◌≡◌,
  ℕ,
  zero,
  suc,
  ◌+◌,
  ◌-◌,
  ◌<◌,
  ◌≤◌,
  inl,
  inr,
  List,
  [],
  ◌∷◌,
  ◌++◌,
  length,
  take,
  drop,
  get_or,
  refl,
  ◌∙◌,
  ap,
  subst,
  arith,
}
use Rattle.clog_base.specs.Positions.{ordinal_of, offset_of}
use Rattle.path_core.specs.declared.note.EntryNote.{EntryNote}
use Rattle.path_core.specs.Keeper.{FollowTo, Follows}
use Rattle.clog_segments.specs.NoteLog.{BeginsFrom, IsApart, end_behind}
use Rattle.clog_segments.specs.NoteSections.{AreOneSection, EndToEnd, first_start}
use Rattle.clog_store.specs.NoteSteps.{StandAhead, StartsBehind}

pub end_behind-append : (key : ℕ) (xs ys : List EntryNote)
    → end_behind key (xs ++ ys) ≡ end_behind (end_behind key xs) ys
end_behind-append key [] ys = refl
end_behind-append key (x ∷ xs) ys = end_behind-append x.end.0 xs ys

-- ---- the first section

-- The same over places that follow one another.
record Joins (notes : List EntryNote) (count : ℕ) : Type 0 where
  within : count ≤ length notes
  joined : (k : ℕ) (d : EntryNote) → suc k < count
      → (get_or notes (suc k) d).start.0 ≡ (get_or notes k d).end.0
  apart : (k : ℕ) (d : EntryNote) → suc k ≡ count → count < length notes
      → (get_or notes count d).start.0 ≡ (get_or notes k d).end.0 → ⊥

joins : (notes : List EntryNote) (count : ℕ) → AreOneSection notes count → Joins notes count
joins notes count one = record {
  within = one.within;
  joined = λ k d less.
      let same : suc k - 1 ≡ k = omega arith in
      subst (λ (j : ℕ). (get_or notes (suc k) d).start.0 ≡ (get_or notes j d).end.0) same
      (one.joined (suc k) d (omega arith) less);
  apart = λ k d last more is.
      let same : k ≡ count - 1 = omega (arith, last) in
      one.apart d more (is ∙ ap (λ (j : ℕ). (get_or notes j d).end.0) same);
}

-- the first of the notes stand end to end, and the others go on apart from them
pub record IsCut (key : ℕ) (first rest : List EntryNote) : Type 0 where
  pub joined : EndToEnd key first
  pub apart : IsApart (end_behind key first) rest

cut_from : (n : EntryNote) (ns : List EntryNote) (c : ℕ) → Joins (n ∷ ns) (suc c)
    → IsCut n.end.0 (take c ns) (drop c ns)
cut_from n [] zero j = record { joined = tt; apart = tt }
cut_from n (m ∷ ms) zero j = record {
  joined = tt;
  apart = λ is. j.apart zero m refl (omega arith) is;
}
cut_from n [] (suc c) j = absurd (omega (arith, j.within))
cut_from n (m ∷ ms) (suc c) j =
    let next = cut_from m ms c (record {
      within = omega (arith, j.within);
      joined = λ k d less. j.joined (suc k) d (omega (arith, less));
      apart = λ k d last more is.
          j.apart (suc k) d (omega (arith, last)) (omega (arith, more)) is;
    }) in
    record { joined = (j.joined zero m (omega arith), next.joined); apart = next.apart }

pub cut_of : (notes : List EntryNote) (count : ℕ) → AreOneSection notes count
    → IsCut (first_start notes) (take count notes) (drop count notes)
cut_of [] count one = absurd (omega (arith, one.some, one.within))
cut_of (n ∷ ns) zero one = absurd (omega (arith, one.some))
cut_of (n ∷ ns) (suc c) one =
    let cut = cut_from n ns c (joins (n ∷ ns) (suc c) one) in
    record { joined = (refl, cut.joined); apart = cut.apart }

pub same_start : (notes : List EntryNote) (count : ℕ) → 0 < count
    → first_start (take count notes) ≡ first_start notes
same_start [] zero some = refl
same_start [] (suc c) some = refl
same_start (n ∷ ns) zero some = absurd (omega (arith, some))
same_start (n ∷ ns) (suc c) some = refl

-- ---- where the others go on

pub starts : (upto key : ℕ) (rest : List EntryNote) → 0 < length rest → StandAhead upto key rest
    → StartsBehind key (first_start rest)
starts upto key [] some ahead = absurd (omega (arith, some))
starts upto key (n ∷ ns) some ahead = ahead.0

pub begins_from : (base id : ℕ) (rest : List EntryNote) → 0 < length rest
    → BeginsFrom base id rest → id ≤ base + ordinal_of (first_start rest)
begins_from base id [] some begins = absurd (omega (arith, some))
begins_from base id (n ∷ ns) some begins = begins

pub begins_in : (base id : ℕ) (rest : List EntryNote) → id ≤ base + ordinal_of (first_start rest)
    → BeginsFrom base id rest
begins_in base id [] is = tt
begins_in base id (n ∷ ns) is = is

pub follow_rest : (upto key c : ℕ) (ns : List EntryNote) → FollowTo upto key ns
    → FollowTo upto (end_behind key (take c ns)) (drop c ns)
follow_rest upto key zero ns follow = follow
follow_rest upto key (suc c) [] follow = follow
follow_rest upto key (suc c) (n ∷ ns) follow = follow_rest upto n.end.0 c ns follow.1

-- behind a gap
apart_starts : (key start : ℕ) → 0 < key → offset_of key ≤ 33554432 → Follows key start
    → (start ≡ key → ⊥) → StartsBehind key start
apart_starts key start some low follows apart = elim follows [
  | inl here ↦ absurd (apart here)
  | inr more ↦ elim more [
    | inl behind ↦ inr (inl (some, behind, omega (arith, low)))
    | inr next ↦ inr (inr (omega (arith, next), omega (arith, next)))
  ]
]

pub ahead_from : (upto key : ℕ) (ns : List EntryNote) → 0 < key → offset_of key ≤ 33554432
    → FollowTo upto key ns → IsApart key ns → StandAhead upto key ns
ahead_from upto key [] some low follow apart = follow
ahead_from upto key (n ∷ ns) some low follow apart =
    (apart_starts key n.start.0 some low follow.0 apart, follow.1)

pub ahead_rest : (upto key c : ℕ) (ns : List EntryNote) → StandAhead upto key ns → 0 < c
    → 0 < length ns → 0 < end_behind key (take c ns)
    → offset_of (end_behind key (take c ns)) ≤ 33554432
    → IsApart (end_behind key (take c ns)) (drop c ns)
    → StandAhead upto (end_behind key (take c ns)) (drop c ns)
ahead_rest upto key c [] ahead more some above low apart = absurd (omega (arith, some))
ahead_rest upto key zero (n ∷ ns) ahead more some above low apart = absurd (omega (arith, more))
ahead_rest upto key (suc c) (n ∷ ns) ahead more some above low apart =
    ahead_from upto (end_behind n.end.0 (take c ns)) (drop c ns) above low
    (follow_rest upto n.end.0 c ns ahead.1) apart
