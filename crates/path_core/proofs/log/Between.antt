-- The notes up to a key and those between two keys, and the log key behind a marker.
use Rattle.std.proofs.Common.{
  ◌≡◌,
  ℕ,
  zero,
  suc,
  ◌+◌,
  ◌<◌,
  ◌≤◌,
  ◌==◌,
  Bool,
  true,
  false,
  nat_lt,
  nat_le,
  ◌&&◌,
  cond,
  List,
  [],
  ◌∷◌,
  ◌++◌,
  take,
  drop,
  refl,
  sym,
  ap,
  ◌∙◌,
  subst,
  arith,
  take-append-drop,
}
use Rattle.std.specs.List.{filter, insert, Contains, AllPairs}
use Rattle.std.proofs.lemmas.Bool.{
  cond-false,
  cond_both,
  eqb-true,
  lt-leb,
  ltb-true,
  ltb-false,
  leb-true,
  leb-false,
}
use Rattle.std.proofs.lemmas.List.Elements.{filter-append}
use Rattle.path_core.specs.declared.note.EntryNote.{EntryNote}
use Rattle.path_core.specs.Keys.{
  offset_of,
  first_offset,
  next_segment,
  fits,
  marker_size,
  behind_marker,
  after,
}
use Rattle.path_core.specs.Next.{is_between}
use Rattle.path_core.specs.LawfulLog.{is_at_most}

-- an element that does not pass may be put in anywhere
pub filter_insert : {A : Type 0} (p : A → Bool) (l : List A) (i : ℕ) (a : A) → p a ≡ false
    → filter p (insert l i a) ≡ filter p l
filter_insert p l i a out = filter-append p (take i l) (a ∷ drop i l)
    ∙ ap (λ (m : List _). filter p (take i l) ++ m)
    (cond-false (p a) (a ∷ filter p (drop i l)) (filter p (drop i l)) out)
    ∙ sym (filter-append p (take i l) (drop i l))
    ∙ ap (filter p) (take-append-drop i l)

-- none passes, where none of the elements does
filter_none : {A : Type 0} (p : A → Bool) (l : List A) → ((a : A) → Contains l a → p a ≡ false)
    → filter p l ≡ []
filter_none p [] out = refl
filter_none p (x ∷ xs) out =
    cond-false (p x) (x ∷ filter p xs) (filter p xs) (out x (zero, omega arith, refl))
    ∙ filter_none p xs (λ a h. out a (suc h.0, (let l = h.1 in omega arith), h.2))

-- notes in the order of the log
abbrev pub IsInOrder : List EntryNote → Type 0
IsInOrder l = AllPairs (λ (a b : EntryNote). a.end.0 ≤ b.start.0) l

-- notes that are not empty
abbrev pub AreLong : List EntryNote → Type 0
AreLong l = (n : EntryNote) → Contains l n → n.start.0 < n.end.0

-- the notes up to a key are those up to a lower one, and behind them those between
pub between : (low high : ℕ) → low ≤ high → (l : List EntryNote) → IsInOrder l → AreLong l
    → filter (is_at_most low) l ++ filter (is_between low high) l ≡ filter (is_at_most high) l
between low high le [] order long = refl
between low high le (n ∷ ns) order long =
    by (between low high le ns
    (λ i j d l h. order (suc i) (suc j) d (omega arith) (omega arith))
    (λ m h. long m (suc h.0, (let l = h.1 in omega arith), h.2)))
    (nat_le n.end.0 low) (nat_lt low n.end.0) (nat_le n.end.0 high) refl refl refl
  where
    -- a later note ends above the first one
    later : (m : EntryNote) → Contains ns m → n.end.0 < m.end.0
    later m h =
        let o = order zero (suc h.0) m (omega arith) (let l = h.1 in omega arith) in
        let s = long m (suc h.0, (let l = h.1 in omega arith), h.2) in
        let at : n.end.0 ≤ m.start.0 = subst (λ (k : EntryNote). n.end.0 ≤ k.start.0) h.2 o in
        omega arith

    -- where the first note ends above the lower key, all do
    none : nat_le n.end.0 low ≡ false → filter (is_at_most low) ns ≡ []
    none e = filter_none (is_at_most low) ns (λ m h. let l = later m h in
        let above = leb-false n.end.0 low e in lt-leb m.end.0 low (omega arith))

    by : filter (is_at_most low) ns ++ filter (is_between low high) ns
        ≡ filter (is_at_most high) ns
        → (a b d : Bool) → nat_le n.end.0 low ≡ a → nat_lt low n.end.0 ≡ b
        → nat_le n.end.0 high ≡ d
        → cond a (n ∷ filter (is_at_most low) ns) (filter (is_at_most low) ns)
        ++ cond (b && d) (n ∷ filter (is_between low high) ns) (filter (is_between low high) ns)
        ≡ cond d (n ∷ filter (is_at_most high) ns) (filter (is_at_most high) ns)
    by rest true false true ea eb ed = ap (λ l. n ∷ l) rest
    by rest true false false ea eb ed = absurd (let l = leb-true n.end.0 low ea in
        let h = leb-false n.end.0 high ed in omega arith)
    by rest true true d ea eb ed = absurd (let l = leb-true n.end.0 low ea in
        let h = ltb-true low n.end.0 eb in omega arith)
    by rest false true true ea eb ed =
        ap (λ l. l ++ n ∷ filter (is_between low high) ns) (none ea)
        ∙ ap (λ l. n ∷ l) (sym (ap (λ l. l ++ filter (is_between low high) ns) (none ea)) ∙ rest)
    by rest false true false ea eb ed = rest
    by rest false false d ea eb ed = absurd (let l = leb-false n.end.0 low ea in
        let h = ltb-false low n.end.0 eb in omega arith)

-- The log key behind a marker only grows with it.

behind_grows : (capacity low high : ℕ) → capacity ≤ 33554432 → low < high
    → first_offset ≤ offset_of high → behind_marker capacity low ≤ behind_marker capacity high
behind_grows capacity low high few less front =
    by (fits capacity low marker_size) (fits capacity high marker_size) refl refl
  where
    by : (a b : Bool) → fits capacity low marker_size ≡ a → fits capacity high marker_size ≡ b
        → cond a (low + marker_size) (next_segment low)
        ≤ cond b (high + marker_size) (next_segment high)
    by true true ea eb = omega arith
    by false false ea eb = omega arith
    by true false ea eb = let f = ltb-true (offset_of low + marker_size) capacity ea in
        omega arith
    by false true ea eb =
        let f = ltb-false (offset_of low + marker_size) capacity ea in
        let g = ltb-true (offset_of high + marker_size) capacity eb in
        omega arith

pub after_grows : (capacity low high : ℕ) → capacity ≤ 33554432 → low < high
    → first_offset ≤ offset_of high
    → after capacity low ≤ after capacity high
after_grows capacity low high few less front =
    by (low == 0) (high == 0) refl refl
  where
    by : (a b : Bool) → (low == 0) ≡ a → (high == 0) ≡ b
        → cond a 28 (behind_marker capacity low) ≤ cond b 28 (behind_marker capacity high)
    by a true ea eb = absurd (let e = eqb-true high 0 eb in omega arith)
    by true false ea eb = cond_both (fits capacity high marker_size) (high + marker_size)
        (next_segment high) (λ k. 28 ≤ k) (λ _. omega arith) (λ _. omega arith)
    by false false ea eb = behind_grows capacity low high few less front
