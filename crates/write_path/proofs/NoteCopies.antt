-- Copies of a note for its tables, one table after another; and a list whose elements go from its
-- front to its end, each with a change.
use Rattle.std.proofs.Common.{
  ◌≡◌,
  ℕ,
  zero,
  suc,
  ◌+◌,
  ◌<◌,
  ◌≤◌,
  List,
  [],
  ◌∷◌,
  ◌++◌,
  length,
  get_or,
  map,
  take,
  drop,
  refl,
  sym,
  ap,
  ◌∙◌,
  arith,
}
use Rattle.std.specs.Prelude.{Bool, true, false, cond}
use Rattle.std.specs.List.{filter, range_with_len}
use Rattle.std.proofs.lemmas.List.{
  append-nil,
  append_assoc,
  drop_all,
  drop_more,
  length-append,
  length-drop,
  length-map,
  length-take-le,
  map-append,
  take_all,
  take_more,
}
use Rattle.std.proofs.lemmas.List.Elements.{filter-append}
use Rattle.path_core.specs.declared.note.EntryNote.{EntryNote}
use Rattle.path_core.specs.Parts.{touches}
use Rattle.write_path.specs.Writes.{copies_of, tables_in}

-- ---- one table after another

range_more : (a n j : ℕ) → a + n ≡ j → range_with_len a (suc n) ≡ range_with_len a n ++ j ∷ []
range_more a zero j e = ap (λ (x : ℕ). x ∷ []) (omega (arith, e))
range_more a (suc n) j e = ap (λ l. a ∷ l) (range_more (a + 1) n j (omega (arith, e)))

module _ (n : EntryNote) where
  -- the copies for those of its tables that are below a number
  abbrev pub copies_below : ℕ → List EntryNote
  copies_below k = map (λ (t : ℕ). n) (filter (λ t. touches n.tables t) (range_with_len 0 k))

  -- one table more, of the note or not
  more_by : (k : ℕ) (touched : Bool) → touches n.tables k ≡ touched
      → copies_below (k + 1) ≡ copies_below k ++ cond touched (n ∷ []) []
  more_by k touched is =
      let test : (ℕ → Bool) = λ t. touches n.tables t in
      let const : (ℕ → EntryNote) = λ t. n in
      let up : k + 1 ≡ suc k = omega arith in
      let last : map const (filter test (k ∷ [])) ≡ cond touched (n ∷ []) [] =
      (ap (λ b. map const (cond b (k ∷ []) [])) is ∙ by_answer touched) in
      ap (λ m. map const (filter test (range_with_len 0 m))) up
      ∙ (ap (λ l. map const (filter test l)) (range_more 0 k k (omega arith))
      ∙ (ap (λ l. map const l) (filter-append test (range_with_len 0 k) (k ∷ []))
      ∙ (map-append const (filter test (range_with_len 0 k)) (filter test (k ∷ []))
      ∙ ap (λ l. copies_below k ++ l) last)))
    where
      by_answer : (b : Bool) → map (λ (t : ℕ). n) (cond b (k ∷ []) []) ≡ cond b (n ∷ []) []
      by_answer true = refl
      by_answer false = refl

  pub one_more : (k : ℕ) → touches n.tables k ≡ true
      → copies_below (k + 1) ≡ copies_below k ++ n ∷ []
  one_more k is = more_by k true is

  pub passed : (k : ℕ) → touches n.tables k ≡ false → copies_below (k + 1) ≡ copies_below k
  passed k is = more_by k false is ∙ append-nil (copies_below k)

-- copies of a note that is changed, but for its tables
pub said_copies : (f : EntryNote → EntryNote) (n : EntryNote) → (f n).tables ≡ n.tables
    → map f (copies_of n) ≡ copies_of (f n)
said_copies f n same = each (tables_in n.tables)
    ∙ ap (λ tables. map (λ (t : ℕ). f n) (tables_in tables)) (sym same)
  where
    each : (ts : List ℕ) → map f (map (λ (t : ℕ). n) ts) ≡ map (λ (t : ℕ). f n) ts
    each [] = refl
    each (t ∷ ts) = ap (λ l. f n ∷ l) (each ts)

-- ---- from the front to the end

-- none is lost where the first one is taken out
pub one_taken : (f : EntryNote → EntryNote) (xs : List EntryNote)
    → length (drop 1 xs) + length (map f (take 1 xs)) ≡ length xs
one_taken f [] = refl
one_taken f (x ∷ xs) = omega arith

module _ (f : EntryNote → EntryNote) (xs : List EntryNote) where
  -- so many of them were moved
  abbrev pub turned : ℕ → List EntryNote
  turned i = drop i xs ++ map f (take i xs)

  pub as_many : (i : ℕ) → i ≤ length xs → length (turned i) ≡ length xs
  as_many i low = omega (
    arith,
    low,
    length-append (drop i xs) (map f (take i xs)),
    length-drop i xs,
    length-map (take i xs) f,
    length-take-le i xs low,
  )

  pub one_turned : (i : ℕ) → i < length xs
      → drop 1 (turned i) ++ map f (take 1 (turned i)) ≡ turned (i + 1)
  one_turned i low = by xs refl
    where
      next : (d : EntryNote) → drop 1 (turned i) ++ map f (take 1 (turned i)) ≡ turned (i + 1)
      next d =
          let x = get_or xs i d in
          ap (λ l. drop 1 (l ++ map f (take i xs)) ++ map f (take 1 (l ++ map f (take i xs))))
          (drop_more xs i d low)
          ∙ (append_assoc (drop (i + 1) xs) (map f (take i xs)) (f x ∷ [])
          ∙ ap (λ l. drop (i + 1) xs ++ l) (sym (map-append f (take i xs) (x ∷ []))
          ∙ ap (λ l. map f l) (sym (take_more xs i d low))))

      by : (l : List EntryNote) → xs ≡ l
          → drop 1 (turned i) ++ map f (take 1 (turned i)) ≡ turned (i + 1)
      by [] is = absurd (omega (arith, low, ap (λ l. length l) is))
      by (d ∷ ds) is = next d

  pub all_turned : (i : ℕ) → length xs ≤ i → turned i ≡ map f xs
  all_turned i high = ap (λ l. l ++ map f (take i xs)) (drop_all i xs high)
      ∙ ap (λ l. map f l) (take_all i xs high)
