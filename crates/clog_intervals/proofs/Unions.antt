-- Unions of intervals that stand apart.
use Rattle.std.proofs.Common.{
  ◌≡◌,
  ℕ,
  zero,
  suc,
  ◌≤◌,
  ◌⊎◌,
  inl,
  inr,
  List,
  [],
  ◌∷◌,
  ◌++◌,
  length,
  take,
  drop,
  subst,
  refl,
  ap,
  sym,
  get_or,
  ◌∙◌,
  ◌<◌,
  ◌≢◌,
  ◌+◌,
  ◌-◌,
  Some,
  take-append-drop,
  arith,
}
use Rattle.std.proofs.lemmas.List.{take_all}
use Rattle.clog_base.specs.declared.position.Position.{Position}
use Rattle.clog_intervals.specs.declared.interval.Interval.{Interval}
use Rattle.clog_base.specs.Positions.{IsBelow, IsUpTo}
use Rattle.clog_intervals.specs.Union.{IsWithin, Holds, IsBefore, IsCovered, AreApart}
use Rattle.clog_intervals.specs.Hulls.{IsBetween}
use Rattle.clog_intervals.specs.Joined.{
  EndBelow,
  EndFrom,
  BeginUpTo,
  BeginAbove,
  Has,
  IsRun,
  IsJoined,
}
use Rattle.clog_base.proofs.PositionOrder.{
  below_trans,
  below_up_to,
  up_to_below,
  up_to_trans,
  below_is_up_to,
  not_both,
  below_or_up_to,
  up_to_itself,
}
use Rattle.clog_intervals.proofs.Order.{next_is_least, next_between, from_least, to_greatest}

pub Holds-left : (xs ys : List Interval) (p : Position) → Holds xs p → Holds (xs ++ ys) p
Holds-left [] ys p h = absurd h
Holds-left (x ∷ xs) ys p (inl h) = inl h
Holds-left (x ∷ xs) ys p (inr h) = inr (Holds-left xs ys p h)

pub Holds-right : (xs ys : List Interval) (p : Position) → Holds ys p → Holds (xs ++ ys) p
Holds-right [] ys p h = h
Holds-right (x ∷ xs) ys p h = inr (Holds-right xs ys p h)

pub Holds-cases : (xs ys : List Interval) (p : Position) → Holds (xs ++ ys) p
    → Holds xs p ⊎ Holds ys p
Holds-cases [] ys p h = inr h
Holds-cases (x ∷ xs) ys p (inl h) = inl (inl h)
Holds-cases (x ∷ xs) ys p (inr h) =
    elim (Holds-cases xs ys p h) [ inl l ↦ inl (inr l) | inr r ↦ inr r ]

pub held_below : (xs : List Interval) (at p : Position) → EndBelow at xs → Holds xs p → IsBelow p at
held_below [] at p e h = absurd h
held_below (x ∷ xs) at p e (inl h) = up_to_below p x.upper at h.1 e.0
held_below (x ∷ xs) at p e (inr h) = held_below xs at p e.1 h

pub held_above : (xs : List Interval) (at p : Position) → BeginAbove at xs → Holds xs p
    → IsBelow at p
held_above [] at p e h = absurd h
held_above (x ∷ xs) at p e (inl h) = below_trans at x.lower p e.0 h.0
held_above (x ∷ xs) at p e (inr h) = held_above xs at p e.1 h

pub AreApart-left : (xs ys : List Interval) → AreApart (xs ++ ys) → AreApart xs
AreApart-left [] ys h = tt
AreApart-left (x ∷ []) ys h = (h.0, tt, tt)
AreApart-left (x ∷ y ∷ xs) ys h = (h.0, h.1, AreApart-left (y ∷ xs) ys h.2)

pub AreApart-right : (xs ys : List Interval) → AreApart (xs ++ ys) → AreApart ys
AreApart-right [] ys h = h
AreApart-right (x ∷ xs) ys h = AreApart-right xs ys h.2

above_more : (a b : Position) (xs : List Interval) → IsBelow a b → BeginAbove b xs → BeginAbove a xs
above_more a b [] l e = tt
above_more a b (x ∷ xs) l e = (below_trans a b x.lower l e.0, above_more a b xs l e.1)

-- the intervals behind one begin above its end
pub apart_behind : (x : Interval) (xs : List Interval) → AreApart (x ∷ xs) → BeginAbove x.upper xs
apart_behind x [] h = tt
apart_behind x (y ∷ ys) h =
    let x_to_y : IsBelow x.upper y.upper = below_trans x.upper y.lower y.upper h.1 h.2.0 in
    (h.1, above_more x.upper y.upper ys x_to_y (apart_behind y ys h.2))

-- the intervals before one end below its begin
pub apart_before : (xs : List Interval) (y : Interval) (ys : List Interval)
    → AreApart (xs ++ y ∷ ys)
    → EndBelow y.lower xs
apart_before [] y ys h = tt
apart_before (x ∷ []) y ys h = (h.1, tt)
apart_before (x ∷ z ∷ xs) y ys h =
    let rest = apart_before (z ∷ xs) y ys h.2 in (
      below_trans x.upper z.lower y.lower h.1 (below_trans z.lower z.upper y.lower h.2.0 rest.0),
      rest,
    )

-- an interval fits between intervals that end below it and intervals that begin above it
pub apart_with : (xs : List Interval) (y : Interval) (ys : List Interval) → AreApart xs
    → AreApart ys
    → EndBelow y.lower xs → BeginAbove y.upper ys → IsBelow y.lower y.upper
    → AreApart (xs ++ y ∷ ys)
apart_with [] y [] l r b a some = (some, tt, r)
apart_with [] y (z ∷ ys) l r b a some = (some, a.0, r)
apart_with (x ∷ []) y ys l r b a some = (l.0, b.0, apart_with [] y ys tt r tt a some)
apart_with (x ∷ z ∷ xs) y ys l r b a some =
    (l.0, l.1, apart_with (z ∷ xs) y ys l.2 r b.1 a some)

-- No interval that ends below a place stands behind one that begins above a later place.
pub points_in_order : (xs : List Interval) (first last : ℕ) (lower upper : Position) → AreApart xs
    → IsBelow lower upper → EndBelow lower (take first xs) → BeginAbove upper (drop last xs)
    → first ≤ length xs → first ≤ last
points_in_order xs zero last lower upper apart some below above fits = omega arith
points_in_order [] (suc first) last lower upper apart some below above fits = absurd (omega arith)
points_in_order (x ∷ xs) (suc first) zero lower upper apart some below above fits =
    absurd (not_both upper x.lower above.0 (below_is_up_to x.lower upper
    (below_trans x.lower x.upper upper apart.0 (below_trans x.upper lower upper below.0 some))))
points_in_order (x ∷ xs) (suc first) (suc last) lower upper apart some below above fits =
    let rest : first ≤ last = points_in_order xs first last lower upper apart.2 some below.1 above
    (omega arith) in
    omega arith

-- What is within an interval that is joined of new, first and last is within one of them.
within_joined : (new first last joined : Interval) (p : Position) → IsJoined new first last joined
    → IsUpTo new.lower first.upper → IsUpTo last.lower new.upper → IsWithin joined p
    → IsWithin first p ⊎ (IsWithin last p ⊎ IsWithin new p)
within_joined new first last joined p j meets_first meets_last h =
    elim (below_or_up_to new.lower p) [
      | inr low ↦
          let above_first : IsBelow first.lower p = elim (j.lower) [
            | inl e ↦ absurd (not_both new.lower p (subst (λ x. IsBelow x p) e h.0) low)
            | inr e ↦ subst (λ x. IsBelow x p) e h.0
          ] in
          inl (above_first, up_to_trans p new.lower first.upper low meets_first)
      | inl above ↦ elim (below_or_up_to new.upper p) [
        | inl high ↦
            let below_last : IsUpTo p last.upper = elim (j.upper) [
              | inl e ↦ absurd (not_both new.upper p high (subst (λ x. IsUpTo p x) e h.1))
              | inr e ↦ subst (λ x. IsUpTo p x) e h.1
            ] in
            inr (inl (up_to_below last.lower new.upper p meets_last high, below_last))
        | inr low ↦ inr (inr (above, low))
      ]
    ]

-- Intervals that stand apart, of which first and last are two: front stands before first, and back
-- behind last. A new interval touches first and last, and neither front nor back.
pub record IsTouched (xs front behind before back : List Interval) (first last new : Interval) :
    Type 0 where
  pub apart : AreApart xs
  pub some : IsBelow new.lower new.upper
  pub at_first : xs ≡ front ++ first ∷ behind
  pub at_last : xs ≡ before ++ last ∷ back
  pub front_ends : EndBelow new.lower front
  pub first_ends : IsUpTo new.lower first.upper
  pub last_begins : IsUpTo last.lower new.upper
  pub back_begins : BeginAbove new.upper back

module _
    (xs front behind before back : List Interval)
    (first last new joined : Interval)
    (t : IsTouched xs front behind before back first last new)
    (j : IsJoined new first last joined) where
  apart_at_first : AreApart (front ++ first ∷ behind)
  apart_at_first = subst AreApart t.at_first t.apart

  apart_at_last : AreApart (before ++ last ∷ back)
  apart_at_last = subst AreApart t.at_last t.apart

  apart_from_first : AreApart (first ∷ behind)
  apart_from_first = AreApart-right front (first ∷ behind) apart_at_first

  apart_from_last : AreApart (last ∷ back)
  apart_from_last = AreApart-right before (last ∷ back) apart_at_last

  pub joined_apart : AreApart (front ++ joined ∷ back)
  joined_apart =
      let ends : EndBelow joined.lower front = elim (j.lower) [
        | inl e ↦ subst (λ x. EndBelow x front) (sym e) t.front_ends
        | inr e ↦ subst (λ x. EndBelow x front) (sym e)
            (apart_before front first behind apart_at_first)
      ] in
      let begins : BeginAbove joined.upper back = elim (j.upper) [
        | inl e ↦ subst (λ x. BeginAbove x back) (sym e) t.back_begins
        | inr e ↦ subst (λ x. BeginAbove x back) (sym e) (apart_behind last back apart_from_last)
      ] in
      apart_with front joined back (AreApart-left front (first ∷ behind) apart_at_first)
      apart_from_last.2 ends begins
      (up_to_below joined.lower new.lower joined.upper j.below_new
      (below_up_to new.lower new.upper joined.upper t.some j.above_new))

  in_all_by_first : (p : Position) → Holds (front ++ first ∷ behind) p → Holds xs p
  in_all_by_first p h = subst (λ l. Holds l p) (sym t.at_first) h

  in_all_by_last : (p : Position) → Holds (before ++ last ∷ back) p → Holds xs p
  in_all_by_last p h = subst (λ l. Holds l p) (sym t.at_last) h

  pub joined_adds : (p : Position) → Holds (front ++ joined ∷ back) p → Holds xs p ⊎ IsWithin new p
  joined_adds p h =
      elim (Holds-cases front (joined ∷ back) p h) [
        | inl l ↦ inl (in_all_by_first p (Holds-left front (first ∷ behind) p l))
        | inr (inr r) ↦ inl (in_all_by_last p (Holds-right before (last ∷ back) p (inr r)))
        | inr (inl w) ↦ elim (within_joined new first last joined p j t.first_ends t.last_begins
            w) [
              | inl f ↦ inl (in_all_by_first p (Holds-right front (first ∷ behind) p (inl f)))
              | inr (inl l) ↦ inl (in_all_by_last p (Holds-right before (last ∷ back) p (inl l)))
              | inr (inr n) ↦ inr n
            ]
      ]

  above_first : (p : Position) → Holds (first ∷ behind) p → IsBelow first.lower p
  above_first p (inl w) = w.0
  above_first p (inr h) =
      below_trans first.lower first.upper p apart_from_first.0
      (held_above behind first.upper p (apart_behind first behind apart_from_first) h)

  below_last : (p : Position) → Holds before p ⊎ IsWithin last p → IsUpTo p last.upper
  below_last p (inl h) =
      below_is_up_to p last.upper (below_trans p last.lower last.upper
      (held_below before last.lower p (apart_before before last back apart_at_last) h)
      apart_from_last.0)
  below_last p (inr w) = w.1

  between_them : (p : Position) → IsBelow first.lower p → Holds before p ⊎ IsWithin last p
      → IsWithin joined p
  between_them p above h = (
    up_to_below joined.lower first.lower p j.below_first above,
    up_to_trans p last.upper joined.upper (below_last p h) j.above_last,
  )

  joined_keeps : (p : Position) → Holds xs p → Holds (front ++ joined ∷ back) p
  joined_keeps p h =
      elim (Holds-cases front (first ∷ behind) p (subst (λ l. Holds l p) t.at_first h)) [
        | inl l ↦ Holds-left front (joined ∷ back) p l
        | inr f ↦ elim (Holds-cases before (last ∷ back) p (subst (λ l. Holds l p) t.at_last h)) [
          | inl b ↦ Holds-right front (joined ∷ back) p
              (inl (between_them p (above_first p f) (inl b)))
          | inr (inl w) ↦ Holds-right front (joined ∷ back) p
              (inl (between_them p (above_first p f) (inr w)))
          | inr (inr r) ↦ Holds-right front (joined ∷ back) p (inr r)
        ]
      ]

  pub joined_union : (p : Position) → Holds xs p ⊎ IsWithin new p
      → Holds (front ++ joined ∷ back) p
  joined_union p (inl h) = joined_keeps p h
  joined_union p (inr w) =
      Holds-right front (joined ∷ back) p (inl (
        up_to_below joined.lower new.lower p j.below_new w.0,
        up_to_trans p new.upper joined.upper w.1 j.above_new,
      ))

drop_at : (xs : List Interval) (k : ℕ) (d : Interval) → k < length xs
    → drop k xs ≡ get_or xs k d ∷ drop (suc k) xs
drop_at [] k d h = absurd (omega arith)
drop_at (x ∷ xs) zero d h = refl
drop_at (x ∷ xs) (suc k) d h = let h' : k < length xs = omega arith in drop_at xs k d h'

-- a list around one of its items
pub split_at : (xs : List Interval) (k : ℕ) (d : Interval) → k < length xs
    → xs ≡ take k xs ++ get_or xs k d ∷ drop (suc k) xs
split_at [] k d h = absurd (omega arith)
split_at (x ∷ xs) zero d h = refl
split_at (x ∷ xs) (suc k) d h =
    let h' : k < length xs = omega arith in ap (λ l. x ∷ l) (split_at xs k d h')

-- the first of the intervals begins at a place or above it
abbrev pub BeginFrom : Position → List Interval → Type 0
BeginFrom at [] = Unit {0}
BeginFrom at (x ∷ xs) = IsUpTo at x.lower

begin_from : (u p : Position) (xs : List Interval) → IsBefore u xs
    → ((q : Position) → IsBelow u q → IsUpTo p q) → BeginFrom p xs
begin_from u p [] b next = tt
begin_from u p (x ∷ xs) b next = next x.lower b

-- nothing is held at a place that the first interval does not begin below
none_before : (xs : List Interval) (at : Position) → AreApart xs
    → BeginFrom at xs → Holds xs at → ⊥
none_before [] at a b h = h
none_before (x ∷ xs) at a b (inl w) = not_both x.lower at w.0 b
none_before (x ∷ []) at a b (inr h) = h
none_before (x ∷ y ∷ xs) at a b (inr h) =
    none_before (y ∷ xs) at a.2 (below_is_up_to at y.lower (up_to_below at x.lower y.lower b
    (below_trans x.lower x.upper y.lower a.0 a.1))) h

-- The first of the intervals that does not end below a place.
pub record IsFirstFrom (xs front behind : List Interval) (found : Interval) (at : Position) : Type
    0 where
  pub apart : AreApart xs
  pub split : xs ≡ front ++ found ∷ behind
  pub below : EndBelow at front
  pub ends : IsUpTo at found.upper

pub first_from : (xs : List Interval) (k : ℕ) (found : Interval) (at : Position) → k < length xs
    → found ≡ get_or xs k found → AreApart xs → EndBelow at (take k xs) → EndFrom at (drop k xs)
    → IsFirstFrom xs (take k xs) (drop (suc k) xs) found at
first_from xs k found at inside is apart below others = record {
  apart = apart;
  split = split_at xs k found inside ∙ ap (λ i. take k xs ++ i ∷ drop (suc k) xs) (sym is);
  below = below;
  ends = subst (λ i. IsUpTo at i.upper) (sym is)
      (subst (EndFrom at) (drop_at xs k found inside) others).0;
}

module _
    (xs front behind : List Interval)
    (found : Interval)
    (at : Position)
    (f : IsFirstFrom xs front behind found at) where
  apart_found : AreApart (found ∷ behind)
  apart_found = AreApart-right front (found ∷ behind) (subst AreApart f.split f.apart)

  -- only this interval or a later one holds a place from `at` on
  in_found : (p : Position) → IsUpTo at p → Holds xs p → Holds (found ∷ behind) p
  in_found p from h =
      elim (Holds-cases front (found ∷ behind) p (subst (λ l. Holds l p) f.split h)) [
        | inl l ↦ absurd (not_both p at (held_below front at p f.below l) from)
        | inr r ↦ r
      ]

  pub held_by_found : (p : Position) → IsWithin found p → Holds xs p
  held_by_found p w = subst (λ l. Holds l p) (sym f.split)
      (Holds-right front (found ∷ behind) p (inl w))

  pub none_below_found : IsUpTo at found.lower → Holds xs at → ⊥
  none_below_found low h = none_before (found ∷ behind) at apart_found low
      (in_found at (up_to_itself at) h)

  none_past : (p : Position) → ((q : Position) → IsBelow found.upper q → IsUpTo p q)
      → IsBelow found.upper p → Holds (found ∷ behind) p → ⊥
  none_past p next above (inl w) = not_both found.upper p above w.1
  none_past p next above (inr h) =
      none_before behind p apart_found.2 (begin_from found.upper p behind apart_found.1 next) h

  pub gap_behind_found : (p : Position) → p.id ≡ found.upper.id
      → p.offset ≡ found.upper.offset + 1 → Holds xs p → ⊥
  gap_behind_found p same_id next h =
      let above : IsBelow found.upper p = inr (sym same_id, omega arith) in
      none_past p (next_is_least found.upper p same_id next) above
      (in_found p (below_is_up_to at p (up_to_below at found.upper p f.ends above)) h)

  pub has_found : IsBelow found.lower at → Has xs at found
  has_found low = record {
    within = (low, f.ends);
    one = held_by_found;
    gap = gap_behind_found;
  }

-- Nothing is held that stands behind the ends of all.
pub none_if_all_end : (xs : List Interval) (k : ℕ) (at : Position) → length xs ≤ k
    → EndBelow at (take k xs) → Holds xs at → ⊥
none_if_all_end xs k at whole below h =
    not_both at at (held_below xs at at (subst (EndBelow at) (take_all k xs whole) below) h)
    (up_to_itself at)

-- Every place from least to greatest is held exactly where the interval that holds the least one
-- reaches the greatest.
pub covered_by_one : (xs : List Interval) (least greatest : Position) (found : Interval)
    → IsBetween least greatest greatest → Has xs least found → IsUpTo greatest found.upper
    → IsCovered xs (Some (least, greatest))
covered_by_one xs least greatest found ordered h reaches p between =
    h.one p (
      below_up_to found.lower least p h.within.0 (from_least least greatest p between),
      up_to_trans p greatest found.upper (to_greatest least greatest p ordered between) reaches,
    )

pub one_covers : (xs : List Interval) (least greatest : Position) (found : Interval)
    → IsBetween least greatest greatest → Has xs least found
    → IsCovered xs (Some (least, greatest)) → IsUpTo greatest found.upper
one_covers xs least greatest found ordered h covered =
    elim (below_or_up_to found.upper greatest) [
      | inr reaches ↦ reaches
      | inl short ↦
          let next : Position = record { id = found.upper.id; offset = found.upper.offset + 1 } in
          absurd (h.gap next refl refl
          (covered next (next_between least greatest found.upper ordered h.within.1 short)))
    ]

-- the least place of a hull is one of its places
pub covered_least : (xs : List Interval) (least greatest : Position)
    → IsBetween least greatest greatest → IsCovered xs (Some (least, greatest)) → Holds xs least
covered_least xs least greatest ordered covered =
    covered least (record { segment = refl; from = omega arith; upto = ordered.from })

in_parts : (xs : List Interval) (k : ℕ) (p : Position) → Holds (take k xs ++ drop k xs) p
    → Holds xs p
in_parts xs k p h = subst (λ l. Holds l p) (take-append-drop k xs) h

begun_at : (at : Position) (xs : List Interval) (last k : ℕ) (d : Interval) → last ≤ length xs
    → k < last → BeginUpTo at (take last xs) → IsUpTo (get_or xs k d).lower at
begun_at at xs zero k d fits past begun = absurd (omega arith)
begun_at at [] (suc last) k d fits past begun = absurd (omega arith)
begun_at at (x ∷ xs) (suc last) zero d fits past begun = begun.0
begun_at at (x ∷ xs) (suc last) (suc k) d fits past begun =
    let fits' : last ≤ length xs = omega arith in
    let past' : k < last = omega arith in
    begun_at at xs last k d fits' past' begun.1

-- an interval that touches none goes in where those below it end
pub apart_put : (xs : List Interval) (k : ℕ) (new : Interval) → AreApart xs
    → IsBelow new.lower new.upper → EndBelow new.lower (take k xs)
    → BeginAbove new.upper (drop k xs) → AreApart (take k xs ++ new ∷ drop k xs)
apart_put xs k new apart some below above =
    let parts : AreApart (take k xs ++ drop k xs) = subst AreApart (sym (take-append-drop k xs))
    apart in
    apart_with (take k xs) new (drop k xs) (AreApart-left (take k xs) (drop k xs) parts)
    (AreApart-right (take k xs) (drop k xs) parts) below above some

pub put_adds : (xs : List Interval) (k : ℕ) (new : Interval) (p : Position)
    → Holds (take k xs ++ new ∷ drop k xs) p → Holds xs p ⊎ IsWithin new p
put_adds xs k new p h =
    elim (Holds-cases (take k xs) (new ∷ drop k xs) p h) [
      | inl l ↦ inl (in_parts xs k p (Holds-left (take k xs) (drop k xs) p l))
      | inr (inl w) ↦ inr w
      | inr (inr r) ↦ inl (in_parts xs k p (Holds-right (take k xs) (drop k xs) p r))
    ]

pub put_keeps : (xs : List Interval) (k : ℕ) (new : Interval) (p : Position)
    → Holds xs p ⊎ IsWithin new p → Holds (take k xs ++ new ∷ drop k xs) p
put_keeps xs k new p (inr w) = Holds-right (take k xs) (new ∷ drop k xs) p (inl w)
put_keeps xs k new p (inl h) =
    elim (Holds-cases (take k xs) (drop k xs) p
    (subst (λ l. Holds l p) (sym (take-append-drop k xs)) h)) [
      | inl l ↦ Holds-left (take k xs) (new ∷ drop k xs) p l
      | inr r ↦ Holds-right (take k xs) (new ∷ drop k xs) p (inr r)
    ]

-- the run from first to last is touched, and nothing else
pub run_touched : (xs : List Interval) (first last : ℕ) (m z new : Interval) → AreApart xs
    → IsBelow new.lower new.upper → first ≢ last → IsRun xs new first last → m ≡ get_or xs first m
    → z ≡ get_or xs (last - 1) z
    → IsTouched xs (take first xs) (drop (suc first) xs) (take (last - 1) xs) (drop last xs) m z new
run_touched xs first last m z new apart some differ run m_is z_is =
    let order : first < last = omega (arith, run.order) in
    let first_inside : first < length xs = omega (arith, run.within) in
    let last_inside : last - 1 < length xs = omega (arith, run.within) in
    let next : suc (last - 1) ≡ last = omega arith in
    let past : last - 1 < last = omega arith in
    record {
      apart = apart;
      some = some;
      at_first = split_at xs first m first_inside
          ∙ ap (λ i. take first xs ++ i ∷ drop (suc first) xs) (sym m_is);
      at_last = split_at xs (last - 1) z last_inside
          ∙ ap (λ i. take (last - 1) xs ++ i ∷ drop (suc (last - 1)) xs) (sym z_is)
          ∙ ap (λ k. take (last - 1) xs ++ z ∷ drop k xs) next;
      front_ends = run.below;
      first_ends = subst (λ i. IsUpTo new.lower i.upper) (sym m_is)
          (subst (EndFrom new.lower) (drop_at xs first m first_inside) run.others).0;
      last_begins = subst (λ i. IsUpTo i.lower new.upper) (sym z_is)
          (begun_at new.upper xs last (last - 1) z run.within past run.begun);
      back_begins = run.above;
    }
