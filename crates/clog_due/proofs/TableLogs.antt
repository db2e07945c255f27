-- A table's files hold its part of a segment exactly where the union of their intervals covers the
-- hull of its entries there.
use Rattle.std.proofs.Common.{
  ◌≡◌,
  ◌≢◌,
  ℕ,
  ◌+◌,
  ◌<◌,
  ◌≤◌,
  Bool,
  true,
  false,
  cond,
  List,
  [],
  ◌∷◌,
  ◌++◌,
  map,
  length,
  get_or,
  take,
  drop,
  Option,
  Some,
  None,
  sym,
  ap,
  subst,
  ◌∙◌,
  inl,
  inr,
  arith,
}
use Rattle.std.specs.Prelude.{◌↔◌, ◌&&◌, ◌⊎◌, Contains}
use Rattle.std.specs.List.{All, filter}
use Rattle.std.proofs.lemmas.Bool.{and_parts, cases_lt, eqb-true}
use Rattle.std.proofs.lemmas.Bool.Decides.{eqb_tells}
use Rattle.std.proofs.lemmas.List.{append-nil, take-append-drop, take_more}
use Rattle.std.proofs.lemmas.List.Elements.{
  All-cons,
  All-contains,
  All-head,
  All-nil,
  All-tail,
  Contains-append_left,
  Contains-push,
  Contains-push_cases,
}
use Rattle.clog_base.specs.declared.position.Position.{Position}
use Rattle.clog_base.specs.Positions.{IsBelow, IsUpTo, key_of, offset_of, ordinal_of, position_of}
use Rattle.clog_base.proofs.Members.{from_map, in_map, nothing_there}
use Rattle.clog_intervals.specs.declared.interval.Interval.{Interval}
use Rattle.clog_intervals.specs.Hulls.{IsBetween, IsEmptyOrOf, IsHull, IsSpan}
use Rattle.clog_intervals.specs.Union.{Holds, IsCovered}
use Rattle.path_core.specs.declared.note.EntryNote.{EntryNote}
use Rattle.path_core.specs.Droppable.{is_of}
use Rattle.path_core.specs.Keeper.{IsFiledIn, PutFile}
use Rattle.path_core.specs.Parts.{touches}
use Rattle.path_core.proofs.lists.Passing.{filter_from, kept_in}
use Rattle.clog_due.specs.declared.hulls.SegmentHull.{SegmentHull}
use Rattle.clog_segments.specs.declared.publishing.Published.{Published}
use Rattle.clog_due.specs.declared.table_log.TableLog.{TableLog}
use Rattle.clog_due.specs.Counting.{AreTables, IsTableOf}
use Rattle.clog_due.specs.Dropping.{
  AreClean,
  AreHulls,
  ArePlaced,
  IsFiledAt,
  IsOf,
  IsOfFile,
  IsPlaced,
  IsPublished,
  IsTableFiled,
  ends_of,
}
use Rattle.clog_due.specs.HullRows.{hull_at}

abbrev Ends : Type 0
Ends = Option (Position × Position)

abbrev Hulls : Type 0
Hulls = List SegmentHull

-- ---- places and keys

pub below_place : (a b : ℕ) → a < b → IsBelow (position_of 0 a) (position_of 0 b)
below_place a b low = elim (cases_lt (ordinal_of a) (ordinal_of b)) [
  | inl lower ↦ inl (omega (arith, lower))
  | inr high ↦ inr (omega (arith, low, high), omega (arith, low, high))
]

pub below_key : (a b : ℕ) → IsBelow (position_of 0 a) (position_of 0 b) → a < b
below_key a b below = elim below [
  | inl lower ↦ omega (arith, lower)
  | inr same ↦ omega (arith, same.0, same.1)
]

pub up_to_place : (a b : ℕ) → a ≤ b → IsUpTo (position_of 0 a) (position_of 0 b)
up_to_place a b low = elim (cases_lt (ordinal_of a) (ordinal_of b)) [
  | inl lower ↦ inl (omega (arith, lower))
  | inr high ↦ inr (omega (arith, low, high), omega (arith, low, high))
]

pub up_to_key : (a b : ℕ) → IsUpTo (position_of 0 a) (position_of 0 b) → a ≤ b
up_to_key a b up_to = elim up_to [
  | inl lower ↦ omega (arith, lower)
  | inr same ↦ omega (arith, same.0, same.1)
]

-- ---- files

pub file_more : (t : ℕ) (files : List PutFile) (file : PutFile) (before now : List Interval)
    → AreClean t files before
    → ((at : Position) → Holds now at ↔ (Holds before at ⊎ IsOf t file at))
    → AreClean t (files ++ file ∷ []) now
file_more t files file before now clean more at = (
  λ held. elim ((more at).0 held) [
    | inl old ↦ let of = (clean at).0 old in
        (of.0, Contains-append_left files (file ∷ []) of.0 of.1, of.2)
    | inr new ↦ (file, Contains-push files file, new)
  ],
  λ of. (more at).1 (elim (Contains-push_cases files file of.0 of.1) [
    | inl old ↦ inl ((clean at).1 (of.0, old, of.2))
    | inr same ↦ inr (subst (λ (f : PutFile). IsOf t f at) (sym same) of.2)
  ]),
)

-- a file's interval tells the same of a place
of_file : (t : ℕ) (f : PutFile) (p : Published) (at : Position) → IsPublished f p
    → IsOfFile t p.table.0 p.lower.0 p.upper.0 at → IsOf t f at
of_file t f p at is of = record {
  of_table = sym is.table ∙ of.of_table;
  above = subst (λ (k : ℕ). IsBelow (position_of 0 k) at) is.lower of.above;
  up_to = subst (λ (k : ℕ). IsUpTo at (position_of 0 k)) is.upper of.up_to;
}

of_interval : (t : ℕ) (f : PutFile) (p : Published) (at : Position) → IsPublished f p
    → IsOf t f at → IsOfFile t p.table.0 p.lower.0 p.upper.0 at
of_interval t f p at is of = record {
  of_table = is.table ∙ of.of_table;
  above = subst (λ (k : ℕ). IsBelow (position_of 0 k) at) (sym is.lower) of.above;
  up_to = subst (λ (k : ℕ). IsUpTo at (position_of 0 k)) (sym is.upper) of.up_to;
}

pub files_more : (t : ℕ) (files : List PutFile) (i : ℕ) (f : PutFile) (p : Published)
    (before now : List Interval) → i < length files → get_or files i f ≡ f → IsPublished f p
    → AreClean t (take i files) before
    → ((at : Position) → Holds now at
    ↔ (Holds before at ⊎ IsOfFile t p.table.0 p.lower.0 p.upper.0 at))
    → AreClean t (take (i + 1) files) now
files_more t files i f p before now inside f_is is clean more =
    subst (λ (l : List PutFile). AreClean t l now)
    (sym (take_more files i f inside ∙ ap (λ (g : PutFile). take i files ++ g ∷ []) f_is))
    (file_more t (take i files) f before now clean (λ at. (
      λ held. elim ((more at).0 held) [
        | inl old ↦ inl old
        | inr new ↦ inr (of_file t f p at is new)
      ],
      λ of. (more at).1 (elim of [
        | inl old ↦ inl old
        | inr new ↦ inr (of_interval t f p at is new)
      ]),
    )))

-- ---- an entry's segment and table

pub is_of_parts : (o t : ℕ) (n : EntryNote) → is_of o t n ≡ true
    → (ordinal_of n.start.0 ≡ o) × (touches n.tables t ≡ true)
is_of_parts o t n is =
    let parts = and_parts _ _ is in (eqb-true (ordinal_of n.start.0) o parts.0, parts.1)

abbrev place : EntryNote → Position
place n = position_of 0 n.end.0

place_of_segment : (notes : List EntryNote) (o t : ℕ) (n : EntryNote) → ArePlaced notes
    → Contains notes n → is_of o t n ≡ true → ordinal_of n.end.0 ≡ o
place_of_segment notes o t n placed among is =
    (placed n among).one_segment ∙ (is_of_parts o t n is).0

end_listed : (notes : List EntryNote) (o t : ℕ) (n : EntryNote) → Contains notes n
    → is_of o t n ≡ true → Contains (ends_of t o notes) (place n)
end_listed notes o t n among is =
    in_map place (filter (is_of o t) notes) n (kept_in (is_of o t) notes n among is)

-- the entry of one of the positions
record IsEndOf (notes : List EntryNote) (o t : ℕ) (at : Position) : Type 0 where
  note : EntryNote
  among : Contains notes note
  is : is_of o t note ≡ true
  place_is : place note ≡ at

entry_of_end : (notes : List EntryNote) (o t : ℕ) (at : Position) → Contains (ends_of t o notes) at
    → IsEndOf notes o t at
entry_of_end notes o t at listed =
    let from = from_map place (filter (is_of o t) notes) at listed in
    let passes = filter_from (is_of o t) notes from.0 from.1 in
    record { note = from.0; among = passes.0; is = passes.1; place_is = from.2 }

-- ---- hulls

pub own_hulls : (t : ℕ) (notes : List EntryNote) (hulls : Hulls) → ArePlaced notes
    → AreHulls t notes hulls → (o : ℕ) → IsEmptyOrOf (hull_at hulls o) o
own_hulls t notes hulls placed are o = own (hull_at hulls o) (are o)
  where
    own : (ends : Ends) → IsHull ends (ends_of t o notes) → IsEmptyOrOf ends o
    own None hull = tt
    own (Some ends) hull =
        let end = entry_of_end notes o t ends.0 hull.has_least in
        omega (
          arith,
          ap (λ (p : Position). p.id) end.place_is,
          place_of_segment notes o t end.note placed end.among end.is,
        )

-- ---- one entry more

ends_none : (t o : ℕ) (n : EntryNote) → is_of o t n ≡ false → ends_of t o (n ∷ []) ≡ []
ends_none t o n misses = ap (λ (b : Bool). map place (cond b (n ∷ []) [])) misses

ends_one : (t o : ℕ) (n : EntryNote) → is_of o t n ≡ true → ends_of t o (n ∷ []) ≡ place n ∷ []
ends_one t o n is = ap (λ (b : Bool). map place (cond b (n ∷ []) [])) is

stays : (t o : ℕ) (n : EntryNote) (hull : Ends) (ends : List Position) → is_of o t n ≡ false
    → IsHull hull ends → IsHull hull (ends ++ ends_of t o (n ∷ []))
stays t o n hull ends misses is =
    subst (IsHull hull)
    (sym (ap (λ (l : List Position). ends ++ l) (ends_none t o n misses) ∙ append-nil ends)) is

pub touching : (t : ℕ) (n : EntryNote) (before now : Hulls) → IsPlaced n
    → touches n.tables t ≡ true
    → ((ends : List Position) → IsHull (hull_at before (place n).id) ends
    → IsHull (hull_at now (place n).id) (ends ++ place n ∷ []))
    → ((o : ℕ) → o ≢ (place n).id → hull_at now o ≡ hull_at before o)
    → (o : ℕ) (ends : List Position) → IsHull (hull_at before o) ends
    → IsHull (hull_at now o) (ends ++ ends_of t o (n ∷ []))
touching t n before now placed touched here others o ends is =
    elim (eqb_tells (ordinal_of n.start.0) o) [
      | inl same ↦
          let id_is : (place n).id ≡ o = omega (arith, placed.one_segment, same.1) in
          let both : is_of o t n ≡ true =
          ap (λ (b : Bool). b && touches n.tables t) same.0 ∙ touched in
          subst (IsHull (hull_at now o))
          (ap (λ (l : List Position). ends ++ l) (sym (ends_one t o n both)))
          (subst (λ (k : ℕ). IsHull (hull_at now k) (ends ++ place n ∷ [])) id_is
          (here ends (subst (λ (k : ℕ). IsHull (hull_at before k) ends) (sym id_is) is)))
      | inr other ↦
          subst (λ (e : Ends). IsHull e (ends ++ ends_of t o (n ∷ [])))
          (sym (others o (λ here_too. other.1 (omega (arith, placed.one_segment, here_too)))))
          (stays t o n (hull_at before o) ends
          (ap (λ (b : Bool). b && touches n.tables t) other.0) is)
    ]

pub touching_at : (t : ℕ) (n : EntryNote) (before now : Hulls) (at : Position) → at ≡ place n
    → IsPlaced n → touches n.tables t ≡ true
    → ((ends : List Position) → IsHull (hull_at before at.id) ends
    → IsHull (hull_at now at.id) (ends ++ at ∷ []))
    → ((o : ℕ) → o ≢ at.id → hull_at now o ≡ hull_at before o)
    → (o : ℕ) (ends : List Position) → IsHull (hull_at before o) ends
    → IsHull (hull_at now o) (ends ++ ends_of t o (n ∷ []))
touching_at t n before now at is placed touched here others =
    touching t n before now placed touched
    (λ ends hull. subst (λ (p : Position). IsHull (hull_at now p.id) (ends ++ p ∷ [])) is
    (here ends (subst (λ (p : Position). IsHull (hull_at before p.id) ends) (sym is) hull)))
    (λ o apart. others o (λ same. apart (same ∙ ap (λ (p : Position). p.id) is)))

-- ---- the hull is covered, exactly where each key is held

module _ (t : ℕ) (notes : List EntryNote) (files : List PutFile) (intervals : List Interval)
    (o : ℕ) (placed : ArePlaced notes) (clean : AreClean t files intervals) where
  held_key : (key : ℕ) → Holds intervals (position_of 0 key) → IsFiledIn files t key
  held_key key holds =
      let of = (clean (position_of 0 key)).0 holds in
      record {
        file = of.0;
        among = of.1;
        of_table = of.2.of_table;
        above = below_key of.0.lower key of.2.above;
        up_to = up_to_key key of.0.upper of.2.up_to;
      }

  key_holds : (key : ℕ) → IsFiledIn files t key → Holds intervals (position_of 0 key)
  key_holds key held = (clean (position_of 0 key)).1 (
    held.file,
    held.among,
    record {
      of_table = held.of_table;
      above = below_place held.file.lower key held.above;
      up_to = up_to_place key held.file.upper held.up_to;
    },
  )

  end_at : (n : EntryNote) → Contains notes n → is_of o t n ≡ true → ordinal_of n.end.0 ≡ o
  end_at n among is = place_of_segment notes o t n placed among is

  between_ends : (least greatest : Position) → IsSpan least greatest (ends_of t o notes)
      → (a b : EntryNote) → Contains notes a → Contains notes b → is_of o t a ≡ true
      → is_of o t b ≡ true → (key : ℕ) → a.end.0 ≤ key → key ≤ b.end.0
      → IsBetween least greatest (position_of 0 key)
  between_ends least greatest span a b in_a in_b is_a is_b key from to =
      let at_a = end_at a in_a is_a in
      let at_b = end_at b in_b is_b in
      let low = All-contains (IsBetween least greatest) (ends_of t o notes) (place a)
      span.between (end_listed notes o t a in_a is_a) in
      let high = All-contains (IsBetween least greatest) (ends_of t o notes) (place b)
      span.between (end_listed notes o t b in_b is_b) in
      record {
        segment = omega (arith, at_a, at_b, from, to, low.segment);
        from = omega (arith, at_a, at_b, from, to, low.from);
        upto = omega (arith, at_a, at_b, from, to, high.upto);
      }

  covered_filed : (hull : Ends) → IsHull hull (ends_of t o notes) → IsCovered intervals hull
      → IsTableFiled notes files t o
  covered_filed None hull covered a b in_a in_b is_a is_b key from to =
      absurd (nothing_there (place a)
      (subst (λ (l : List Position). Contains l (place a)) hull (end_listed notes o t a in_a is_a)))
  covered_filed (Some ends) hull covered a b in_a in_b is_a is_b key from to =
      held_key key (covered (position_of 0 key)
      (between_ends ends.0 ends.1 hull a b in_a in_b is_a is_b key from to))

  -- a place with an offset below 2^31 is that of its key
  place_again : (at : Position) → at.offset < 2147483648
      → position_of 0 (key_of at.id at.offset) ≡ at
  place_again at few =
      let key = key_of at.id at.offset in
      let id_is : (position_of 0 key).id ≡ at.id = omega (arith, few) in
      let offset_is : offset_of key ≡ at.offset = omega (arith, few) in
      ap (λ (i : ℕ). record { id = i; offset = offset_of key }) id_is
      ∙ ap (λ (f : ℕ). record { id = at.id; offset = f }) offset_is

  filed_covered : (hull : Ends) → IsHull hull (ends_of t o notes) → IsTableFiled notes files t o
      → IsCovered intervals hull
  filed_covered None hull filed = tt
  filed_covered (Some ends) hull filed = λ at between.
      let a = entry_of_end notes o t ends.0 hull.has_least in
      let b = entry_of_end notes o t ends.1 hull.has_greatest in
      let at_a = end_at a.note a.among a.is in
      let at_b = end_at b.note b.among b.is in
      let id_a = ap (λ (p : Position). p.id) a.place_is in
      let low = ap (λ (p : Position). p.offset) a.place_is in
      let high = ap (λ (p : Position). p.offset) b.place_is in
      let few : at.offset < 2147483648 = omega (arith, between.upto, high) in
      let key = key_of at.id at.offset in
      subst (Holds intervals) (place_again at few)
      (key_holds key (filed a.note b.note a.among b.among a.is b.is key
      (omega (arith, at_a, id_a, low, between.segment, between.from))
      (omega (arith, at_a, at_b, id_a, high, between.segment, between.upto))))

pub filed_where_covered : (t : ℕ) (notes : List EntryNote) (files : List PutFile)
    (log : TableLog) → ArePlaced notes → AreClean t files log.cleans.intervals
    → AreHulls t notes log.hulls → (o : ℕ) → IsFiledAt o log ↔ IsTableFiled notes files t o
filed_where_covered t notes files log placed clean hulls o = (
  covered_filed t notes files log.cleans.intervals o placed clean (hull_at log.hulls o) (hulls o),
  filed_covered t notes files log.cleans.intervals o placed clean (hull_at log.hulls o) (hulls o),
)

-- ---- all tables

-- the last one, behind those before it
pub table_more : (from to : ℕ) (notes : List EntryNote) (files : List PutFile)
    (logs : List TableLog) (log : TableLog) → AreTables from to notes files logs
    → IsTableOf to notes files log → AreTables from (to + 1) notes files (logs ++ log ∷ [])
table_more from to notes files [] log are is =
    (subst (λ (t : ℕ). IsTableOf t notes files log) (sym are) is, ap (λ (t : ℕ). t + 1) are)
table_more from to notes files (first ∷ logs) log are is =
    (are.0, table_more (from + 1) to notes files logs log are.1 is)

-- Their files hold a segment's parts of tables from one number to another exactly where they hold
-- the hull of each.
module _ (notes : List EntryNote) (files : List PutFile) (o : ℕ) (placed : ArePlaced notes) where
  one_filed : (t : ℕ) (log : TableLog) → IsTableOf t notes files log
      → IsFiledAt o log ↔ IsTableFiled notes files t o
  one_filed t log is = filed_where_covered t notes files log placed is.clean is.hulls o

  pub tables_filed : (from to : ℕ) (logs : List TableLog) → AreTables from to notes files logs
      → All (IsFiledAt o) logs
      → (t : ℕ) → from ≤ t → t < to → IsTableFiled notes files t o
  tables_filed from to [] are all t low high = absurd (omega (arith, are, low, high))
  tables_filed from to (log ∷ logs) are all t low high = elim (cases_lt from t) [
    | inl later ↦ tables_filed (from + 1) to logs are.1 (All-tail (IsFiledAt o) log logs all) t
        (omega (arith, later)) high
    | inr first ↦ subst (λ (k : ℕ). IsTableFiled notes files k o) (omega (arith, low, first))
        ((one_filed from log are.0).0 (All-head (IsFiledAt o) log logs all))
  ]

  pub filed_tables : (from to : ℕ) (logs : List TableLog) → AreTables from to notes files logs
      → ((t : ℕ) → from ≤ t → t < to → IsTableFiled notes files t o)
      → All (IsFiledAt o) logs
  filed_tables from to [] are filed = All-nil (IsFiledAt o)
  filed_tables from to (log ∷ logs) are filed =
      All-cons (IsFiledAt o) log logs
      ((one_filed from log are.0).1 (filed from (omega arith) (some from to logs are.1)))
      (filed_tables (from + 1) to logs are.1
      (λ t low high. filed t (omega (arith, low)) high))
    where
      some : (k n : ℕ) (rest : List TableLog) → AreTables (k + 1) n notes files rest → k < n
      some k n [] are = omega (arith, are)
      some k n (x ∷ xs) are = let up = some (k + 1) n xs are.1 in omega (arith, up)

-- the first entries are placed
pub placed_first : (i : ℕ) (notes : List EntryNote) → ArePlaced notes → ArePlaced (take i notes)
placed_first i notes placed n among =
    placed n (subst (λ (l : List EntryNote). Contains l n) (take-append-drop i notes)
    (Contains-append_left (take i notes) (drop i notes) n among))

-- one more entry is placed
pub placed_push : (notes : List EntryNote) (n : EntryNote) → ArePlaced notes → IsPlaced n
    → ArePlaced (notes ++ n ∷ [])
placed_push notes n are is m among = elim (Contains-push_cases notes n m among) [
  | inl old ↦ are m old
  | inr same ↦ subst IsPlaced same is
]

pub none_placed : (notes : List EntryNote) → notes ≡ [] → ArePlaced notes
none_placed notes none n among =
    absurd (nothing_there n (subst (λ (l : List EntryNote). Contains l n) none among))
