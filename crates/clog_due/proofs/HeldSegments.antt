-- What was counted of a store: where more comes it is still the first of all, and once what is new
-- is counted too, all is.
use Rattle.std.proofs.Common.{
  ◌≡◌,
  ℕ,
  ◌-◌,
  List,
  [],
  ◌∷◌,
  ◌++◌,
  length,
  take,
  drop,
  Option,
  Some,
  None,
  Contains,
  sym,
  ap,
  subst,
  ◌∙◌,
  inl,
  inr,
  arith,
  length-append,
}
use Rattle.std.specs.Prelude.{◌↔◌, ◌⊎◌}
use Rattle.std.proofs.lemmas.List.{
  drop-append-le,
  drop_all,
  length-drop,
  take-append-drop,
  take-append-le,
  take_all,
}
use Rattle.std.proofs.lemmas.List.Elements.{
  Contains-append_cases,
  Contains-append_right,
  Contains-push,
  Contains-push_cases,
  Contains-append_left,
}
use Rattle.clog_spec.specs.Sizes.{most_tables}
use Rattle.clog_base.specs.Positions.{ordinal_of}
use Rattle.clog_base.proofs.Members.{nothing_there}
use Rattle.path_core.specs.declared.note.EntryNote.{EntryNote}
use Rattle.path_core.specs.Keeper.{PutFile}
use Rattle.clog_due.specs.declared.counted.Counted.{Counted}
use Rattle.clog_due.specs.Counting.{
  AreTables,
  IsAllCounted,
  IsCounted,
  IsCountedIn,
  IsThere,
}
use Rattle.clog_due.specs.Dropping.{HasEntry, PicksIf}
use Rattle.clog_due.proofs.DroppedLists.{in_front}

-- ---- lists cut in two

in_back : {A : Type 0} (n : ℕ) (xs : List A) (x : A) → Contains (drop n xs) x → Contains xs x
in_back n xs x among =
    subst (λ (l : List _). Contains l x) (take-append-drop n xs)
    (Contains-append_right (take n xs) (drop n xs) x among)

either : {A : Type 0} (n : ℕ) (xs : List A) (x : A) → Contains xs x
    → Contains (take n xs) x ⊎ Contains (drop n xs) x
either n xs x among =
    Contains-append_cases (take n xs) (drop n xs) x
    (subst (λ (l : List _). Contains l x) (sym (take-append-drop n xs)) among)

-- all from one on, as a slice has it
pub rest_of : {A : Type 0} (n : ℕ) (xs : List A)
    → take (length xs - n) (drop n xs) ≡ drop n xs
rest_of n xs = take_all (length xs - n) (drop n xs) (omega (arith, length-drop n xs))

-- ---- a segment is listed

pub one_held : (before : List ℕ) (k o : ℕ)
    → Contains (before ++ k ∷ []) o ↔ (Contains before o ⊎ (k ≡ o))
one_held before k o = (
  λ there. Contains-push_cases before k o there,
  λ either. elim either [
    | inl old ↦ Contains-append_left before (k ∷ []) o old
    | inr same ↦ subst (Contains (before ++ k ∷ [])) same (Contains-push before k)
  ],
)

pub held_more : (first before now : List ℕ) (notes : List EntryNote) (n : EntryNote)
    → ((o : ℕ) → Contains before o ↔ (Contains first o ⊎ HasEntry notes o))
    → ((o : ℕ) → Contains now o ↔ (Contains before o ⊎ (ordinal_of n.start.0 ≡ o)))
    → (o : ℕ) → Contains now o ↔ (Contains first o ⊎ HasEntry (notes ++ n ∷ []) o)
held_more first before now notes n are one o = (
  λ there. elim ((one o).0 there) [
    | inl old ↦ elim ((are o).0 old) [
      | inl was ↦ inl was
      | inr has ↦ inr (has.0, Contains-append_left notes (n ∷ []) has.0 has.1, has.2)
    ]
    | inr same ↦ inr (n, Contains-push notes n, same)
  ],
  λ either. (one o).1 (elim either [
    | inl was ↦ inl ((are o).1 (inl was))
    | inr has ↦ elim (Contains-push_cases notes n has.0 has.1) [
      | inl old ↦ inl ((are o).1 (inr (has.0, old, has.2)))
      | inr same ↦ inr (ap (λ (m : EntryNote). ordinal_of m.start.0) same ∙ has.2)
    ]
  ]),
)

-- entries alone, where nothing was listed before
pub held_alone : (now : List ℕ) (notes : List EntryNote)
    → ((o : ℕ) → Contains now o ↔ (Contains [] o ⊎ HasEntry notes o))
    → (o : ℕ) → Contains now o ↔ HasEntry notes o
held_alone now notes are o = (
  λ there. elim ((are o).0 there) [
    | inl none ↦ absurd (omega (arith, none.1))
    | inr has ↦ has
  ],
  λ has. (are o).1 (inr has),
)

-- ---- a segment is left where it has not gone

pub left_more : (held before now gone : List ℕ) (k : ℕ)
    → ((o : ℕ) → Contains before o ↔ (Contains held o × (Contains gone o → ⊥)))
    → PicksIf (Contains gone k → ⊥) k before now
    → (o : ℕ) → Contains now o ↔ (Contains (held ++ k ∷ []) o × (Contains gone o → ⊥))
left_more held before now gone k are picks o = elim picks [
  | inl taken ↦ (
    λ there. elim (Contains-push_cases before k o
        (subst (λ (l : List ℕ). Contains l o) taken.1 there)) [
          | inl old ↦
              let is = (are o).0 old in (Contains-append_left held (k ∷ []) o is.0, is.1)
          | inr same ↦ (
            subst (Contains (held ++ k ∷ [])) same (Contains-push held k),
            subst (λ (j : ℕ). Contains gone j → ⊥) same taken.0,
          )
        ],
    λ is. subst (λ (l : List ℕ). Contains l o) (sym taken.1)
        (elim (Contains-push_cases held k o is.0) [
          | inl old ↦ Contains-append_left before (k ∷ []) o ((are o).1 (old, is.1))
          | inr same ↦ subst (Contains (before ++ k ∷ [])) same (Contains-push before k)
        ]),
  )
  | inr left_out ↦ (
    λ there.
        let is = (are o).0 (subst (λ (l : List ℕ). Contains l o) left_out.1 there) in
        (Contains-append_left held (k ∷ []) o is.0, is.1),
    λ is. subst (λ (l : List ℕ). Contains l o) (sym left_out.1)
        (elim (Contains-push_cases held k o is.0) [
          | inl old ↦ (are o).1 (old, is.1)
          | inr same ↦ absurd (left_out.0
              (subst (λ (j : ℕ). Contains gone j → ⊥) (sym same) is.1))
        ]),
  )
]

-- ---- all segments that are there

module _ (notes : List EntryNote) (dropped : List ℕ) (e g : ℕ) (h0 h1 h2 gone : List ℕ)
    (old : (o : ℕ) → Contains h0 o ↔ IsThere (take e notes) (take g dropped) o)
    (later : (n : EntryNote) → Contains (drop e notes) n
    → Contains (take g dropped) (ordinal_of n.start.0) → ⊥)
    (more : (o : ℕ) → Contains h1 o ↔ (Contains h0 o ⊎ HasEntry (drop e notes) o))
    (gone_are : (o : ℕ) → Contains gone o ↔ Contains (drop g dropped) o)
    (left : (o : ℕ) → Contains h2 o ↔ (Contains h1 o × (Contains gone o → ⊥))) where
  none_gone : (o : ℕ) → (Contains (take g dropped) o → ⊥) → (Contains gone o → ⊥)
      → Contains dropped o → ⊥
  none_gone o first others among = elim (either g dropped o among) [
    | inl front ↦ first front
    | inr back ↦ others ((gone_are o).1 back)
  ]

  pub all_held : (o : ℕ) → Contains h2 o ↔ IsThere notes dropped o
  all_held o = (
    λ there.
        let one = (left o).0 there in
        elim ((more o).0 one.0) [
          | inl before ↦
              let was = (old o).0 before in (
                (was.0.0, in_front e notes was.0.0 was.0.1, was.0.2),
                none_gone o was.1 one.1,
              )
          | inr new ↦ (
            (new.0, in_back e notes new.0 new.1, new.2),
            none_gone o (λ front. later new.0 new.1
                (subst (Contains (take g dropped)) (sym new.2) front)) one.1,
          )
        ],
    λ is. (left o).1 (
      (more o).1 (elim (either e notes is.0.0 is.0.1) [
        | inl front ↦ inl ((old o).1
            ((is.0.0, front, is.0.2), λ among. is.1 (in_front g dropped o among)))
        | inr back ↦ inr (is.0.0, back, is.0.2)
      ]),
      λ among. is.1 (in_back g dropped o ((gone_are o).0 among)),
    ),
  )

-- ---- all is counted, and stays so for the first of more

module _ (notes : List EntryNote) (files : List PutFile) (dropped : List ℕ) (c : Counted) where
  pub counted_first : IsAllCounted notes files dropped c → IsCounted notes files dropped c
  counted_first is =
      let entries : take c.entries notes ≡ notes =
      take_all c.entries notes (omega (arith, is.entries_are)) in
      let put : take c.files files ≡ files = take_all c.files files (omega (arith, is.files_are)) in
      let gone : take c.dropped dropped ≡ dropped =
      take_all c.dropped dropped (omega (arith, is.dropped_are)) in
      record {
        few_entries = omega (arith, is.entries_are);
        few_files = omega (arith, is.files_are);
        few_dropped = omega (arith, is.dropped_are);
        held = λ o. subst (λ (l : List EntryNote).
            Contains c.held.items o ↔ IsThere l (take c.dropped dropped) o) (sym entries)
            (subst (λ (l : List ℕ). Contains c.held.items o ↔ IsThere notes l o) (sym gone)
            (is.held o));
        tables = subst (λ (l : List EntryNote).
            AreTables 0 most_tables l (take c.files files) c.tables.items) (sym entries)
            (subst (λ (l : List PutFile). AreTables 0 most_tables notes l c.tables.items) (sym put)
            is.tables);
        later = λ n among. absurd (nothing_there n (subst (λ (l : List EntryNote). Contains l n)
            (drop_all c.entries notes (omega (arith, is.entries_are))) among));
      }

  pub counted_none : IsAllCounted [] [] [] c → IsCounted notes files dropped c
  counted_none is =
      let entries : take c.entries notes ≡ [] =
      ap (λ (k : ℕ). take k notes) is.entries_are in
      let put : take c.files files ≡ [] = ap (λ (k : ℕ). take k files) is.files_are in
      let gone : take c.dropped dropped ≡ [] =
      ap (λ (k : ℕ). take k dropped) is.dropped_are in
      record {
        few_entries = omega (arith, is.entries_are);
        few_files = omega (arith, is.files_are);
        few_dropped = omega (arith, is.dropped_are);
        held = λ o. subst (λ (l : List EntryNote).
            Contains c.held.items o ↔ IsThere l (take c.dropped dropped) o) (sym entries)
            (subst (λ (l : List ℕ). Contains c.held.items o ↔ IsThere [] l o) (sym gone)
            (is.held o));
        tables = subst (λ (l : List EntryNote).
            AreTables 0 most_tables l (take c.files files) c.tables.items) (sym entries)
            (subst (λ (l : List PutFile). AreTables 0 most_tables [] l c.tables.items) (sym put)
            is.tables);
        later = λ n among among_gone. absurd (nothing_there (ordinal_of n.start.0)
            (subst (λ (l : List ℕ). Contains l (ordinal_of n.start.0)) gone among_gone));
      }

  pub with_notes : (more : List EntryNote)
      → ((n : EntryNote) → Contains more n → Contains dropped (ordinal_of n.start.0) → ⊥)
      → IsCounted notes files dropped c → IsCounted (notes ++ more) files dropped c
  with_notes more apart is =
      let first : take c.entries (notes ++ more) ≡ take c.entries notes =
      take-append-le c.entries notes more is.few_entries in
      let long = length-append notes more in
      record {
        few_entries = omega (arith, is.few_entries, long);
        few_files = is.few_files;
        few_dropped = is.few_dropped;
        held = λ o. subst (λ (l : List EntryNote).
            Contains c.held.items o ↔ IsThere l (take c.dropped dropped) o) (sym first)
            (is.held o);
        tables = subst (λ (l : List EntryNote).
            AreTables 0 most_tables l (take c.files files) c.tables.items) (sym first) is.tables;
        later = λ n among gone.
            elim (Contains-append_cases (drop c.entries notes) more n
            (subst (λ (l : List EntryNote). Contains l n)
            (drop-append-le c.entries notes more is.few_entries) among)) [
              | inl old ↦ is.later n old gone
              | inr new ↦ apart n new
                  (in_front c.dropped dropped (ordinal_of n.start.0) gone)
            ];
      }

  pub with_files : (more : List PutFile) → IsCounted notes files dropped c
      → IsCounted notes (files ++ more) dropped c
  with_files more is =
      let first : take c.files (files ++ more) ≡ take c.files files =
      take-append-le c.files files more is.few_files in
      let long = length-append files more in
      record {
        few_entries = is.few_entries;
        few_files = omega (arith, is.few_files, long);
        few_dropped = is.few_dropped;
        held = is.held;
        tables = subst (λ (l : List PutFile).
            AreTables 0 most_tables (take c.entries notes) l c.tables.items) (sym first) is.tables;
        later = is.later;
      }

  pub with_dropped : (more : List ℕ) → IsCounted notes files dropped c
      → IsCounted notes files (dropped ++ more) c
  with_dropped more is =
      let first : take c.dropped (dropped ++ more) ≡ take c.dropped dropped =
      take-append-le c.dropped dropped more is.few_dropped in
      let long = length-append dropped more in
      record {
        few_entries = is.few_entries;
        few_files = is.few_files;
        few_dropped = omega (arith, is.few_dropped, long);
        held = λ o. subst (λ (l : List ℕ).
            Contains c.held.items o ↔ IsThere (take c.entries notes) l o) (sym first) (is.held o);
        tables = is.tables;
        later = λ n among gone. is.later n among
            (subst (λ (l : List ℕ). Contains l (ordinal_of n.start.0)) first gone);
      }

-- ---- of a store

pub counted_put : (notes : List EntryNote) (files more : List PutFile) (dropped : List ℕ)
    (o : Option Counted) → IsCountedIn notes files dropped o
    → IsCountedIn notes (files ++ more) dropped o
counted_put notes files more dropped None is = tt
counted_put notes files more dropped (Some c) is = with_files notes files dropped c more is

pub counted_gone : (notes : List EntryNote) (files : List PutFile) (dropped more : List ℕ)
    (o : Option Counted) → IsCountedIn notes files dropped o
    → IsCountedIn notes files (dropped ++ more) o
counted_gone notes files dropped more None is = tt
counted_gone notes files dropped more (Some c) is = with_dropped notes files dropped c more is
