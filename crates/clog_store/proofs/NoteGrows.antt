-- The changes of a disk bring what the steps of a log of notes write.
use Rattle.std.proofs.Common.{
  ◌≡◌,
  ℕ,
  ◌<◌,
  ◌^◌,
  inl,
  inr,
  List,
  [],
  ◌∷◌,
  ◌++◌,
  length,
  take,
  drop,
  get_or,
  take-append-drop,
  Option,
  Some,
  None,
  refl,
  sym,
  ◌∙◌,
  ap,
  subst,
  arith,
  length-append,
  append-nil,
  append_assoc,
  true,
  false,
  true≢false,
  ◌≤◌,
}
use Rattle.std.specs.Prelude.{Result, Ok, Err, option_map}
use Rattle.std.specs.List.{AllPairs, Contains}
use Rattle.std.proofs.lemmas.List.{get_or_default}
use Rattle.std.proofs.lemmas.List.Quantifiers.{all_pairs_push}
use Rattle.std.proofs.lemmas.List.Elements.{
  Contains-append_cases,
  Contains-append_left,
  Contains-append_right,
}
use Rattle.clog_spec.specs.Names.{segment_name_of}
use Rattle.clog_base.proofs.Members.{further, here, nothing_there, only_one}
use Rattle.clog_disk.specs.declared.change.Change.{Change}
use Rattle.clog_disk.specs.declared.change.Change.TheVariants as change
use Rattle.clog_scan.specs.Cut.{Section}
use Rattle.clog_crash.specs.Grown.{Append, appends_of, grown}
use Rattle.clog_crash.specs.Log.{Write}
use Rattle.clog_crash.specs.Sections.{Brings, segment_bytes}
use Rattle.clog_crash.proofs.changes.Names.{one_id}
use Rattle.clog_crash.proofs.counts.Growing.{
  appends_of-append,
  grown-append,
  grown_elsewhere,
  grown_here,
}
use Rattle.clog_disk.specs.Changes.{Adds}
use Rattle.clog_segments.specs.declared.written.StoreFault.{StoreFault}
use Rattle.clog_segments.specs.declared.written.StoreFault.TheVariants.{Stopped, OutOfMemory}
use Rattle.clog_segments.specs.Grows.{
  AreAppends,
  AreFilled,
  Grows,
  IsAppend,
  IsGrown,
  IsLower,
  Writes,
  segments_with,
}
use Rattle.clog_segments.specs.Life.{State, past_with}
use Rattle.clog_segments.specs.Stepped.{Keeps}

-- bytes that bring a section stand behind those of the others
pub spells : (id k : ℕ) (ss : List Section) (x : Section) (bytes : List ℕ)
    → Brings id (take k ss) (drop k ss) (x ∷ []) bytes
    → segment_bytes id ss ++ bytes ≡ segment_bytes id (ss ++ x ∷ [])
spells id k ss x bytes b =
    let all : take k ss ++ drop k ss ≡ ss = take-append-drop k ss in
    ap (λ (l : List Section). segment_bytes id l ++ bytes) (sym all) ∙ b.spelled
    ∙ ap (segment_bytes id)
    (sym (append_assoc (take k ss) (drop k ss) (x ∷ []))
    ∙ ap (λ (l : List Section). l ++ x ∷ []) all)

none_grown : (appends : List Append) (name : List ℕ)
    → ((a : Append) → Contains appends a → a.0 ≡ name → ⊥) → grown appends name ≡ []
none_grown [] name apart = refl
none_grown (a ∷ appends) name apart =
    grown_elsewhere a.0 name a.1 appends (apart a (here a appends))
    ∙ none_grown appends name (λ b among. apart b (further a appends b among))

-- names of segments with different ids
apart_names : (id other : ℕ) → other < id → id < 2 ^ 63
    → segment_name_of 6 id ≡ segment_name_of 6 other → ⊥
apart_names id other less fits same =
    let one = one_id other id (omega (arith, less, fits)) fits same in omega (arith, one, less)

-- one segment more, above the others
pub rises_with : (past : List Write) (w : Write) → AllPairs IsLower past
    → ((v : Write) → Contains past v → v.id < w.id) → AllPairs IsLower (past ++ w ∷ [])
rises_with past w rise below =
    all_pairs_push IsLower past w rise (λ k d inside.
    let v = get_or past k d in below v (k, inside, get_or_default past k v d inside))

module _ (past : List Write) (id : ℕ) (sections : List Section) (appends : List Append)
    (below : (w : Write) → Contains past w → w.id < id) (g : IsGrown appends past id sections) where
  abbrev hand : Write
  hand = record { id = id; sections = sections }

  -- one section more
  module _ (fits : id < 2 ^ 63) (section : Section) (bytes : List ℕ)
      (spelled : segment_bytes id sections ++ bytes ≡ segment_bytes id (sections ++ section ∷ []))
      (some : 0 < length section.payloads) where
    abbrev all : List Section
    all = sections ++ section ∷ []

    abbrev now : Write
    now = record { id = id; sections = all }

    abbrev more : List Append
    more = (segment_name_of 6 id, bytes) ∷ []

    there : Contains (segments_with past id all) now
    there = Contains-append_right past (now ∷ []) now (here now [])

    each_more : (w : Write) → Contains (segments_with past id all) w
        → grown (appends ++ more) (segment_name_of 6 w.id) ≡ segment_bytes w.id w.sections
    each_more w among = elim (Contains-append_cases past (now ∷ []) w among) [
      | inl before ↦
          grown-append appends more (segment_name_of 6 w.id)
          ∙ ap (λ (l : List ℕ). grown appends (segment_name_of 6 w.id) ++ l)
          (grown_elsewhere (segment_name_of 6 id) (segment_name_of 6 w.id) bytes []
          (apart_names id w.id (below w before) fits))
          ∙ append-nil (grown appends (segment_name_of 6 w.id))
          ∙ g.each w (Contains-append_left past (hand ∷ []) w before)
      | inr last ↦ subst
          (λ (v : Write). grown (appends ++ more) (segment_name_of 6 v.id)
          ≡ segment_bytes v.id v.sections) (only_one now w last)
          (grown-append appends more (segment_name_of 6 id)
          ∙ ap (λ (l : List ℕ). grown appends (segment_name_of 6 id) ++ l)
          (grown_here (segment_name_of 6 id) bytes [] ∙ append-nil bytes)
          ∙ ap (λ (l : List ℕ). l ++ bytes)
          (g.each hand (Contains-append_right past (hand ∷ []) hand (here hand [])))
          ∙ spelled)
    ]

    long : 0 < length all
    long = omega (arith, length-append sections (section ∷ []))

    only_more : (a : Append) → Contains (appends ++ more) a
        → (w : Write) × Contains (segments_with past id all) w × (0 < length w.sections)
        × (a.0 ≡ segment_name_of 6 w.id)
    only_more a among = elim (Contains-append_cases appends more a among) [
      | inl before ↦
          let f = g.only a before in
          elim (Contains-append_cases past (hand ∷ []) f.0 f.1) [
            | inl old ↦ (f.0, Contains-append_left past (now ∷ []) f.0 old, f.2, f.3)
            | inr last ↦ (
              now,
              there,
              long,
              f.3 ∙ ap (λ (w : Write). segment_name_of 6 w.id) (sym (only_one hand f.0 last)),
            )
          ]
      | inr last ↦ (
        now,
        there,
        long,
        ap (λ (b : Append). b.0) (sym (only_one (segment_name_of 6 id, bytes) a last)),
      )
    ]

    filled_now : (s : Section) → Contains all s → 0 < length s.payloads
    filled_now s among = elim (Contains-append_cases sections (section ∷ []) s among) [
      | inl old ↦ g.filled hand (Contains-append_right past (hand ∷ []) hand (here hand [])) s old
      | inr last ↦
          subst (λ (x : Section). 0 < length x.payloads) (only_one section s last) some
    ]

    filled_more : AreFilled (segments_with past id all)
    filled_more w among = elim (Contains-append_cases past (now ∷ []) w among) [
      | inl before ↦ g.filled w (Contains-append_left past (hand ∷ []) w before)
      | inr last ↦ subst
          (λ (v : Write). (s : Section) → Contains v.sections s → 0 < length s.payloads)
          (only_one now w last) filled_now
    ]

    pub grown_more : IsGrown (appends ++ more) past id all
    grown_more = record {
      each = each_more;
      only = only_more;
      filled = filled_more;
      rise = g.rise;
      below = below;
    }

  -- in a further segment, nothing was appended to any later one
  low : (w : Write) → Contains (segments_with past id sections) w → w.id ≤ id
  low w among = elim (Contains-append_cases past (hand ∷ []) w among) [
    | inl before ↦ omega (arith, below w before)
    | inr last ↦ subst (λ (v : Write). v.id ≤ id) (only_one hand w last) (omega arith)
  ]

  module _ (next : ℕ) (above : id < next) (fits : next < 2 ^ 63) where
    abbrev fresh : Write
    fresh = record { id = next; sections = [] }

    none_yet : (w : Write) → Contains (fresh ∷ []) w
        → grown appends (segment_name_of 6 w.id) ≡ segment_bytes w.id w.sections
    none_yet w last = subst
        (λ (v : Write). grown appends (segment_name_of 6 v.id) ≡ segment_bytes v.id v.sections)
        (only_one fresh w last)
        (none_grown appends (segment_name_of 6 next) (λ a listed same.
        let f = g.only a listed in
        apart_names next f.0.id (omega (arith, low f.0 f.1, above)) fits (sym same ∙ f.3)))

    empty_yet : (w : Write) → Contains (fresh ∷ []) w → (s : Section) → Contains w.sections s
        → 0 < length s.payloads
    empty_yet w last = subst
        (λ (v : Write). (s : Section) → Contains v.sections s → 0 < length s.payloads)
        (only_one fresh w last) (λ s among. absurd (nothing_there s among))

    pub grown_rolled : IsGrown appends (segments_with past id sections) next []
    grown_rolled =
        let first = segments_with past id sections in
        record {
          each = λ w among. elim (Contains-append_cases first (fresh ∷ []) w among) [
            | inl before ↦ g.each w before
            | inr last ↦ none_yet w last
          ];
          only = λ a listed.
              let f = g.only a listed in
              (f.0, Contains-append_left first (fresh ∷ []) f.0 f.1, f.2, f.3);
          filled = λ w among. elim (Contains-append_cases first (fresh ∷ []) w among) [
            | inl before ↦ g.filled w before
            | inr last ↦ empty_yet w last
          ];
          rise = rises_with past hand g.rise below;
          below = λ w among. omega (arith, low w among, above);
        }

    -- in its place, where it has no section
    pub grown_skipped : sections ≡ [] → IsGrown appends past next []
    grown_skipped none = record {
      each = λ w among. elim (Contains-append_cases past (fresh ∷ []) w among) [
        | inl before ↦ g.each w (Contains-append_left past (hand ∷ []) w before)
        | inr last ↦ none_yet w last
      ];
      only = λ a listed.
          let f = g.only a listed in
          elim (Contains-append_cases past (hand ∷ []) f.0 f.1) [
            | inl before ↦ (f.0, Contains-append_left past (fresh ∷ []) f.0 before, f.2, f.3)
            | inr last ↦
                let same = ap (λ (w : Write). length w.sections) (only_one hand f.0 last) in
                absurd (omega (arith, same, f.2, ap length none))
          ];
      filled = λ w among. elim (Contains-append_cases past (fresh ∷ []) w among) [
        | inl before ↦ g.filled w (Contains-append_left past (hand ∷ []) w before)
        | inr last ↦ empty_yet w last
      ];
      rise = g.rise;
      below = λ w among. omega (arith, below w among, above);
    }

    pub grown_on : IsGrown appends (past_with past id sections) next []
    grown_on = by sections refl
      where
        by : (ss : List Section) → sections ≡ ss → IsGrown appends (past_with past id ss) next []
        by [] are = grown_skipped are
        by (x ∷ xs) are =
            subst (λ (l : List Section). IsGrown appends (segments_with past id l) next []) are
            grown_rolled

-- ---- from state to state

pub nothing_added : (o : Option (List Change)) → o ≡ option_map (λ made. made ++ []) o
nothing_added None = refl
nothing_added (Some made) = ap Some (sym (append-nil made))

pub added_both : (o : Option (List Change)) (x y : List Change)
    → option_map (λ made. made ++ y) (option_map (λ made. made ++ x) o)
    ≡ option_map (λ made. made ++ (x ++ y)) o
added_both None x y = refl
added_both (Some made) x y = ap Some (append_assoc made x y)

pub no_appends : AreAppends []
no_appends c among = absurd (nothing_there c among)

one_append : (name bytes : List ℕ) → AreAppends (change.Append name bytes ∷ [])
one_append name bytes c among =
    subst IsAppend (only_one (change.Append name bytes) c among) tt

pub appends_both : (x y : List Change) → AreAppends x → AreAppends y → AreAppends (x ++ y)
appends_both x y first next c among = elim (Contains-append_cases x y c among) [
  | inl h ↦ first c h
  | inr h ↦ next c h
]

module _ {D : Type 0} (changes : D → Option (List Change)) where
  -- nothing was added
  pub grows_none : (a b : State D) → changes b.disk ≡ changes a.disk
      → ((appends : List Append) → IsGrown appends a.past a.id a.sections
      → IsGrown appends b.past b.id b.sections) → Grows changes a b
  grows_none a b same still = record {
    added = [];
    changes_are = same ∙ nothing_added (changes a.disk);
    appends = no_appends;
    grows = λ appends g.
        subst (λ (l : List Append). IsGrown l b.past b.id b.sections) (sym (append-nil appends))
        (still appends g);
  }

  pub grows_same : (a b : State D) → changes b.disk ≡ changes a.disk → b.past ≡ a.past
      → b.id ≡ a.id → b.sections ≡ a.sections → Grows changes a b
  grows_same a b same past id sections =
      grows_none a b same (λ appends g.
      subst (λ (l : List Write). IsGrown appends l b.id b.sections) (sym past)
      (subst (λ (k : ℕ). IsGrown appends a.past k b.sections) (sym id)
      (subst (λ (l : List Section). IsGrown appends a.past a.id l) (sym sections) g)))

  -- one section more
  pub grows_more : (a b : State D) (section : Section) (bytes : List ℕ)
      → changes b.disk ≡ option_map (λ made.
      made ++ change.Append (segment_name_of 6 a.id) bytes ∷ []) (changes a.disk)
      → b.past ≡ a.past → b.id ≡ a.id → b.sections ≡ a.sections ++ section ∷ []
      → ((w : Write) → Contains a.past w → w.id < a.id) → a.id < 2 ^ 63
      → segment_bytes a.id a.sections ++ bytes ≡ segment_bytes a.id (a.sections ++ section ∷ [])
      → 0 < length section.payloads → Grows changes a b
  grows_more a b section bytes adds past id sections below fits spelled some = record {
    added = change.Append (segment_name_of 6 a.id) bytes ∷ [];
    changes_are = adds;
    appends = one_append (segment_name_of 6 a.id) bytes;
    grows = λ appends g.
        let now = appends ++ (segment_name_of 6 a.id, bytes) ∷ [] in
        subst (λ (l : List Write). IsGrown now l b.id b.sections) (sym past)
        (subst (λ (k : ℕ). IsGrown now a.past k b.sections) (sym id)
        (subst (λ (l : List Section). IsGrown now a.past a.id l) (sym sections)
        (grown_more a.past a.id a.sections appends below g fits section bytes spelled some)));
  }

  pub grows_rolled : (a b : State D) → changes b.disk ≡ changes a.disk
      → b.past ≡ past_with a.past a.id a.sections → b.sections ≡ [] → a.id < b.id
      → b.id < 2 ^ 63 → ((w : Write) → Contains a.past w → w.id < a.id) → Grows changes a b
  grows_rolled a b same past sections above fits below =
      grows_none a b same (λ appends g.
      subst (λ (l : List Write). IsGrown appends l b.id b.sections) (sym past)
      (subst (λ (l : List Section). IsGrown appends (past_with a.past a.id a.sections) b.id l)
      (sym sections)
      (grown_on a.past a.id a.sections appends below g b.id above fits)))

  pub grows_then : (a b c : State D) → Grows changes a b → Grows changes b c → Grows changes a c
  grows_then a b c first next =
      let x = first.added in
      let y = next.added in
      record {
        added = x ++ y;
        changes_are = next.changes_are
            ∙ ap (option_map (λ made. made ++ y)) first.changes_are
            ∙ added_both (changes a.disk) x y;
        appends = appends_both x y first.appends next.appends;
        grows = λ appends g.
            subst (λ (l : List Append). IsGrown l c.past c.id c.sections)
            (append_assoc appends (appends_of x) (appends_of y)
            ∙ ap (λ (l : List Append). appends ++ l) (sym (appends_of-append x y)))
            (next.grows (appends ++ appends_of x) (first.grows appends g));
      }

  -- ---- whether or not the disk has failed

  pub writes_of : (a b : State D) → Grows changes a b → Writes changes a b
  writes_of a b grown = record {
    added = grown.added;
    changes_are = grown.changes_are;
    appends = grown.appends;
    writes = λ appends g. (b.sections, inl refl, grown.grows appends g);
  }

  -- where it has not, all sections were brought
  pub grows_of : (a b : State D) → Writes changes a b → b.is_stopped ≡ false → Grows changes a b
  grows_of a b written runs = record {
    added = written.added;
    changes_are = written.changes_are;
    appends = written.appends;
    grows = λ appends g.
        let now = appends ++ appends_of written.added in
        let then_ = written.writes appends g in
        elim then_.1 [
          | inl all ↦ subst (λ (l : List Section). IsGrown now b.past b.id l) (sym all) then_.2
          | inr torn ↦ absurd (true≢false (sym torn.2 ∙ runs))
        ];
  }

  pub writes_then : (a b c : State D) → Grows changes a b → Writes changes b c
      → Writes changes a c
  writes_then a b c first next =
      let x = first.added in
      let y = next.added in
      record {
        added = x ++ y;
        changes_are = next.changes_are
            ∙ ap (option_map (λ made. made ++ y)) first.changes_are
            ∙ added_both (changes a.disk) x y;
        appends = appends_both x y first.appends next.appends;
        writes = λ appends g.
            let then_ = next.writes (appends ++ appends_of x) (first.grows appends g) in (
              then_.0,
              then_.1,
              subst (λ (l : List Append). IsGrown l c.past c.id then_.0)
                  (append_assoc appends (appends_of x) (appends_of y)
                  ∙ ap (λ (l : List Append). appends ++ l) (sym (appends_of-append x y)))
                  then_.2,
            );
      }

  writes_torn : (a b : State D) (section : Section) → changes b.disk ≡ changes a.disk
      → a.synced ≤ length a.sections
      → b ≡ record a {
        disk = b.disk;
        sections = a.sections ++ section ∷ [];
        is_stopped = true;
      } → Writes changes a b
  writes_torn a b section same few torn = record {
    added = [];
    changes_are = same ∙ nothing_added (changes a.disk);
    appends = no_appends;
    writes = λ appends g. (
      a.sections,
      inr (
        section,
        ap (λ (s : State D). s.sections) torn,
        ap (λ (s : State D). s.is_stopped) torn,
        omega (arith, few, ap (λ (s : State D). s.synced) torn),
      ),
      subst (λ (l : List Append). IsGrown l b.past b.id a.sections)
          (sym (append-nil appends))
          (subst (λ (l : List Write). IsGrown appends l b.id a.sections)
          (sym (ap (λ (s : State D). s.past) torn))
          (subst (λ (k : ℕ). IsGrown appends a.past k a.sections)
          (sym (ap (λ (s : State D). s.id) torn)) g)),
    );
  }

  pub writes_kept : {T : Type 0} (a b : State D) (section : Section) (bytes : List ℕ)
      (result : Result T StoreFault) → Keeps a b section result
      → Adds (change.Append (segment_name_of 6 a.id) bytes) (changes a.disk) (changes b.disk)
      result → a.is_stopped ≡ false → a.id < 2 ^ 63
      → ((w : Write) → Contains a.past w → w.id < a.id) → a.synced ≤ length a.sections
      → segment_bytes a.id a.sections ++ bytes ≡ segment_bytes a.id (a.sections ++ section ∷ [])
      → 0 < length section.payloads → Writes changes a b
  writes_kept a b section bytes (Ok done) keeps adds runs fits low few spelled some =
      writes_of a b (grows_more a b section bytes adds (ap (λ (s : State D). s.past) keeps)
      (ap (λ (s : State D). s.id) keeps) (ap (λ (s : State D). s.sections) keeps) low fits spelled
      some)
  writes_kept a b section bytes (Err OutOfMemory) keeps adds runs fits low few spelled some =
      writes_of a b (grows_same a b adds (ap (λ (s : State D). s.past) keeps)
      (ap (λ (s : State D). s.id) keeps) (ap (λ (s : State D). s.sections) keeps))
  writes_kept a b section bytes (Err Stopped) keeps adds runs fits low few spelled some =
      elim keeps [
        | inl was ↦ absurd (true≢false (sym was.0 ∙ runs))
        | inr torn ↦ writes_torn a b section adds few torn
      ]
