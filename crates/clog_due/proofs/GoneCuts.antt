-- The changes by which segments go, cut at one of them: an archive name that is given, or a segment
-- that goes behind it.
use Rattle.std.proofs.Common.{
  ◌≡◌,
  ◌⊎◌,
  ℕ,
  ◌+◌,
  ◌<◌,
  Bool,
  true,
  false,
  inl,
  inr,
  List,
  [],
  ◌∷◌,
  ◌++◌,
  Option,
  get_or,
  length,
  take,
  drop,
  Contains,
  refl,
  sym,
  ◌∙◌,
  ap,
  ap₂,
  subst,
  arith,
  append-nil,
  length-append,
}
use Rattle.std.specs.Prelude.{if◌then◌else◌, Err, Ok, Result, option_map}
use Rattle.std.proofs.lemmas.Bool.{true≢false}
use Rattle.std.proofs.lemmas.List.{take_all}
use Rattle.std.proofs.lemmas.List.Elements.{
  Contains-append_cases,
  Contains-append_left,
  Contains-append_right,
}
use Rattle.clog_spec.specs.Names.{archive_name_of, segment_name_of}
use Rattle.clog_base.proofs.Members.{further, here, nothing_there, only_one}
use Rattle.clog_disk.specs.declared.change.Change.{Change}
use Rattle.clog_disk.specs.declared.change.Change.TheVariants as change
use Rattle.clog_segments.specs.declared.section_log.dropping.DropFault.{DropFault}
use Rattle.clog_segments.specs.Discarding.{DropsBy}
use Rattle.clog_segments.specs.Discards.{all_go_by, goes_by, names_by, next_by}
use Rattle.clog_due.specs.StoreDrops.{dropped_by, named_by}
use Rattle.clog_segments.specs.StoreFolder.{Deeds, with_first_gone}
use Rattle.clog_due.proofs.Cuts.{AreQuiet, IsQuiet, cut_of, only_cut}
use Rattle.clog_due.proofs.DroppedLists.{first_archived, next_archived}

-- a segment gets its archive name, and loses its own
abbrev pub link_at : ℕ → Change
link_at id = change.Link (segment_name_of 6 id) (archive_name_of id)

abbrev pub remove_at : ℕ → Change
remove_at id = change.Remove (segment_name_of 6 id)

-- the first of them go, and the next one gets perhaps its archive name
abbrev pub first_go_by : Bool → ℕ → List ℕ → ℕ → Bool → List Change
first_go_by archives base os n is_named =
    all_go_by archives base (take n os) ++ next_by is_named base (drop n os)

-- by these changes, whatever was answered
pub made_by : {T : Type 0} (archives : Bool) (base : ℕ) (os : List ℕ)
    (before now : Option (List Change)) (r : Result T DropFault)
    → DropsBy archives base os before now r
    → now ≡ option_map (λ made.
    made ++ first_go_by archives base os (dropped_by (length os) r) (named_by r)) before
made_by archives base os before now (Ok done) drops =
    drops ∙ ap (λ (l : List Change). option_map (λ made. made ++ l) before)
    (sym (append-nil (all_go_by archives base os))
    ∙ ap₂ (λ (a : List ℕ) (b : List Change). all_go_by archives base a ++ b)
    (sym (take_all (length os) os (omega arith))) (unnamed (drop (length os) os)))
  where
    unnamed : (rest : List ℕ) → [] ≡ next_by false base rest
    unnamed [] = refl
    unnamed (o ∷ rest) = refl
made_by archives base os before now (Err why) drops = drops

-- ---- they append nothing and put no file

quiet_both : (a b : List Change) → AreQuiet a → AreQuiet b → AreQuiet (a ++ b)
quiet_both a b first next c among = elim (Contains-append_cases a b c among) [
  | inl x ↦ first c x
  | inr y ↦ next c y
]

quiet_names : (archives : Bool) (id : ℕ) → AreQuiet (names_by archives id)
quiet_names true id c among = subst IsQuiet (only_one (link_at id) c among) tt
quiet_names false id c among = absurd (nothing_there c among)

pub quiet_goes : (archives : Bool) (id : ℕ) → AreQuiet (goes_by archives id)
quiet_goes archives id =
    quiet_both (names_by archives id) (remove_at id ∷ []) (quiet_names archives id)
    (λ c among. subst IsQuiet (only_one (remove_at id) c among) tt)

quiet_all : (archives : Bool) (base : ℕ) (os : List ℕ) → AreQuiet (all_go_by archives base os)
quiet_all archives base [] = λ c among. absurd (nothing_there c among)
quiet_all archives base (o ∷ os) =
    quiet_both (goes_by archives (base + o)) (all_go_by archives base os)
    (quiet_goes archives (base + o)) (quiet_all archives base os)

quiet_next : (archives : Bool) (base : ℕ) (os : List ℕ) → AreQuiet (next_by archives base os)
quiet_next archives base [] = λ c among. absurd (nothing_there c among)
quiet_next archives base (o ∷ os) = quiet_names archives (base + o)

pub quiet_first : (archives : Bool) (base : ℕ) (os : List ℕ) (n : ℕ) (is_named : Bool)
    → AreQuiet (first_go_by archives base os n is_named)
quiet_first archives base os n is_named =
    quiet_both (all_go_by archives base (take n os)) (next_by is_named base (drop n os))
    (quiet_all archives base (take n os)) (quiet_next is_named base (drop n os))

-- ---- which one it is

-- one of these gets its archive name
pub record GetsName (archives : Bool) (base : ℕ) (os : List ℕ) (c : Change) : Type 0 where
  pub ordinal : ℕ
  pub listed : Contains os ordinal
  pub archived : archives ≡ true
  pub is : link_at (base + ordinal) ≡ c

-- one of these goes, behind its archive name where it gets one
pub record Goes (archives : Bool) (base : ℕ) (os : List ℕ) (front : List Change) (c : Change)
    : Type 0 where
  pub ordinal : ℕ
  pub listed : Contains os ordinal
  pub is : remove_at (base + ordinal) ≡ c
  pub archived : archives ≡ true → Contains front (link_at (base + ordinal))

pub one_cut : (archives : Bool) (base o : ℕ) (os : List ℕ) (front : List Change) (c : Change)
    (rest : List Change) → goes_by archives (base + o) ≡ front ++ c ∷ rest
    → GetsName archives base (o ∷ os) c ⊎ Goes archives base (o ∷ os) front c
one_cut true base o os [] c rest is =
    let same : link_at (base + o) ≡ c = cc in
    inl (record { ordinal = o; listed = here o os; archived = refl; is = same })
one_cut true base o os (d ∷ front) c rest is =
    let first : link_at (base + o) ≡ d = cc in
    let tails : remove_at (base + o) ∷ [] ≡ front ++ c ∷ rest = cc in
    inr (record {
      ordinal = o;
      listed = here o os;
      is = (only_cut (remove_at (base + o)) front c rest tails).1;
      archived = λ yes. subst (λ (x : Change). Contains (x ∷ front) (link_at (base + o))) first
          (here (link_at (base + o)) front);
    })
one_cut false base o os front c rest is =
    inr (record {
      ordinal = o;
      listed = here o os;
      is = (only_cut (remove_at (base + o)) front c rest is).1;
      archived = λ yes. absurd (true≢false (sym yes));
    })

pub go_cut : (archives : Bool) (base : ℕ) (os : List ℕ) (front : List Change) (c : Change)
    (rest : List Change) → all_go_by archives base os ≡ front ++ c ∷ rest
    → GetsName archives base os c ⊎ Goes archives base os front c
go_cut archives base [] front c rest is =
    absurd (omega (
      arith,
      ap (λ (l : List Change). length l) is,
      length-append front (c ∷ rest),
    ))
go_cut archives base (o ∷ os) front c rest is =
    elim (cut_of (goes_by archives (base + o)) (all_go_by archives base os) front c rest is) [
      | inl within ↦ one_cut archives base o os front c within.rest within.is
      | inr behind ↦ elim (go_cut archives base os behind.more c rest behind.rest_is) [
        | inl named ↦ inl (record {
          ordinal = named.ordinal;
          listed = further o os named.ordinal named.listed;
          archived = named.archived;
          is = named.is;
        })
        | inr goes ↦ inr (record {
          ordinal = goes.ordinal;
          listed = further o os goes.ordinal goes.listed;
          is = goes.is;
          archived = λ yes. subst
              (λ (f : List Change). Contains f (link_at (base + goes.ordinal)))
              (sym behind.front_is)
              (Contains-append_right (goes_by archives (base + o)) behind.more
              (link_at (base + goes.ordinal)) (goes.archived yes));
        })
      ]
    ]

pub next_cut : (is_named : Bool) (base : ℕ) (os : List ℕ) (front : List Change) (c : Change)
    (rest : List Change) → next_by is_named base os ≡ front ++ c ∷ rest
    → (is_named ≡ true) × (0 < length os) × (link_at (base + get_or os 0 0) ≡ c)
next_cut is_named base [] front c rest is =
    absurd (omega (
      arith,
      ap (λ (l : List Change). length l) is,
      length-append front (c ∷ rest),
    ))
next_cut false base (o ∷ os) front c rest is =
    absurd (omega (
      arith,
      ap (λ (l : List Change). length l) is,
      length-append front (c ∷ rest),
    ))
next_cut true base (o ∷ os) front c rest is =
    (refl, omega arith, (only_cut (link_at (base + o)) front c rest is).1)

-- ---- which are listed

in_had : (b : Bool) (had more : List ℕ) (o : ℕ) → Contains had o
    → Contains (if b then had ++ more else had) o
in_had true had more o among = Contains-append_left had more o among
in_had false had more o among = among

in_more : (b : Bool) (had more : List ℕ) (o : ℕ) → b ≡ true → Contains more o
    → Contains (if b then had ++ more else had) o
in_more true had more o is among = Contains-append_right had more o among
in_more false had more o is among = absurd (true≢false (sym is))

module _ (deeds : Deeds) (os : List ℕ) (n : ℕ) where
  abbrev Listed : Bool → ℕ → Type 0
  Listed is_named o = Contains (with_first_gone deeds os n is_named).archived o

  -- what had an archive name, and what has got one
  listed_as : (is_named : Bool) → (is_named ≡ true → deeds.archives ≡ true)
      → (is_named ≡ true → n < length os)
      → ((o : ℕ) → Contains deeds.archived o → Listed is_named o)
      × ((o : ℕ) → deeds.archives ≡ true → Contains (take n os) o → Listed is_named o)
  listed_as false archives inside =
      let same = sym (first_archived deeds os n) in (
        λ o had. subst (λ (l : List ℕ). Contains l o) same
            (in_had deeds.archives deeds.archived (take n os) o had),
        λ o is first. subst (λ (l : List ℕ). Contains l o) same
            (in_more deeds.archives deeds.archived (take n os) o is first),
      )
  listed_as true archives inside =
      let more = take n os ++ get_or os n 0 ∷ [] in
      let same = sym (next_archived deeds os n (inside refl) (archives refl) more refl) in (
        λ o had. subst (λ (l : List ℕ). Contains l o) same
            (in_had deeds.archives deeds.archived more o had),
        λ o is first. subst (λ (l : List ℕ). Contains l o) same
            (in_more deeds.archives deeds.archived more o is
            (Contains-append_left (take n os) (get_or os n 0 ∷ []) o first)),
      )

  pub had_listed : (is_named : Bool) → (is_named ≡ true → deeds.archives ≡ true)
      → (is_named ≡ true → n < length os) → (o : ℕ) → Contains deeds.archived o
      → Listed is_named o
  had_listed is_named archives inside = (listed_as is_named archives inside).0

  pub first_listed : (is_named : Bool) → (is_named ≡ true → deeds.archives ≡ true)
      → (is_named ≡ true → n < length os) → (o : ℕ) → deeds.archives ≡ true
      → Contains (take n os) o → Listed is_named o
  first_listed is_named archives inside = (listed_as is_named archives inside).1

  -- the next one
  pub next_listed : (is_named : Bool) → is_named ≡ true → deeds.archives ≡ true → n < length os
      → Listed is_named (get_or os n 0)
  next_listed false is archives inside = absurd (true≢false (sym is))
  next_listed true is archives inside =
      let more = take n os ++ get_or os n 0 ∷ [] in
      subst (λ (l : List ℕ). Contains l (get_or os n 0))
      (sym (next_archived deeds os n inside archives more refl))
      (in_more deeds.archives deeds.archived more (get_or os n 0) archives
      (Contains-append_right (take n os) (get_or os n 0 ∷ []) (get_or os n 0)
      (here (get_or os n 0) [])))
