-- What a store's disk has made since the opening, over changes that are no appends.
use Rattle.std.proofs.Common.{
  ◌≡◌,
  ℕ,
  ◌+◌,
  Bool,
  true,
  false,
  inl,
  inr,
  List,
  [],
  ◌∷◌,
  ◌++◌,
  length,
  take,
  drop,
  Option,
  refl,
  sym,
  ◌∙◌,
  ap,
  ap₂,
  subst,
  append-nil,
  arith,
}
use Rattle.std.specs.Prelude.{Err, Ok, Result, option_map}
use Rattle.std.proofs.lemmas.Bool.{true≢false}
use Rattle.std.proofs.lemmas.List.{take_all}
use Rattle.clog_disk.specs.declared.change.Change.{Change}
use Rattle.clog_crash.specs.Grown.{Append, appends_of}
use Rattle.clog_crash.specs.Log.{Write}
use Rattle.clog_crash.proofs.counts.Growing.{appends_of-append}
use Rattle.clog_segments.specs.declared.section_log.dropping.DropFault.{DropFault}
use Rattle.clog_segments.specs.Discarding.{DropsBy}
use Rattle.clog_segments.specs.Discards.{all_go_by, goes_by, names_by, next_by}
use Rattle.clog_segments.specs.Grows.{AreAppends, IsGrown}
use Rattle.clog_segments.specs.Life.{State}
use Rattle.clog_due.specs.StoreDrops.{dropped_by, named_by}
use Rattle.clog_segments.specs.StoreState.{HasAppended, HasGrown}
use Rattle.clog_store.proofs.NoteGrows.{added_both, nothing_added}

-- ---- what the disk has made

-- nothing of the log has changed, and no bytes were appended
unfoldable pub grown_beside : {D : Type 0} (changes : D → Option (List Change)) (first : D)
    (log now : State D) (more : List Change) → HasGrown changes first log
    → log.is_stopped ≡ false
    → now ≡ record log { disk = now.disk; is_stopped = now.is_stopped }
    → changes now.disk ≡ option_map (λ made. made ++ more) (changes log.disk)
    → appends_of more ≡ [] → HasGrown changes first now
grown_beside changes first log now more before runs same made none = record {
  added = before.added ++ more;
  changes_are = made ∙ ap (option_map (λ made. made ++ more)) before.changes_are
      ∙ added_both (changes first) before.added more;
  part = before.part;
  brought = elim before.brought [
    | inl all ↦ inl (ap (λ (x : State _). x.sections) same ∙ all)
    | inr torn ↦ absurd (true≢false (sym torn.2 ∙ runs))
  ];
  grown = subst (λ (l : List Append). IsGrown l now.past now.id before.part)
      (sym (appends_of-append before.added more
      ∙ ap (λ (l : List Append). appends_of before.added ++ l) none
      ∙ append-nil (appends_of before.added)))
      (subst (λ (l : List Write). IsGrown (appends_of before.added) l now.id before.part)
      (sym (ap (λ (x : State _). x.past) same))
      (subst (λ (k : ℕ). IsGrown (appends_of before.added) log.past k before.part)
      (sym (ap (λ (x : State _). x.id) same)) before.grown));
}

-- no further change was made
pub appended_still : {D : Type 0} (changes : D → Option (List Change)) (first : D)
    (log now : State D) → HasAppended changes first log → log.is_stopped ≡ false
    → now ≡ record log { disk = now.disk; is_stopped = now.is_stopped }
    → changes now.disk ≡ changes log.disk → HasAppended changes first now
unfolding grown_beside
appended_still changes first log now before runs same made = record {
  growth = grown_beside changes first log now [] before.growth runs same
      (made ∙ nothing_added (changes log.disk)) refl;
  alone = subst AreAppends (sym (append-nil before.growth.added)) before.alone;
}

-- ---- segments that go

named_none : (archives : Bool) (id : ℕ) → appends_of (names_by archives id) ≡ []
named_none true id = refl
named_none false id = refl

goes_none : (archives : Bool) (id : ℕ) → appends_of (goes_by archives id) ≡ []
goes_none true id = refl
goes_none false id = refl

all_go_none : (archives : Bool) (base : ℕ) (ordinals : List ℕ)
    → appends_of (all_go_by archives base ordinals) ≡ []
all_go_none archives base [] = refl
all_go_none archives base (o ∷ ordinals) =
    appends_of-append (goes_by archives (base + o)) (all_go_by archives base ordinals)
    ∙ ap₂ (λ (a b : List Append). a ++ b) (goes_none archives (base + o))
    (all_go_none archives base ordinals)

next_none : (archives : Bool) (base : ℕ) (ordinals : List ℕ)
    → appends_of (next_by archives base ordinals) ≡ []
next_none archives base [] = refl
next_none archives base (o ∷ ordinals) = named_none archives (base + o)

-- by no append
pub dropped_by_none : {T : Type 0} (archives : Bool) (base : ℕ) (ordinals : List ℕ)
    (before now : Option (List Change)) (r : Result T DropFault)
    → DropsBy archives base ordinals before now r
    → (more : List Change) × (now ≡ option_map (λ made. made ++ more) before)
    × (appends_of more ≡ [])
dropped_by_none archives base ordinals before now (Ok done) drops =
    (all_go_by archives base ordinals, drops, all_go_none archives base ordinals)
dropped_by_none archives base ordinals before now (Err why) drops =
    let front = all_go_by archives base (take why.dropped ordinals) in
    let next = next_by why.is_named base (drop why.dropped ordinals) in (
      front ++ next,
      drops,
      appends_of-append front next
          ∙ ap₂ (λ (a b : List Append). a ++ b)
          (all_go_none archives base (take why.dropped ordinals))
          (next_none why.is_named base (drop why.dropped ordinals)),
    )

-- where none has gone, and none has got its archive name, there is no change
pub no_change : {T : Type 0} (archives : Bool) (base : ℕ) (ordinals : List ℕ)
    (before now : Option (List Change)) (r : Result T DropFault)
    → DropsBy archives base ordinals before now r
    → take (dropped_by (length ordinals) r) ordinals ≡ [] → named_by r ≡ false → now ≡ before
no_change archives base ordinals before now (Ok done) drops none named =
    let all : ordinals ≡ [] = sym (take_all (length ordinals) ordinals (omega arith)) ∙ none in
    drops ∙ ap (λ (l : List ℕ). option_map (λ made. made ++ all_go_by archives base l) before) all
    ∙ sym (nothing_added before)
no_change archives base ordinals before now (Err why) drops none named =
    let rest = drop why.dropped ordinals in
    drops
    ∙ ap (λ (l : List ℕ). option_map (λ made. made ++ (all_go_by archives base l
    ++ next_by why.is_named base rest)) before) none
    ∙ ap (λ (b : Bool). option_map (λ made. made ++ next_by b base rest) before) named
    ∙ ap (λ (l : List Change). option_map (λ made. made ++ l) before) (unnamed rest)
    ∙ sym (nothing_added before)
  where
    unnamed : (os : List ℕ) → next_by false base os ≡ []
    unnamed [] = refl
    unnamed (o ∷ os) = refl
