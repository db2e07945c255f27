-- Changes that are cut at one of them, where they are two lists one behind the other; and which
-- files further changes put.
use Rattle.std.proofs.Common.{
  ◌≡◌,
  ◌⊎◌,
  ℕ,
  inl,
  inr,
  List,
  [],
  ◌∷◌,
  ◌++◌,
  length,
  refl,
  sym,
  ◌∙◌,
  ap,
  subst,
  arith,
  append-nil,
  length-append,
}
use Rattle.std.specs.Prelude.{Contains, ⊤}
use Rattle.std.proofs.lemmas.List.{map-append}
use Rattle.std.proofs.lemmas.List.Elements.{Contains-push_cases}
use Rattle.clog_base.proofs.Members.{further, here, nothing_there}
use Rattle.clog_disk.specs.declared.change.Change.{Change}
use Rattle.clog_disk.specs.declared.change.Change.TheVariants as change
use Rattle.clog_crash.specs.Grown.{appends_of}
use Rattle.path_core.specs.Keeper.{PutFile}
use Rattle.clog_segments.specs.Grows.{AreAppends}
use Rattle.clog_segments.specs.StoreFolder.{PlacedFile}
use Rattle.clog_segments.specs.StoreOrder.{ArePutBy, IsSpelled, publish_of, publishes_of}

-- ---- cuts

-- the first of two lists is cut there
pub record CutWithin {A : Type 0} (one front : List A) (x : A) : Type 0 where
  pub rest : List A
  pub is : one ≡ front ++ x ∷ rest

-- the second one is, and the first one is in front
pub record CutBehind {A : Type 0} (one two front : List A) (x : A) (rest : List A) : Type 0 where
  pub more : List A
  pub front_is : front ≡ one ++ more
  pub rest_is : two ≡ more ++ x ∷ rest

pub cut_of : {A : Type 0} (one two front : List A) (x : A) (rest : List A)
    → one ++ two ≡ front ++ x ∷ rest → CutWithin one front x ⊎ CutBehind one two front x rest
cut_of [] two front x rest is = inr (record { more = front; front_is = refl; rest_is = is })
cut_of (y ∷ one) two [] x rest is =
    let same : y ≡ x = cc in
    inl (record { rest = one; is = ap (λ (z : _). z ∷ one) same })
cut_of (y ∷ one) two (z ∷ front) x rest is =
    let same : y ≡ z = cc in
    let tails : one ++ two ≡ front ++ x ∷ rest = cc in
    elim (cut_of one two front x rest tails) [
      | inl within ↦ inl (record { rest = within.rest; is = (let i = within.is in cc) })
      | inr behind ↦ inr (record {
        more = behind.more;
        front_is = (let f = behind.front_is in cc);
        rest_is = behind.rest_is;
      })
    ]

-- a list of none is cut nowhere
pub not_cut : {A : Type 0} (front : List A) (x : A) (rest : List A) → [] ≡ front ++ x ∷ rest → ⊥
not_cut front x rest is = omega (arith, ap length is, length-append front (x ∷ rest))

-- a list of one
pub only_cut : {A : Type 0} (y : A) (front : List A) (x : A) (rest : List A)
    → y ∷ [] ≡ front ++ x ∷ rest → ([] ≡ front) × (y ≡ x)
only_cut y [] x rest is = let same : y ≡ x = cc in (refl, same)
only_cut y (z ∷ front) x rest is =
    absurd (omega (arith, ap length is, length-append front (x ∷ rest)))

-- ---- changes that put no file

-- the change appends nothing and puts no file
abbrev pub IsQuiet : Change → Type 0
IsQuiet (change.Append name bytes) = ⊥
IsQuiet (change.Publish name bytes) = ⊥
IsQuiet (change.Link old new) = ⊤
IsQuiet (change.Remove name) = ⊤

abbrev pub AreQuiet : List Change → Type 0
AreQuiet changes = (c : Change) → Contains changes c → IsQuiet c

later : (c : Change) (cs : List Change) → AreQuiet (c ∷ cs) → AreQuiet cs
later c cs quiet d among = quiet d (further c cs d among)

pub quiet_appends : (cs : List Change) → AreQuiet cs → appends_of cs ≡ []
quiet_appends [] quiet = refl
quiet_appends (change.Append name bytes ∷ cs) quiet =
    absurd (quiet (change.Append name bytes) (here (change.Append name bytes) cs))
quiet_appends (change.Publish name bytes ∷ cs) quiet =
    absurd (quiet (change.Publish name bytes) (here (change.Publish name bytes) cs))
quiet_appends (change.Link old new ∷ cs) quiet =
    quiet_appends cs (later (change.Link old new) cs quiet)
quiet_appends (change.Remove name ∷ cs) quiet =
    quiet_appends cs (later (change.Remove name) cs quiet)

pub quiet_publishes : (cs : List Change) → AreQuiet cs → publishes_of cs ≡ []
quiet_publishes [] quiet = refl
quiet_publishes (change.Append name bytes ∷ cs) quiet =
    absurd (quiet (change.Append name bytes) (here (change.Append name bytes) cs))
quiet_publishes (change.Publish name bytes ∷ cs) quiet =
    absurd (quiet (change.Publish name bytes) (here (change.Publish name bytes) cs))
quiet_publishes (change.Link old new ∷ cs) quiet =
    quiet_publishes cs (later (change.Link old new) cs quiet)
quiet_publishes (change.Remove name ∷ cs) quiet =
    quiet_publishes cs (later (change.Remove name) cs quiet)

pub append_publishes : (cs : List Change) → AreAppends cs → publishes_of cs ≡ []
append_publishes [] alone = refl
append_publishes (change.Append name bytes ∷ cs) alone =
    append_publishes cs (λ d among. alone d (further (change.Append name bytes) cs d among))
append_publishes (change.Publish name bytes ∷ cs) alone =
    absurd (alone (change.Publish name bytes) (here (change.Publish name bytes) cs))
append_publishes (change.Link old new ∷ cs) alone =
    absurd (alone (change.Link old new) (here (change.Link old new) cs))
append_publishes (change.Remove name ∷ cs) alone =
    absurd (alone (change.Remove name) (here (change.Remove name) cs))

-- ---- files that changes put

publishes_of-append : (changes more : List Change)
    → publishes_of (changes ++ more) ≡ publishes_of changes ++ publishes_of more
publishes_of-append [] more = refl
publishes_of-append (change.Append name bytes ∷ changes) more = publishes_of-append changes more
publishes_of-append (change.Publish name bytes ∷ changes) more =
    ap (λ (l : List Change). change.Publish name bytes ∷ l) (publishes_of-append changes more)
publishes_of-append (change.Link old new ∷ changes) more = publishes_of-append changes more
publishes_of-append (change.Remove name ∷ changes) more = publishes_of-append changes more

-- none was put
pub put_none : (base : ℕ) → ArePutBy base [] []
put_none base = record {
  placed = [];
  are = refl;
  each = λ p among. absurd (nothing_there p among);
  put = refl;
}

-- no further one
pub put_still : (base : ℕ) (changes more : List Change) (files : List PutFile)
    → publishes_of more ≡ [] → ArePutBy base changes files
    → ArePutBy base (changes ++ more) files
put_still base changes more files none by = record {
  placed = by.placed;
  are = by.are;
  each = by.each;
  put = publishes_of-append changes more
      ∙ ap (λ (l : List Change). publishes_of changes ++ l) none
      ∙ append-nil (publishes_of changes) ∙ by.put;
}

-- one file more
pub put_one : (base : ℕ) (changes : List Change) (files : List PutFile) (p : PlacedFile)
    → IsSpelled base p → ArePutBy base changes files
    → ArePutBy base (changes ++ publish_of p ∷ []) (files ++ p.put ∷ [])
put_one base changes files p spelled by = record {
  placed = by.placed ++ p ∷ [];
  are = map-append (λ (x : PlacedFile). x.put) by.placed (p ∷ [])
      ∙ ap (λ (l : List PutFile). l ++ p.put ∷ []) by.are;
  each = λ q among. elim (Contains-push_cases by.placed p q among) [
    | inl old ↦ by.each q old
    | inr same ↦ subst (IsSpelled base) same spelled
  ];
  put = publishes_of-append changes (publish_of p ∷ [])
      ∙ ap (λ (l : List Change). l ++ publish_of p ∷ []) by.put
      ∙ sym (map-append publish_of by.placed (p ∷ []));
}
