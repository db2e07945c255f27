-- The options that words give are determined by the words.
use Rattle.std.proofs.Common.{
  ◌≡◌,
  ℕ,
  ◌<◌,
  List,
  [],
  ◌∷◌,
  ◌++◌,
  length,
  get_or,
  drop,
  Option,
  Some,
  None,
  refl,
  ap,
  ap₂,
  subst,
  sym,
  ◌∙◌,
  inl,
  inr,
  arith,
  length-append,
}
use Rattle.clog_words.specs.Given.{
  Setting,
  HasNoEquals,
  Gives,
  GivesAll,
  BeginsWithDash,
  IsAlone,
  IsFirst,
  IsFresh,
  IsWritten,
  dashed,
}

-- ---- one option

-- a text is cut at its first `=` alone
pub cut_once : (front other back rest : List ℕ) → HasNoEquals front → HasNoEquals other
    → front ++ 61 ∷ back ≡ other ++ 61 ∷ rest → (front ≡ other) × (back ≡ rest)
cut_once [] [] back rest none free e = (refl, ap (drop 1) e)
cut_once [] (b ∷ other) back rest none free e =
    absurd (free.0 (sym (ap (λ l. get_or l 0 0) e)))
cut_once (b ∷ front) [] back rest none free e = absurd (none.0 (ap (λ l. get_or l 0 0) e))
cut_once (b ∷ front) (d ∷ other) back rest none free e =
    let behind = cut_once front other back rest none.1 free.1 (ap (drop 1) e) in
    (ap₂ (λ (x : ℕ) (xs : List ℕ). x ∷ xs) (ap (λ l. get_or l 0 0) e) behind.0, behind.1)

-- and one without `=` nowhere
pub uncut : (name front back : List ℕ) → HasNoEquals name → name ≡ front ++ 61 ∷ back → ⊥
uncut [] front back none e = omega (arith, ap length e, length-append front (61 ∷ back))
uncut (b ∷ name) [] back none e = none.0 (ap (λ l. get_or l 0 0) e)
uncut (b ∷ name) (d ∷ front) back none e = uncut name front back none.1 (ap (drop 1) e)

name_of : (name other : List ℕ) (rest behind : List (List ℕ))
    → dashed name ∷ rest ≡ dashed other ∷ behind → name ≡ other
name_of name other rest behind e = ap (λ l. drop 2 (get_or l 0 [])) e

apart_is_no_mark : (value : List ℕ) (rest behind : List (List ℕ)) → rest ≡ value ∷ behind
    → IsFresh rest → BeginsWithDash value
apart_is_no_mark value rest behind e fresh = subst IsFresh e fresh

-- The first option is determined, and so is what stands behind it.
one : (name : List ℕ) (value : Option (List ℕ)) (other : List ℕ) (said : Option (List ℕ))
    (words rest behind : List (List ℕ)) → HasNoEquals name → HasNoEquals other
    → IsWritten name value words rest → IsAlone value rest → IsWritten other said words behind
    → IsAlone said behind → (name ≡ other) × (value ≡ said) × (rest ≡ behind)
one name None other None words rest behind none free e alone f lone =
    let same = sym e ∙ f in (name_of name other rest behind same, refl, ap (drop 1) same)
one name None other (Some said) words rest behind none free e alone (inl f) lone =
    absurd (uncut name other said none
    (name_of name (other ++ 61 ∷ said) rest behind (sym e ∙ f)))
one name None other (Some said) words rest behind none free e alone (inr f) lone =
    absurd (f.no_dash
    (apart_is_no_mark said rest behind (ap (drop 1) (sym e ∙ f.words_are)) alone))
one name (Some value) other None words rest behind none free (inl e) alone f lone =
    absurd (uncut other name value free
    (name_of other (name ++ 61 ∷ value) behind rest (sym f ∙ e)))
one name (Some value) other None words rest behind none free (inr e) alone f lone =
    absurd (e.no_dash
    (apart_is_no_mark value behind rest (ap (drop 1) (sym f ∙ e.words_are)) lone))
one name (Some value) other (Some said) words rest behind none free (inl e) alone (inl f) lone =
    let same = sym e ∙ f in
    let cut =
    cut_once name other value said none free
    (name_of (name ++ 61 ∷ value) (other ++ 61 ∷ said) rest behind same) in
    (cut.0, ap (λ (x : List ℕ). Some x) cut.1, ap (drop 1) same)
one name (Some value) other (Some said) words rest behind none free (inl e) alone (inr f) lone =
    absurd (uncut other name value free
    (name_of other (name ++ 61 ∷ value) (said ∷ behind) rest (sym f.words_are ∙ e)))
one name (Some value) other (Some said) words rest behind none free (inr e) alone (inl f) lone =
    absurd (uncut name other said none
    (name_of name (other ++ 61 ∷ said) (value ∷ rest) behind (sym e.words_are ∙ f)))
one name (Some value) other (Some said) words rest behind none free (inr e) alone (inr f) lone =
    let same = sym e.words_are ∙ f.words_are in (
      name_of name other (value ∷ rest) (said ∷ behind) same,
      ap (λ (l : List (List ℕ)). Some (get_or l 1 [])) same,
      ap (drop 2) same,
    )

same_first : (setting other : Setting) (words rest behind : List (List ℕ))
    → IsFirst setting words rest → IsFirst other words behind
    → (setting ≡ other) × (rest ≡ behind)
same_first setting other words rest behind f g =
    let same =
    one setting.name setting.value other.name other.value words rest behind
    f.gives.name_is_whole g.gives.name_is_whole f.gives.written f.alone g.gives.written g.alone in (
      ap₂ (λ (n : List ℕ) (v : Option (List ℕ)). record { name = n; value = v }) same.0 same.1,
      same.2,
    )

-- ---- what stands behind an option

written_fresh : (name : List ℕ) (value : Option (List ℕ)) (words rest : List (List ℕ))
    → IsWritten name value words rest → IsFresh words
written_fresh name None words rest e = subst IsFresh (sym e) refl
written_fresh name (Some value) words rest (inl e) = subst IsFresh (sym e) refl
written_fresh name (Some value) words rest (inr e) = subst IsFresh (sym e.words_are) refl

fresh : (settings : List Setting) (words : List (List ℕ)) → GivesAll settings words → IsFresh words
fresh [] words e = subst IsFresh (sym e) tt
fresh (setting ∷ others) words (rest, gives, more) =
    written_fresh setting.name setting.value words rest gives.written

alone_before : (value : Option (List ℕ)) (rest : List (List ℕ)) → IsFresh rest → IsAlone value rest
alone_before None rest h = h
alone_before (Some value) rest h = tt

written_some : (name : List ℕ) (value : Option (List ℕ)) (words rest : List (List ℕ))
    → IsWritten name value words rest → length rest < length words
written_some name None words rest e = omega (arith, ap length e)
written_some name (Some value) words rest (inl e) = omega (arith, ap length e)
written_some name (Some value) words rest (inr e) = omega (arith, ap length e.words_are)

-- ---- lists of options

as_first : (setting : Setting) (others : List Setting) (words rest : List (List ℕ))
    → Gives setting words rest → GivesAll others rest → IsFirst setting words rest
as_first setting others words rest gives more =
    record { gives = gives; alone = alone_before setting.value rest (fresh others rest more) }

-- The words of a list of options are those of no other list.
pub same_settings : (settings others : List Setting) (words : List (List ℕ))
    → GivesAll settings words → GivesAll others words → settings ≡ others
same_settings [] [] words e f = refl
same_settings [] (other ∷ others) words e (behind, gives, more) =
    let fewer = written_some other.name other.value words behind gives.written in
    absurd (omega (arith, fewer, ap length e))
same_settings (setting ∷ settings) [] words (rest, gives, more) f =
    let fewer = written_some setting.name setting.value words rest gives.written in
    absurd (omega (arith, fewer, ap length f))
same_settings (setting ∷ settings) (other ∷ others) words (rest, gives, more) (behind, gave, most) =
    let same =
    same_first setting other words rest behind (as_first setting settings words rest gives more)
    (as_first other others words behind gave most) in
    let tails =
    same_settings settings others rest more
    (subst (λ (l : List (List ℕ)). GivesAll others l) (sym same.1) most) in
    ap₂ (λ (s : Setting) (ss : List Setting). s ∷ ss) same.0 tails
