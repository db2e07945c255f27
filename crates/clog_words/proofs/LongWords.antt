-- What `clap` reads of a word that begins with two dashes.
use Rattle.std.proofs.Common.{
  ◌≡◌,
  ◌≢◌,
  ◌<◌,
  ℕ,
  [],
  ◌∷◌,
  ◌++◌,
  ◌==◌,
  ◌+◌,
  drop,
  suc,
  take,
  eqb-true,
  length,
  Bool,
  true,
  false,
  Option,
  Some,
  None,
  refl,
  ap,
  ap₂,
  subst,
  unwrap_or,
  option_and_then,
  if◌then◌else◌,
  sym,
  ◌∙◌,
  inl,
  inr,
  arith,
}
use Rattle.std.proofs.lemmas.Bool.Decides.{eqb_tells}
use Rattle.std.specs.List.{position_or_len}
use Rattle.std.specs.Str.{bytes_eq}
use Rattle.clap.specs.Lexer.{long_of, has_byte, long_of_rest, name_and_value, short_of, strip_byte}
use Rattle.clap.specs.Walk.{Text}
use Rattle.clog_words.specs.Given.{BeginsWithDash, HasNoEquals, dashed}
use Rattle.clog_words.proofs.SettingLists.{cut_once, uncut}

-- the text is a name, or a name, `=` and a value
abbrev pub IsText : Text → Option Text → Text → Type 0
IsText name None text = text ≡ name
IsText name (Some value) text = text ≡ name ++ 61 ∷ value

pub record IsCut (text name : Text) (value : Option Text) : Type 0 where
  pub text_is : IsText name value text
  pub name_is_whole : HasNoEquals name

cut_more : (b : ℕ) (text name : Text) (value : Option Text) → b ≢ 61 → IsCut text name value
    → IsCut (b ∷ text) (b ∷ name) value
cut_more b text name None other cut =
    record { text_is = ap (λ l. b ∷ l) cut.text_is; name_is_whole = (other, cut.name_is_whole) }
cut_more b text name (Some value) other cut =
    record { text_is = ap (λ l. b ∷ l) cut.text_is; name_is_whole = (other, cut.name_is_whole) }

take_more : (n b : ℕ) (text : Text) → take (1 + n) (b ∷ text) ≡ b ∷ take n text
take_more n b text =
    let next : 1 + n ≡ suc n = omega arith in ap (λ k. take k (b ∷ text)) next

drop_more : (n b : ℕ) (text : Text) → drop (1 + n + 1) (b ∷ text) ≡ drop (n + 1) text
drop_more n b text =
    let next : 1 + n + 1 ≡ suc (n + 1) = omega arith in ap (λ k. drop k (b ∷ text)) next

name_more : (b : ℕ) (text : Text) → (b == 61) ≡ false
    → (name_and_value (b ∷ text)).0 ≡ b ∷ (name_and_value text).0
name_more b text e = rw (e) (take_more (position_or_len (λ x. x == 61) text) b text)

value_more : (b : ℕ) (text : Text) → (b == 61) ≡ false
    → (name_and_value (b ∷ text)).1 ≡ (name_and_value text).1
value_more b text e =
    rw (e) (ap (λ t. if has_byte 61 text then Some t else None)
    (drop_more (position_or_len (λ x. x == 61) text) b text))

pub parts : (text : Text) → IsCut text (name_and_value text).0 (name_and_value text).1
parts [] = record { text_is = refl; name_is_whole = tt }
parts (b ∷ text) = elim (eqb_tells b 61) [
  | inl found ↦ rw (found.0) record { text_is = ap (λ d. d ∷ text) found.1; name_is_whole = tt }
  | inr other ↦
      subst (λ (value : Option Text). IsCut (b ∷ text) (name_and_value (b ∷ text)).0 value)
      (sym (value_more b text other.0))
      (subst (λ (name : Text). IsCut (b ∷ text) name (name_and_value text).1)
      (sym (name_more b text other.0))
      (cut_more b text (name_and_value text).0 (name_and_value text).1 other.1 (parts text)))
]

-- a text is cut in one way
same_cut : (text name other : Text) (value said : Option Text) → IsCut text name value
    → IsCut text other said → (name ≡ other) × (value ≡ said)
same_cut text name other None None cut again = (sym cut.text_is ∙ again.text_is, refl)
same_cut text name other None (Some said) cut again =
    absurd (uncut name other said cut.name_is_whole (sym cut.text_is ∙ again.text_is))
same_cut text name other (Some value) None cut again =
    absurd (uncut other name value again.name_is_whole (sym again.text_is ∙ cut.text_is))
same_cut text name other (Some value) (Some said) cut again =
    let same =
    cut_once name other value said cut.name_is_whole again.name_is_whole
    (sym cut.text_is ∙ again.text_is) in
    (same.0, ap (λ (l : Text). Some l) same.1)

long_cut : (text : Text) → 0 < length text → long_of (dashed text) ≡ Some (name_and_value text)
long_cut [] some = absurd (omega (arith, some))
long_cut (b ∷ text) some = refl

-- `--name` and `--name=value` are read as they are written
pub long_word : (text name : Text) (value : Option Text) → IsCut text name value
    → 0 < length text → long_of (dashed text) ≡ Some (name, value)
long_word text name value cut some =
    let same =
    same_cut text (name_and_value text).0 name (name_and_value text).1 value (parts text) cut in
    long_cut text some
    ∙ ap₂ (λ (n : Text) (v : Option Text). Some (n, v)) same.0 same.1

-- and nothing else is
pub record IsLong (word name : Text) (value : Option Text) : Type 0 where
  pub text : Text
  pub word_is : word ≡ dashed text
  pub cut : IsCut text name value
  pub some : 0 < length text

as_long : (text name : Text) (value : Option Text) → 0 < length text
    → Some (name_and_value text) ≡ Some (name, value) → IsLong (dashed text) name value
as_long text name value some e = record {
  text = text;
  word_is = refl;
  cut = subst (λ (p : Text × Option Text). IsCut text p.0 p.1)
      (ap (λ (o : Option (Text × Option Text)). unwrap_or o (name, value)) e) (parts text);
  some = some;
}

abbrev Read : Type 0
Read = Option (Text × Option Text)

abbrev if_dash : Bool → Text → Option Text
if_dash true text = Some text
if_dash false text = None

not_read : (name : Text) (value : Option Text) → ◌≡◌ {A = Read} None (Some (name, value)) → ⊥
not_read name value e = cc

one_dash : (t : Bool) (name : Text) (value : Option Text)
    → ◌≡◌ {A = Read} (option_and_then long_of_rest
    (option_and_then (strip_byte 45) (if t then Some [] else None))) (Some (name, value)) → ⊥
one_dash true name value e = cc
one_dash false name value e = cc

rest_read : (text name : Text) (value : Option Text)
    → ◌≡◌ {A = Read} (long_of_rest text) (Some (name, value)) → IsLong (dashed text) name value
rest_read [] name value e = absurd (not_read name value e)
rest_read (b ∷ text) name value e = as_long (b ∷ text) name value (omega arith) e

second_read : (t : Bool) (d : ℕ) (text name : Text) (value : Option Text) → (d == 45) ≡ t
    → ◌≡◌ {A = Read} (option_and_then long_of_rest (if t then Some text else None))
    (Some (name, value)) → (d ≡ 45) × IsLong (dashed text) name value
second_read false d text name value is e = absurd (not_read name value e)
second_read true d text name value is e = (eqb-true d 45 is, rest_read text name value e)

first_read : (t : Bool) (b d : ℕ) (text name : Text) (value : Option Text) → (b == 45) ≡ t
    → ◌≡◌ {A = Read} (option_and_then long_of_rest (option_and_then (strip_byte 45)
    (if t then Some (d ∷ text) else None))) (Some (name, value))
    → IsLong (b ∷ d ∷ text) name value
first_read false b d text name value is e = absurd (not_read name value e)
first_read true b d text name value is e =
    let second = second_read (d == 45) d text name value refl e in
    rw (eqb-true b 45 is, second.0) second.1

pub from_long : (word name : Text) (value : Option Text) → long_of word ≡ Some (name, value)
    → IsLong word name value
from_long [] name value e = absurd (not_read name value e)
from_long (b ∷ []) name value e = absurd (one_dash (b == 45) name value e)
from_long (b ∷ d ∷ text) name value e = first_read (b == 45) b d text name value refl e

-- ---- a word that does not begin with a dash is neither long nor short

pub plain_word : (word : Text) → ¬ BeginsWithDash word
    → (long_of word ≡ None) × (short_of word ≡ None) × (bytes_eq word (45 ∷ 45 ∷ []) ≡ false)
plain_word [] plain = (refl, refl, refl)
plain_word (b ∷ word) plain = elim (eqb_tells b 45) [
  | inl found ↦ absurd (plain found.1)
  | inr other ↦ rw (other.0) (refl, refl, refl)
]

pub long_is_other : (text : Text) → 0 < length text
    → bytes_eq (dashed text) (45 ∷ 45 ∷ []) ≡ false
long_is_other [] some = absurd (omega (arith, some))
long_is_other (b ∷ text) some = refl
