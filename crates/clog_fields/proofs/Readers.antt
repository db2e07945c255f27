-- Readers and their grammars: what is read is spelled so, what is spelled so is read, and the same
-- of refusals.
use Rattle.std.proofs.Common.{◌≡◌, ℕ, ◌≤◌, Bool, true, false, cond, List, ◌++◌, length}
use Rattle.std.proofs.Common.{take, drop, Result, Ok, Err, refl, sym, ap, subst, ◌∙◌}
use Rattle.std.proofs.Common.{append_assoc, arith, inl, inr}
use Rattle.std.specs.Prelude.{nat_lt}
use Rattle.std.proofs.lemmas.Bool.{ltb-false, ltb-true, le-ltb, lt-ltb}
use Rattle.std.proofs.lemmas.List.{take_at, drop_at, take-append-drop, length-append, length-take}
use Rattle.clog_spec.specs.Crc.{IsBytes}
use Rattle.clog_spec.proofs.Bytes.{front-IsBytes, back-IsBytes}
use Rattle.clog_base.specs.declared.fault.PayloadFault.{PayloadFault}
use Rattle.clog_base.specs.declared.fault.PayloadFault.TheVariants.{Short}
use Rattle.clog_fields.specs.Refusals.{place, Refusing, Either, IsRefusedBehind, IsShort, IsBad}
use Rattle.clog_fields.specs.Refusals.{HasLength, same_bytes}
use Rattle.clog_fields.specs.Reading.{◌>>=◌, Reader, field_at, seen, mapped, checked, paired}
use Rattle.clog_fields.specs.Reading.{then_read, both_of}

rest_fits : (bytes text rest : List ℕ) → IsBytes bytes → bytes ≡ text ++ rest → IsBytes rest
rest_fits bytes text rest fits e = back-IsBytes text rest (subst IsBytes e fits)

front_fits : (bytes text rest : List ℕ) → IsBytes bytes → bytes ≡ text ++ rest → IsBytes text
front_fits bytes text rest fits e = front-IsBytes text rest (subst IsBytes e fits)

-- a reader, what its values are spelled like, which values are good, and what it refuses
pub record IsReader {X : Type 0} (read : Reader X) (spell : X → List ℕ) (good : X
    → Type 0) (refuses : Refusing) : Type 0 where
  pub takes : (bytes rest : List ℕ) (x : X) → IsBytes bytes → read bytes ≡ Ok (x, rest)
      → (bytes ≡ spell x ++ rest) × good x
  pub again : (rest : List ℕ) (x : X) → good x → read (spell x ++ rest) ≡ Ok (x, rest)
  pub fails : (bytes : List ℕ) (fault : PayloadFault) → IsBytes bytes → read bytes ≡ Err fault
      → refuses bytes fault
  pub refused : (bytes : List ℕ) (fault : PayloadFault) → refuses bytes fault
      → read bytes ≡ Err fault

abbrev Read : Type 0 → Type 0
Read X = Result (X × List ℕ) PayloadFault

-- the same refusals, said otherwise
pub refusing : {X : Type 0} (read : Reader X) (spell : X → List ℕ) (good : X
    → Type 0) (refuses others : Refusing)
    → IsReader read spell good refuses
    → ((bytes : List ℕ) (fault : PayloadFault) → refuses bytes fault → others bytes fault)
    → ((bytes : List ℕ) (fault : PayloadFault) → others bytes fault → refuses bytes fault)
    → IsReader read spell good others
refusing read spell good refuses others p there back = record {
  takes = p.takes;
  again = p.again;
  fails = λ bytes fault fits e. there bytes fault (p.fails bytes fault fits e);
  refused = λ bytes fault h. p.refused bytes fault (back bytes fault h);
}

-- ---- in order
module _ {X Y : Type 0} (first : Reader X) (spell : X → List ℕ) (good : X
    → Type 0) (refuses : Refusing)
    (next : X → Reader Y) (spell_next : X → Y → List ℕ) (good_next : X → Y
    → Type 0) (refuses_next : X → Refusing)
    (p : IsReader first spell good refuses) (q : (x : X) → good x
    → IsReader (next x) (spell_next x) (good_next x) (refuses_next x)) where
  abbrev spell_both : X × Y → List ℕ
  spell_both z = spell z.0 ++ spell_next z.0 z.1

  abbrev good_both : X × Y → Type 0
  good_both z = good z.0 × good_next z.0 z.1

  abbrev refuses_both : Refusing
  refuses_both = Either refuses (IsRefusedBehind spell good refuses_next)

  second_takes : (bytes back rest : List ℕ) (x : X) (z : X × Y) → IsBytes bytes
      → (bytes ≡ spell x ++ back) × good x
      → (r : Read Y) → next x back ≡ r → paired x r ≡ Ok (z, rest)
      → (bytes ≡ spell_both z ++ rest) × good_both z
  second_takes bytes back rest x z fits h (Err e) is f = absurd cc
  second_takes bytes back rest x z fits h (Ok y) is f =
      let t = (q x h.1).takes back y.1 y.0 (rest_fits bytes (spell x) back fits h.0) is in
      let whole : bytes ≡ spell_both (x, y.0) ++ y.1 = h.0 ∙ ap (λ (l : List ℕ). spell x ++ l) t.0
      ∙ sym (append_assoc (spell x) (spell_next x y.0) y.1) in
      let same : ◌≡◌ {A = (X × Y) × List ℕ} ((x, y.0), y.1) (z, rest) = cc in
      subst (λ (w : (X × Y) × List ℕ). (bytes ≡ spell_both w.0 ++ w.1) × good_both w.0) same
      (whole, (h.1, t.1))

  first_takes : (bytes rest : List ℕ) (z : X × Y) → IsBytes bytes → (r : Read X) → first bytes ≡ r
      → then_read next r ≡ Ok (z, rest) → (bytes ≡ spell_both z ++ rest) × good_both z
  first_takes bytes rest z fits (Err e) is f = absurd cc
  first_takes bytes rest z fits (Ok x) is f =
      second_takes bytes x.1 rest x.0 z fits (p.takes bytes x.1 x.0 fits is) (next x.0 x.1) refl f

  second_fails : (bytes back : List ℕ) (x : X) (fault : PayloadFault) → IsBytes bytes
      → (bytes ≡ spell x ++ back) × good x
      → (r : Read Y) → next x back ≡ r → paired x r ≡ Err fault → refuses_both bytes fault
  second_fails bytes back x fault fits h (Ok y) is f = absurd cc
  second_fails bytes back x fault fits h (Err e) is f =
      let same : e ≡ fault = cc in
      inr (record {
        read = x;
        rest = back;
        is_good = h.1;
        parts = h.0;
        refused = (q x h.1).fails back fault (rest_fits bytes (spell x) back fits h.0) (is
            ∙ ap Err same);
      })

  first_fails : (bytes : List ℕ) (fault : PayloadFault) → IsBytes bytes → (r : Read X)
      → first bytes ≡ r
      → then_read next r ≡ Err fault → refuses_both bytes fault
  first_fails bytes fault fits (Err e) is f = let same : e ≡ fault = cc in
      inl (p.fails bytes fault fits (is ∙ ap Err same))
  first_fails bytes fault fits (Ok x) is f =
      second_fails bytes x.1 x.0 fault fits (p.takes bytes x.1 x.0 fits is) (next x.0 x.1) refl f

  both_refused : (bytes : List ℕ) (fault : PayloadFault) → refuses_both bytes fault
      → both_of first next bytes ≡ Err fault
  both_refused bytes fault (inl h) = ap (then_read next) (p.refused bytes fault h)
  both_refused bytes fault (inr h) =
      ap (both_of first next) h.parts
      ∙ ap (then_read next) (p.again h.rest h.read h.is_good)
      ∙ ap (paired h.read) ((q h.read h.is_good).refused h.rest fault h.refused)

  both_again : (rest : List ℕ) (z : X × Y) → good_both z
      → both_of first next (spell_both z ++ rest) ≡ Ok (z, rest)
  both_again rest z h =
      ap (both_of first next) (append_assoc (spell z.0) (spell_next z.0 z.1) rest)
      ∙ ap (then_read next) (p.again (spell_next z.0 z.1 ++ rest) z.0 h.0)
      ∙ ap (paired z.0) ((q z.0 h.0).again rest z.1 h.1)

  pub both_reader : IsReader (both_of first next) spell_both good_both refuses_both
  both_reader = record {
    takes = λ bytes rest z fits e. first_takes bytes rest z fits (first bytes) refl e;
    again = both_again;
    fails = λ bytes fault fits e. first_fails bytes fault fits (first bytes) refl e;
    refused = both_refused;
  }

-- ---- seen otherwise
module _ {X Y : Type 0} (read : Reader X) (spell : X → List ℕ) (good : X
    → Type 0) (refuses : Refusing)
    (f : X → Y) (back : Y → X) (spell_y : Y → List ℕ) (good_y : Y → Type 0)
    (p : IsReader read spell good refuses)
    (spelled : (x : X) → good x → spell_y (f x) ≡ spell x) (is_good : (x : X) → good x
    → good_y (f x))
    (from_good : (y : Y) → good_y y → good (back y)) (again : (y : Y) → good_y y
    → f (back y) ≡ y) where
  mapped_takes : (bytes rest : List ℕ) (y : Y) → IsBytes bytes → (r : Read X) → read bytes ≡ r
      → seen f r ≡ Ok (y, rest) → (bytes ≡ spell_y y ++ rest) × good_y y
  mapped_takes bytes rest y fits (Err e) is g = absurd cc
  mapped_takes bytes rest y fits (Ok x) is g =
      let t = p.takes bytes x.1 x.0 fits is in
      let whole : bytes ≡ spell_y (f x.0) ++ x.1 = t.0
      ∙ ap (λ (l : List ℕ). l ++ x.1) (sym (spelled x.0 t.1)) in
      let same : ◌≡◌ {A = Y × List ℕ} (f x.0, x.1) (y, rest) = cc in
      subst (λ (w : Y × List ℕ). (bytes ≡ spell_y w.0 ++ w.1) × good_y w.0) same
      (whole, is_good x.0 t.1)

  mapped_fails : (bytes : List ℕ) (fault : PayloadFault) → IsBytes bytes → (r : Read X)
      → read bytes ≡ r → seen f r ≡ Err fault → refuses bytes fault
  mapped_fails bytes fault fits (Ok x) is g = absurd cc
  mapped_fails bytes fault fits (Err e) is g = let same : e ≡ fault = cc in
      p.fails bytes fault fits (is ∙ ap Err same)

  mapped_again : (rest : List ℕ) (y : Y) → good_y y
      → mapped f read (spell_y y ++ rest) ≡ Ok (y, rest)
  mapped_again rest y h =
      let text : spell_y y ≡ spell (back y) = ap spell_y (sym (again y h))
      ∙ spelled (back y) (from_good y h) in
      ap (λ (l : List ℕ). mapped f read (l ++ rest)) text
      ∙ ap (seen f) (p.again rest (back y) (from_good y h))
      ∙ ap (λ (v : Y). Ok (v, rest)) (again y h)

  pub mapped_reader : IsReader (mapped f read) spell_y good_y refuses
  mapped_reader = record {
    takes = λ bytes rest y fits e. mapped_takes bytes rest y fits (read bytes) refl e;
    again = mapped_again;
    fails = λ bytes fault fits e. mapped_fails bytes fault fits (read bytes) refl e;
    refused = λ bytes fault h. ap (seen f) (p.refused bytes fault h);
  }

-- ---- under a test
module _ {X : Type 0} (end : ℕ) (test : X → Bool) (fault_at : ℕ → PayloadFault)
    (read : Reader X) (spell : X → List ℕ) (good : X
    → Type 0) (refuses : Refusing) (p : IsReader read spell good refuses) where
  abbrev passes : X → Type 0
  passes x = good x × (test x ≡ true)

  tested_takes : (bytes rest : List ℕ) (x : X × List ℕ) (y : X) (at : PayloadFault)
      → (bytes ≡ spell x.0 ++ x.1) × good x.0
      → (b : Bool) → test x.0 ≡ b → cond b (Ok x) (Err at) ≡ Ok (y, rest)
      → (bytes ≡ spell y ++ rest) × passes y
  tested_takes bytes rest x y at h false is g = absurd cc
  tested_takes bytes rest x y at h true is g =
      let same : ◌≡◌ {A = X × List ℕ} x (y, rest) = cc in
      subst (λ (w : X × List ℕ). (bytes ≡ spell w.0 ++ w.1) × passes w.0) same (h.0, (h.1, is))

  checked_takes : (bytes rest : List ℕ) (y : X) → IsBytes bytes → (r : Read X) → read bytes ≡ r
      → (r >>= λ x. cond (test x.0) (Ok x) (Err (fault_at (place end bytes)))) ≡ Ok (y, rest)
      → (bytes ≡ spell y ++ rest) × passes y
  checked_takes bytes rest y fits (Err e) is g = absurd cc
  checked_takes bytes rest y fits (Ok x) is g =
      tested_takes bytes rest x y (fault_at (place end bytes)) (p.takes bytes x.1 x.0 fits is)
      (test x.0) refl g

  tested_fails : (bytes : List ℕ) (x : X × List ℕ) (fault : PayloadFault)
      → (bytes ≡ spell x.0 ++ x.1) × good x.0
      → (b : Bool) → test x.0 ≡ b → cond b (Ok x) (Err (fault_at (place end bytes))) ≡ Err fault
      → IsBad end spell good test fault_at bytes fault
  tested_fails bytes x fault h true is g = absurd cc
  tested_fails bytes x fault h false is g =
      let same : fault ≡ fault_at (place end bytes) = cc in
      record { read = x.0; behind = x.1; is_good = h.1; parts = h.0; fails = is; fault_is = same }

  checked_fails : (bytes : List ℕ) (fault : PayloadFault) → IsBytes bytes → (r : Read X)
      → read bytes ≡ r
      → (r >>= λ x. cond (test x.0) (Ok x) (Err (fault_at (place end bytes)))) ≡ Err fault
      → Either refuses (IsBad end spell good test fault_at) bytes fault
  checked_fails bytes fault fits (Err e) is g = let same : e ≡ fault = cc in
      inl (p.fails bytes fault fits (is ∙ ap Err same))
  checked_fails bytes fault fits (Ok x) is g =
      inr (tested_fails bytes x fault (p.takes bytes x.1 x.0 fits is) (test x.0) refl g)

  checked_again : (rest : List ℕ) (x : X) → passes x
      → checked end test fault_at read (spell x ++ rest) ≡ Ok (x, rest)
  checked_again rest x h =
      ap (λ (r : Read X). r >>= λ y. cond (test y.0) (Ok y)
      (Err (fault_at (place end (spell x ++ rest))))) (p.again rest x h.0)
      ∙ ap (λ b. cond b (Ok (x, rest)) (Err (fault_at (place end (spell x ++ rest))))) h.1

  checked_refused : (bytes : List ℕ) (fault : PayloadFault)
      → Either refuses (IsBad end spell good test fault_at) bytes fault
      → checked end test fault_at read bytes ≡ Err fault
  checked_refused bytes fault (inl h) =
      ap (λ (r : Read X). r >>= λ y. cond (test y.0) (Ok y) (Err (fault_at (place end bytes))))
      (p.refused bytes fault h)
  checked_refused bytes fault (inr h) =
      ap (λ (r : Read X). r >>= λ y. cond (test y.0) (Ok y) (Err (fault_at (place end bytes))))
      (ap read h.parts ∙ p.again h.behind h.read h.is_good)
      ∙ ap (λ b. cond b (Ok (h.read, h.behind)) (Err (fault_at (place end bytes)))) h.fails
      ∙ ap Err (sym h.fault_is)

  pub checked_reader : IsReader (checked end test fault_at read) spell passes
      (Either refuses (IsBad end spell good test fault_at))
  checked_reader = record {
    takes = λ bytes rest y fits e. checked_takes bytes rest y fits (read bytes) refl e;
    again = checked_again;
    fails = λ bytes fault fits e. checked_fails bytes fault fits (read bytes) refl e;
    refused = checked_refused;
  }

-- ---- bytes
abbrev cut : ℕ → ℕ → List ℕ → Bool → Read (List ℕ)
cut end n bytes few = cond few (Err (Short (place end bytes))) (Ok (take n bytes, drop n bytes))

field_takes : (end n : ℕ) (bytes rest text : List ℕ) (b : Bool) → nat_lt (length bytes) n ≡ b
    → cut end n bytes b ≡ Ok (text, rest) → (bytes ≡ same_bytes text ++ rest) × HasLength n text
field_takes end n bytes rest text true is e = absurd cc
field_takes end n bytes rest text false is e =
    let long : n ≤ length bytes = ltb-false _ _ is in
    let same : ◌≡◌ {A = List ℕ × List ℕ} (take n bytes, drop n bytes) (text, rest) = cc in
    subst (λ (w : List ℕ × List ℕ). (bytes ≡ w.0 ++ w.1) × (length w.0 ≡ n)) same
    (sym (take-append-drop n bytes), omega (arith, length-take n bytes))

field_fails : (end n : ℕ) (bytes : List ℕ) (fault : PayloadFault) (b : Bool)
    → nat_lt (length bytes) n ≡ b
    → cut end n bytes b ≡ Err fault → IsShort end n bytes fault
field_fails end n bytes fault false is e = absurd cc
field_fails end n bytes fault true is e = record { few = ltb-true _ _ is; fault_is = cc }

field_again : (end n : ℕ) (rest text : List ℕ) → length text ≡ n
    → field_at end n (text ++ rest) ≡ Ok (text, rest)
field_again end n rest text len =
    let long : nat_lt (length (text ++ rest)) n ≡ false =
    le-ltb _ _ (omega (arith, length-append text rest)) in
    rw (long, take_at text rest n len, drop_at text rest n len) refl

field_refused : (end n : ℕ) (bytes : List ℕ) (fault : PayloadFault) → IsShort end n bytes fault
    → field_at end n bytes ≡ Err fault
field_refused end n bytes fault h =
    let few : nat_lt (length bytes) n ≡ true = lt-ltb _ _ h.few in
    rw few (ap Err (sym h.fault_is))

pub field_reader : (end n : ℕ) → IsReader (field_at end n) same_bytes (HasLength n) (IsShort end n)
field_reader end n = record {
  takes = λ bytes rest text fits e. field_takes end n bytes rest text
      (nat_lt (length bytes) n) refl e;
  again = field_again end n;
  fails = λ bytes fault fits e. field_fails end n bytes fault (nat_lt (length bytes) n) refl e;
  refused = field_refused end n;
}

-- the same, whose values are bytes
pub bytes_reader : (end n : ℕ)
    → IsReader (field_at end n) same_bytes (λ text. HasLength n text × IsBytes text) (IsShort end n)
bytes_reader end n = record {
  takes = λ bytes rest text fits e.
      let t = field_takes end n bytes rest text (nat_lt (length bytes) n) refl e in
      (t.0, (t.1, front_fits bytes text rest fits t.0));
  again = λ rest text h. field_again end n rest text h.0;
  fails = λ bytes fault fits e. field_fails end n bytes fault (nat_lt (length bytes) n) refl e;
  refused = field_refused end n;
}
