-- The entries of one segment among those of a log, and of a history.
use Rattle.std.proofs.Common.{
  ◌≡◌,
  ℕ,
  ◌<◌,
  inl,
  inr,
  List,
  [],
  ◌∷◌,
  ◌++◌,
  map,
  Bool,
  true,
  false,
  if◌then◌else◌,
  refl,
  sym,
  ◌∙◌,
  ap,
  subst,
  arith,
}
use Rattle.std.specs.Prelude.{Contains, ◌==◌}
use Rattle.std.specs.List.{AllPairs, flat_map}
use Rattle.std.specs.List.Sorted.{IsStrictlySortedBy}
use Rattle.std.specs.Cmp.{nat_cmp_is}
use Rattle.std.specs.Ordering.{nat_cmp}
use Rattle.std.specs.declared.cmp.Ordering.TheVariants.{Less}
use Rattle.std.proofs.lemmas.Bool.Decides.{nat_tests}
use Rattle.std.proofs.lemmas.List.{append-nil}
use Rattle.clog_spec.specs.Sizes.{header_size}
use Rattle.clog_base.proofs.Members.{all_from, first_or_further, further, here, nothing_there}
use Rattle.clog_scan.specs.Segment.{Entry, entries_of}
use Rattle.clog_crash.specs.Log.{Write}
use Rattle.clog_crash.specs.Runs.{Placed, placed, placed_of}
use Rattle.path_core.proofs.lists.Heads.{ahead, behind}
use Rattle.clog_applied.specs.Appended.{entries_in, is_in}
use Rattle.clog_applied.specs.History.{LoggedLine, entry_of}
use Rattle.clog_applied.proofs.Lists.{kept_one, left_one}

-- of entries at their places those of one segment
pub entries_at : ℕ → List Placed → List Entry
entries_at id [] = []
entries_at id (p ∷ ps) = if p.0 == id then p.1 ∷ entries_at id ps else entries_at id ps

at_here : (id : ℕ) (p : Placed) (ps : List Placed) → (p.0 == id) ≡ true
    → entries_at id (p ∷ ps) ≡ p.1 ∷ entries_at id ps
unfolding entries_at
at_here id p ps test =
    ap (λ (b : Bool). if b then p.1 ∷ entries_at id ps else entries_at id ps) test

at_other : (id : ℕ) (p : Placed) (ps : List Placed) → (p.0 == id) ≡ false
    → entries_at id (p ∷ ps) ≡ entries_at id ps
unfolding entries_at
at_other id p ps test =
    ap (λ (b : Bool). if b then p.1 ∷ entries_at id ps else entries_at id ps) test

at_append : (id : ℕ) (ps qs : List Placed)
    → entries_at id (ps ++ qs) ≡ entries_at id ps ++ entries_at id qs
unfolding entries_at
at_append id [] qs = refl
at_append id (p ∷ ps) qs = by_case (p.0 == id) refl (at_append id ps qs)
  where
    by_case : (b : Bool) → (p.0 == id) ≡ b
        → entries_at id (ps ++ qs) ≡ entries_at id ps ++ entries_at id qs
        → entries_at id (p ∷ ps ++ qs) ≡ entries_at id (p ∷ ps) ++ entries_at id qs
    by_case true test rest =
        at_here id p (ps ++ qs) test ∙ ap (λ (l : List Entry). p.1 ∷ l) rest
        ∙ ap (λ (l : List Entry). l ++ entries_at id qs) (sym (at_here id p ps test))
    by_case false test rest =
        at_other id p (ps ++ qs) test ∙ rest
        ∙ ap (λ (l : List Entry). l ++ entries_at id qs) (sym (at_other id p ps test))

-- ---- of a log

at_its : (id : ℕ) (es : List Entry) → entries_at id (placed id es) ≡ es
unfolding entries_at
at_its id [] = refl
at_its id (e ∷ es) =
    let test : (id == id) ≡ true = grind (arith, nat_tests) in
    at_here id (id, e) (placed id es) test ∙ ap (λ (l : List Entry). e ∷ l) (at_its id es)

at_no : (id other : ℕ) (es : List Entry) → (other ≡ id → ⊥)
    → entries_at id (placed other es) ≡ []
unfolding entries_at
at_no id other [] apart = refl
at_no id other (e ∷ es) apart =
    let test : (other == id) ≡ false = grind (arith, nat_tests, apart) in
    at_other id (other, e) (placed other es) test ∙ at_no id other es apart

at_none : (id : ℕ) (ws : List Write) → ((w : Write) → Contains ws w → w.id ≡ id → ⊥)
    → entries_at id (flat_map placed_of ws) ≡ []
unfolding entries_at
at_none id [] none = refl
at_none id (w ∷ ws) none =
    at_append id (placed_of w) (flat_map placed_of ws)
    ∙ ap (λ (l : List Entry). l ++ entries_at id (flat_map placed_of ws))
    (at_no id w.id (entries_of header_size w.sections) (none w (here w ws)))
    ∙ at_none id ws (λ v h. none v (further w ws v h))

pub at_log : (ws : List Write) → AllPairs (λ (a b : Write). a.id < b.id) ws → (w : Write)
    → Contains ws w
    → entries_at w.id (flat_map placed_of ws) ≡ entries_of header_size w.sections
at_log [] rise w h = absurd (nothing_there w h)
at_log (v ∷ vs) rise w h =
    let R = λ (a b : Write). a.id < b.id in
    at_append w.id (placed_of v) (flat_map placed_of vs)
    ∙ elim (first_or_further v vs w h) [
      | inl same ↦
          let its : entries_at w.id (placed_of v) ≡ entries_of header_size w.sections =
          subst (λ (x : Write). entries_at x.id (placed_of v) ≡ entries_of header_size x.sections)
          same (at_its v.id (entries_of header_size v.sections)) in
          let none = at_none w.id vs (λ x g clash.
          let up = ahead R v vs rise x g in
          let is = ap (λ (y : Write). y.id) same in omega (arith, up, is, clash)) in
          ap (λ (l : List Entry). l ++ entries_at w.id (flat_map placed_of vs)) its
          ∙ ap (λ (l : List Entry). entries_of header_size w.sections ++ l) none
          ∙ append-nil (entries_of header_size w.sections)
      | inr more ↦
          let up = ahead R v vs rise w more in
          ap (λ (l : List Entry). l ++ entries_at w.id (flat_map placed_of vs))
          (at_no w.id v.id (entries_of header_size v.sections)
          (λ clash. omega (arith, up, clash)))
          ∙ at_log vs (behind R v vs rise) w more
    ]

-- ---- of a history

abbrev pub placed_line : LoggedLine → Placed
placed_line w = (w.id, entry_of w)

pub at_history : (id : ℕ) (history : List LoggedLine)
    → entries_at id (map placed_line history) ≡ entries_in id history
unfolding entries_at
at_history id [] = refl
at_history id (w ∷ ws) = by_case (w.id == id) refl (at_history id ws)
  where
    by_case : (b : Bool) → (w.id == id) ≡ b
        → entries_at id (map placed_line ws) ≡ entries_in id ws
        → entries_at id (map placed_line (w ∷ ws)) ≡ entries_in id (w ∷ ws)
    by_case true test rest =
        at_here id (placed_line w) (map placed_line ws) test
        ∙ ap (λ (l : List Entry). entry_of w ∷ l) rest
        ∙ ap (map entry_of) (sym (kept_one (is_in id) w ws test))
    by_case false test rest =
        at_other id (placed_line w) (map placed_line ws) test ∙ rest
        ∙ ap (map entry_of) (sym (left_one (is_in id) w ws test))

-- ---- ids in order

pub sorted_ids : (ids : List ℕ) → AllPairs (λ (a b : ℕ). a < b) ids
    → IsStrictlySortedBy nat_cmp ids
unfolding IsStrictlySortedBy
sorted_ids [] rise = tt
sorted_ids (i ∷ ids) rise =
    let R = λ (a b : ℕ). a < b in (
      all_from (λ (k : ℕ). nat_cmp i k ≡ Less) ids
          (λ k h. sym (nat_cmp_is i k Less (ahead R i ids rise k h))),
      sorted_ids ids (behind R i ids rise),
    )
