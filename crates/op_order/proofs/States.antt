-- What a lawful state tells, and what leaves it lawful.
use Rattle.std.proofs.Common.{◌≡◌, ◌≢◌, ℕ, suc, ◌+◌, ◌^◌, ◌<◌, ◌≤◌, true, false, List, length, set}
use Rattle.std.proofs.Common.{Some, refl, sym, ap, ◌∙◌, subst, ⊎_elim, arith, eq-eqb, ne_eqb}
use Rattle.std.proofs.Common.{get_or-set_same, get_or-set_other}
use Rattle.std.specs.Prelude.{slice_index}
use Rattle.std.specs.List.{count_by}
use Rattle.std.proofs.lemmas.List.Sums.{count_by-le-length}
use mathlib.Core.Logic.{dite}
use mathlib.Core.Option.{some}
use native.Mathlib.Decide.{dec_le}
use lib.ListN.{get_elem?}
use Rattle.atomic_table.proofs.Lists.{at_set}
use Rattle.op_core.specs.declared.count.Tally.{Tally}
use Rattle.op_core.specs.Tallies.{running_of, tally_at}
use Rattle.op_order.specs.declared.view.OwnerPart.{OwnerPart}
use Rattle.op_order.specs.declared.view.ReaderPart.{ReaderPart}
use Rattle.op_order.specs.declared.view.Stage.{Stage}
use Rattle.op_order.specs.declared.view.Stage.TheVariants.{Rest, Stored, Rooted, Opened, Moved}
use Rattle.op_order.specs.declared.view.View.{View}
use Rattle.op_order.specs.declared.view.View.TheVariants.{Owns, Reads}
use Rattle.op_order.proofs.Chains.{chain_still}
use Rattle.op_order.specs.Law.{is_moved, top_of, AreAt, is_at, is_in, LooksAt, Knows, CountsAre}
use Rattle.op_order.specs.Law.{ValuesAre}
use Rattle.op_order.proofs.Counts.{count_there, count_same}

-- the current group and the last one made are not above the sequence
pub current_low : (i : Stage) (c n : ℕ) → AreAt i c n → c ≤ n
current_low Rest c n a = omega arith
current_low Stored c n a = omega arith
current_low Rooted c n a = omega arith
current_low Opened c n a = omega arith
current_low Moved c n a = omega arith

pub top_low : (i : Stage) (c n : ℕ) → AreAt i c n → top_of i c ≤ n
top_low Rest c n a = omega arith
top_low Stored c n a = omega arith
top_low Rooted c n a = omega arith
top_low Opened c n a = omega arith
top_low Moved c n a = omega arith

pub current_made : (i : Stage) (c : ℕ) → c ≤ top_of i c
current_made Rest c = omega arith
current_made Stored c = omega arith
current_made Rooted c = omega arith
current_made Opened c = omega arith
current_made Moved c = omega arith

pub at_own : (g : ℕ) → is_at g (Some g) ≡ true
at_own g = eq-eqb g g refl

pub at_other : (g h : ℕ) → h ≢ g → is_at h (Some g) ≡ false
at_other g h n = ne_eqb g h (λ e. n (sym e))

-- An expired or unmade group is told by its count: one with operations is in the chain.
module _ (part : OwnerPart) (tallies : List Tally) (views : List View)
    (C : CountsAre part tallies views) where
  -- a group in which a reader is has operations
  pub inhabited : (j g : ℕ) (r : ReaderPart) → get_elem? views j ≡ some (Reads r)
      → r.group ≡ Some g → 0 < running_of (tally_at tallies g)
  inhabited j g r at is =
      let n = count_there (is_in g) views j (Reads r) at (ap (is_at g) is ∙ at_own g) in
      let c = C.groups.counted g in
      omega arith

  -- one with operations is not below the oldest
  pub running_low : (g : ℕ) → 0 < running_of (tally_at tallies g) → part.oldest ≤ g
  running_low g runs = dite (dec_le part.oldest g) (λ l. l)
      (λ n. absurd (let z : running_of (tally_at tallies g) ≡ 0
      = ap running_of ((C.groups.each g).below_oldest (omega arith)) in omega arith))

  -- nor above the current one
  pub running_high : (g : ℕ) → 0 < running_of (tally_at tallies g) → g ≤ part.current
  running_high g runs = dite (dec_le g part.current) (λ l. l)
      (λ n. absurd (let z : running_of (tally_at tallies g) ≡ 0
      = ap running_of ((C.groups.each g).above (omega arith)) in omega arith))

  -- one that is made has a count in the list
  pub in_list : (g : ℕ) → g ≤ top_of part.stage part.current → g < length tallies
  in_list g high = let m = C.groups.made in omega arith

  pub few_running : length views ≤ 64 → (g : ℕ) → running_of (tally_at tallies g) ≤ 64
  few_running few g =
      let c = C.groups.counted g in let l = count_by-le-length (is_in g) views in omega arith

module _ (fits : ℕ → ℕ → Type 0) (places : ℕ) (part : OwnerPart)
    (V : ValuesAre fits places part) where
  pub top_small : top_of part.stage part.current < 2 ^ 47
  top_small =
      let t = top_low part.stage part.current part.sequence V.stands in let s = V.small in
      omega arith

  pub top_room : top_of part.stage part.current < part.oldest + suc places
  top_room =
      let t = top_low part.stage part.current part.sequence V.stands in let s = V.room in
      omega arith

-- What the seats know, when one reader knows more.
pub readers_know : (boss : ℕ) (part : OwnerPart) (views : List View)
    → ((j : ℕ) (v : View) → get_elem? views j ≡ some v → Knows boss part j v) → (id : ℕ)
    (r : ReaderPart) → LooksAt part r → (j : ℕ) (v : View)
    → get_elem? (set views id (Reads r)) j ≡ some v → Knows boss part j v
readers_know boss part views K id r L j v at = ⊎_elim
    (λ (t : (j ≡ id) × (Reads r ≡ v)). subst (Knows boss part j) t.1 L)
    (λ (t : (j ≢ id) × (get_elem? views j ≡ some v)). K j v t.1)
    (at_set views id j (Reads r) v at)

-- How the owner's part may move, as readers see it.
pub record PartMoves (part part' : OwnerPart) : Type 0 where
  pub sequence : part.sequence ≤ part'.sequence
  pub current : part.current ≤ part'.current

pub looks_still : (part part' : OwnerPart) (r : ReaderPart) → PartMoves part part'
    → LooksAt part r → LooksAt part' r
looks_still part part' r M L = record {
  looked = λ s is. let q = L.looked s is in
      (q.0, q.1, q.2, let a = q.3 in let b = M.sequence in omega arith);
  seen = let a = L.seen in let b = M.sequence in omega arith;
  found = let a = L.found in let b = M.current in omega arith;
}

-- What the seats know, when the owner has made a step.
pub owner_knows : (boss : ℕ) (part part' : OwnerPart) (views : List View)
    → ((j : ℕ) (v : View) → get_elem? views j ≡ some v → Knows boss part j v) → (id : ℕ)
    → id ≡ boss → PartMoves part part' → (j : ℕ) (v : View)
    → get_elem? (set views id (Owns part')) j ≡ some v → Knows boss part' j v
owner_knows boss part part' views K id mine M j v at = ⊎_elim
    (λ (t : (j ≡ id) × (Owns part' ≡ v)).
    subst (Knows boss part' j) t.1 (t.0 ∙ mine, refl))
    (λ (t : (j ≢ id) × (get_elem? views j ≡ some v)). other v (λ e. t.0 (e ∙ sym mine))
    (K j v t.1))
    (at_set views id j (Owns part') v at)
  where
    other : (v : View) → (j ≡ boss → ⊥) → Knows boss part j v → Knows boss part' j v
    other (Owns q) apart k = absurd (apart k.0)
    other (Reads r) apart k = looks_still part part' r M k

-- the same count where a reader stays in its group
pub counts_stay : (part : OwnerPart) (tallies : List Tally) (views : List View)
    → CountsAre part tallies views → (id : ℕ) (v v' : View) → get_elem? views id ≡ some v
    → ((g : ℕ) → is_in g v' ≡ is_in g v) → CountsAre part tallies (set views id v')
counts_stay part tallies views C id v v' at same = record {
  groups = chain_still (is_moved part.stage) part.current part.oldest
      (top_of part.stage part.current) tallies (λ g. count_by (is_in g) views) C.groups
      (λ g. count_by (is_in g) (set views id v'))
      (λ g. count_same (is_in g) views id v v' at (same g));
  gone = C.gone;
}

-- a word that is written at a place behind another leaves that one
pub word_else : (words : List ℕ) (i j n : ℕ) → j ≢ i
    → slice_index (set words i n) j ≡ slice_index words j
word_else words i j n apart = get_or-set_other words i j n 0 apart

pub word_here : (words : List ℕ) (i n : ℕ) → i < length words
    → slice_index (set words i n) i ≡ n
word_here words i n inside = get_or-set_same words i n 0 inside
