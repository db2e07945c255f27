-- A chain of groups stays one over each kind of step.
use Rattle.std.proofs.Common.{◌≡◌, ◌≢◌, ℕ, zero, suc, ◌+◌, ◌-◌, ◌<◌, ◌≤◌, Bool, true, false, List}
use Rattle.std.proofs.Common.{[], ◌∷◌, ◌++◌, length, set, get_or, refl, sym, ap, ◌∙◌, subst, arith}
use Rattle.std.proofs.Common.{length-set, length-append, get_or-set_same, get_or-set_other}
use Rattle.std.proofs.lemmas.Bool.{false≢true}
use mathlib.Core.Logic.{dite}
use native.Mathlib.Decide.{ℕ_discrete, dec_le}
use Rattle.op_core.specs.declared.count.Tally.{Tally}
use Rattle.op_core.specs.declared.count.Tally.TheVariants.{Open, Expired}
use Rattle.op_core.specs.Tallies.{running_of, IsOpen, tally_at, one_more, one_less, expired}
use Rattle.op_order.specs.Groups.{GroupIs, GroupsAre}

-- the appended default changes no read
pub default_put : {A : Type 0} (l : List A) (d : A) (j : ℕ)
    → get_or (l ++ d ∷ []) j d ≡ get_or l j d
default_put [] d zero = refl
default_put [] d (suc j) = refl
default_put (x ∷ xs) d zero = refl
default_put (x ∷ xs) d (suc j) = default_put xs d j

pub unclosed_left : (k : Tally) → IsOpen k → k ≡ Expired 0 → ⊥
unclosed_left k unclosed is = subst IsOpen is unclosed

running_left : (k : Tally) → 0 < running_of k → k ≡ Expired 0 → ⊥
running_left k runs e = let z : running_of k ≡ 0 = ap running_of e in omega arith

running_made : (k : Tally) → 0 < running_of k → k ≡ Open 0 → ⊥
running_made k runs e = let z : running_of k ≡ 0 = ap running_of e in omega arith

module _ (moved : Bool) (current oldest top : ℕ) (tallies : List Tally) (count : ℕ → ℕ)
    (C : GroupsAre moved current oldest top tallies count) where
  -- a group with operations is in the chain
  pub running_low : (g : ℕ) → 0 < count g → oldest ≤ g
  running_low g runs = dite (dec_le oldest g) (λ l. l)
      (λ n. absurd (running_left (tally_at tallies g) (let c = C.counted g in omega arith)
      ((C.each g).below_oldest (omega arith))))

  pub running_high : (g : ℕ) → 0 < count g → g ≤ current
  running_high g runs = dite (dec_le g current) (λ l. l)
      (λ n. absurd (running_made (tally_at tallies g) (let c = C.counted g in omega arith)
      ((C.each g).above (omega arith))))

  -- nothing that is counted changes
  pub chain_still : (count' : ℕ → ℕ) → ((g : ℕ) → count' g ≡ count g)
      → GroupsAre moved current oldest top tallies count'
  chain_still count' same = record {
    made = C.made;
    reached = C.reached;
    low = C.low;
    counted = λ g. C.counted g ∙ sym (same g);
    each = C.each;
  }

  -- The count of a group changes to one that is open exactly where it was.
  module _ (g : ℕ) (k : Tally) (count' : ℕ → ℕ) (made : g ≤ top)
      (here : running_of k ≡ count' g) (others : (h : ℕ) → h ≢ g → count' h ≡ count h)
      (is : GroupIs moved current oldest g k) where
    inside : g < length tallies
    inside = let m = C.made in omega arith

    chain_at : GroupsAre moved current oldest top (set tallies g k) count'
    chain_at = record {
      made = length-set tallies g k ∙ C.made;
      reached = C.reached;
      low = C.low;
      counted = λ h. dite (ℕ_discrete h g)
          (λ e. subst (λ z. running_of (tally_at (set tallies g k) z) ≡ count' z) (sym e)
          (ap running_of (get_or-set_same tallies g k (Open 0) inside) ∙ here))
          (λ n. ap running_of (get_or-set_other tallies g h k (Open 0) n)
          ∙ (C.counted h ∙ sym (others h n)));
      each = λ h. dite (ℕ_discrete h g)
          (λ e. subst (λ z. GroupIs moved current oldest z (tally_at (set tallies g k) z)) (sym e)
          (subst (GroupIs moved current oldest g)
          (sym (get_or-set_same tallies g k (Open 0) inside)) is))
          (λ n. subst (GroupIs moved current oldest h)
          (sym (get_or-set_other tallies g h k (Open 0) n)) (C.each h));
    }

  -- an operation registers in an open group that was found as the current one
  pub chain_enter : (g : ℕ) (count' : ℕ → ℕ) → g ≤ current → IsOpen (tally_at tallies g)
      → count' g ≡ suc (count g) → ((h : ℕ) → h ≢ g → count' h ≡ count h)
      → GroupsAre moved current oldest top (set tallies g (one_more (tally_at tallies g))) count'
  chain_enter g count' high unclosed more others = by_tally (tally_at tallies g) refl
    where
      by_tally : (k : Tally) → k ≡ tally_at tallies g
          → GroupsAre moved current oldest top (set tallies g (one_more k)) count'
      by_tally (Expired r) e = absurd (let o : IsOpen (Expired r)
          = subst IsOpen (sym e) unclosed in o)
      by_tally (Open r) e = let G = C.each g in chain_at g (Open (r + 1)) count'
          (let a = C.reached in omega arith)
          (let a : r ≡ count g = ap running_of e ∙ C.counted g in omega arith) others (record {
            below_current = λ l o. G.below_current l unclosed;
            replaced = λ m n. tt;
            below_oldest = λ l. absurd (unclosed_left (tally_at tallies g) unclosed
                (G.below_oldest l));
            now = λ n. tt;
            above = λ l. absurd (omega arith);
          })

  -- an operation leaves its group
  pub chain_leave : (g : ℕ) (count' : ℕ → ℕ) → suc (count' g) ≡ count g
      → ((h : ℕ) → h ≢ g → count' h ≡ count h)
      → GroupsAre moved current oldest top (set tallies g (one_less (tally_at tallies g))) count'
  chain_leave g count' less others = by_tally (tally_at tallies g) refl
    where
      runs : 0 < count g
      runs = omega arith

      by_tally : (k : Tally) → k ≡ tally_at tallies g
          → GroupsAre moved current oldest top (set tallies g (one_less k)) count'
      by_tally (Open r) e = let G = C.each g in
          let unclosed : IsOpen (tally_at tallies g) = subst IsOpen e tt in
          let a : r ≡ count g = ap running_of e ∙ C.counted g in chain_at g (Open (r - 1)) count'
          (let b = C.reached in let h = running_high g runs in omega arith) (omega arith) others
          (record {
            below_current = λ l o. G.below_current l unclosed;
            replaced = λ m n. tt;
            below_oldest = λ l. absurd (unclosed_left (tally_at tallies g) unclosed
                (G.below_oldest l));
            now = λ n. tt;
            above = λ l. absurd (let h = running_high g runs in omega arith);
          })
      by_tally (Expired r) e = let G = C.each g in
          let a : r ≡ count g = ap running_of e ∙ C.counted g in
          let shut : IsOpen (tally_at tallies g) → ⊥ = λ o. subst IsOpen (sym e) o in
          chain_at g (Expired (r - 1)) count'
          (let b = C.reached in let h = running_high g runs in omega arith) (omega arith) others
          (record {
            below_current = λ l o. absurd o;
            replaced = λ m n. absurd (shut (G.replaced m n));
            below_oldest = λ l. absurd (let h = running_low g runs in omega arith);
            now = λ n. absurd (shut (G.now n));
            above = λ l. absurd (let h = running_high g runs in omega arith);
          })

-- the next group is made
pub chain_open : (current oldest top : ℕ) (tallies : List Tally) (count : ℕ → ℕ)
    → GroupsAre false current oldest top tallies count
    → GroupsAre false current oldest (suc top) (tallies ++ Open 0 ∷ []) count
chain_open current oldest top tallies count C = record {
  made = let l = length-append tallies (Open 0 ∷ []) in let m = C.made in omega arith;
  reached = let r = C.reached in omega arith;
  low = C.low;
  counted = λ g. ap running_of (default_put tallies (Open 0) g) ∙ C.counted g;
  each = λ g. subst (GroupIs false current oldest g) (sym (default_put tallies (Open 0) g))
      (C.each g);
}

-- it becomes the current one
pub chain_move : (current oldest : ℕ) (tallies : List Tally) (count : ℕ → ℕ)
    → GroupsAre false current oldest (suc current) tallies count
    → GroupsAre true (suc current) oldest (suc current) tallies count
chain_move current oldest tallies count C = record {
  made = C.made;
  reached = omega arith;
  low = let l = C.low in omega arith;
  counted = C.counted;
  each = λ g. let G = C.each g in record {
    below_current = λ l o. dite (ℕ_discrete g current) (λ e. (ap suc e, refl))
        (λ n. absurd (false≢true (G.below_current (omega arith) o).1));
    replaced = λ e f. G.now (omega arith);
    below_oldest = G.below_oldest;
    now = λ e. subst IsOpen (sym (G.above (omega arith))) tt;
    above = λ l. G.above (omega arith);
  };
}

-- the one before is expired
pub chain_expire : (g current oldest : ℕ) (tallies : List Tally) (count : ℕ → ℕ) → suc g ≡ current
    → GroupsAre true current oldest current tallies count
    → GroupsAre false current oldest current (set tallies g (expired (tally_at tallies g))) count
chain_expire g current oldest tallies count next C = record {
  made = length-set tallies g k ∙ C.made;
  reached = C.reached;
  low = C.low;
  counted = λ h. dite (ℕ_discrete h g)
      (λ e. subst (λ z. running_of (tally_at (set tallies g k) z) ≡ count z) (sym e)
      (ap running_of here ∙ (still (tally_at tallies g) ∙ C.counted g)))
      (λ n. ap running_of (other h n) ∙ C.counted h);
  each = λ h. dite (ℕ_discrete h g)
      (λ e. subst (λ z. GroupIs false current oldest z (tally_at (set tallies g k) z)) (sym e)
      (subst (GroupIs false current oldest g) (sym here) (record {
        below_current = λ l o. absurd (shut (tally_at tallies g) o);
        replaced = λ m n. absurd (false≢true m);
        below_oldest = λ l. absurd (unclosed_left (tally_at tallies g) unclosed
            ((C.each g).below_oldest l));
        now = λ n. absurd (omega arith);
        above = λ l. absurd (omega arith);
      })))
      (λ n. subst (GroupIs false current oldest h) (sym (other h n)) (let G = C.each h in record {
        below_current = λ l o. absurd (n (let q = (G.below_current l o).0 in omega arith));
        replaced = λ m q. absurd (false≢true m);
        below_oldest = G.below_oldest;
        now = G.now;
        above = G.above;
      }));
}
  where
    k : Tally
    k = expired (tally_at tallies g)

    unclosed : IsOpen (tally_at tallies g)
    unclosed = (C.each g).replaced refl next

    inside : g < length tallies
    inside = let m = C.made in omega arith

    here : tally_at (set tallies g k) g ≡ k
    here = get_or-set_same tallies g k (Open 0) inside

    other : (h : ℕ) → h ≢ g → tally_at (set tallies g k) h ≡ tally_at tallies h
    other h n = get_or-set_other tallies g h k (Open 0) n

    still : (t : Tally) → running_of (expired t) ≡ running_of t
    still (Open r) = refl
    still (Expired r) = refl

    shut : (t : Tally) → IsOpen (expired t) → ⊥
    shut (Open r) o = o
    shut (Expired r) o = o

-- the oldest moves over a finished one
pub chain_advance : (moved : Bool) (current oldest top : ℕ) (tallies : List Tally) (count : ℕ → ℕ)
    → oldest < current → tally_at tallies oldest ≡ Expired 0
    → GroupsAre moved current oldest top tallies count
    → GroupsAre moved current (suc oldest) top tallies count
chain_advance moved current oldest top tallies count below done C = record {
  made = C.made;
  reached = C.reached;
  low = below;
  counted = C.counted;
  each = λ g. let G = C.each g in record {
    below_current = G.below_current;
    replaced = G.replaced;
    below_oldest = λ l. dite (ℕ_discrete g oldest) (λ e. ap (tally_at tallies) e ∙ done)
        (λ n. G.below_oldest (omega arith));
    now = G.now;
    above = G.above;
  };
}
