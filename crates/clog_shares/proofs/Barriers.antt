-- How many barriers a writer's flushes issue: at most four each, and a table whose flush is
-- finished is due no more.
use Rattle.std.proofs.Common.{◌≡◌, ◌≢◌, ℕ, zero, suc, ◌+◌, ◌*◌, ◌<◌, ◌≤◌, Bool, true, false, cond}
use Rattle.std.proofs.Common.{List, None, get_or, set, nat_le, refl, sym, ap, arith}
use Rattle.std.proofs.lemmas.Bool.{false≢true, le-leb, leb-true}
use Rattle.std.proofs.lemmas.Option.{none-some}
use mathlib.Core.Logic.{dite}
use native.Mathlib.Decide.{ℕ_discrete}
use Rattle.path_flush.specs.declared.flush_answer.Flush.{Flush}
use Rattle.path_flush.specs.declared.flush_answer.Flush.TheVariants as flush
use Rattle.path_flush.specs.Flushed.{barriers_by}
use Rattle.clog_shares.specs.declared.fault.WriteFault.TheVariants.{OutOfMemory, Stopped}
use Rattle.clog_shares.specs.declared.tally.UpdateTally.{UpdateTally}
use Rattle.clog_shares.specs.Shares.{is_finished, refusal_by}
use Rattle.clog_shares.specs.Tallies.{due_at, due_below}
use Rattle.clog_shares.proofs.Tallying.{set_none}

-- ---- by an answer

pub few_by : (a : Flush) → barriers_by a ≤ 4
few_by (flush.Flushed lower upper) = omega arith
few_by (flush.Empty key) = omega arith
few_by (flush.Busy found) = omega arith
few_by (flush.Stopped at_open now) = omega arith
few_by flush.OutOfMemory = omega arith

-- a flush that is neither finished nor refused issues none
none_by : (a : Flush) → is_finished a ≡ false → refusal_by a ≡ None → barriers_by a ≡ 0
none_by (flush.Flushed lower upper) other none = absurd (false≢true (sym other))
none_by (flush.Empty key) other none = absurd (false≢true (sym other))
none_by (flush.Busy found) other none = refl
none_by (flush.Stopped at_open now) other none =
    absurd (none-some (Stopped at_open now) (sym none))
none_by flush.OutOfMemory other none = absurd (none-some OutOfMemory (sym none))

-- ---- of one table

at_most_one : (b : Bool) → cond b 1 0 ≤ 1
at_most_one true = omega arith
at_most_one false = omega arith

-- where it is due
is_due : (tally : UpdateTally) (t : ℕ) → tally.most ≤ get_or tally.counts t 0
    → due_at tally t ≡ 1
is_due tally t up = ap (λ (b : Bool). cond {A = ℕ} b 1 0)
    (le-leb tally.most (get_or tally.counts t 0) up)

-- and where it is not
is_none : (tally : UpdateTally) (t : ℕ) → get_or tally.counts t 0 < tally.most
    → due_at tally t ≡ 0
is_none tally t low = by (nat_le tally.most (get_or tally.counts t 0)) refl
  where
    by : (b : Bool) → nat_le tally.most (get_or tally.counts t 0) ≡ b → cond {A = ℕ} b 1 0 ≡ 0
    by true is = absurd
        (let up = leb-true tally.most (get_or tally.counts t 0) is in omega (arith, low, up))
    by false is = refl

-- A flush that was due, and is not refused: it is due no more, or no barrier was issued.
module _ (t before after : ℕ) (a : Flush) (tally now : UpdateTally)
    (issued : after ≤ barriers_by a + before) (due : tally.most ≤ get_or tally.counts t 0)
    (some : 1 ≤ tally.most) (most : now.most ≡ tally.most) (none : refusal_by a ≡ None)
    (done : is_finished a ≡ true → now.counts ≡ set tally.counts t 0)
    (kept : is_finished a ≡ false → now ≡ tally) where
  by_whether : (b : Bool) → is_finished a ≡ b → after + 4 * due_at now t
      ≤ before + 4 * due_at tally t
  by_whether true is =
      let read = ap (λ (l : List ℕ). get_or l t 0) (done is) in
      let zero_left = set_none tally.counts t in
      let no_more = is_none now t (omega (arith, read, zero_left, most, some)) in
      let one = is_due tally t due in
      let few = few_by a in omega (arith, no_more, one, few, issued)
  by_whether false is =
      let same = ap (λ (u : UpdateTally). due_at u t) (kept is) in
      let no_barrier = none_by a is none in omega (arith, same, no_barrier, issued)

  pub spends : after + 4 * due_at now t ≤ before + 4 * due_at tally t
  spends = by_whether (is_finished a) refl

-- ---- of all tables

pub few_below : (n : ℕ) (tally : UpdateTally) → due_below n tally ≤ n
few_below zero tally = omega arith
few_below (suc n) tally = let few = few_below n tally in
    let one = at_most_one (nat_le tally.most (get_or tally.counts n 0)) in
    omega (arith, few, one)

-- Of one table the count changed.
module _ (i : ℕ) (tally now : UpdateTally) (most : now.most ≡ tally.most)
    (others : (t : ℕ) → t ≢ i → get_or now.counts t 0 ≡ get_or tally.counts t 0) where
  same_at : (t : ℕ) → t ≢ i → due_at now t ≡ due_at tally t
  same_at t apart = ap (λ (q : ℕ × ℕ). cond {A = ℕ} (nat_le q.0 q.1) 1 0)
      (λ k. (most k, others t apart k))

  same_below : (n : ℕ) → n ≤ i → due_below n now ≡ due_below n tally
  same_below zero low = refl
  same_below (suc n) low = let rest = same_below n (omega (arith, low)) in
      let one = same_at n (λ q. absurd (omega (arith, low, q))) in omega (arith, rest, one)

  pub one_changed : (n : ℕ) → i < n
      → due_below n now + due_at tally i ≡ due_below n tally + due_at now i
  one_changed zero inside = absurd (omega arith)
  one_changed (suc n) inside = dite (ℕ_discrete n i)
      (λ own. let rest = same_below n (omega (arith, own)) in
      let here = ap (λ (k : ℕ). due_at tally k) own in
      let there = ap (λ (k : ℕ). due_at now k) own in omega (arith, rest, here, there))
      (λ apart. let rest = one_changed n (omega (arith, inside, apart)) in
      let one = same_at n apart in omega (arith, rest, one))
