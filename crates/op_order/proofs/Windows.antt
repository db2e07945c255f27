-- The places of the sequences in use.
use Rattle.std.proofs.Common.{◌≡◌, ◌≢◌, ◌⊎◌, ℕ, zero, suc, ◌+◌, ◌-◌, ◌%◌, ◌<◌, ◌≤◌, Some, refl, sym}
use Rattle.std.proofs.Common.{ap, ◌∙◌, subst, inl, inr, ⊎_elim, arith}
use mathlib.Core.Logic.{dite}
use mathlib.Core.Option.{some}
use native.Mathlib.Decide.{ℕ_discrete}
use lib.ListN.{get_elem?}
use Rattle.atomic_table.specs.Table.{State}
use Rattle.op_order.proofs.Rings.{one_in_ring}
use Rattle.op_order.specs.declared.view.OwnerPart.{OwnerPart}
use Rattle.op_order.specs.declared.view.ReaderPart.{ReaderPart}
use Rattle.op_order.specs.declared.view.View.{View}
use Rattle.op_order.specs.declared.view.View.TheVariants.{Owns, Reads}
use Rattle.op_order.specs.Law.{LooksAt, Knows}
use Rattle.op_order.specs.Moments.{RunsIn, IsLawfulAt}
use Rattle.op_order.specs.Places.{IsFree, HasOne, PublicationMoves, AdvanceFrees, HasPlace}
use Rattle.op_order.specs.Rule.{Ruled}
use Rattle.op_order.proofs.States.{inhabited, running_low, running_high, current_low}

-- among so many sequences one has the place, or none has
pub found : (places i o d : ℕ) → ((s : ℕ) × (o ≤ s) × (s < o + d) × (s % places ≡ i))
    ⊎ ((s : ℕ) → o ≤ s → s < o + d → s % places ≢ i)
found places i o zero = inr (λ s l u. absurd (omega arith))
found places i o (suc d) = dite (ℕ_discrete ((o + d) % places) i)
    (λ e. inl (o + d, omega arith, omega arith, e))
    (λ n. ⊎_elim (λ f. inl (f.0, f.1, (let u = f.2 in omega arith), f.3))
    (λ f. inr (λ s l u. dite (ℕ_discrete s (o + d))
    (λ e. subst (λ z. z % places ≢ i) (sym e) n) (λ m. f s l (omega arith))))
    (found places i o d))

module _ (places oldest sequence : ℕ) where
  pub next_is_free : oldest ≤ sequence → suc sequence < oldest + places
      → IsFree places oldest sequence (suc sequence % places)
  next_is_free low room z l u e =
      let same = one_in_ring places oldest (suc sequence) z (suc sequence) room l (omega arith)
      (omega arith) (omega arith) e in
      omega arith

  pub publication_moves : oldest ≤ sequence → suc sequence < oldest + places
      → PublicationMoves places oldest sequence
  publication_moves low room = record {
    taken = next_is_free low room;
    root = refl;
    retired = (low, omega arith, refl);
    stays_free = λ i apart free z l u. dite (ℕ_discrete z (suc sequence))
        (λ e f. apart (sym f ∙ ap (λ y. y % places) e))
        (λ n. free z l (omega arith));
    stays_retired = λ i z is. (is.0, (let u = is.1 in omega arith), is.2);
  }

  pub advance_frees : (n : ℕ) → sequence < oldest + places → oldest + n ≤ sequence
      → AdvanceFrees places oldest sequence n
  advance_frees n room most = record {
    freed = λ s low high. (
      (low, omega arith, refl),
      λ z l u e. let same = one_in_ring places oldest sequence z s room (omega arith) u low
          (omega arith) e in
          omega arith,
    );
    once = λ s z a b c d e. one_in_ring places oldest sequence s z room a (omega arith) c
        (omega arith) e;
    stays_free = λ i free z l u. free z (omega arith) u;
    stays_retired = λ i s above is. (above, is.1, is.2);
  }

module _ (fits : ℕ → ℕ → Type 0) (places : ℕ) {S : Type 0} (s : State S View)
    (R : Ruled fits places s) where
  below : R.part.oldest ≤ R.part.sequence
  below = let a = R.lawful.chain.groups.low in
      let b = current_low R.part.stage R.part.current R.part.sequence R.lawful.values.stands in
      omega arith

  has_one : (i : ℕ) → HasOne places R.part.oldest R.part.sequence i
  has_one i = let n = R.part.sequence in let o = R.part.oldest in
      let room = R.lawful.values.room in record {
        some = dite (ℕ_discrete (n % places) i) (λ e. inl e)
            (λ m. inr (⊎_elim (λ f. inl (f.0, (f.1, (let u = f.2 in omega arith), f.3)))
            (λ f. inr (λ z l u. dite (ℕ_discrete z n)
            (λ e. subst (λ y. y % places ≢ i) (sym e) m)
            (λ apart. f z l (let b = below in omega arith))))
            (found places i o (n - o))));
        root_alone = λ e z t. let same = one_in_ring places o n z n room t.0
            (let u = t.1 in omega arith) below (omega arith) (t.2 ∙ sym e) in
            let u = t.1 in omega arith;
        retired_once = λ z y t u. one_in_ring places o n z y room t.0
            (let a = t.1 in omega arith) u.0 (let a = u.1 in omega arith) (t.2 ∙ sym u.2);
        root_not_free = λ e f. f n below (omega arith) e;
        retired_not_free = λ z t f. f z t.0 (let u = t.1 in omega arith) t.2;
      }

  has_place : (j z : ℕ) (r : ReaderPart) → get_elem? s.views j ≡ some (Reads r)
      → r.looked ≡ Some z → HasPlace fits places R.part s.words r z
  has_place j z r at is =
      let W = R.lawful in let L : LooksAt R.part r = W.knows j (Reads r) at in
      let q = L.looked z is in
      let run = inhabited R.part R.tallies s.views W.chain j q.0 r at q.1 in
      let low = running_low R.part R.tallies s.views W.chain q.0 run in
      let under = q.2 in let most = q.3 in record {
        group = q.0;
        own = q.1;
        below = q.2;
        place = dite (ℕ_discrete z R.part.sequence) (λ e. inl e)
            (λ n. inr (omega arith, omega arith, refl));
        value = R.shown.values z (omega arith) q.3;
        fit = W.values.fit z q.3;
      }

  next_free : suc R.part.sequence < R.part.oldest + places
      → IsFree places R.part.oldest R.part.sequence (suc R.part.sequence % places)
  next_free room = next_is_free places R.part.oldest R.part.sequence below room

  runs : (j g : ℕ) (r : ReaderPart) → RunsIn s.views j r g
      → (R.part.oldest ≤ g) × (g ≤ R.part.current)
  runs j g r is = let C = R.lawful.chain in
      let some_run = inhabited R.part R.tallies s.views C j g r is.0 is.1 in (
        running_low R.part R.tallies s.views C g some_run,
        running_high R.part R.tallies s.views C g some_run,
      )

  owned : (j : ℕ) (p : OwnerPart) → get_elem? s.views j ≡ some (Owns p) → p ≡ R.part
  owned j p at = let k : Knows R.boss R.part j (Owns p) = R.lawful.knows j (Owns p) at in k.1

  next_unread : suc R.part.sequence < R.part.oldest + places → (j g z : ℕ) (r : ReaderPart)
      → RunsIn s.views j r g → g ≤ z → z ≤ R.part.sequence
      → z % places ≢ suc R.part.sequence % places
  next_unread room j g z r is above most = let low = (runs j g r is).0 in
      next_free room z (omega arith) most

  pub lawful_at : IsLawfulAt fits places R.part s
  lawful_at = record {
    owned = owned;
    root = R.shown.root;
    each = λ i below. has_one i;
    current = R.shown.current;
    oldest = R.shown.oldest;
    tallies = R.tallies;
    values = R.shown.values;
    fit = R.lawful.values.fit;
    groups = R.lawful.chain;
    counted = R.shown.ring.shown;
    runs = runs;
    held = λ j z r reads. has_place j z r reads.0 reads.1;
    next_free = next_free;
    next_unread = next_unread;
  }
