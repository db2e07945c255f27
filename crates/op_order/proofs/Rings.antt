-- A ring goes on showing its groups over each step on one of them.
use Rattle.std.proofs.Common.{◌≡◌, ◌≢◌, ℕ, suc, ◌+◌, ◌*◌, ◌%◌, ◌^◌, ◌<◌, ◌≤◌, sym, ap, ◌∙◌, subst}
use Rattle.std.proofs.Common.{inl, inr, ⊎_elim, arith}
use mathlib.Core.Logic.{dite}
use native.Mathlib.Decide.{ℕ_discrete, dec_le}
use Rattle.atomic_table.proofs.Lists.{one_turn}
use Rattle.op_core.specs.declared.count.Tally.{Tally}
use Rattle.op_core.specs.declared.count.Tally.TheVariants.{Open, Expired}
use Rattle.op_core.specs.Tallies.{running_of}
use Rattle.op_core.specs.CountWords.{count_word}
use Rattle.op_order.specs.Ring.{HasWord, RingShows}
use Rattle.op_order.proofs.Words.{one_word, marked}

-- two numbers in a chain that is no longer than the ring are one where they have one place
pub one_in_ring : (rows oldest top a b : ℕ) → top < oldest + rows → oldest ≤ a → a ≤ top
    → oldest ≤ b → b ≤ top → a % rows ≡ b % rows → a ≡ b
one_in_ring rows oldest top a b room la ua lb ub e = dite (dec_le a b)
    (λ le. one_turn a b rows le (omega arith) e)
    (λ n. sym (one_turn b a rows (omega arith) (omega arith) (sym e)))

-- the count of a group in the chain changes, and with it its word
pub ring_count : (rows oldest top g : ℕ) (cell cell' : ℕ → ℕ) (tally tally' : ℕ → Tally)
    → top < oldest + rows → oldest ≤ g → g ≤ top → RingShows rows oldest top cell tally
    → cell' (g % rows) ≡ count_word g (tally' g)
    → ((i : ℕ) → i ≢ g % rows → cell' i ≡ cell i) → ((h : ℕ) → h ≢ g → tally' h ≡ tally h)
    → RingShows rows oldest top cell' tally'
ring_count rows oldest top g cell cell' tally tally' room low high R here elsewhere same = record {
  shown = λ h l u. dite (ℕ_discrete h g)
      (λ e. subst (λ z. cell' (z % rows) ≡ count_word z (tally' z)) (sym e) here)
      (λ n. elsewhere (h % rows) (λ m. n (one_in_ring rows oldest top h g room l u low high m))
      ∙ (R.shown h l u ∙ ap (count_word h) (sym (same h n))));
  each = λ i below. ⊎_elim (λ w. inl w)
      (λ m. dite (ℕ_discrete i (g % rows))
      (λ e. inl (record { group = g; low = low; high = high; is_at = sym e }))
      (λ n. inr (subst (λ z. 2 ^ 63 ≤ z) (sym (elsewhere i n)) m)))
      (R.each i below);
}

-- the next group is made
pub ring_open : (rows oldest top g : ℕ) (cell cell' : ℕ → ℕ) (tally tally' : ℕ → Tally)
    → g ≡ suc top → g < oldest + rows → oldest ≤ g → RingShows rows oldest top cell tally
    → cell' (g % rows) ≡ count_word g (tally' g)
    → ((i : ℕ) → i ≢ g % rows → cell' i ≡ cell i) → ((h : ℕ) → h ≢ g → tally' h ≡ tally h)
    → RingShows rows oldest g cell' tally'
ring_open rows oldest top g cell cell' tally tally' next room low R here elsewhere same = record {
  shown = λ h l u. dite (ℕ_discrete h g)
      (λ e. subst (λ z. cell' (z % rows) ≡ count_word z (tally' z)) (sym e) here)
      (λ n. elsewhere (h % rows)
      (λ m. n (one_in_ring rows oldest g h g room l u low (omega arith) m))
      ∙ (R.shown h l (omega arith) ∙ ap (count_word h) (sym (same h n))));
  each = λ i below. ⊎_elim
      (λ (w : HasWord rows oldest top i). inl (record {
        group = w.group;
        low = w.low;
        high = let u = w.high in omega arith;
        is_at = w.is_at;
      }))
      (λ m. dite (ℕ_discrete i (g % rows))
      (λ e. inl (record { group = g; low = low; high = omega arith; is_at = sym e }))
      (λ n. inr (subst (λ z. 2 ^ 63 ≤ z) (sym (elsewhere i n)) m)))
      (R.each i below);
}

-- the oldest moves over a finished group
pub ring_advance : (rows oldest top : ℕ) (cell : ℕ → ℕ) (tally : ℕ → Tally) → oldest ≤ top
    → tally oldest ≡ Expired 0 → RingShows rows oldest top cell tally
    → RingShows rows (suc oldest) top cell tally
ring_advance rows oldest top cell tally low done R = record {
  shown = λ h l u. R.shown h (omega arith) u;
  each = λ i below. ⊎_elim
      (λ (w : HasWord rows oldest top i). dite (ℕ_discrete w.group oldest)
      (λ e. inr (subst (λ z. 2 ^ 63 ≤ cell z) (ap (λ z. z % rows) (sym e) ∙ w.is_at)
      (subst (λ z. 2 ^ 63 ≤ z) (sym (R.shown oldest (omega arith) low))
      (marked oldest (tally oldest) done))))
      (λ n. inl (record {
        group = w.group;
        low = let l = w.low in omega arith;
        high = w.high;
        is_at = w.is_at;
      })))
      (λ m. inr m) (R.each i below);
}

-- What a word below the mark tells: the group whose number it has is in the chain, and open.
pub record IsFound (oldest top g r : ℕ) (tally : ℕ → Tally) : Type 0 where
  pub low : oldest ≤ g
  pub high : g ≤ top
  pub is_open : tally g ≡ Open r

pub ring_found : (rows oldest top : ℕ) (cell : ℕ → ℕ) (tally : ℕ → Tally) (g r : ℕ)
    → RingShows rows oldest top cell tally → top < 2 ^ 47
    → ((h : ℕ) → running_of (tally h) < 65536) → g % rows < rows → g < 2 ^ 47 → r < 65536
    → cell (g % rows) ≡ count_word g (Open r) → IsFound oldest top g r tally
ring_found rows oldest top cell tally g r R small few below sg sr is = ⊎_elim
    (λ (w : HasWord rows oldest top (g % rows)).
    let here : count_word w.group (tally w.group) ≡ count_word g (Open r)
    = sym (R.shown w.group w.low w.high) ∙ (ap cell w.is_at ∙ is) in
    let S = one_word w.group g (tally w.group) (Open r) (let u = w.high in omega arith) sg
    (few w.group) sr here in record {
      low = subst (λ z. oldest ≤ z) S.group w.low;
      high = subst (λ z. z ≤ top) S.group w.high;
      is_open = ap tally (sym S.group) ∙ S.tally;
    })
    (λ m. absurd (let e : cell (g % rows) ≡ r + 65536 * g = is in omega arith))
    (R.each (g % rows) below)

-- What any word tells of its operations, where all groups have few.
pub few_in : (rows oldest top : ℕ) (cell : ℕ → ℕ) (tally : ℕ → Tally) (i g r most : ℕ)
    → RingShows rows oldest top cell tally → top < 2 ^ 47
    → ((h : ℕ) → running_of (tally h) ≤ most) → most < 65536 → i < rows → g < 2 ^ 47
    → r < 65536 → cell i ≡ count_word g (Open r) → r ≤ most
few_in rows oldest top cell tally i g r most R small few low below sg sr is = ⊎_elim
    (λ (w : HasWord rows oldest top i).
    let here : count_word w.group (tally w.group) ≡ count_word g (Open r)
    = sym (R.shown w.group w.low w.high) ∙ (ap cell w.is_at ∙ is) in
    let f = few w.group in
    let S = one_word w.group g (tally w.group) (Open r) (let u = w.high in omega arith) sg
    (omega arith) sr here in
    subst (λ (k : Tally). running_of k ≤ most) S.tally f)
    (λ m. absurd (let e : cell i ≡ r + 65536 * g = is in omega arith))
    (R.each i below)
