-- A reader joins a group, and leaves it.
use Rattle.std.proofs.Common.{◌≡◌, ◌≢◌, ℕ, suc, ◌+◌, ◌-◌, ◌*◌, ◌%◌, ◌^◌, ◌<◌, ◌≤◌, eqb, List}
use Rattle.std.proofs.Common.{length, set, Some, None, refl, sym, ap, ◌∙◌, subst, arith, length-set}
use Rattle.std.proofs.Common.{mod-lt, get_or-set_same, get_or-set_other}
use Rattle.std.specs.Prelude.{slice_index}
use Rattle.std.specs.List.{count_by}
use mathlib.Core.Option.{some, none}
use prog.Atomic.{either}
use lib.ListN.{get_elem?}
use Rattle.atomic_table.proofs.Lists.{exchanged}
use Rattle.atomic_table.specs.Table.{State, Me, Act, keeps, Valid, carried_after, step, stepped}
use Rattle.atomic_table.specs.Table.{Allows}
use Rattle.op_core.specs.declared.count.Tally.{Tally}
use Rattle.op_core.specs.declared.count.Tally.TheVariants.{Open, Expired}
use Rattle.op_core.specs.Tallies.{running_of, IsOpen, tally_at, one_more, one_less}
use Rattle.op_order.specs.Groups.{GroupsAre}
use Rattle.op_order.proofs.Chains.{unclosed_left, chain_enter, chain_leave}
use Rattle.op_core.specs.CountWords.{count_word}
use Rattle.op_order.proofs.Rings.{IsFound, ring_count, ring_found}
use Rattle.op_core.proofs.CountWords.{less_word}
use Rattle.op_order.specs.declared.view.OwnerPart.{OwnerPart}
use Rattle.op_order.specs.declared.view.ReaderPart.{ReaderPart}
use Rattle.op_order.specs.declared.view.View.{View}
use Rattle.op_order.specs.declared.view.View.TheVariants.{Reads}
use Rattle.op_order.specs.Law.{top_of, is_moved, is_at, is_in, LooksAt, CountsAre}
use Rattle.op_order.specs.Rule.{Shows, Ruled, ring_of, count_at}
use Rattle.op_order.specs.Told.{with_group, with_step, without_group, registered, stopped}
use Rattle.op_order.proofs.Counts.{bit, count_set}
use Rattle.op_order.proofs.States.{inhabited, running_low, running_high, current_made, in_list}
use Rattle.op_order.proofs.States.{few_running, top_small, top_room, at_own, at_other}
use Rattle.op_order.proofs.States.{readers_know, word_else, word_here}
use Rattle.op_order.proofs.Readers.{looks}

-- The words, when the count of a group in the chain changes.
pub shows_count : (places : ℕ) (tallies tallies' : List Tally) (part : OwnerPart)
    (words : List ℕ) (g n : ℕ) → Shows places tallies part words
    → top_of part.stage part.current < part.oldest + suc places → part.oldest ≤ g
    → g ≤ top_of part.stage part.current → n ≡ count_word g (tally_at tallies' g)
    → ((h : ℕ) → h ≢ g → tally_at tallies' h ≡ tally_at tallies h) → 0 < places
    → Shows places tallies' part (set words (count_at places g) n)
shows_count places tallies tallies' part words g n W room low high is same plenty =
    let i = count_at places g in
    let below : g % suc places < suc places = mod-lt g (omega arith) in
    let wide = W.wide in
    let x : ℕ = g % suc places in
    let at_x : i ≡ 10 + places + x = refl in
    let under : x < suc places = below in
    let inside : i < length words = omega arith in
    let apart : (j : ℕ) → j < 3 + places → j ≢ i = λ j small e. omega arith in record {
      wide = length-set words i n ∙ W.wide;
      root = word_else words i 0 n (apart 0 (omega arith)) ∙ W.root;
      current = word_else words i 1 n (apart 1 (omega arith)) ∙ W.current;
      oldest = word_else words i 2 n (apart 2 (omega arith)) ∙ W.oldest;
      values = λ s l u. word_else words i (3 + s % places) n
          (apart (3 + s % places) (let q : s % places < places = mod-lt s plenty in
          omega arith)) ∙ W.values s l u;
      next = λ e. word_else words i (3 + suc part.sequence % places) n
          (apart (3 + suc part.sequence % places)
          (let q : suc part.sequence % places < places = mod-lt (suc part.sequence) plenty in
          omega arith)) ∙ W.next e;
      ring = ring_count (suc places) part.oldest (top_of part.stage part.current) g
          (ring_of places words) (ring_of places (set words i n)) (tally_at tallies)
          (tally_at tallies') room low high W.ring (word_here words i n inside ∙ is)
          (λ j m. word_else words i (10 + places + j) n
          (λ e. m (let y : 10 + places + j ≡ 10 + places + x = e in omega arith)))
          same;
    }

-- The groups, when a reader joins an open one that it found as the current group.
module _ (part : OwnerPart) (tallies : List Tally) (views : List View)
    (C : CountsAre part tallies views) (id : ℕ) (r : ReaderPart)
    (at : get_elem? views id ≡ some (Reads r)) where
  module _ (g k i n : ℕ) (found : r.current ≡ g) (idle : r.group ≡ None) (low : part.oldest ≤ g)
      (high : g ≤ part.current)
      (unclosed : tally_at tallies g ≡ Open k) where
    unclosed_now : IsOpen (tally_at tallies g)
    unclosed_now = subst IsOpen (sym unclosed) tt

    pub joins : CountsAre part (set tallies g (Open (suc k)))
        (set views id (Reads (with_group i n r)))
    joins = record {
      groups = subst (λ t. GroupsAre (is_moved part.stage) part.current part.oldest
          (top_of part.stage part.current) (set tallies g t)
          (λ h. count_by (is_in h) (set views id (Reads (with_group i n r)))))
          (ap one_more unclosed ∙ ap Open (let z : k + 1 ≡ suc k = omega arith in z))
          (chain_enter (is_moved part.stage) part.current part.oldest
          (top_of part.stage part.current) tallies (λ h. count_by (is_in h) views) C.groups g
          (λ h. count_by (is_in h) (set views id (Reads (with_group i n r)))) high unclosed_now
          (let c = count_set (is_in g) views id (Reads r) (Reads (with_group i n r)) at in
          let a : bit (is_at g r.group) ≡ 0 = ap (λ o. bit (is_at g o)) idle in
          let b : bit (is_at g (Some r.current)) ≡ 1 = ap (λ h. bit (is_at g (Some h))) found
          ∙ ap bit (at_own g) in omega arith)
          (λ h apart. let c = count_set (is_in h) views id (Reads r) (Reads (with_group i n r)) at
          in
          let a : bit (is_at h r.group) ≡ 0 = ap (λ o. bit (is_at h o)) idle in
          let b : bit (is_at h (Some r.current)) ≡ 0 = ap (λ z. bit (is_at h (Some z))) found
          ∙ ap bit (at_other g h apart) in omega arith));
      gone = λ e. let done = C.gone e in
          get_or-set_other tallies g part.oldest (Open (suc k)) (Open 0)
          (λ q. unclosed_left (tally_at tallies g) unclosed_now
          (ap (tally_at tallies) (sym q) ∙ done)) ∙ done;
    }

  -- when it leaves its group
  module _ (g i n : ℕ) (own : r.group ≡ Some g) where
    some_run : 0 < running_of (tally_at tallies g)
    some_run = inhabited part tallies views C id g r at own

    finished : (k : Tally) → 0 < running_of k → k ≡ Expired 0 → ⊥
    finished k runs e = let z : running_of k ≡ 0 = ap running_of e in omega arith

    pub leaves : CountsAre part (set tallies g (one_less (tally_at tallies g)))
        (set views id (Reads (without_group i n r)))
    leaves = record {
      groups = chain_leave (is_moved part.stage) part.current part.oldest
          (top_of part.stage part.current) tallies (λ h. count_by (is_in h) views) C.groups g
          (λ h. count_by (is_in h) (set views id (Reads (without_group i n r))))
          (let c = count_set (is_in g) views id (Reads r) (Reads (without_group i n r)) at in
          let a : bit (is_at g r.group) ≡ 1 = ap (λ o. bit (is_at g o)) own ∙ ap bit (at_own g) in
          let b : bit (is_at g None) ≡ 0 = refl in omega arith)
          (λ h apart. let c = count_set (is_in h) views id (Reads r) (Reads (without_group i n r))
          at
          in let a : bit (is_at h r.group) ≡ 0
          = ap (λ o. bit (is_at h o)) own ∙ ap bit (at_other g h apart) in
          let b : bit (is_at h None) ≡ 0 = refl in omega arith);
      gone = λ e. let done = C.gone e in
          get_or-set_other tallies g part.oldest (one_less (tally_at tallies g)) (Open 0)
          (λ q. finished (tally_at tallies g) some_run
          (ap (tally_at tallies) (sym q) ∙ done)) ∙ done;
    }

module _ (fits : ℕ → ℕ → Type 0) (places : ℕ) {S : Type 0} (slots id : ℕ) (m : Me S View)
    (r : ReaderPart) (mine : m.0 ≡ Reads r) where
  -- what an exchange that found n owes
  abbrev Owes : State S View → ℕ → ℕ → ℕ → ℕ → ℕ → Type 0
  Owes s g k n z w = (v : View) × (a : Act S) × Valid s.homes m.1 a
      × Ruled fits places (stepped s (count_at places g) z id m.1 v a)
      × registered (step slots (count_at places g) k w none) m n (v, carried_after m.1 a)

  pub registers : (k : ℕ) → r.group ≡ None → r.current < 2 ^ 47 → k < 65535
      → Allows (Ruled fits places) slots id m (count_at places r.current)
      (λ n. either (eqb n (k + 65536 * r.current)) (suc (k + 65536 * r.current)) n)
      (registered (step slots (count_at places r.current) (k + 65536 * r.current)
      (suc (k + 65536 * r.current)) none) m)
  registers k idle small few s R deep there word =
      let g = r.current in let old = k + 65536 * g in
      let n = slice_index s.words (count_at places g) in
      exchanged n old (suc old) (λ z. Owes s g old n z (suc old))
      (λ hit. joined s R there hit)
      (λ miss. missed s R there miss)
    where
      read_as : (q : ReaderPart) → m.0 ≡ Reads q → r ≡ q
      read_as q role = let e : Reads r ≡ Reads q = sym mine ∙ role in cc

      missed : (s : State S View) (R : Ruled fits places s) → get_elem? s.views id ≡ some m.0
          → slice_index s.words (count_at places r.current) ≢ k + 65536 * r.current
          → Owes s r.current (k + 65536 * r.current)
          (slice_index s.words (count_at places r.current))
          (slice_index s.words (count_at places r.current)) (suc (k + 65536 * r.current))
      missed s R there miss = let at = there ∙ ap some mine in
          let L : LooksAt R.part r = R.lawful.knows id (Reads r) at in
          let i = count_at places r.current in let n = slice_index s.words i in (
            Reads (with_step i n r),
            keeps,
            tt,
            looks fits places s id i m.1 r (with_step i n r) R at refl (record {
              looked = L.looked;
              seen = L.seen;
              found = L.found;
            }),
            λ q role. (
              (λ hit. absurd (miss hit)),
              (λ _. ap (λ (z : ReaderPart). (Reads (with_step i n z), m.1)) (read_as q role)),
            ),
          )

      joined : (s : State S View) (R : Ruled fits places s) → get_elem? s.views id ≡ some m.0
          → slice_index s.words (count_at places r.current) ≡ k + 65536 * r.current
          → Owes s r.current (k + 65536 * r.current)
          (slice_index s.words (count_at places r.current))
          (suc (k + 65536 * r.current)) (suc (k + 65536 * r.current))
      joined s R there hit =
          let at = there ∙ ap some mine in let W = R.lawful in let g = r.current in
          let L : LooksAt R.part r = W.knows id (Reads r) at in
          let top = top_of R.part.stage R.part.current in
          let F : IsFound R.part.oldest top g k (tally_at R.tallies) = ring_found (suc places)
          R.part.oldest top (ring_of places s.words) (tally_at R.tallies) g k R.shown.ring
          (top_small fits places R.part W.values)
          (λ h. let f = few_running R.part R.tallies s.views W.chain W.few h in omega arith)
          (mod-lt g (omega arith)) small (omega arith) hit in
          let inside = in_list R.part R.tallies s.views W.chain g F.high in
          let tallies' = set R.tallies g (Open (suc k)) in
          let i = count_at places g in let n = slice_index s.words i in (
            Reads (with_group i n r),
            keeps,
            tt,
            record {
              tallies = tallies';
              part = R.part;
              boss = R.boss;
              lawful = record {
                sized = W.sized;
                chain = joins R.part R.tallies s.views W.chain id r at g k i n refl idle F.low
                    L.found
                    F.is_open;
                values = W.values;
                few = let l = length-set s.views id (Reads (with_group i n r)) in let f = W.few in
                    omega arith;
                seated = length-set s.views id (Reads (with_group i n r)) ∙ W.seated;
                knows = readers_know R.boss R.part s.views W.knows id (with_group i n r) (record {
                  looked = λ z e. absurd (let q : None ≡ Some z = e in cc);
                  seen = L.seen;
                  found = L.found;
                });
              };
              shown = shows_count places R.tallies tallies' R.part s.words g
                  (suc (k + 65536 * g)) R.shown (top_room fits places R.part W.values) F.low F.high
                  ((let up : suc (k + 65536 * g) ≡ suc k + 65536 * g = omega arith in up)
                  ∙ sym (ap (count_word g)
                  (get_or-set_same R.tallies g (Open (suc k)) (Open 0) inside)))
                  (λ h apart. get_or-set_other R.tallies g h (Open (suc k)) (Open 0) apart)
                  (let z = W.sized.0 in omega arith);
            },
            λ q role. (
              (λ _. ap (λ (z : ReaderPart). (Reads (with_group i n z), m.1))
                  (read_as q role)),
              (λ miss. absurd (miss hit)),
            ),
          )

  pub stops : (g : ℕ) → r.group ≡ Some g → Allows (Ruled fits places) slots id m
      (count_at places g) (λ n. (n + (2 ^ 64 - 1)) % 2 ^ 64)
      (stopped (step slots (count_at places g) 1 0 none) m)
  stops g own s R deep there word =
      let at = there ∙ ap some mine in let W = R.lawful in
      let L : LooksAt R.part r = W.knows id (Reads r) at in
      let run = inhabited R.part R.tallies s.views W.chain id g r at own in
      let low = running_low R.part R.tallies s.views W.chain g run in
      let high = running_high R.part R.tallies s.views W.chain g run in
      let made = current_made R.part.stage R.part.current in
      let up : g ≤ top_of R.part.stage R.part.current = omega arith in
      let k = tally_at R.tallies g in
      let tallies' = set R.tallies g (one_less k) in
      let inside = in_list R.part R.tallies s.views W.chain g up in
      let i = count_at places g in let n = slice_index s.words i in
      let is : slice_index s.words (count_at places g) ≡ count_word g k
      = R.shown.ring.shown g low up in
      let fits_in : count_word g k < 2 ^ 64 = subst (λ z. z < 2 ^ 64) is word in (
        Reads (without_group i n r),
        keeps,
        tt,
        record {
          tallies = tallies';
          part = R.part;
          boss = R.boss;
          lawful = record {
            sized = W.sized;
            chain = leaves R.part R.tallies s.views W.chain id r at g i n own;
            values = W.values;
            few = let l = length-set s.views id (Reads (without_group i n r)) in let f = W.few in
                omega arith;
            seated = length-set s.views id (Reads (without_group i n r)) ∙ W.seated;
            knows = readers_know R.boss R.part s.views W.knows id (without_group i n r) (record {
              looked = λ z e. absurd (let q : None ≡ Some z = e in cc);
              seen = L.seen;
              found = L.found;
            });
          };
          shown = shows_count places R.tallies tallies' R.part s.words g
              ((slice_index s.words (count_at places g) + (2 ^ 64 - 1)) % 2 ^ 64) R.shown
              (top_room fits places R.part W.values) low up
              (ap (λ z. (z + (2 ^ 64 - 1)) % 2 ^ 64) is ∙ (less_word g k run fits_in
              ∙ sym (ap (count_word g)
              (get_or-set_same R.tallies g (one_less k) (Open 0) inside))))
              (λ h apart. get_or-set_other R.tallies g h (one_less k) (Open 0) apart)
              (let z = W.sized.0 in omega arith);
        },
        λ q role. let same : r ≡ q = let e : Reads r ≡ Reads q = sym mine ∙ role in cc in
            ap (λ (z : ReaderPart). (Reads (without_group i n z), m.1)) same,
      )
