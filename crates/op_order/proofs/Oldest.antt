-- The owner looks at the oldest group, and moves on over one that is finished.
use Rattle.std.proofs.Common.{◌≡◌, ◌≢◌, ◌⊎◌, Bool, ℕ, zero, suc, ◌+◌, ◌*◌, ◌%◌, ◌^◌, ◌<◌, ◌≤◌, true}
use Rattle.std.proofs.Common.{List, ◌∷◌, length, set, sym, ap, ◌∙◌, subst, arith, length-set}
use Rattle.std.specs.Prelude.{slice_index}
use Rattle.std.specs.List.{count_by}
use Rattle.std.proofs.lemmas.Bool.{false≢true}
use Rattle.std.proofs.lemmas.List.{set-get_or}
use mathlib.Core.Logic.{dite}
use mathlib.Core.Option.{some, none}
use native.Mathlib.Decide.{ℕ_discrete}
use lib.ListN.{get_elem?}
use Rattle.atomic_table.specs.Table.{State, Me, keeps, step, stepped, Allows}
use Rattle.op_core.specs.declared.count.Tally.{Tally}
use Rattle.op_core.specs.declared.count.Tally.TheVariants.{Open, Expired}
use Rattle.op_core.specs.Tallies.{IsOpen, tally_at, running_of}
use Rattle.op_core.specs.CountWords.{count_word}
use Rattle.op_order.proofs.Chains.{chain_advance}
use Rattle.op_order.specs.Ring.{HasWord, RingShows}
use Rattle.op_order.proofs.Rings.{ring_advance}
use Rattle.op_order.proofs.Words.{one_word}
use Rattle.op_order.specs.declared.view.OwnerPart.{OwnerPart}
use Rattle.op_order.specs.declared.view.Stage.TheVariants.{Rest, Stored}
use Rattle.op_order.specs.declared.view.View.{View}
use Rattle.op_order.specs.declared.view.WordStep.{WordStep}
use Rattle.op_order.specs.declared.view.View.TheVariants.{Owns}
use Rattle.op_order.specs.Law.{top_of, is_moved, is_in, IsLawful, value_of}
use Rattle.op_order.specs.Rule.{Shows, Ruled, ring_of, root_word, value_at, count_at}
use Rattle.op_order.specs.Told.{looked_at, with_found, with_gone, with_oldest, saw_oldest, HasLeft}
use Rattle.op_order.specs.Told.{advanced}
use Rattle.op_order.proofs.States.{owner_knows, current_made, few_running, top_small, word_else}
use Rattle.op_order.proofs.States.{word_here}
use Rattle.op_order.proofs.Publishing.{owner_is}
use Rattle.op_order.proofs.Barriers.{groups_at, owned, lawful_own, shows_own, at_own, is_boss}

-- what a word tells that is not open and not finished
left_in : (g n : ℕ) (k : Tally) → (IsOpen k → ⊥) → n ≡ count_word g k → running_of k ≤ 64
    → g < 2 ^ 47 → n ≢ count_word g (Expired 0) → HasLeft g n
left_in g n (Open r) shut is few small miss = absurd (shut tt)
left_in g n (Expired zero) shut is few small miss = absurd (miss is)
left_in g n (Expired (suc r)) shut is few small miss = (r, is, few, small)

module _ (fits : ℕ → ℕ → Type 0) (places : ℕ) {S : Type 0} (slots id : ℕ) (m : Me S View)
    (p : OwnerPart) (mine : m.0 ≡ Owns p) where
  abbrev after : OwnerPart → Me S View
  after q = (Owns q, m.1)

  whose : (q : OwnerPart) → m.0 ≡ Owns q → p ≡ q
  whose q role = owner_is fits places slots id m p mine q role

  module _ (s : State S View) (R : Ruled fits places s) (there : get_elem? s.views id ≡ some m.0)
    where
      at_it : get_elem? s.views id ≡ some (Owns p)
      at_it = at_own fits places slots id m p mine s R there

      law : IsLawful fits places R.boss R.tallies p s.views
      law = lawful_own fits places slots id m p mine s R there

      words_are : Shows places R.tallies p s.words
      words_are = shows_own fits places slots id m p mine s R there

      is_it : id ≡ R.boss
      is_it = is_boss fits places slots id m p mine s R there

  -- The owner looks, keeps what it found, and may know then that the oldest group is finished.
  pub owner_looks : (s : State S View) (R : Ruled fits places s)
      (there : get_elem? s.views id ≡ some m.0) (i : ℕ) (b : Bool)
      (found : List WordStep) → (b ≡ true → tally_at R.tallies p.oldest ≡ Expired 0)
      → Ruled fits places (stepped s i (slice_index s.words i) id m.1
      (Owns (record p { gone = b; looks = found })) keeps)
  owner_looks s R there i b found done =
      let L = law s R there in let D = words_are s R there in
      let at = at_it s R there in let V = L.values in let C = L.chain in
      let p' = record p { gone = b; looks = found } in record {
        tallies = R.tallies;
        part = p';
        boss = R.boss;
        lawful = record {
          sized = L.sized;
          chain = record {
            groups = owned (is_moved p.stage) p.current p.oldest (top_of p.stage p.current)
                R.tallies s.views id p p' at C.groups;
            gone = done;
          };
          values = record {
            stands = V.stands;
            small = V.small;
            listed = V.listed;
            fit = V.fit;
            room = V.room;
            next = V.next;
          };
          few = let l = length-set s.views id (Owns p') in let f = L.few in omega arith;
          seated = length-set s.views id (Owns p') ∙ L.seated;
          knows = owner_knows R.boss p p' s.views L.knows id (is_it s R there) (record {
            sequence = omega arith;
            current = omega arith;
          });
        };
        shown = let e = sym (set-get_or s.words i 0) in record {
          wide = subst (λ w. length w ≡ 11 + 2 * places) e D.wide;
          root = subst (λ w. slice_index w 0 ≡ root_word places p.sequence) e D.root;
          current = subst (λ w. slice_index w 1 ≡ p.current) e D.current;
          oldest = subst (λ w. slice_index w 2 ≡ p.oldest) e D.oldest;
          values = λ z l u. subst (λ w. slice_index w (value_at places z) ≡ value_of p.values z) e
              (D.values z l u);
          next = λ q. subst (λ w. slice_index w (value_at places (suc p.sequence)) ≡ p.next) e
              (D.next q);
          ring = subst (λ w. RingShows (suc places) p.oldest (top_of p.stage p.current)
              (ring_of places w) (tally_at R.tallies)) e D.ring;
        };
      }

  -- the oldest group was found finished, or this tells nothing
  pub sees_oldest : Allows (Ruled fits places) slots id m (count_at places p.oldest) (λ n. n)
      (saw_oldest (step slots (count_at places p.oldest) 0 0 none) m)
  sees_oldest s R deep there word =
      let i = count_at places p.oldest in let n = slice_index s.words i in
      dite (ℕ_discrete n (count_word p.oldest (Expired 0)))
      (λ hit. (
        Owns (with_gone (with_found i n p)),
        keeps,
        tt,
        owner_looks s R there i true (looked_at i n ∷ p.looks) (λ e. finished s R there hit),
        λ q role. (
          (λ _. ap (λ (z : OwnerPart). after (with_gone (with_found i n z))) (whose q role)),
          (λ miss. absurd (miss (hit ∙ ap (λ (z : OwnerPart). count_word z.oldest (Expired 0))
              (whose q role)))),
          λ rest low miss. absurd (miss (hit ∙ ap (λ (z : OwnerPart). count_word z.oldest
              (Expired 0)) (whose q role))),
        ),
      ))
      (λ miss. (
        Owns (with_found i n p),
        keeps,
        tt,
        owner_looks s R there i p.gone (looked_at i n ∷ p.looks)
            (law s R there).chain.gone,
        λ q role. (
          (λ hit. absurd (miss (hit ∙ ap (λ (z : OwnerPart). count_word z.oldest (Expired 0))
              (sym (whose q role))))),
          (λ _. ap (λ (z : OwnerPart). after (with_found i n z)) (whose q role)),
          subst (λ (z : OwnerPart). z.stage ≡ Rest → z.oldest < z.current
              → n ≢ count_word z.oldest (Expired 0) → HasLeft z.oldest n) (whose q role)
              (left s R there),
        ),
      ))
    where
      left : (s : State S View) (R : Ruled fits places s)
          → (there : get_elem? s.views id ≡ some m.0) → p.stage ≡ Rest → p.oldest < p.current
          → slice_index s.words (count_at places p.oldest) ≢ count_word p.oldest (Expired 0)
          → HasLeft p.oldest (slice_index s.words (count_at places p.oldest))
      left s R there rest below miss =
          let L = law s R there in let D = words_are s R there in
          let C = L.chain in let low = C.groups.low in
          let made = current_made p.stage p.current in
          let top = top_small fits places p L.values in
          left_in p.oldest (slice_index s.words (count_at places p.oldest))
          (tally_at R.tallies p.oldest)
          (λ unclosed. false≢true (((groups_at p R.tallies s.views C Rest rest).each
          p.oldest).below_current below unclosed).1)
          (D.ring.shown p.oldest (omega arith) (omega arith))
          (few_running p R.tallies s.views C L.few p.oldest) (omega arith) miss

      finished : (s : State S View) (R : Ruled fits places s)
          → (there : get_elem? s.views id ≡ some m.0)
          → slice_index s.words (count_at places p.oldest) ≡ count_word p.oldest (Expired 0)
          → tally_at R.tallies p.oldest ≡ Expired 0
      finished s R there hit = let L = law s R there in let D = words_are s R there in
          let C = L.chain in let low = C.groups.low in
          let made = current_made p.stage p.current in
          let top = top_small fits places p L.values in
          let few = few_running p R.tallies s.views C L.few p.oldest in
          (one_word p.oldest p.oldest (tally_at R.tallies p.oldest) (Expired 0) (omega arith)
          (omega arith) (omega arith) (omega arith)
          (sym (D.ring.shown p.oldest (omega arith) (omega arith)) ∙ hit)).tally

  pub advances : (g : ℕ) → p.stage ≡ Rest → p.gone ≡ true → g ≡ suc p.oldest
      → p.oldest < p.current → Allows (Ruled fits places) slots id m 2 (λ _. g)
      (λ _. advanced (step slots 2 g 0 none) m g)
  advances g stage gone next below s R deep there word =
      let L = law s R there in let D = words_are s R there in
      let at = at_it s R there in let V = L.values in let C = L.chain in
      let p' = with_oldest p in
      let made = current_made p.stage p.current in
      let wide = D.wide in
      let inside : 2 < length s.words = omega arith in
      let done = C.gone gone in (
        Owns p',
        keeps,
        tt,
        record {
          tallies = R.tallies;
          part = p';
          boss = R.boss;
          lawful = record {
            sized = L.sized;
            chain = record {
              groups = owned (is_moved p.stage) p.current (suc p.oldest) (top_of p.stage p.current)
                  R.tallies s.views id p p' at (chain_advance (is_moved p.stage) p.current p.oldest
                  (top_of p.stage p.current) R.tallies (λ h. count_by (is_in h) s.views) below done
                  C.groups);
              gone = λ e. absurd (false≢true e);
            };
            values = record {
              stands = V.stands;
              small = V.small;
              listed = V.listed;
              fit = V.fit;
              room = let z = V.room in omega arith;
              next = λ e. absurd (let q : Rest ≡ Stored = sym stage ∙ e in cc);
            };
            few = let l = length-set s.views id (Owns p') in let f = L.few in omega arith;
            seated = length-set s.views id (Owns p') ∙ L.seated;
            knows = owner_knows R.boss p p' s.views L.knows id (is_it s R there) (record {
              sequence = omega arith;
              current = omega arith;
            });
          };
          shown = record {
            wide = length-set s.words 2 g ∙ D.wide;
            root = word_else s.words 2 0 g (λ e. omega arith) ∙ D.root;
            current = word_else s.words 2 1 g (λ e. omega arith) ∙ D.current;
            oldest = word_here s.words 2 g inside ∙ next;
            values = λ z l u. word_else s.words 2 (value_at places z) g (λ e. omega arith)
                ∙ D.values z (omega arith) u;
            next = λ e. absurd (let q : Rest ≡ Stored = sym stage ∙ e in cc);
            ring = ring_advance (suc places) p.oldest (top_of p.stage p.current)
                (ring_of places (set s.words 2 g)) (tally_at R.tallies) (omega arith) done (record {
                  shown = λ h l u. word_else s.words 2 (10 + places + h % suc places) g
                      (λ e. omega arith) ∙ D.ring.shown h l u;
                  each = λ j below. subst (λ z. HasWord (suc places) p.oldest
                      (top_of p.stage p.current) j ⊎ (2 ^ 63 ≤ z))
                      (sym (word_else s.words 2 (10 + places + j) g (λ e. omega arith)))
                      (D.ring.each j below);
                });
          };
        },
        λ q role. ap (λ (z : OwnerPart). after (with_oldest z)) (whose q role),
      )
