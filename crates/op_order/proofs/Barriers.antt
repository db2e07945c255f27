-- The owner issues a barrier: it makes the next group, makes it current, expires the one before.
use Rattle.std.proofs.Common.{◌≡◌, ◌≢◌, ◌⊎◌, Bool, ℕ, suc, ◌+◌, ◌*◌, ◌%◌, ◌^◌, ◌<◌, ◌≤◌, true}
use Rattle.std.proofs.Common.{false, List, [], ◌∷◌, ◌++◌, length, set, refl, sym, ap, ◌∙◌, subst}
use Rattle.std.proofs.Common.{arith, length-set, mod-lt, get_or-set_same, get_or-set_other}
use Rattle.std.specs.Prelude.{slice_index}
use Rattle.std.specs.List.{count_by}
use mathlib.Core.Logic.{dite}
use mathlib.Core.Option.{some, none}
use native.Mathlib.Decide.{dec_le}
use lib.ListN.{get_elem?}
use Rattle.atomic_table.specs.Table.{State, Me, keeps, step, Allows}
use Rattle.op_core.specs.declared.count.Tally.{Tally}
use Rattle.op_core.specs.declared.count.Tally.TheVariants.{Open}
use Rattle.op_core.specs.Tallies.{IsOpen, tally_at, expired}
use Rattle.op_core.specs.CountWords.{count_word}
use Rattle.op_order.specs.Groups.{GroupsAre}
use Rattle.op_order.proofs.Chains.{default_put, unclosed_left, chain_still, chain_open, chain_move}
use Rattle.op_order.proofs.Chains.{chain_expire}
use Rattle.op_order.specs.Ring.{HasWord, RingShows}
use Rattle.op_order.proofs.Rings.{ring_open}
use Rattle.op_core.proofs.CountWords.{expired_word}
use Rattle.op_order.specs.declared.view.OwnerPart.{OwnerPart}
use Rattle.op_order.specs.declared.view.Stage.{Stage}
use Rattle.op_order.specs.declared.view.Stage.TheVariants.{Rest, Stored, Rooted, Opened, Moved}
use Rattle.op_order.specs.declared.view.View.{View}
use Rattle.op_order.specs.declared.view.View.TheVariants.{Owns}
use Rattle.op_order.specs.Law.{top_of, AreAt, is_moved, is_in, CountsAre, IsLawful}
use Rattle.op_order.specs.Rule.{Shows, Ruled, ring_of, value_at, count_at}
use Rattle.op_order.specs.Told.{with_open, with_move, with_rest, opened, moved, expired_group}
use Rattle.op_order.proofs.Counts.{count_same}
use Rattle.op_order.proofs.States.{owner_knows, in_list, few_running, top_small, top_room}
use Rattle.op_order.proofs.States.{word_else, word_here}
use Rattle.op_order.proofs.Publishing.{owner_is}
use Rattle.op_order.proofs.Registers.{shows_count}

-- the groups, at a stage that is known
pub groups_at : (part : OwnerPart) (tallies : List Tally) (views : List View)
    → CountsAre part tallies views
    → (i : Stage) → part.stage ≡ i → GroupsAre (is_moved i) part.current part.oldest
    (top_of i part.current) tallies (λ g. count_by (is_in g) views)
groups_at part tallies views C i is = subst (λ z. GroupsAre (is_moved z) part.current part.oldest
    (top_of z part.current) tallies (λ g. count_by (is_in g) views)) is C.groups

-- the same after a step of the owner
pub owned : (moved : Bool) (current oldest top : ℕ) (tallies : List Tally) (views : List View)
    (id : ℕ) (p p' : OwnerPart) → get_elem? views id ≡ some (Owns p)
    → GroupsAre moved current oldest top tallies (λ g. count_by (is_in g) views)
    → GroupsAre moved current oldest top tallies
    (λ g. count_by (is_in g) (set views id (Owns p')))
owned moved current oldest top tallies views id p p' at C = chain_still moved current oldest top
    tallies (λ g. count_by (is_in g) views) C (λ g. count_by (is_in g) (set views id (Owns p')))
    (λ g. count_same (is_in g) views id (Owns p) (Owns p') at refl)

module _ (fits : ℕ → ℕ → Type 0) (places : ℕ) {S : Type 0} (slots id : ℕ) (m : Me S View)
    (p : OwnerPart) (mine : m.0 ≡ Owns p) where
  abbrev after : OwnerPart → Me S View
  after q = (Owns q, m.1)

  whose : (q : OwnerPart) → m.0 ≡ Owns q → p ≡ q
  whose q role = owner_is fits places slots id m p mine q role

  module _ (s : State S View) (R : Ruled fits places s) (there : get_elem? s.views id ≡ some m.0)
    where
      pub at_own : get_elem? s.views id ≡ some (Owns p)
      at_own = there ∙ ap some mine

      know : (id ≡ R.boss) × (p ≡ R.part)
      know = R.lawful.knows id (Owns p) at_own

      pub lawful_own : IsLawful fits places R.boss R.tallies p s.views
      lawful_own = subst (λ z. IsLawful fits places R.boss R.tallies z s.views) (sym know.1)
          R.lawful

      pub shows_own : Shows places R.tallies p s.words
      shows_own = subst (λ z. Shows places R.tallies z s.words) (sym know.1) R.shown

      pub is_boss : id ≡ R.boss
      is_boss = know.0

  pub opens : (g : ℕ) → p.stage ≡ Rooted → g ≡ suc p.current → Allows (Ruled fits places) slots id m
      (count_at places g) (λ _. 65536 * g)
      (λ _. opened (step slots (count_at places g) (65536 * g) 0 none) m (65536 * g))
  opens g stage next s R deep there word =
      let L = lawful_own s R there in let D = shows_own s R there in
      let at = at_own s R there in
      let p' = with_open p in let V = L.values in let C = L.chain in
      let i = count_at places g in let n = 65536 * g in
      let tallies' = R.tallies ++ Open 0 ∷ [] in
      let top : top_of p.stage p.current ≡ p.current = ap (λ z. top_of z p.current) stage in
      let stands : suc p.current ≡ p.sequence
      = subst (λ z. AreAt z p.current p.sequence) stage V.stands in
      let low = C.groups.low in let room = V.room in
      let x : ℕ = g % suc places in
      let under : x < suc places = mod-lt g (omega arith) in
      let plenty : 0 < places = let z = L.sized.0 in omega arith in
      let wide = D.wide in
      let inside : i < length s.words = omega arith in
      let same : (h : ℕ) → tally_at tallies' h ≡ tally_at R.tallies h
      = λ h. default_put R.tallies (Open 0) h in
      let E = groups_at p R.tallies s.views C Rooted stage in
      let new : tally_at tallies' g ≡ Open 0 = same g ∙ (E.each g).above (omega arith) in (
        Owns p',
        keeps,
        tt,
        record {
          tallies = tallies';
          part = p';
          boss = R.boss;
          lawful = record {
            sized = L.sized;
            chain = record {
              groups = owned false p.current p.oldest (suc p.current) tallies' s.views id p p' at
                  (chain_open p.current p.oldest p.current R.tallies
                  (λ h. count_by (is_in h) s.views) E);
              gone = λ e. same p.oldest ∙ C.gone e;
            };
            values = record {
              stands = stands;
              small = V.small;
              listed = V.listed;
              fit = V.fit;
              room = V.room;
              next = λ e. absurd (let q : Opened ≡ Stored = e in cc);
            };
            few = let l = length-set s.views id (Owns p') in let f = L.few in omega arith;
            seated = length-set s.views id (Owns p') ∙ L.seated;
            knows = owner_knows R.boss p p' s.views L.knows id (is_boss s R there) (record {
              sequence = omega arith;
              current = omega arith;
            });
          };
          shown = record {
            wide = length-set s.words i n ∙ D.wide;
            root = word_else s.words i 0 n (λ e. omega arith) ∙ D.root;
            current = word_else s.words i 1 n (λ e. omega arith) ∙ D.current;
            oldest = word_else s.words i 2 n (λ e. omega arith) ∙ D.oldest;
            values = λ z l u. word_else s.words i (value_at places z) n
                (λ e. let q : z % places < places = mod-lt z plenty in omega arith) ∙ D.values z l
                u;
            next = λ e. absurd (let q : Opened ≡ Stored = e in cc);
            ring = subst (λ y. RingShows (suc places) p.oldest y
                (ring_of places (set s.words i n)) (tally_at tallies')) next
                (ring_open (suc places) p.oldest (top_of p.stage p.current) g
                (ring_of places s.words) (ring_of places (set s.words i n)) (tally_at R.tallies)
                (tally_at tallies') (omega arith) (omega arith) (omega arith) D.ring
                (word_here s.words i n inside
                ∙ ((let z : 65536 * g ≡ 0 + 65536 * g = omega arith in z)
                ∙ sym (ap (count_word g) new)))
                (λ j apart. word_else s.words i (10 + places + j) n
                (λ e. apart (let y : 10 + places + j ≡ 10 + places + x = e in omega arith)))
                (λ h _. same h));
          };
        },
        λ q role. ap (λ (z : OwnerPart). after (with_open z)) (whose q role),
      )

  pub moves : (g : ℕ) → p.stage ≡ Opened → g ≡ suc p.current → Allows (Ruled fits places) slots id m
      1 (λ _. g) (λ _. moved (step slots 1 g 0 none) m g)
  moves g stage next s R deep there word =
      let L = lawful_own s R there in let D = shows_own s R there in
      let at = at_own s R there in
      let p' = with_move p in let V = L.values in let C = L.chain in
      let top : top_of p.stage p.current ≡ suc p.current = ap (λ z. top_of z p.current) stage in
      let stands : suc p.current ≡ p.sequence
      = subst (λ z. AreAt z p.current p.sequence) stage V.stands in
      let wide = D.wide in
      let inside : 1 < length s.words = omega arith in (
        Owns p',
        keeps,
        tt,
        record {
          tallies = R.tallies;
          part = p';
          boss = R.boss;
          lawful = record {
            sized = L.sized;
            chain = record {
              groups = owned true (suc p.current) p.oldest (suc p.current) R.tallies s.views id p p'
                  at (chain_move p.current p.oldest R.tallies (λ h. count_by (is_in h) s.views)
                  (groups_at p R.tallies s.views C Opened stage));
              gone = C.gone;
            };
            values = record {
              stands = stands;
              small = V.small;
              listed = V.listed;
              fit = V.fit;
              room = V.room;
              next = λ e. absurd (let q : Moved ≡ Stored = e in cc);
            };
            few = let l = length-set s.views id (Owns p') in let f = L.few in omega arith;
            seated = length-set s.views id (Owns p') ∙ L.seated;
            knows = owner_knows R.boss p p' s.views L.knows id (is_boss s R there) (record {
              sequence = omega arith;
              current = omega arith;
            });
          };
          shown = record {
            wide = length-set s.words 1 g ∙ D.wide;
            root = word_else s.words 1 0 g (λ e. omega arith) ∙ D.root;
            current = word_here s.words 1 g inside ∙ next;
            oldest = word_else s.words 1 2 g (λ e. omega arith) ∙ D.oldest;
            values = λ z l u. word_else s.words 1 (value_at places z) g (λ e. omega arith)
                ∙ D.values z l u;
            next = λ e. absurd (let q : Moved ≡ Stored = e in cc);
            ring = subst (λ y. RingShows (suc places) p.oldest y
                (ring_of places (set s.words 1 g)) (tally_at R.tallies)) top
                (record {
                  shown = λ h l u. word_else s.words 1 (10 + places + h % suc places) g
                      (λ e. omega arith) ∙ D.ring.shown h l u;
                  each = λ j below. subst (λ z. HasWord (suc places) p.oldest
                      (top_of p.stage p.current) j ⊎ (2 ^ 63 ≤ z))
                      (sym (word_else s.words 1 (10 + places + j) g (λ e. omega arith)))
                      (D.ring.each j below);
                });
          };
        },
        λ q role. ap (λ (z : OwnerPart). after (with_move z)) (whose q role),
      )

  pub expires : (g : ℕ) → p.stage ≡ Moved → suc g ≡ p.current → Allows (Ruled fits places) slots id
      m (count_at places g) (λ n. (n + 2 ^ 63) % 2 ^ 64)
      (expired_group (step slots (count_at places g) (2 ^ 63) 0 none) m)
  expires g stage next s R deep there word =
      let L = lawful_own s R there in let D = shows_own s R there in
      let at = at_own s R there in
      let p' = with_rest p in let V = L.values in let C = L.chain in
      let i = count_at places g in
      let k = tally_at R.tallies g in
      let tallies' = set R.tallies g (expired k) in
      let top : top_of p.stage p.current ≡ p.current = ap (λ z. top_of z p.current) stage in
      let stands : p.current ≡ p.sequence
      = subst (λ z. AreAt z p.current p.sequence) stage V.stands in
      let E = groups_at p R.tallies s.views C Moved stage in
      let unclosed : IsOpen k = (E.each g).replaced refl next in
      let inside : g < length R.tallies = in_list p R.tallies s.views C g (omega arith) in
      let low : p.oldest ≤ g = dite (dec_le p.oldest g) (λ l. l)
      (λ n. absurd (unclosed_left k unclosed ((E.each g).below_oldest (omega arith)))) in
      let here : tally_at tallies' g ≡ expired k
      = get_or-set_same R.tallies g (expired k) (Open 0) inside in
      let other : (h : ℕ) → h ≢ g → tally_at tallies' h ≡ tally_at R.tallies h
      = λ h n. get_or-set_other R.tallies g h (expired k) (Open 0) n in
      let is : slice_index s.words i ≡ count_word g k = D.ring.shown g low (omega arith) in
      let small = top_small fits places p V in
      let few = few_running p R.tallies s.views C L.few g in
      let plenty : 0 < places = let z = L.sized.0 in omega arith in (
        Owns p',
        keeps,
        tt,
        record {
          tallies = tallies';
          part = p';
          boss = R.boss;
          lawful = record {
            sized = L.sized;
            chain = record {
              groups = owned false p.current p.oldest p.current tallies' s.views id p p' at
                  (chain_expire g p.current p.oldest R.tallies (λ h. count_by (is_in h) s.views)
                  next E);
              gone = λ e. let done = C.gone e in other p.oldest
                  (λ q. unclosed_left k unclosed (ap (tally_at R.tallies) (sym q) ∙ done)) ∙ done;
            };
            values = record {
              stands = stands;
              small = V.small;
              listed = V.listed;
              fit = V.fit;
              room = V.room;
              next = λ e. absurd (let q : Rest ≡ Stored = e in cc);
            };
            few = let l = length-set s.views id (Owns p') in let f = L.few in omega arith;
            seated = length-set s.views id (Owns p') ∙ L.seated;
            knows = owner_knows R.boss p p' s.views L.knows id (is_boss s R there) (record {
              sequence = omega arith;
              current = omega arith;
            });
          };
          shown = let D' = shows_count places R.tallies tallies' p s.words g
              ((slice_index s.words i + 2 ^ 63) % 2 ^ 64) D (top_room fits places p V) low
              (omega arith)
              (ap (λ z. (z + 2 ^ 63) % 2 ^ 64) is ∙ (expired_word g k unclosed (omega arith)
              (omega arith) ∙ sym (ap (count_word g) here))) other plenty in record {
                wide = D'.wide;
                root = D'.root;
                current = D'.current;
                oldest = D'.oldest;
                values = D'.values;
                next = λ e. absurd (let q : Rest ≡ Stored = e in cc);
                ring = subst (λ y. RingShows (suc places) p.oldest y
                    (ring_of places (set s.words i ((slice_index s.words i + 2 ^ 63) % 2 ^ 64)))
                    (tally_at tallies')) top D'.ring;
              };
        },
        λ q role. ap (λ (z : OwnerPart). after (with_rest z)) (whose q role),
      )
