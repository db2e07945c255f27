-- The owner stores a value, and makes its place the root.
use Rattle.std.proofs.Common.{◌≡◌, ℕ, suc, ◌+◌, ◌%◌, ◌^◌, ◌<◌, ◌≤◌, List, []}
use Rattle.std.proofs.Common.{◌∷◌, ◌++◌, length, set, refl, sym, ap, ◌∙◌, subst, arith}
use Rattle.std.proofs.Common.{length-set, length-append, mod-lt}
use Rattle.std.specs.Prelude.{slice_index}
use Rattle.std.specs.List.{count_by}
use Rattle.std.proofs.lemmas.List.{get_or_append_left, get_or_push}
use mathlib.Core.Logic.{dite}
use mathlib.Core.Option.{some, none}
use native.Mathlib.Decide.{ℕ_discrete}
use lib.ListN.{get_elem?}
use Rattle.atomic_table.specs.Table.{State, Me, keeps, step, stepped, Allows}
use Rattle.op_core.specs.declared.count.Tally.{Tally}
use Rattle.op_core.specs.Tallies.{tally_at}
use Rattle.op_order.specs.Ring.{RingShows}
use Rattle.op_order.specs.Groups.{GroupsAre}
use Rattle.op_order.proofs.Chains.{chain_still}
use Rattle.op_order.proofs.Rings.{one_in_ring}
use Rattle.op_order.specs.declared.view.OwnerPart.{OwnerPart}
use Rattle.op_order.specs.declared.view.Stage.TheVariants.{Rest, Stored, Rooted}
use Rattle.op_order.specs.declared.view.View.{View}
use Rattle.op_order.specs.declared.view.View.TheVariants.{Owns}
use Rattle.op_order.specs.Law.{top_of, AreAt, is_moved, is_in, CountsAre, IsLawful, value_of}
use Rattle.op_order.specs.Rule.{Shows, Ruled, ring_of, root_word, value_at}
use Rattle.op_order.specs.Told.{with_store, with_root, stored, rooted}
use Rattle.op_order.proofs.Counts.{count_same}
use Rattle.op_order.proofs.States.{owner_knows, word_else, word_here}

-- the groups stay where the owner's part changes in nothing that they speak of
pub record SameGroups (part part' : OwnerPart) : Type 0 where
  pub top : top_of part'.stage part'.current ≡ top_of part.stage part.current
  pub moved : is_moved part'.stage ≡ is_moved part.stage
  pub current : part'.current ≡ part.current
  pub oldest : part'.oldest ≡ part.oldest
  pub gone : part'.gone ≡ part.gone

pub groups_stay : (part part' : OwnerPart) (tallies : List Tally) (views : List View) (id : ℕ)
    (p : OwnerPart) → get_elem? views id ≡ some (Owns p) → SameGroups part part'
    → CountsAre part tallies views → CountsAre part' tallies (set views id (Owns part'))
groups_stay part part' tallies views id p at M C = record {
  groups = subst (λ z. GroupsAre z part'.current part'.oldest (top_of part'.stage part'.current)
      tallies count') (sym M.moved)
      (subst (λ z. GroupsAre (is_moved part.stage) z part'.oldest
      (top_of part'.stage part'.current) tallies count') (sym M.current)
      (subst (λ z. GroupsAre (is_moved part.stage) part.current z
      (top_of part'.stage part'.current) tallies count') (sym M.oldest)
      (subst (λ z. GroupsAre (is_moved part.stage) part.current part.oldest z tallies count')
      (sym M.top) (chain_still (is_moved part.stage) part.current part.oldest
      (top_of part.stage part.current) tallies (λ g. count_by (is_in g) views) C.groups count'
      (λ g. count_same (is_in g) views id (Owns p) (Owns part') at refl)))));
  gone = λ e. ap (tally_at tallies) M.oldest ∙ C.gone (sym M.gone ∙ e);
}
  where
    count' : ℕ → ℕ
    count' g = count_by (is_in g) (set views id (Owns part'))

pub ring_stays : (places : ℕ) (part part' : OwnerPart) (tallies : List Tally)
    (words words' : List ℕ) → SameGroups part part'
    → ((i : ℕ) → ring_of places words' i ≡ ring_of places words i)
    → RingShows (suc places) part.oldest (top_of part.stage part.current) (ring_of places words)
    (tally_at tallies)
    → RingShows (suc places) part'.oldest (top_of part'.stage part'.current)
    (ring_of places words') (tally_at tallies)
ring_stays places part part' tallies words words' M same R = record {
  shown = λ g l u. same (g % suc places) ∙ R.shown g (let o = M.oldest in omega arith)
      (let t = M.top in omega arith);
  each = λ i below. Rattle.std.proofs.Common.⊎_elim
      (λ (w : Rattle.op_order.specs.Ring.HasWord (suc places) part.oldest
      (top_of part.stage part.current) i). Rattle.std.proofs.Common.inl (record {
        group = w.group;
        low = let o = M.oldest in let l = w.low in omega arith;
        high = let t = M.top in let h = w.high in omega arith;
        is_at = w.is_at;
      }))
      (λ m. Rattle.std.proofs.Common.inr (subst (λ z. 2 ^ 63 ≤ z) (sym (same i)) m))
      (R.each i below);
}

module _ (fits : ℕ → ℕ → Type 0) (places : ℕ) {S : Type 0} (slots id : ℕ) (m : Me S View)
    (p : OwnerPart) (mine : m.0 ≡ Owns p) where
  abbrev after : OwnerPart → Me S View
  after q = (Owns q, m.1)

  pub owner_is : (q : OwnerPart) → m.0 ≡ Owns q → p ≡ q
  owner_is q role = let e : Owns p ≡ Owns q = sym mine ∙ role in cc

  pub stores : (v : ℕ) → p.stage ≡ Rest → fits (suc p.sequence) v
      → suc p.sequence < p.oldest + places → p.sequence < 1099511627776
      → Allows (Ruled fits places) slots id m (value_at places (suc p.sequence)) (λ _. v)
      (λ _. stored (step slots (value_at places (suc p.sequence)) v 0 none) m v)
  stores v rests fit room small s R deep there word =
      let at = there ∙ ap some mine in let W = R.lawful in
      let K : (id ≡ R.boss) × (p ≡ R.part) = W.knows id (Owns p) at in (
        Owns (with_store v p),
        keeps,
        tt,
        by_part s R at K.0 (sym K.1),
        λ q role. ap (λ (z : OwnerPart). after (with_store v z)) (owner_is q role),
      )
    where
      by_part : (s : State S View) (R : Ruled fits places s)
          → get_elem? s.views id ≡ some (Owns p) → id ≡ R.boss → R.part ≡ p → Ruled fits places
          (stepped s (value_at places (suc p.sequence)) v id m.1 (Owns (with_store v p)) keeps)
      by_part s R at boss is =
          let L : IsLawful fits places R.boss R.tallies p s.views
          = subst (λ z. IsLawful fits places R.boss R.tallies z s.views) is R.lawful in
          let D : Shows places R.tallies p s.words
          = subst (λ z. Shows places R.tallies z s.words) is R.shown in
          let p' = with_store v p in let V = L.values in let C = L.chain in
          let i = value_at places (suc p.sequence) in
          let plenty : 0 < places = let z = L.sized.0 in omega arith in
          let x : ℕ = suc p.sequence % places in
          let under : x < places = mod-lt (suc p.sequence) plenty in
          let wide = D.wide in
          let inside : i < length s.words = omega arith in
          let M : SameGroups p p' = record {
            top = ap (λ z. top_of z p.current) (sym rests);
            moved = ap is_moved (sym rests);
            current = refl;
            oldest = refl;
            gone = refl;
          } in record {
            tallies = R.tallies;
            part = p';
            boss = R.boss;
            lawful = record {
              sized = L.sized;
              chain = groups_stay p p' R.tallies s.views id p at M C;
              values = record {
                stands = subst (λ z. AreAt z p.current p.sequence) rests V.stands;
                small = V.small;
                listed = V.listed;
                fit = V.fit;
                room = V.room;
                next = λ e. (fit, room, small);
              };
              few = let l = length-set s.views id (Owns p') in let f = L.few in omega arith;
              seated = length-set s.views id (Owns p') ∙ L.seated;
              knows = owner_knows R.boss p p' s.views L.knows id boss (record {
                sequence = omega arith;
                current = omega arith;
              });
            };
            shown = record {
              wide = length-set s.words i v ∙ D.wide;
              root = word_else s.words i 0 v (λ e. omega arith) ∙ D.root;
              current = word_else s.words i 1 v (λ e. omega arith) ∙ D.current;
              oldest = word_else s.words i 2 v (λ e. omega arith) ∙ D.oldest;
              values = λ z l u. word_else s.words i (value_at places z) v
                  (λ e. let same : z % places ≡ suc p.sequence % places
                  = let y : ℕ = z % places in let f : 3 + y ≡ 3 + x = e in omega arith in
                  let one = one_in_ring places p.oldest (suc p.sequence) z (suc p.sequence) room l
                  (omega arith) (let b = C.groups.low in let a = V.stands in
                  let c = Rattle.op_order.proofs.States.current_low p.stage p.current p.sequence
                  V.stands in omega arith) (omega arith) same in omega arith)
                  ∙ D.values z l u;
              next = λ e. word_here s.words i v inside;
              ring = ring_stays places p p' R.tallies s.words (set s.words i v) M
                  (λ j. word_else s.words i (10 + places + j) v (λ e. omega arith)) D.ring;
            };
          }

  pub roots : p.stage ≡ Stored → Allows (Ruled fits places) slots id m 0
      (λ _. root_word places (suc p.sequence))
      (λ _. rooted (step slots 0 (root_word places (suc p.sequence)) 0 none) m
      (root_word places (suc p.sequence)))
  roots stage s R deep there word =
      let at = there ∙ ap some mine in let W = R.lawful in
      let K : (id ≡ R.boss) × (p ≡ R.part) = W.knows id (Owns p) at in (
        Owns (with_root p),
        keeps,
        tt,
        by_part s R at K.0 (sym K.1),
        λ q role. ap (λ (z : OwnerPart). after (with_root z)) (owner_is q role),
      )
    where
      by_part : (s : State S View) (R : Ruled fits places s)
          → get_elem? s.views id ≡ some (Owns p) → id ≡ R.boss → R.part ≡ p → Ruled fits places
          (stepped s 0 (root_word places (suc p.sequence)) id m.1 (Owns (with_root p)) keeps)
      by_part s R at boss is =
          let L : IsLawful fits places R.boss R.tallies p s.views
          = subst (λ z. IsLawful fits places R.boss R.tallies z s.views) is R.lawful in
          let D : Shows places R.tallies p s.words
          = subst (λ z. Shows places R.tallies z s.words) is R.shown in
          let p' = with_root p in let V = L.values in let C = L.chain in
          let n = root_word places (suc p.sequence) in
          let next = V.next stage in
          let wide = D.wide in
          let inside : 0 < length s.words = omega arith in
          let at_rest : AreAt Stored p.current p.sequence
          = subst (λ z. AreAt z p.current p.sequence) stage V.stands in
          let listed = V.listed in
          let M : SameGroups p p' = record {
            top = ap (λ z. top_of z p.current) (sym stage);
            moved = ap is_moved (sym stage);
            current = refl;
            oldest = refl;
            gone = refl;
          } in
          let old_value : (z : ℕ) → z ≤ p.sequence → value_of (p.values ++ p.next ∷ []) z
          ≡ value_of p.values z
          = λ z l. get_or_append_left p.values (p.next ∷ []) 0 z (omega arith) in
          let new_value : value_of (p.values ++ p.next ∷ []) (suc p.sequence) ≡ p.next
          = get_or_push p.values p.next 0 (suc p.sequence) listed in
          record {
            tallies = R.tallies;
            part = p';
            boss = R.boss;
            lawful = record {
              sized = L.sized;
              chain = groups_stay p p' R.tallies s.views id p at M C;
              values = record {
                stands = ap suc at_rest;
                small = let z = next.2 in omega arith;
                listed = let l = length-append p.values (p.next ∷ []) in omega arith;
                fit = λ z l. dite (ℕ_discrete z (suc p.sequence))
                    (λ e. subst (λ y. fits y (value_of (p.values ++ p.next ∷ []) y)) (sym e)
                    (subst (fits (suc p.sequence)) (sym new_value) next.0))
                    (λ e. subst (fits z) (sym (old_value z (omega arith)))
                    (V.fit z (omega arith)));
                room = next.1;
                next = λ e. absurd (let q : Rooted ≡ Stored = e in cc);
              };
              few = let l = length-set s.views id (Owns p') in let f = L.few in omega arith;
              seated = length-set s.views id (Owns p') ∙ L.seated;
              knows = owner_knows R.boss p p' s.views L.knows id boss (record {
                sequence = omega arith;
                current = omega arith;
              });
            };
            shown = record {
              wide = length-set s.words 0 n ∙ D.wide;
              root = word_here s.words 0 n inside;
              current = word_else s.words 0 1 n (λ e. omega arith) ∙ D.current;
              oldest = word_else s.words 0 2 n (λ e. omega arith) ∙ D.oldest;
              values = λ z l u. word_else s.words 0 (value_at places z) n (λ e. omega arith)
                  ∙ dite (ℕ_discrete z (suc p.sequence))
                  (λ e. subst (λ y. slice_index s.words (value_at places y)
                  ≡ value_of (p.values ++ p.next ∷ []) y) (sym e)
                  (D.next stage ∙ sym new_value))
                  (λ e. D.values z l (omega arith) ∙ sym (old_value z (omega arith)));
              next = λ e. absurd (let q : Rooted ≡ Stored = e in cc);
              ring = ring_stays places p p' R.tallies s.words (set s.words 0 n) M
                  (λ j. word_else s.words 0 (10 + places + j) n (λ e. omega arith)) D.ring;
            };
          }
