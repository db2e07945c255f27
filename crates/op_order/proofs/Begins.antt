-- A new table keeps the rule, and so does the handing out of a reader.
use Rattle.std.proofs.Common.{◌≡◌, ℕ, zero, suc, ◌+◌, ◌*◌, ◌%◌, ◌^◌, ◌<◌, ◌≤◌, false, List, [], ◌∷◌}
use Rattle.std.proofs.Common.{◌++◌, length, set, replicate, Some, None, refl, sym, ap, ◌∙◌, subst}
use Rattle.std.proofs.Common.{inl, inr, ⊎_elim, arith, length-set, length-append, mod-eq_of_lt}
use Rattle.std.specs.Prelude.{slice_index}
use Rattle.std.specs.List.{count_by}
use Rattle.std.proofs.lemmas.Bool.{false≢true}
use mathlib.Core.Logic.{dite}
use mathlib.Core.Option.{some, some-injective, some-ne-none}
use native.Mathlib.Decide.{ℕ_discrete}
use lib.ListN.{get_elem?, length-replicate, get_or-replicate}
use Rattle.atomic_table.proofs.Lists.{at_snoc}
use Rattle.atomic_table.specs.Table.{Splits, opening}
use Rattle.op_core.specs.declared.count.Tally.TheVariants.{Open}
use Rattle.op_core.specs.Tallies.{running_of, tally_at}
use Rattle.op_order.specs.declared.view.OwnerPart.{OwnerPart}
use Rattle.op_order.specs.declared.view.Stage.TheVariants.{Rest, Stored}
use Rattle.op_order.specs.declared.view.View.{View}
use Rattle.op_order.specs.declared.view.View.TheVariants.{Owns, Reads}
use Rattle.op_order.specs.Groups.{GroupIs}
use Rattle.op_order.proofs.Chains.{chain_still}
use Rattle.op_order.specs.Law.{is_moved, top_of, is_in, Knows, IsLawful, value_of}
use Rattle.op_order.specs.Rule.{Shows, Ruled, first_part, first_view, new_reader}
use Rattle.op_order.specs.Opened.{AreFirst}
use Rattle.op_order.specs.Told.{dealing, dealt}
use Rattle.op_order.proofs.Counts.{count_push, count_same}
use Rattle.op_order.proofs.States.{owner_knows, word_else, word_here}

-- only one view begins
one_view : {A : Type 0} (a b : A) (j : ℕ) → get_elem? (a ∷ []) j ≡ some b → (j ≡ 0) × (a ≡ b)
one_view a b zero e = (refl, some-injective a b e)
one_view a b (suc j) e = absurd (some-ne-none b (sym e))

past_first : (h : ℕ) → tally_at (Open 0 ∷ []) h ≡ Open 0
past_first zero = refl
past_first (suc h) = refl

-- the words of a new table, as they are written
pub first_of : (places first : ℕ) → 2 ≤ places → AreFirst places first
    (set (set (set (set (set (replicate (11 + 2 * places) (2 ^ 63)) 0 0) 1 0) 2 0) 3 first)
    (10 + places) 0)
first_of places first least = record {
  wide = length-set l4 (10 + places) 0 ∙ wide4;
  root = word_else l4 (10 + places) 0 0 (λ e. omega arith)
      ∙ (word_else l3 3 0 first (λ e. omega arith)
      ∙ (word_else l2 2 0 0 (λ e. omega arith) ∙ (word_else l1 1 0 0 (λ e. omega arith)
      ∙ word_here l0 0 0 (let w = wide0 in omega arith))));
  current = word_else l4 (10 + places) 1 0 (λ e. omega arith)
      ∙ (word_else l3 3 1 first (λ e. omega arith)
      ∙ (word_else l2 2 1 0 (λ e. omega arith) ∙ word_here l1 1 0 (let w = wide1 in omega arith)));
  oldest = word_else l4 (10 + places) 2 0 (λ e. omega arith)
      ∙ (word_else l3 3 2 first (λ e. omega arith) ∙ word_here l2 2 0
      (let w = wide2 in omega arith));
  value = word_else l4 (10 + places) 3 0 (λ e. omega arith) ∙ word_here l3 3 first
      (let w = wide3 in omega arith);
  group = word_here l4 (10 + places) 0 (let w = wide4 in omega arith);
  others = λ i above below. subst (λ z. 2 ^ 63 ≤ z) (sym (
      word_else l4 (10 + places) (10 + places + i) 0 (λ e. omega arith)
      ∙ (word_else l3 3 (10 + places + i) first (λ e. omega arith)
      ∙ (word_else l2 2 (10 + places + i) 0 (λ e. omega arith)
      ∙ (word_else l1 1 (10 + places + i) 0 (λ e. omega arith)
      ∙ (word_else l0 0 (10 + places + i) 0 (λ e. omega arith)
      ∙ get_or-replicate (11 + 2 * places) (10 + places + i) (2 ^ 63) 0 (omega arith)))))))
      (omega arith);
}
  where
    l0 : List ℕ
    l0 = replicate (11 + 2 * places) (2 ^ 63)

    l1 : List ℕ
    l1 = set l0 0 0

    l2 : List ℕ
    l2 = set l1 1 0

    l3 : List ℕ
    l3 = set l2 2 0

    l4 : List ℕ
    l4 = set l3 3 first

    wide0 : length l0 ≡ 11 + 2 * places
    wide0 = length-replicate (11 + 2 * places) (2 ^ 63)

    wide1 : length l1 ≡ 11 + 2 * places
    wide1 = length-set l0 0 0 ∙ wide0

    wide2 : length l2 ≡ 11 + 2 * places
    wide2 = length-set l1 1 0 ∙ wide1

    wide3 : length l3 ≡ 11 + 2 * places
    wide3 = length-set l2 2 0 ∙ wide2

    wide4 : length l4 ≡ 11 + 2 * places
    wide4 = length-set l3 3 first ∙ wide3

pub opening_ruled : (fits : ℕ → ℕ → Type 0) (places first : ℕ) {S : Type 0} (words : List ℕ)
    → 2 ≤ places → places ≤ 1024 → fits 0 first → AreFirst places first words
    → Ruled fits places (opening {S = S} words [] (first_view first))
opening_ruled fits places first words least most fit F =
    let zero_mod : (n : ℕ) → 0 < n → 0 % n ≡ 0 = λ n l. mod-eq_of_lt l in
    let plenty : 0 < places = omega arith in
    let at_zero : 0 % places ≡ 0 = zero_mod places plenty in
    let at_first : 0 % suc places ≡ 0 = zero_mod (suc places) (omega arith) in
    record {
      tallies = Open 0 ∷ [];
      part = first_part first;
      boss = 0;
      lawful = record {
        sized = (least, most);
        chain = record {
          groups = record {
            made = refl;
            reached = omega arith;
            low = omega arith;
            counted = λ g. ap running_of (past_first g);
            each = λ g. subst (GroupIs false 0 0 g) (sym (past_first g)) (record {
              below_current = λ l o. absurd (omega arith);
              replaced = λ e f. absurd (false≢true e);
              below_oldest = λ l. absurd (omega arith);
              now = λ e. tt;
              above = λ l. refl;
            });
          };
          gone = λ e. absurd (false≢true e);
        };
        values = record {
          stands = refl;
          small = omega arith;
          listed = refl;
          fit = λ s l. subst (λ z. fits z (value_of (first ∷ []) z))
              (let q : 0 ≡ s = omega arith in q) fit;
          room = omega arith;
          next = λ e. absurd (let q : Rest ≡ Stored = e in cc);
        };
        few = omega arith;
        seated = refl;
        knows = λ j v at. let o = one_view (first_view first) v j at in
            subst (Knows 0 (first_part first) j) o.1 (o.0, refl);
      };
      shown = record {
        wide = F.wide;
        root = F.root ∙ (let x : ℕ = 0 % places in let q : x ≡ 0 = at_zero in
            let z : 0 ≡ 1024 * 0 + x = omega arith in z);
        current = F.current;
        oldest = F.oldest;
        values = λ s l u. subst (λ z. slice_index words (3 + z % places)
            ≡ value_of (first ∷ []) z) (let q : 0 ≡ s = omega arith in q)
            (ap (λ z. slice_index words (3 + z)) at_zero ∙ F.value);
        next = λ e. absurd (let q : Rest ≡ Stored = e in cc);
        ring = record {
          shown = λ g l u. subst (λ z. slice_index words (10 + places + z % suc places)
              ≡ Rattle.op_core.specs.CountWords.count_word z (tally_at (Open 0 ∷ []) z))
              (let q : 0 ≡ g = omega arith in q)
              (ap (λ z. slice_index words (10 + places + z)) at_first
              ∙ (ap (slice_index words) (let z : 10 + places + 0 ≡ 10 + places = omega arith in z)
              ∙ F.group));
          each = λ i below. dite (ℕ_discrete i 0)
              (λ e. inl (record {
                group = 0;
                low = omega arith;
                high = omega arith;
                is_at = at_first ∙ sym e;
              }))
              (λ n. inr (F.others i (omega arith) below));
        };
      };
    }

-- A reader is handed out, while there are fewer than 64 seats.
pub deals : (fits : ℕ → ℕ → Type 0) (places : ℕ) {S : Type 0} (id : ℕ) (v : View) (p : OwnerPart)
    → v ≡ Owns p → p.seats < 64 → Splits (Ruled fits places {S = S}) id v (dealing v) (dealt v)
deals fits places id v p is few s R at =
    let at_own : get_elem? s.views id ≡ some (Owns p) = at ∙ ap some is in
    let K : (id ≡ R.boss) × (p ≡ R.part) = R.lawful.knows id (Owns p) at_own in
    let W : IsLawful fits places R.boss R.tallies p s.views
    = subst (λ z. IsLawful fits places R.boss R.tallies z s.views) (sym K.1) R.lawful in
    let D : Shows places R.tallies p s.words
    = subst (λ z. Shows places R.tallies z s.words) (sym K.1) R.shown in
    let p' = record p { seats = suc p.seats } in
    let l' = set s.views id (Owns p') in
    let C = W.chain in let V = W.values in
    subst (λ z. Ruled fits places (record {
      words = s.words;
      homes = s.homes;
      views = set s.views id (dealing z) ++ dealt z ∷ [];
    })) (sym is) (record {
      tallies = R.tallies;
      part = p';
      boss = R.boss;
      lawful = record {
        sized = W.sized;
        chain = record {
          groups = chain_still (is_moved p.stage) p.current p.oldest (top_of p.stage p.current)
              R.tallies (λ g. count_by (is_in g) s.views) C.groups
              (λ g. count_by (is_in g) (l' ++ Reads new_reader ∷ []))
              (λ g. count_push (is_in g) l' (Reads new_reader) refl
              ∙ count_same (is_in g) s.views id (Owns p) (Owns p') at_own refl);
          gone = C.gone;
        };
        values = record {
          stands = V.stands;
          small = V.small;
          listed = V.listed;
          fit = V.fit;
          room = V.room;
          next = V.next;
        };
        few = let l = length-append l' (Reads new_reader ∷ []) in
            let n = length-set s.views id (Owns p') in let k = W.seated in omega arith;
        seated = let l = length-append l' (Reads new_reader ∷ []) in
            let n = length-set s.views id (Owns p') in let k = W.seated in omega arith;
        knows = λ j u there. ⊎_elim
            (λ e. owner_knows R.boss p p' s.views W.knows id K.0 (record {
              sequence = omega arith;
              current = omega arith;
            }) j u e)
            (λ e. subst (Knows R.boss p' j) e (record {
              looked = λ z q. absurd (let f : None ≡ Some z = q in cc);
              seen = omega arith;
              found = omega arith;
            }))
            (at_snoc l' (Reads new_reader) u j there);
      };
      shown = record {
        wide = D.wide;
        root = D.root;
        current = D.current;
        oldest = D.oldest;
        values = D.values;
        next = D.next;
        ring = D.ring;
      };
    })
