-- The looks of readers keep the rule.
use Rattle.std.proofs.Common.{◌≡◌, ℕ, suc, ◌+◌, ◌*◌, ◌/◌, ◌%◌, ◌^◌, ◌<◌, ◌≤◌, List, Some, refl, sym}
use Rattle.std.proofs.Common.{ap, ◌∙◌, subst, arith, length-set, mod-lt, div-add-mod'}
use Rattle.std.specs.Prelude.{slice_index}
use Rattle.std.proofs.lemmas.List.{set-get_or}
use mathlib.Core.Option.{some, none}
use lib.ListN.{get_elem?}
use Rattle.atomic_table.specs.Table.{State, Me, keeps, step, stepped, Allows}
use Rattle.op_core.specs.Tallies.{tally_at}
use Rattle.op_order.proofs.Rings.{few_in}
use Rattle.op_order.specs.declared.view.ReaderPart.{ReaderPart}
use Rattle.op_order.specs.declared.view.View.{View}
use Rattle.op_order.specs.declared.view.View.TheVariants.{Reads}
use Rattle.op_order.specs.Law.{top_of, LooksAt}
use Rattle.op_order.specs.Rule.{Shows, Ruled, ring_of, root_word, value_at, count_at}
use Rattle.op_order.specs.Told.{with_current, with_look, with_step, saw_current, saw_count}
use Rattle.op_order.specs.Told.{saw_root, saw_value}
use Rattle.op_order.proofs.States.{inhabited, running_low, running_high, current_low, few_running}
use Rattle.op_order.proofs.States.{top_small, readers_know, counts_stay}

module _ (fits : ℕ → ℕ → Type 0) (places : ℕ) {S : Type 0} where
  -- A seat that looks leaves all words. A reader may know more then.
  pub looks : (s : State S View) (id i : ℕ) (cs : List (ℕ × S)) (r r' : ReaderPart)
      (R : Ruled fits places s) → get_elem? s.views id ≡ some (Reads r) → r'.group ≡ r.group
      → LooksAt R.part r'
      → Ruled fits places (stepped s i (slice_index s.words i) id cs (Reads r') keeps)
  looks s id i cs r r' R at same L = let W = R.lawful in record {
    tallies = R.tallies;
    part = R.part;
    boss = R.boss;
    lawful = record {
      sized = W.sized;
      chain = counts_stay R.part R.tallies s.views W.chain id (Reads r) (Reads r') at
          (λ g. ap (λ o. Rattle.op_order.specs.Law.is_at g o) same);
      values = W.values;
      few = let l = length-set s.views id (Reads r') in let f = W.few in omega arith;
      seated = length-set s.views id (Reads r') ∙ W.seated;
      knows = readers_know R.boss R.part s.views W.knows id r' L;
    };
    shown = subst (Shows places R.tallies R.part) (sym (set-get_or s.words i 0)) R.shown;
  }

  module _ (slots id : ℕ) (m : Me S View) (r : ReaderPart) (mine : m.0 ≡ Reads r) where
    abbrev after : ReaderPart → Me S View
    after q = (Reads q, m.1)

    pub looks_current : Allows (Ruled fits places) slots id m 1 (λ n. n)
        (saw_current (step slots 1 0 0 none) m)
    looks_current s R deep there word =
        let at = there ∙ ap some mine in let W = R.lawful in
        let L : LooksAt R.part r = W.knows id (Reads r) at in
        let n = slice_index s.words 1 in
        let is : n ≡ R.part.current = R.shown.current in
        let low = current_low R.part.stage R.part.current R.part.sequence W.values.stands in
        let small = W.values.small in (
          Reads (with_current n r),
          keeps,
          tt,
          looks s id 1 m.1 r (with_current n r) R at refl (record {
            looked = L.looked;
            seen = L.seen;
            found = omega arith;
          }),
          λ q role. let same : r ≡ q = let e : Reads r ≡ Reads q = sym mine ∙ role in cc in
              subst (λ (z : ReaderPart). (after (with_current n r)
              ≡ after (with_current n z)) × (z.current ≤ n) × (n < 2 ^ 47)) same
              (refl, (let f = L.found in omega arith), omega arith),
        )

    pub looks_root : (g : ℕ) → r.group ≡ Some g → Allows (Ruled fits places) slots id m 0
        (λ n. n) (saw_root (step slots 0 0 0 none) m)
    looks_root g own s R deep there word =
        let at = there ∙ ap some mine in let W = R.lawful in
        let L : LooksAt R.part r = W.knows id (Reads r) at in
        let n = slice_index s.words 0 in
        let q = R.part.sequence in
        let is : n ≡ root_word places q = R.shown.root in
        let run = inhabited R.part R.tallies s.views W.chain id g r at own in
        let high = running_high R.part R.tallies s.views W.chain g run in
        let low = current_low R.part.stage R.part.current q W.values.stands in
        let place = q % places in
        let few : place < places = mod-lt q (let z = W.sized.0 in omega arith) in (
          Reads (with_look n q r),
          keeps,
          tt,
          looks s id 0 m.1 r (with_look n q r) R at refl (record {
            looked = λ z e. (
              g,
              own,
              let same : q ≡ z = let f : Some q ≡ Some z = e in cc in
                  omega arith,
              let same : q ≡ z = let f : Some q ≡ Some z = e in cc in
                  omega arith,
            );
            seen = omega arith;
            found = L.found;
          }),
          λ w role z at_place below shown. let same : r ≡ w = let e : Reads r ≡ Reads w
              = sym mine ∙ role in cc in
              let most = W.sized.1 in
              let is_it : q ≡ z = let p : ℕ = place in let u : p < places = few in
              let f : 1024 * q + p ≡ 1024 * z + at_place = sym is ∙ shown in omega arith in
              subst (λ (y : ReaderPart). (after (with_look n q r)
              ≡ after (with_look n z y)) × (y.seen ≤ z)) same (
                ap (λ (k : ℕ). after (with_look n k r)) is_it,
                let f = L.seen in omega arith,
              ),
        )

    pub looks_value : (z : ℕ) → r.looked ≡ Some z → Allows (Ruled fits places) slots id m
        (value_at places z) (λ n. n) (saw_value fits (step slots (value_at places z) 0 0 none) m)
    looks_value z looked s R deep there word =
        let at = there ∙ ap some mine in let W = R.lawful in
        let L : LooksAt R.part r = W.knows id (Reads r) at in
        let i = value_at places z in
        let q = L.looked z looked in
        let run = inhabited R.part R.tallies s.views W.chain id q.0 r at q.1 in
        let low = running_low R.part R.tallies s.views W.chain q.0 run in
        let high = q.2 in
        let is = R.shown.values z (omega arith) q.3 in
        let n = slice_index s.words i in (
          Reads (with_step i n r),
          keeps,
          tt,
          looks s id i m.1 r (with_step i n r) R at refl (record {
            looked = L.looked;
            seen = L.seen;
            found = L.found;
          }),
          λ w role. let same : r ≡ w = let f : Reads r ≡ Reads w = sym mine ∙ role in cc in (
            ap (λ (y : ReaderPart). after (with_step i n y)) same,
            λ y e.
                let one : z ≡ y = let f : Some z ≡ Some y = sym looked
                ∙ (ap (λ (x : ReaderPart). x.looked) same ∙ e) in cc in
                subst (λ (k : ℕ). fits k (slice_index s.words i)) one
                (subst (fits z) (sym is) (W.values.fit z q.3)),
          ),
        )

    pub looks_count : (g : ℕ) → Allows (Ruled fits places) slots id m (count_at places g)
        (λ n. n) (saw_count (step slots (count_at places g) 0 0 none) m)
    looks_count g s R deep there word =
        let at = there ∙ ap some mine in let W = R.lawful in
        let L : LooksAt R.part r = W.knows id (Reads r) at in
        let i = count_at places g in let n = slice_index s.words i in (
          Reads (with_step i n r),
          keeps,
          tt,
          looks s id i m.1 r (with_step i n r) R at refl (record {
            looked = L.looked;
            seen = L.seen;
            found = L.found;
          }),
          (
            λ w role. let same : r ≡ w = let f : Reads r ≡ Reads w = sym mine ∙ role in cc in
                ap (λ (y : ReaderPart). after (with_step i n y)) same,
            λ below. few_in (suc places) R.part.oldest (top_of R.part.stage R.part.current)
                (ring_of places s.words) (tally_at R.tallies) (g % suc places) (n / 65536)
                (n % 65536) 64 R.shown.ring (top_small fits places R.part W.values)
                (few_running R.part R.tallies s.views W.chain W.few) (omega arith)
                (mod-lt g (omega arith)) (omega arith) (mod-lt n (omega arith))
                (let x : ℕ = n / 65536 in let y : ℕ = n % 65536 in
                let e : x * 65536 + y ≡ n = div-add-mod' n 65536 in
                let f : n ≡ y + 65536 * x = omega arith in f),
          ),
        )
