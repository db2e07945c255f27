-- How many groups were made: one of each order at first, and one for each barrier that a seat has
-- issued.
use Rattle.std.proofs.Common.{◌≡◌, ◌≢◌, ℕ, zero, suc, ◌+◌, ◌*◌, ◌<◌, ◌≤◌, Bool, true, false, cond}
use Rattle.std.proofs.Common.{List, [], ◌∷◌, get_or-set_other, get_or-set_same, ◌++◌, map, length}
use Rattle.std.proofs.Common.{refl, sym, ap, ◌∙◌, subst, arith, eq-eqb, ne_eqb}
use Rattle.std.proofs.Math.Nat.{mul-le-mul_right}
use Rattle.std.proofs.lemmas.List.{length-append, length-replicate}
use mathlib.Core.Logic.{dite}
use native.Mathlib.Decide.{ℕ_discrete}
use Rattle.clog_base.specs.declared.cell.Table.{Table}
use Rattle.op_core.specs.declared.count.Order.TheVariants.{Append, Write}
use Rattle.op_core.specs.declared.count.Tally.TheVariants.{Open}
use Rattle.path_core.specs.declared.event.Event.{Event}
use Rattle.path_core.specs.declared.event.Event.TheVariants.{OpenGroup, Switch}
use Rattle.path_core.specs.declared.event.SwitchPart.TheVariants.{Open as OpenPart}
use Rattle.path_core.specs.declared.state.PathState.{PathState}
use Rattle.path_core.specs.declared.state.TableState.{TableState}
use Rattle.path_core.specs.Allowed.{IsStep}
use Rattle.path_core.specs.Next.{groups_after, next_of}
use Rattle.path_core.specs.Parts.{fresh_memtable, fresh_seat, fresh_table, table_of}
use Rattle.path_core.specs.Runs.{Past}
use Rattle.path_core.specs.Words.{by_of}
use Rattle.path_core.proofs.lists.Replaced.{replicated}
use Rattle.path_core.proofs.runs.Sizes.{as_many_seats, as_many_tables}
use Rattle.path_rule.specs.declared.view.OwnStep.{OwnStep}
use Rattle.path_rule.specs.declared.view.PathSize.{PathSize}
use Rattle.path_rule.specs.Issued.{MayIssue, is_issue, is_open, issued_in, issues_of, most_issued}
use Rattle.path_rule.specs.Issued.{opened_in, opens_of}
use Rattle.path_rule.specs.Limits.{made_below, most_memtables}
use Rattle.path_rule.specs.PaidFor.{ArePaidFor, issued_below}
use Rattle.path_rule.specs.Rule.{IsFit, event_of, start_of, steps_by}
use Rattle.path_rule.proofs.places.ReadBack.{GroupMade, MemtableMade, as_many_memtables}
use Rattle.path_rule.proofs.places.ReadBack.{as_many_tallies, kept_below}

pub steps_own : (w : ℕ) (es : List Event) (e : Event) → by_of e ≡ w
    → steps_by w (e ∷ es) ≡ e ∷ steps_by w es
steps_own w es e is = ap (λ b. cond b (e ∷ steps_by w es) (steps_by w es)) (eq-eqb (by_of e) w is)

pub steps_other : (w : ℕ) (es : List Event) (e : Event) → by_of e ≢ w
    → steps_by w (e ∷ es) ≡ steps_by w es
steps_other w es e n = ap (λ b. cond b (e ∷ steps_by w es) (steps_by w es)) (ne_eqb (by_of e) w n)

as_sum : (b : Bool) (n : ℕ) → cond b 1 0 + n ≡ cond b (suc n) n
as_sum true n = omega arith
as_sum false n = omega arith

-- a seat's own steps, and those of its number in the run
pub issued_is : (trail : List OwnStep) → issues_of (map event_of trail) ≡ issued_in trail
issued_is [] = refl
issued_is (s ∷ ss) = ap (λ (n : ℕ). cond (is_issue s.event) 1 0 + n) (issued_is ss)
    ∙ as_sum (is_issue s.event) (issued_in ss)

pub issued_both : (ts us : List OwnStep) → issued_in (ts ++ us) ≡ issued_in ts + issued_in us
issued_both [] us = omega arith
issued_both (t ∷ ts) us = let rest = issued_both ts us in
    let all = as_sum (is_issue t.event) (issued_in (ts ++ us)) in
    let first = as_sum (is_issue t.event) (issued_in ts) in omega (arith, rest, all, first)

-- the step that it may make leaves it within the bound
within : (trail : List OwnStep) (e : Event) → MayIssue trail e → issued_in trail ≤ most_issued
    → cond (is_issue e) 1 0 + issued_in trail ≤ most_issued
within trail (OpenGroup by order group) may low = omega (arith, may)
within trail e may low = omega (arith, low)

pub few_still : (w : ℕ) (es : List Event) (e : Event) → by_of e ≡ w → (trail : List OwnStep)
    → map event_of trail ≡ steps_by w es → MayIssue trail e
    → ((z : ℕ) → issues_of (steps_by z es) ≤ most_issued)
    → (z : ℕ) → issues_of (steps_by z (e ∷ es)) ≤ most_issued
few_still w es e by trail own may few z = dite (ℕ_discrete z w)
    (λ same. let is = sym (issued_is trail) ∙ ap issues_of own in
    let low = within trail e may (let f = few w in omega (arith, is, f)) in
    let more = ap issues_of (steps_own w es e by) in
    subst (λ (k : ℕ). issues_of (steps_by k (e ∷ es)) ≤ most_issued) (sym same)
    (omega (arith, low, more, is)))
    (λ apart. let same = ap issues_of (steps_other z es e (λ q. apart (sym q ∙ by))) in
    let f = few z in omega (arith, same, f))

none_below : (n : ℕ) → issued_below n [] ≡ 0
none_below zero = refl
none_below (suc n) = let is = none_below n in omega (arith, is)

beyond_below : (n : ℕ) (es : List Event) (e : Event) → n ≤ by_of e
    → issued_below n (e ∷ es) ≡ issued_below n es
beyond_below zero es e high = refl
beyond_below (suc n) es e high = let rest = beyond_below n es e (omega (arith, high)) in
    let same = ap issues_of (steps_other n es e (λ q. absurd (omega (arith, high, q)))) in
    omega (arith, rest, same)

more_below : (n : ℕ) (es : List Event) (e : Event) → by_of e < n
    → issued_below n (e ∷ es) ≡ cond (is_issue e) 1 0 + issued_below n es
more_below zero es e low = absurd (omega (arith, low))
more_below (suc n) es e low = dite (ℕ_discrete (by_of e) n)
    (λ is. let rest = beyond_below n es e (omega (arith, is)) in
    let own = ap issues_of (steps_own n es e is) in omega (arith, rest, own))
    (λ apart. let rest = more_below n es e (omega (arith, low, apart)) in
    let same = ap issues_of (steps_other n es e apart) in omega (arith, rest, same))

few_below : (n : ℕ) (es : List Event) → ((z : ℕ) → issues_of (steps_by z es) ≤ most_issued)
    → issued_below n es ≤ n * most_issued
few_below zero es few = omega arith
few_below (suc n) es few = let rest = few_below n es few in let one = few n in
    omega (arith, rest, one)

-- a step makes as many groups as barriers are issued by it
abbrev Makes : PathState → Event → Type 0
Makes x e =
    length (groups_after Write x.write e).tallies + length (groups_after Append x.append e).tallies
    ≡ cond (is_issue e) 1 0 + (length x.write.tallies + length x.append.tallies)

as_before : (x : PathState) (e : Event) → (GroupMade e → ⊥) → is_issue e ≡ false → Makes x e
as_before x e other is = let w = as_many_tallies Write x.write e other in
    let a = as_many_tallies Append x.append e other in
    let none = ap (λ (b : Bool). cond {A = ℕ} b 1 0) is in omega (arith, w, a, none)

one_more : (x : PathState) (e : Event) → Makes x e
one_more x (OpenGroup by Write g) = let l = length-append x.write.tallies (Open 0 ∷ []) in
    omega (arith, l)
one_more x (OpenGroup by Append g) = let l = length-append x.append.tallies (Open 0 ∷ []) in
    omega (arith, l)
one_more x e = as_before x e (λ q. q) refl

-- ---- over a run

record Made (size : PathSize) (es : List Event) (y : PathState) : Type 0 where
  seats : length y.seats ≡ size.seats
  groups : length y.write.tallies + length y.append.tallies ≡ 2 + issues_of es
  counted : issues_of es ≡ issued_below size.seats es

made_first : (size : PathSize) → Made size [] (start_of size)
made_first size = record {
  seats = length-replicate size.seats fresh_seat;
  groups = refl;
  counted = sym (none_below size.seats);
}

made_by : (size : PathSize) (es : List Event) (y : PathState) → Past (start_of size) es y
    → Made size es y
made_by size [] y run = subst (Made size []) run (made_first size)
made_by size (e ∷ es) y run = let before = made_by size es run.0 run.1 in
    let may = run.3 in subst (Made size (e ∷ es)) run.4 (record {
      seats = as_many_seats run.0 e ∙ before.seats;
      groups = (let more = one_more run.0 e in let old = before.groups in omega (arith, more, old));
      counted = (let more = more_below size.seats es e (let inside = may.seat in
          let long = before.seats in omega (arith, inside, long)) in
          let old = before.counted in omega (arith, more, old));
    })

-- the groups of both orders, together
pub few_made : (size : PathSize) (es : List Event) (y : PathState) → IsFit size
    → Past (start_of size) es y → ((z : ℕ) → issues_of (steps_by z es) ≤ most_issued)
    → length y.write.tallies + length y.append.tallies ≤ 2 + 64 * most_issued
few_made size es y fit run few = let made = made_by size es y run in
    let groups = made.groups in let counted = made.counted in
    let below = few_below size.seats es few in
    let seats = mul-le-mul_right most_issued fit.few_writers in
    omega (arith, groups, counted, below, seats)

-- ---- memtables

pub opened_is : (trail : List OwnStep) → opens_of (map event_of trail) ≡ opened_in trail
opened_is [] = refl
opened_is (s ∷ ss) = ap (λ (n : ℕ). cond (is_open s.event) 1 0 + n) (opened_is ss)
    ∙ as_sum (is_open s.event) (opened_in ss)

-- the step that it may make leaves it paid for
pays : (trail : List OwnStep) (e : Event) → MayIssue trail e
    → opened_in trail ≤ issued_in trail + 1
    → cond (is_open e) 1 0 + opened_in trail ≤ cond (is_issue e) 1 0 + issued_in trail + 1
pays trail (OpenGroup by order group) may low = omega (arith, low)
pays trail (Switch by t m OpenPart) may low = omega (arith, may)
pays trail e may low = omega (arith, low)

pub paid_still : (w : ℕ) (es : List Event) (e : Event) → by_of e ≡ w → (trail : List OwnStep)
    → map event_of trail ≡ steps_by w es → MayIssue trail e
    → ((z : ℕ) → opens_of (steps_by z es) ≤ issues_of (steps_by z es) + 1)
    → (z : ℕ) → opens_of (steps_by z (e ∷ es)) ≤ issues_of (steps_by z (e ∷ es)) + 1
paid_still w es e by trail own may paid z = dite (ℕ_discrete z w)
    (λ same. let is = sym (issued_is trail) ∙ ap issues_of own in
    let opened = sym (opened_is trail) ∙ ap opens_of own in
    let low = pays trail e may (let p = paid w in omega (arith, is, opened, p)) in
    let more = ap issues_of (steps_own w es e by) in
    let made = ap opens_of (steps_own w es e by) in
    subst (λ (k : ℕ). opens_of (steps_by k (e ∷ es)) ≤ issues_of (steps_by k (e ∷ es)) + 1)
    (sym same) (omega (arith, low, more, made, is, opened)))
    (λ apart. let same = ap issues_of (steps_other z es e (λ q. apart (sym q ∙ by))) in
    let made = ap opens_of (steps_other z es e (λ q. apart (sym q ∙ by))) in
    let p = paid z in omega (arith, same, made, p))

-- those of the first seats, together
abbrev opened_below : ℕ → List Event → ℕ
opened_below zero es = 0
opened_below (suc n) es = opened_below n es + opens_of (steps_by n es)

none_opened : (n : ℕ) → opened_below n [] ≡ 0
none_opened zero = refl
none_opened (suc n) = let is = none_opened n in omega (arith, is)

beyond_opened : (n : ℕ) (es : List Event) (e : Event) → n ≤ by_of e
    → opened_below n (e ∷ es) ≡ opened_below n es
beyond_opened zero es e high = refl
beyond_opened (suc n) es e high = let rest = beyond_opened n es e (omega (arith, high)) in
    let same = ap opens_of (steps_other n es e (λ q. absurd (omega (arith, high, q)))) in
    omega (arith, rest, same)

more_opened : (n : ℕ) (es : List Event) (e : Event) → by_of e < n
    → opened_below n (e ∷ es) ≡ cond (is_open e) 1 0 + opened_below n es
more_opened zero es e low = absurd (omega (arith, low))
more_opened (suc n) es e low = dite (ℕ_discrete (by_of e) n)
    (λ is. let rest = beyond_opened n es e (omega (arith, is)) in
    let own = ap opens_of (steps_own n es e is) in omega (arith, rest, own))
    (λ apart. let rest = more_opened n es e (omega (arith, low, apart)) in
    let same = ap opens_of (steps_other n es e apart) in omega (arith, rest, same))

paid_below : (n : ℕ) (es : List Event)
    → ((z : ℕ) → opens_of (steps_by z es) ≤ issues_of (steps_by z es) + 1)
    → opened_below n es ≤ issued_below n es + n
paid_below zero es paid = omega arith
paid_below (suc n) es paid = let rest = paid_below n es paid in let one = paid n in
    omega (arith, rest, one)

-- a memtable more, of one table
module _ (x y : PathState) (t : ℕ)
    (more : length (table_of y t).memtables ≡ suc (length (table_of x t).memtables))
    (others : (u : ℕ) → u ≢ t
    → length (table_of y u).memtables ≡ length (table_of x u).memtables) where
  beyond_made : (n : ℕ) → n ≤ t → made_below n y ≡ made_below n x
  unfolding made_below
  beyond_made zero high = refl
  beyond_made (suc n) high = let rest = beyond_made n (omega (arith, high)) in
      let one = others n (λ q. absurd (omega (arith, high, q))) in omega (arith, rest, one)

  more_made : (n : ℕ) → t < n → made_below n y ≡ suc (made_below n x)
  unfolding made_below
  more_made zero low = absurd (omega (arith, low))
  more_made (suc n) low = dite (ℕ_discrete n t)
      (λ is. let rest = beyond_made n (omega (arith, is)) in
      let one = subst (λ (k : ℕ). length (table_of y k).memtables
      ≡ suc (length (table_of x k).memtables)) (sym is) more in omega (arith, rest, one))
      (λ apart. let rest = more_made n (omega (arith, low, apart)) in let one = others n apart in
      omega (arith, rest, one))

-- a step makes as many memtables as it opens
pub opens_one : (x : PathState) (w : ℕ) (t : Table) (m : ℕ) → t.0 < length x.tables → (n : ℕ)
    → length x.tables ≤ n
    → made_below n (next_of x (Switch w t m OpenPart)) ≡ suc (made_below n x)
opens_one x w t m inside n wide =
    let y = next_of x (Switch w t m OpenPart) in
    let l = length-append (table_of x t.0).memtables (fresh_memtable ∷ []) in
    more_made x y t.0
    (subst (λ (q : TableState). length q.memtables ≡ suc (length (table_of x t.0).memtables))
    (sym (get_or-set_same x.tables t.0 _ fresh_table inside)) (omega (arith, l)))
    (λ u apart. ap (λ (q : TableState). length q.memtables)
    (get_or-set_other x.tables t.0 u _ fresh_table apart)) n (omega (arith, inside, wide))

abbrev Fills : PathState → Event → Type 0
Fills x e = made_below 16 (next_of x e) ≡ cond (is_open e) 1 0 + made_below 16 x

as_full : (x : PathState) (e : Event) → IsStep x e → (MemtableMade e → ⊥) → is_open e ≡ false
    → Fills x e
as_full x e a other is = let same = kept_below x (next_of x e) (as_many_memtables x e a other) 16 in
    let none = ap (λ (b : Bool). cond {A = ℕ} b 1 0) is in omega (arith, same, none)

fills : (x : PathState) (e : Event) → IsStep x e → length x.tables ≤ 16 → Fills x e
fills x (Switch w t m OpenPart) a few = let one = opens_one x w t m a.is_there 16 few in
    omega (arith, one)
fills x e a few = as_full x e a (λ q. q) refl

-- one memtable of each table at first
pub memtables_first : (size : PathSize) (n : ℕ) → made_below n (start_of size) ≡ n
unfolding made_below
memtables_first size zero = refl
memtables_first size (suc n) = let rest = memtables_first size n in
    let one = ap (λ (q : TableState). length q.memtables)
    (sym (replicated size.tables n fresh_table)) in omega (arith, rest, one)

record Filled (size : PathSize) (es : List Event) (y : PathState) : Type 0 where
  seats : length y.seats ≡ size.seats
  tables : length y.tables ≡ size.tables
  made : made_below 16 y ≡ 16 + opens_of es
  counted : opens_of es ≡ opened_below size.seats es

filled_by : (size : PathSize) (es : List Event) (y : PathState) → IsFit size
    → Past (start_of size) es y → Filled size es y
filled_by size [] y fit run = subst (Filled size []) run (record {
  seats = length-replicate size.seats fresh_seat;
  tables = length-replicate size.tables fresh_table;
  made = memtables_first size 16;
  counted = sym (none_opened size.seats);
})
filled_by size (e ∷ es) y fit run = let before = filled_by size es run.0 fit run.1 in
    let may = run.3 in subst (Filled size (e ∷ es)) run.4 (record {
      seats = as_many_seats run.0 e ∙ before.seats;
      tables = as_many_tables run.0 e ∙ before.tables;
      made = (let more = fills run.0 e may (let few = fit.few_tables in let is = before.tables in
          omega (arith, few, is)) in let old = before.made in omega (arith, more, old));
      counted = (let more = more_opened size.seats es e (let inside = may.seat in
          let long = before.seats in omega (arith, inside, long)) in
          let old = before.counted in omega (arith, more, old));
    })

-- the memtables of all tables, together, and one more
pub few_filled : (size : PathSize) (es : List Event) (y : PathState) → IsFit size
    → Past (start_of size) es y → ((z : ℕ) → issues_of (steps_by z es) ≤ most_issued)
    → ((z : ℕ) → opens_of (steps_by z es) ≤ issues_of (steps_by z es) + 1)
    → made_below 16 y < most_memtables
few_filled size es y fit run few paid = let filled = filled_by size es y fit run in
    let made = filled.made in let counted = filled.counted in
    let each = paid_below size.seats es paid in
    let below = few_below size.seats es few in
    let least = fit.few_writers in
    let seats = mul-le-mul_right most_issued fit.few_writers in
    omega (arith, made, counted, each, below, seats, least)

-- groups and memtables, by the barriers that were issued
pub paid_for : (size : PathSize) (es : List Event) (y : PathState) → IsFit size
    → Past (start_of size) es y
    → ((z : ℕ) → opens_of (steps_by z es) ≤ issues_of (steps_by z es) + 1)
    → ArePaidFor size.seats es y
paid_for size es y fit run paid = let made = made_by size es y run in
    let filled = filled_by size es y fit run in let each = paid_below size.seats es paid in record {
      groups = (let all = made.groups in let own = made.counted in omega (arith, all, own));
      memtables = (let all = filled.made in let own = filled.counted in
          omega (arith, all, own, each));
    }

-- those of one table are among them
pub one_of : (x : PathState) (t n : ℕ) → t < n
    → length (table_of x t).memtables ≤ made_below n x
unfolding made_below
one_of x t zero low = absurd (omega (arith, low))
one_of x t (suc n) low = dite (ℕ_discrete t n)
    (λ is. subst (λ (k : ℕ). length (table_of x k).memtables ≤ made_below (suc n) x) (sym is)
    (omega arith))
    (λ apart. let rest = one_of x t n (omega (arith, low, apart)) in omega (arith, rest))
