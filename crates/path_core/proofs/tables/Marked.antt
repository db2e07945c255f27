-- What a holder of a turn has marked stays raising, while its table changes.
use Rattle.std.proofs.Common.{
  ◌≡◌,
  ◌≢◌,
  ℕ,
  ◌<◌,
  ◌==◌,
  ◌&&◌,
  ◌||◌,
  true,
  length,
  Option,
  Some,
  None,
  refl,
  sym,
  ap,
  ◌∙◌,
  arith,
  ◌≤◌,
  max,
  get_or-set_same,
  get_or-set_other,
}
use mathlib.Core.Logic.{dite, inl, inr}
use native.Mathlib.Decide.{ℕ_discrete}
use Rattle.path_core.specs.Parts.{is_at, fresh_memtable, memtable_at, key_of_bound}
use Rattle.path_core.specs.declared.state.Bound.TheVariants.{Raising}
use Rattle.path_core.specs.SeatParts.{raised_to}
use Rattle.path_core.specs.declared.seat.Marked.{Marked}
use Rattle.clog_base.specs.declared.position.Key.{Key}
use Rattle.path_core.specs.declared.state.Memtable.{Memtable}
use Rattle.path_core.specs.declared.state.TableState.{TableState}
use Rattle.path_core.specs.Next.{with_memtable, with_bound}
use Rattle.path_core.specs.LawfulTables.{MarkedIsRaising}
use Rattle.std.proofs.lemmas.Bool.{false≢true, or_cases, and_parts, eqb-true}
use Rattle.path_core.proofs.tables.WithBarriers.{barred_table, bound_barred, mark_barred}

pub grown : (log after : ℕ) (table : TableState) (k : Marked) → log ≤ after
    → MarkedIsRaising log table k → MarkedIsRaising after table k
grown log after table k le M = record {
  below_newest = M.below_newest;
  bound = M.bound;
  raising = M.raising;
  mark = M.mark;
  marked = M.marked;
  fresh = λ key e. let r = M.fresh key e in let low = r.1 in (r.0, omega arith);
  raised = M.raised;
}

pub retired_marked : (log oldest : ℕ) (table : TableState)
    (k : Marked) → MarkedIsRaising log table k
    → MarkedIsRaising log (record table { oldest_live = oldest }) k
retired_marked log oldest table k M = record {
  below_newest = M.below_newest;
  bound = M.bound;
  raising = M.raising;
  mark = M.mark;
  marked = M.marked;
  fresh = M.fresh;
  raised = M.raised;
}

pub barred_marked : (log group : ℕ) (table : TableState) (k : Marked) → MarkedIsRaising log table k
    → MarkedIsRaising log (barred_table group table) k
barred_marked log group table k M = record {
  below_newest = M.below_newest;
  bound = M.bound;
  raising = bound_barred group table k.memtable ∙ M.raising;
  mark = M.mark;
  marked = mark_barred group table k.memtable ∙ M.marked;
  fresh = M.fresh;
  raised = M.raised;
}

-- the bound of what is marked rises
pub raised_marked : (log m to : ℕ) (table : TableState) (k : Marked) → m < length table.memtables
    → MarkedIsRaising log table k
    → MarkedIsRaising log (with_memtable table m (with_bound (raised_to to))) k
raised_marked log m to table k inside M = dite (ℕ_discrete k.memtable m)
    (λ e. record {
      below_newest = M.below_newest;
      bound = record { 0 = max M.bound.0 to };
      raising = ap (λ (n : Memtable). n.bound) (here e) ∙ ap (raised_to to)
          (ap (λ j. (memtable_at table j).bound) (sym e) ∙ M.raising);
      mark = M.mark;
      marked = ap (λ (n : Memtable). n.mark) (here e)
          ∙ ap (λ j. (memtable_at table j).mark) (sym e) ∙ M.marked;
      fresh = M.fresh;
      raised = λ r. let l = M.raised r in omega arith;
    })
    (λ n. record {
      below_newest = M.below_newest;
      bound = M.bound;
      raising = ap (λ (n : Memtable). n.bound) (there n) ∙ M.raising;
      mark = M.mark;
      marked = ap (λ (n : Memtable). n.mark) (there n) ∙ M.marked;
      fresh = M.fresh;
      raised = M.raised;
    })
  where
    here : k.memtable ≡ m → memtable_at (with_memtable table m (with_bound
        (raised_to to))) k.memtable
        ≡ with_bound (raised_to to) (memtable_at table m)
    here e = ap (memtable_at (with_memtable table m (with_bound (raised_to to)))) e
        ∙ get_or-set_same table.memtables m _ fresh_memtable inside

    there : k.memtable ≢ m
        → memtable_at (with_memtable table m (with_bound (raised_to to))) k.memtable
        ≡ memtable_at table k.memtable
    there n = get_or-set_other table.memtables m k.memtable _ fresh_memtable n

-- the holder itself raised it
pub own_raised : (log m to : ℕ) (table : TableState) (k : Marked) → m < length table.memtables
    → MarkedIsRaising log table k
    → MarkedIsRaising log (with_memtable table m (with_bound (raised_to to)))
    (record k { raised = k.raised || ((k.memtable == m) && is_at k.key to) })
own_raised log m to table k inside M =
    let R = raised_marked log m to table k inside M in record {
      below_newest = R.below_newest;
      bound = R.bound;
      raising = R.raising;
      mark = R.mark;
      marked = R.marked;
      fresh = R.fresh;
      raised = λ r. elim (or_cases k.raised ((k.memtable == m) && is_at k.key to) r) [
        | inl old ↦ R.raised old
        | inr new ↦ now R.bound R.mark R.raising R.fresh k.key refl (and_parts (k.memtable == m)
            (is_at k.key to) new)
      ];
    }
  where
    now : (bound : Key) (mark : ℕ)
        → (memtable_at (with_memtable table m (with_bound (raised_to to))) k.memtable).bound
        ≡ Raising bound
        → ((key : ℕ) → k.key ≡ Some key → (mark ≤ key) × (key ≤ log))
        → (key : Option ℕ) → k.key ≡ key
        → ((k.memtable == m) ≡ true) × (is_at k.key to ≡ true) → mark ≤ bound.0
    now bound mark raising fresh None e both = absurd (false≢true (sym (ap (λ o. is_at o to) e)
        ∙ both.1))
    now bound mark raising fresh (Some n) e both =
        let same : n ≡ to = eqb-true n to (sym (ap (λ o. is_at o to) e) ∙ both.1) in
        let at : k.memtable ≡ m = eqb-true k.memtable m both.0 in
        let f = (fresh n e).0 in
        let b = M.bound in
        let is : Raising (record { 0 = max b.0 to }) ≡ Raising bound
        = sym (ap (raised_to to) (ap (λ j. (memtable_at table j).bound) (sym at) ∙ M.raising))
        ∙ sym (ap (λ (n : Memtable). n.bound)
        (ap (memtable_at (with_memtable table m (with_bound (raised_to to)))) at
        ∙ get_or-set_same table.memtables m _ fresh_memtable inside)) ∙ raising in
        let top : max b.0 to ≡ bound.0 = ap key_of_bound is in
        omega arith
