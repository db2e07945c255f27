use Rattle.std.proofs.Common.{Vec, Global, arith, sym, ap, subst, ◌∙◌, ◌≡◌, ◌+◌, ℕ}
use Rattle.std.proofs.lemmas.Bool.{false≢true}
use Rattle.clog_spec.specs.Sizes.{most_tables}
use Rattle.clog_memtable.specs.declared.flushing.Memtable.{Memtable}
use Rattle.clog_memtable.specs.Touched.{AreMemtablesOf, IsMemtableOf, IsTouchedAbove, key_for}
use Rattle.clog_memtable.proofs.Touching.{one_more, passed}
use Rattle.clog_memtable.proofs.memtables.memtables_of.Goals as goal
use Rattle.clog_memtable.proofs.memtables.memtables_of.Goals.{
  then-is_touched+in_ok-memtable_of+in_ok-push,
  else-is_touched,
}

pub loop-table-preserved : goal.loop-table-preserved
loop-table-preserved c =
    let l = c.loop-table in
    let notes = c.args.notes.now in
    let lowers = c.args.lowers.now in
    let upper = c.args.upper.0 in
    let lower : key_for lowers c.from.result ≡ key_for lowers l.table =
    ap (key_for lowers) c.from.ensures in
    elim c.if-is_touched.branch [
      | then-is_touched+in_ok-memtable_of+in_ok-push w ↦
          let m = w.in_ok-memtable_of.field-0 in
          subst (AreMemtablesOf notes (key_for lowers) upper (l.table + 1))
          (sym (ap (λ (v : Vec Memtable Global). v.items) w.memtables-is
          ∙ w.in_ok-push.ensures.items))
          (one_more notes (key_for lowers) upper l.table l.memtables.items l.invariant m
          (subst (λ (k : ℕ). IsMemtableOf notes k upper m) lower
          w.in_ok-memtable_of.ensures.memtable) w.in_ok-memtable_of.ensures.table)
      | else-is_touched w ↦
          subst (λ (v : Vec Memtable Global).
          AreMemtablesOf notes (key_for lowers) upper (l.table + 1) v.items) (sym w.memtables-is)
          (passed notes (key_for lowers) upper l.table l.memtables.items l.invariant (λ touched.
          false≢true (sym w.if-is_touched.false
          ∙ c.is_touched.ensures.1 (subst (IsTouchedAbove notes l.table) (sym lower) touched))))
    ]

pub returns : goal.returns
returns c =
    let l = c.loop-table in
    let end : l.table ≡ most_tables =
    (let low = l.auto.table-end in let high = c.loop-table-test.false in omega (arith, low, high))
    in
    subst (λ (t : ℕ).
    AreMemtablesOf c.args.notes.now (key_for c.args.lowers.now) c.args.upper.0 t l.memtables.items)
    end l.invariant
