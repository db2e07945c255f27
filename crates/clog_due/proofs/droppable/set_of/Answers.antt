use Rattle.std.proofs.Common.{ℕ, List, Contains, get_or, subst, sym, take}
use Rattle.std.specs.Prelude.{◌↔◌}
use Rattle.std.proofs.lemmas.List.{take_all, take_more}
use Rattle.clog_due.proofs.Due.{numbers_more}
use Rattle.clog_due.proofs.droppable.set_of.Goals as goal

pub loop-number-preserved : goal.loop-number-preserved
loop-number-preserved c =
    let numbers = c.args.numbers.now in
    let i = c.loop-number.number-index in
    let now = c.insert.new.self in
    subst (λ (l : List ℕ). (o : ℕ) → Contains now.keys o ↔ Contains l o)
    (sym (take_more numbers i 0 c.loop-number-test.true))
    (numbers_more (take i numbers) (get_or numbers i 0) c.loop-number.set now
    c.loop-number.invariant c.in_ok-insert.ensures.updates)

pub returns : goal.returns
returns c =
    subst (λ (l : List ℕ). (o : ℕ) → Contains c.loop-number.set.keys o ↔ Contains l o)
    (take_all c.loop-number.number-index c.args.numbers.now c.loop-number-test.false)
    c.loop-number.invariant
