use Rattle.std.proofs.Common.{
  ◌≡◌,
  ◌+◌,
  ◌<◌,
  ◌∙◌,
  ℕ,
  get_or,
  length-set,
  get_or-set_other,
  get_or-set_same,
  min,
  set,
  ap,
  arith,
  rules,
}
use mathlib.Core.Logic.{dite}
use native.Mathlib.Decide.{ℕ_discrete}
use Rattle.clog_shares.proofs.tally.UpdateTally.with_line.Goals as goal

-- a sum that stands still at the greatest number is the sum, up to a number that is no greater
up_to : (most sum more now : ℕ) → most < 4294967296 → more ≡ min sum 4294967295
    → now ≡ min most more → now ≡ min most sum
up_to most sum more now fits is gives = omega (arith, fits, is, gives)

pub loop-table-preserved : goal.loop-table-preserved
loop-table-preserved c =
    let l = c.loop-table in let I = l.invariant in
    let now = c.min.result in
    let fits : c.args.self.most < 4294967296 = search rules in
    let more = c.from.ensures in
    let sum : (t : ℕ) → t ≡ l.table
    → get_or l.counts l.table 0 + c.from.result
    ≡ get_or c.args.self.counts t 0 + get_or c.args.line.of_tables t 0 =
    λ t same.
    let old = I.high l.table (omega arith) in
    let x = ap (λ (k : ℕ). get_or c.args.self.counts k 0) same in
    let y = ap (λ (k : ℕ). get_or c.args.line.of_tables k 0) same in
    omega (arith, old, more, x, y) in
    let long = I.all in let inside = c.loop-table-test.true in record {
      all = length-set l.counts l.table now ∙ I.all;
      low = λ t less. dite (ℕ_discrete t l.table)
          (λ same. ap (λ (k : ℕ). get_or (set l.counts l.table now) k 0) same
          ∙ get_or-set_same l.counts l.table now 0 (omega (arith, long, inside))
          ∙ up_to c.args.self.most
          (get_or c.args.self.counts t 0 + get_or c.args.line.of_tables t 0)
          c.saturating_add-more.result now fits
          (c.saturating_add-more.ensures ∙ ap (λ (k : ℕ). min k 4294967295)
          (sum t same)) c.min.ensures)
          (λ apart. get_or-set_other l.counts l.table t now 0 apart
          ∙ I.low t (omega (arith, less, apart)));
      high = λ t above. get_or-set_other l.counts l.table t now 0 (omega (arith, above))
          ∙ I.high t (omega (arith, above));
    }

pub returns-clause-more : goal.returns-clause-more
returns-clause-more c = λ t low. let all = c.loop-table-test.false in
    c.loop-table.invariant.low t (omega (arith, low, all))
