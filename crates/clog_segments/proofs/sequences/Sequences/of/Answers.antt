use Rattle.std.proofs.Common.{
  ◌≡◌,
  ◌∙◌,
  ◌+◌,
  ◌<◌,
  ℕ,
  get_or,
  inl,
  inr,
  set,
  sym,
  ap,
  subst,
  arith,
}
use Rattle.std.proofs.lemmas.Bool.{cases_eq, cases_lt}
use Rattle.std.proofs.lemmas.List.{get_or-set_other, get_or-set_same, get_or_past, length-set}
use Rattle.clog_base.specs.declared.cell.Table.{Table}
use Rattle.clog_crash.specs.Folder.{IsBase}
use Rattle.clog_segments.specs.Named.{HasSequence, OneHas}
use Rattle.clog_segments.proofs.Ids.{none_above}
use Rattle.clog_segments.proofs.sequences.Sequences.of.Goals as goal

pub loop-number-preserved : goal.loop-number-preserved
loop-number-preserved c =
    let before = c.loop-number.greatest in
    let own = c.greatest_of.result in
    let at = c.from.ensures in
    record {
      all = length-set before c.from.result own ∙ c.loop-number.invariant.all;
      each = λ table less. elim (cases_eq table.0 c.from.result) [
        | inl same ↦
            subst (λ (k : ℕ). IsBase (OneHas (HasSequence table) c.args.names.now) 1 (k + 1))
            (sym (ap (λ (k : ℕ). get_or (set before c.from.result own) k 0) same
            ∙ get_or-set_same before c.from.result own 0
            (omega (arith, at, c.loop-number.invariant.all, c.loop-number-test.true))))
            (subst (λ (t : Table). IsBase (OneHas (HasSequence t) c.args.names.now) 1 (own + 1))
            (λ i. record { 0 = sym (same ∙ at) i }) c.greatest_of.ensures)
        | inr apart ↦
            subst (λ (k : ℕ). IsBase (OneHas (HasSequence table) c.args.names.now) 1 (k + 1))
            (sym (get_or-set_other before c.from.result table.0 own 0 apart))
            (c.loop-number.invariant.each table (below table.0 c.loop-number.number less
            (λ same. apart (same ∙ sym at))))
      ];
    }
  where
    below : (a b : ℕ) → a < b + 1 → (a ≡ b → ⊥) → a < b
    below a b less apart = elim (cases_lt a b) [
      | inl low ↦ low
      | inr high ↦ absurd (apart (omega (arith, less, high)))
    ]

pub returns : goal.returns
returns c = record {
  all = c.loop-number.invariant.all;
  each = λ table. elim (cases_lt table.0 c.loop-number.number) [
    | inl low ↦ c.loop-number.invariant.each table low
    | inr high ↦
        subst (λ (k : ℕ). IsBase (OneHas (HasSequence table) c.args.names.now) 1 (k + 1))
        (sym (get_or_past c.loop-number.greatest table.0 0
        (omega (arith, high, c.loop-number-test.false, c.loop-number.invariant.all))))
        (none_above (OneHas (HasSequence table) c.args.names.now) 1 (λ n has.
        let few = has.2.table_fits in omega (arith, few, high, c.loop-number-test.false)))
  ];
}
