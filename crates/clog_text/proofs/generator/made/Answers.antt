use Rattle.std.proofs.Common.{◌≡◌, ℕ, ◌+◌, List, [], ◌∷◌, ◌++◌, add-one, ap, ap₂, subst, sym, ◌∙◌}
use Rattle.clog_mutation.specs.declared.mutation.Mutation.{Mutation}
use Rattle.clog_text.specs.Made.{made_line, made_lines, next_number, number_of}
use Rattle.clog_text.proofs.generator.made.Goals as goal

one_more_line : (seed i number : ℕ) (lines : List Mutation) (line : Mutation)
    → lines ≡ made_lines seed i → number ≡ number_of seed i
    → line ≡ made_line (next_number number) → lines ++ line ∷ [] ≡ made_lines seed (i + 1)
one_more_line seed i number lines line before last made =
    subst (λ (n : ℕ). lines ++ line ∷ [] ≡ made_lines seed n) (sym (add-one i))
    (ap₂ (λ (xs : List Mutation) (x : Mutation). xs ++ x ∷ []) before
    (made ∙ ap (λ (x : ℕ). made_line (next_number x)) last))

next_of : (seed i number : ℕ) → number ≡ number_of seed i
    → next_number number ≡ number_of seed (i + 1)
next_of seed i number last =
    subst (λ (n : ℕ). next_number number ≡ number_of seed n) (sym (add-one i)) (ap next_number last)

pub loop-index-preserved : goal.loop-index-preserved
loop-index-preserved c =
    let lines = c.loop-index.lines.items in
    let number = c.loop-index.number in
    record {
      lines =
          c.in_ok-push.ensures.items
          ∙ one_more_line c.args.seed c.loop-index._index number lines c.in_ok-line.line
          c.loop-index.invariant.lines c.loop-index.invariant.number
          (c.in_ok-line.ensures ∙ ap made_line c.next_number-number.ensures);
      number =
          c.next_number-number.ensures
          ∙ next_of c.args.seed c.loop-index._index number c.loop-index.invariant.number;
    }
