use Rattle.std.proofs.Common.{◌≡◌, List, [], ◌∷◌, ◌++◌, length, sym, ap, ◌∙◌, subst, arith}
use Rattle.std.specs.List.{AllByRecursion}
use Rattle.std.proofs.lemmas.List.{length-append}
use Rattle.json.specs.Reads.{token_of}
use Rattle.json.specs.Token.{begin_object}
use Rattle.clog_mutation.specs.declared.mutation.Update.{Update}
use Rattle.clog_mutation.specs.Limits.{UpdateIsWithinLimits}
use Rattle.clog_text.specs.UsualLines.{updates_tokens, AllSay}
use Rattle.clog_text.proofs.UpdateLists.{within_push}
use Rattle.clog_text.proofs.UsualLines.{follows, tokens_more, say_more}
use Rattle.clog_text.proofs.usual.updates.Goals as goal

pub updates-preserved : goal.updates-preserved
updates-preserved c =
    let l = c.updates in
    let taken = l.invariant.taken in
    let x = c.in_ok-update-in-Some-BeginObject.field-0 in
    let more = c.in_ok-update-in-Some-BeginObject.ensures.update in
    let pushed = c.in-Ok-push.ensures.items in
    let brace : l.reader ≡ begin_object ∷ c.next.new.self =
    c.in-Some-BeginObject.ensures.value
    ∙ ap (λ t. token_of t ∷ c.next.new.self) c.in-Some-BeginObject.field-0-is in
    record {
      taken = (
        taken.0 ++ more.0 ∷ [],
        taken.1 ∙ ap (updates_tokens taken.0)
            (follows brace more.1)
            ∙ sym (tokens_more taken.0 more.0 c.update.new.reader),
        subst (λ (xs : List Update). AllSay (taken.0 ++ more.0 ∷ []) xs) (sym pushed)
            (say_more taken.0 l.updates.items more.0 x taken.2 more.2),
      );
      within = subst (λ (xs : List Update). AllByRecursion UpdateIsWithinLimits xs) (sym pushed)
          (within_push l.updates.items x l.invariant.within
          c.in_ok-update-in-Some-BeginObject.ensures.within);
      few = let count = ap length pushed ∙ length-append l.updates.items (x ∷ []) in
          omega (arith, count, c.updates-test.true);
    }
