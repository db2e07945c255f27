-- Items that were put one after another.
use Rattle.std.specs.Prelude.{◌≡◌, List, [], ◌++◌}
use Rattle.std.proofs.Common.{refl, sym, ◌∙◌, ap, subst, append_assoc}
use Rattle.std.proofs.lemmas.List.{append-nil}
use Rattle.crossbeam_queue.specs.Passes.{Pass, view}
use Rattle.replay_queue.specs.declared.rule.Hand.{Hand}
use Rattle.replay_queue.specs.declared.rule.Job.{Job}
use Rattle.replay_queue.specs.declared.work.Own.{Own}
use Rattle.replay_queue.specs.GivenBack.{PutsOn}

pub puts_none : {T S X : Type 0} (done : S → List T → Type 0) (own : Own S)
    (pass : Pass (Job T) (Hand T)) (task : X) → (task ≡ task) × PutsOn done own pass [] own pass
puts_none done own pass task = (
  refl,
  record {
    same = (refl, refl, refl);
    parts = refl;
    put = sym (append-nil (view pass).put);
    has = λ h. h;
  },
)

pub puts_more : {T S X : Type 0} (done : X → S → List T → Type 0) (a b c : X) (o : Own S)
    (p : Pass (Job T) (Hand T)) (items : List T) (o' : Own S) (p' : Pass (Job T) (Hand T))
    (more : List T) (o'' : Own S) (p'' : Pass (Job T) (Hand T))
    → (b ≡ a) × PutsOn (done a) o p items o' p'
    → (c ≡ b) × PutsOn (done b) o' p' more o'' p''
    → (c ≡ a) × PutsOn (done a) o p (items ++ more) o'' p''
puts_more done a b c o p items o' p' more o'' p'' one two =
    let on = subst (λ x. PutsOn (done x) o' p' more o'' p'') one.0 two.1 in (
      two.0 ∙ one.0,
      record {
        same = (
          on.same.0 ∙ one.1.same.0,
          on.same.1 ∙ one.1.same.1,
          on.same.2 ∙ one.1.same.2,
        );
        parts = on.parts ∙ one.1.parts;
        put = on.put ∙ ap (λ l. l ++ more) one.1.put
            ∙ append_assoc (view p).put items more;
        has = λ h. on.has (one.1.has h);
      },
    )
