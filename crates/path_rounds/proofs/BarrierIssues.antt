-- A barrier is issued by its steps, whatever was found before them and behind them.
use Rattle.std.proofs.Common.{
  ◌≡◌,
  ℕ,
  suc,
  List,
  ◌∷◌,
  ◌++◌,
  map,
  sym,
  ap,
  ◌∙◌,
  subst,
}
use Rattle.std.specs.List.{Contains}
use Rattle.std.proofs.lemmas.List.{append_assoc, map-append}
use Rattle.std.proofs.lemmas.List.Elements.{Contains-append_right}
use Rattle.op_core.specs.declared.count.Order.{Order}
use Rattle.path_core.specs.declared.event.Event.{Event}
use Rattle.path_core.specs.declared.event.Event.TheVariants.{Expire, MoveCurrent}
use Rattle.path_core.proofs.lists.Heads.{first_in, later_in}
use Rattle.path_rule.specs.declared.view.OwnStep.{OwnStep}
use Rattle.path_rule.specs.declared.view.View.{View}
use Rattle.path_rule.specs.Rule.{event_of}
use Rattle.path_rounds.specs.Passes.{HasIssued}

module _ (o : Order) (w group : ℕ) (m e : OwnStep) (front later : List OwnStep)
    (moves : m.event ≡ MoveCurrent w o (suc group)) (expires : e.event ≡ Expire w o group) where
  abbrev issue : List OwnStep
  issue = e ∷ m ∷ front

  among : (d : Event) → Contains (map event_of issue) d
      → Contains (map event_of (later ++ issue)) d
  among d h = subst (λ (l : List Event). Contains l d) (sym (map-append event_of later issue))
      (Contains-append_right (map event_of later) (map event_of issue) d h)

  -- Before the first of these steps the seat knew v, and opened, moved and expired behind them.
  pub issues : (v opened moved expired after : View) → opened.trail ≡ front ++ v.trail
      → moved.trail ≡ m ∷ opened.trail → expired.trail ≡ e ∷ moved.trail
      → after.trail ≡ later ++ expired.trail → HasIssued o w group v after
  issues v opened moved expired after first move expire rest = record {
    newer = later ++ issue;
    trail = rest ∙ (ap (λ (l : List OwnStep). later ++ l)
        (expire ∙ ap (λ (l : List OwnStep). e ∷ l)
        (move ∙ ap (λ (l : List OwnStep). m ∷ l) first))
        ∙ sym (append_assoc later issue v.trail));
    moved = among (MoveCurrent w o (suc group)) (subst (λ (d : Event).
        Contains (map event_of issue) d) moves
        (later_in e.event m.event (m.event ∷ map event_of front)
        (first_in m.event (map event_of front))));
    expired = among (Expire w o group) (subst (λ (d : Event). Contains (map event_of issue) d)
        expires (first_in e.event (m.event ∷ map event_of front)));
  }
