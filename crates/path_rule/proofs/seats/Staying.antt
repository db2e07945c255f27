-- What a step leaves of what a seat knows.
use Rattle.std.proofs.Common.{◌≡◌, ℕ, Bool, false, Option, Some, None, is_some, refl, sym, ap, ◌∙◌}
use Rattle.std.proofs.lemmas.Bool.{false≢true}
use Rattle.path_core.specs.declared.event.Event.{Event}
use Rattle.path_core.specs.declared.seat.Issue.{Issue}
use Rattle.path_core.specs.declared.seat.Seat.{Seat}
use Rattle.path_core.specs.Parts.{seat_table, HoldsNoTurn}
use Rattle.path_core.specs.Words.{place_of}
use Rattle.path_core.proofs.seats.Columns.{Columns, issue_held, issue_after, flush_after}
use Rattle.path_core.proofs.seats.StepColumns.{columns, FitsSeat}
use Rattle.path_rule.specs.declared.view.View.{View}
use Rattle.path_rule.specs.Layout.{reading_at}
use Rattle.path_rule.specs.Rule.{told_by, view_after}
use Rattle.path_rule.proofs.places.ReadBack.{is_some_held}

pub view_columns : (v : View) (e : Event) (n : ℕ) → FitsSeat e v.part
    → Columns e v.part (view_after v e n).part
view_columns v e n fits = columns e v.part (reading_at (place_of e) n) (told_by None v.hands) fits

pub none_is : {A : Type 0} (o : Option A) → is_some o ≡ false → o ≡ None
none_is None e = refl
none_is (Some a) e = absurd (false≢true (sym e))

pub free_stays : (e : Event) (p q : Seat) → Columns e p q
    → issue_after (issue_held p) e ≡ issue_held p → ((t : ℕ) (b : Bool) → flush_after t b e ≡ b)
    → HoldsNoTurn p → HoldsNoTurn q
free_stays e p q C issue flush H = record {
  sync = none_is q.sync (sym (is_some_held q)
      ∙ (ap (λ (o : Option Issue). is_some o) (C.issue ∙ issue)
      ∙ (is_some_held p ∙ ap (λ o. is_some o) H.sync)));
  flush = λ t. none_is (seat_table q t).flush
      (C.flush t ∙ (flush t (is_some (seat_table p t).flush) ∙ ap (λ o. is_some o) (H.flush t)));
}
