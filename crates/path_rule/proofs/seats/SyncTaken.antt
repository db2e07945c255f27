-- What a seat knows that has just taken the Sync turn, and one that gave it back.
use Rattle.std.proofs.Common.{◌≡◌, ℕ, [], ◌∷◌, List, None, is_some, sym, ap, ◌∙◌}
use Rattle.atomic_table.specs.Table.{Me}
use Rattle.path_core.specs.declared.event.Event.TheVariants.{TakeTurn}
use Rattle.path_core.specs.declared.event.Turn.TheVariants.{Sync}
use Rattle.path_core.specs.declared.note.EntryNote.{EntryNote}
use Rattle.path_core.specs.Next.{has_filed}
use Rattle.path_core.specs.Parts.{issue_of}
use Rattle.path_core.specs.SeatAfter.{new_sync}
use Rattle.path_rule.specs.declared.lasting.Lasting.{Lasting}
use Rattle.path_rule.specs.declared.slot.Slot.{Slot}
use Rattle.path_rule.specs.declared.view.Progress.{Progress}
use Rattle.path_rule.specs.declared.view.View.{View}
use Rattle.path_rule.specs.Boxes.{desk_box}
use Rattle.path_rule.specs.Calls.{DidAs, MayGive}
use Rattle.path_rule.specs.Desks.{HasDesk}
use Rattle.path_rule.specs.HandsAfter.{with_desk}
use Rattle.path_rule.specs.SyncAnswers.{KnowsMarker}
use Rattle.path_rule.specs.TurnTold.{TookDesk}

module _ (v after : View) (w : ℕ) (lasting : Lasting) (pending : List EntryNote)
    (progress : Progress)
    (D : DidAs v w (TakeTurn w Sync) 1 (with_desk lasting pending progress v.hands) after) where
  pub taken_gives : after.hands.box_taken ≡ None → MayGive after
  taken_gives empty = record {
    holds = record {
      held = ap (λ (u : View). is_some u.part.sync) D.view;
      issue = ap (λ (u : View). issue_of u.part) D.view;
      empty = empty;
    };
    unfiled = ap (λ (u : View). has_filed u.part) D.view;
  }

  pub taken_knows : KnowsMarker after
  taken_knows = (
    new_sync progress.marker,
    ap (λ (u : View). u.part.sync) D.view,
    sym (ap (λ (u : View). u.hands.progress.marker) D.view),
  )

  pub taken_unswept : after.hands.swept ≡ 0
  taken_unswept = ap (λ (u : View). u.hands.swept) D.view

-- the desk is its only box
pub taken_desk : {K : Type 0} (shows : K → Lasting) (m m' : Me (Slot K) View) → m.1 ≡ []
    → TookDesk shows m m'
    → HasDesk shows m'.0.hands.lasting m'.0.hands.pending m'.0.hands.progress m'.1
taken_desk shows m m' none T = (T.0, T.1 ∙ ap (λ l. (desk_box, T.0) ∷ l) none, T.2)
