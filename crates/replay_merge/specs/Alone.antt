-- What a sink of one thread makes of batches that are put into it, one after another.
use Rattle.std.specs.Prelude.{◌≡◌, List, [], ◌++◌, map, Option, IfSome}
use Rattle.std.proofs.Common.{refl, sym, ap, ◌∙◌, subst, append_assoc}
use Rattle.std.proofs.lemmas.Grind.{flat_map-append}
use Rattle.std.proofs.lemmas.List.{append-nil}
use Rattle.clog_base.specs.declared.position.Position.{Position}
use Rattle.clog_folder.specs.declared.tables.TableHeld.{TableHeld}
use Rattle.replay_merge.specs.declared.piped.Batch.{Batch}
use Rattle.replay_merge.specs.declared.piped.Piped.{Piped}
use Rattle.replay_merge.specs.Entries.{Entry, all_items, items_of}
use Rattle.replay_merge.specs.Logged.{IsTop}
use Rattle.replay_merge.specs.Piped.{IsDone, placed_of}

-- The entries of these batches were taken behind whatever was. Where memory was refused nothing is
-- known of what they come to.
pub record TakesAlone (tables : List TableHeld) (old : Option Piped) (top : Position)
    (batches : List Batch) (new : Option Piped) (later : Position) : Type 0 where
  pub done : (before : List Entry) → IfSome old (IsDone tables before)
      → IfSome new (IsDone tables (before ++ all_items batches))
  pub reaches : (before : List Entry) → IsTop (map placed_of before) top
      → IsTop (map placed_of (before ++ all_items batches)) later

pub alone_none : (tables : List TableHeld) (piped : Option Piped) (top : Position)
    → (tables ≡ tables) × TakesAlone tables piped top [] piped top
alone_none tables piped top = (
  refl,
  record {
    done = λ before is. subst (λ (xs : List Entry). IfSome piped (IsDone tables xs))
        (sym (append-nil before)) is;
    reaches = λ before is. subst (λ (xs : List Entry). IsTop (map placed_of xs) top)
        (sym (append-nil before)) is;
  },
)

pub alone_more : (a b c : List TableHeld) (p : Option Piped) (top : Position)
    (batches : List Batch) (p' : Option Piped) (top' : Position) (more : List Batch)
    (p'' : Option Piped) (top'' : Position) → (b ≡ a) × TakesAlone a p top batches p' top'
    → (c ≡ b) × TakesAlone b p' top' more p'' top''
    → (c ≡ a) × TakesAlone a p top (batches ++ more) p'' top''
alone_more a b c p top batches p' top' more p'' top'' one two =
    let on = subst (λ (ts : List TableHeld). TakesAlone ts p' top' more p'' top'') one.0 two.1 in
    let joined : (before : List Entry)
    → (before ++ all_items batches) ++ all_items more ≡ before ++ all_items (batches ++ more) =
    λ before. append_assoc before (all_items batches) (all_items more)
    ∙ ap (λ xs. before ++ xs) (sym (flat_map-append items_of batches more)) in (
      two.0 ∙ one.0,
      record {
        done = λ before is. subst (λ (xs : List Entry). IfSome p'' (IsDone a xs))
            (joined before) (on.done (before ++ all_items batches) (one.1.done before is));
        reaches = λ before is. subst (λ (xs : List Entry). IsTop (map placed_of xs) top'')
            (joined before) (on.reaches (before ++ all_items batches) (one.1.reaches before is));
      },
    )
