use Rattle.std.proofs.Common.{◌≡◌, [], ◌∷◌, ◌++◌, IfSome, List, Option, map, refl, subst, sym, ap}
use Rattle.std.proofs.Common.{◌∙◌}
use Rattle.std.proofs.lemmas.List.{append-nil, map-append}
use Rattle.clog_folder.specs.Folder.{PlacedPayload}
use Rattle.replay_merge.specs.declared.piped.Piped.{Piped}
use Rattle.replay_merge.specs.Entries.{Entry, all_items, items_of}
use Rattle.replay_merge.specs.Logged.{IsTop}
use Rattle.replay_merge.specs.Piped.{IsDone, placed_of}
use Rattle.replay_merge.proofs.alone.AloneSinkBatch.push.Goals as goal

pub returns : goal.returns
returns c =
    let s = c.args.self.now in
    let b = c.args.batch in
    let tables = s.piping.tables.now in
    let one : items_of b ≡ all_items (b ∷ []) = sym (append-nil (items_of b)) in (
      tt,
      (
        refl,
        record {
          done = λ before is.
              subst (λ (es : List Entry). IfSome c.take_next.result (IsDone tables (before ++ es)))
              one (c.take_next.ensures before
              (subst (λ (p : Option Piped). IfSome p (IsDone tables before))
              (sym c.take.ensures.value) is));
          reaches = λ before is.
              subst (λ (ps : List PlacedPayload). IsTop ps c.top_of-self.result)
              (sym (map-append placed_of before (items_of b))
              ∙ ap (λ es. map placed_of (before ++ es)) one)
              (c.top_of-self.ensures (map placed_of before) is);
        },
      ),
    )
