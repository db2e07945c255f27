use Rattle.std.proofs.Common.{List, ℕ, Some, refl, subst}
use Rattle.replay_merge.specs.Entries.{item_of}
use Rattle.replay_merge.specs.Piped.{IsRefusal}
use Rattle.replay_merge.proofs.DoneSo.{refused_so}
use Rattle.replay_merge.proofs.piping.take_piped.Goals as goal

pub returns-in_default : goal.returns-in_default
returns-in_default c =
    refused_so c.args.tables.now (item_of c.args.id c.args.whole.now) c.in-Some.fault c.args.state.now _
    (subst (λ (b : List ℕ). IsRefusal b (Some c.in-Some.fault))
    c.as_slice-in_default.ensures.value c.in-Some.ensures)
    c.first_of-state.ensures refl refl
