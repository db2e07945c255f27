use Rattle.std.proofs.Common.{◌∙◌, subst}
use Rattle.path_core.specs.declared.keeper.KeeperFault.{KeeperFault}
use Rattle.path_flush.specs.FlushFilings.{TellsFault}
use Rattle.path_flush.proofs.flush_noting.note_fault.Goals as goal

pub returns-in-Stopped-clause-refused : goal.returns-in-Stopped-clause-refused
returns-in-Stopped-clause-refused g c = let S = c.stop_log in let C = c.requires.counts in
    let told = subst (λ (f : KeeperFault). TellsFault c.args.member.seat.me.0.hands.lasting.at_open
    f) c.in-Stopped.is C.0 in record {
      steps = S.ensures.told.0;
      is = (told.0 ∙ C.1, told.1, S.ensures.told.1);
    }
