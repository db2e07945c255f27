use Rattle.std.proofs.Common.{ap, subst, sym}
use Rattle.path_core.specs.Keeper.{Holding}
use Rattle.clog_closing.specs.Sequence.{AreInSequence}
use Rattle.clog_closing.proofs.Following.{follow, none_in_sequence, one_more}
use Rattle.clog_closing.proofs.laws.put_files_follow_one_another.Goals as goal

pub returns-clause-none : goal.returns-clause-none
returns-clause-none c base sizes h fresh =
    subst AreInSequence (sym fresh.no_file) none_in_sequence

pub returns-clause-more : goal.returns-clause-more
returns-clause-more c before now f sequence may published =
    subst AreInSequence (sym (ap (λ (h : Holding). h.files) published))
    (one_more before.files f sequence may.goes_on may.forward)

pub returns-clause-follow : goal.returns-clause-follow
returns-clause-follow c = follow
