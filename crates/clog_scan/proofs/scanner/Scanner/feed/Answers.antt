use Rattle.std.proofs.Common.{refl, sym, arith}
use Rattle.clog_scan.proofs.Fed.{feeds_last, feeds_more, no_end}
use Rattle.clog_scan.proofs.scanner.Scanner.feed.Goals as goal

pub returns-then-is_some-2-clause-given : goal.returns-then-is_some-2-clause-given
returns-then-is_some-2-clause-given c =
    feeds_last c.args.self.now _ c.args.piece.now (c.in_ok-walked.walked, c.in_ok-walked.begun)
    c.read_held.new.held.items (no_end c.args.self.now.end (sym c.if-is_some.ensures))
    c.in_ok-walked.ensures.ok refl refl refl refl (sym c.if-is_some-2.ensures)
    c.clear-then-is_some-2.ensures.items

pub returns-clause-given : goal.returns-clause-given
returns-clause-given c =
    feeds_more c.args.self.now _ c.args.piece.now (c.in_ok-walked.walked, c.in_ok-walked.begun)
    c.read_held.new.held.items (no_end c.args.self.now.end (sym c.if-is_some.ensures))
    c.in_ok-walked.ensures.ok refl refl refl refl refl
    (no_end c.in_ok-walked.walked.end (sym c.if-is_some-2.ensures)) refl refl
    (omega (arith, c.args.self.now.behind, c.args.self.now.held.ok))
