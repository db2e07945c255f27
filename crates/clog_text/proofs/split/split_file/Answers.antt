use Rattle.std.proofs.Common.{map, arith}
use Rattle.std.proofs.lemmas.List.{length-map}
use Rattle.clog_text.specs.FileLines.{lines_of, piece_of}
use Rattle.clog_text.proofs.Splitting.{more_lines}
use Rattle.clog_text.proofs.split.split_file.Goals as goal

pub returns-then-len-eq-LINE_LIMIT-clause-limit : goal.returns-then-len-eq-LINE_LIMIT-clause-limit
returns-then-len-eq-LINE_LIMIT-clause-limit c _ =
    let bytes = c.args.bytes.now in
    let ranges = c.loop-start.ranges.items in
    let more = more_lines bytes c.loop-start.start (map (piece_of bytes) ranges) (lines_of bytes)
    c.loop-start-test.true c.loop-start.invariant.lines in
    grind (arith, more, length-map ranges (piece_of bytes))
