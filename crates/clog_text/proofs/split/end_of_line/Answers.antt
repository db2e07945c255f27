use Rattle.std.proofs.Common.{◌-◌, List, ℕ, length, drop, subst, Some, None, arith}
use Rattle.std.proofs.lemmas.List.{take_all, length-drop}
use Rattle.memchr.specs.Find.{IsFirstByte, is_byte}
use Rattle.clog_text.proofs.Splitting.{line_found, line_last}
use Rattle.clog_text.proofs.split.end_of_line.Goals as goal

pub returns-in-Some-clause-line : goal.returns-in-Some-clause-line
returns-in-Some-clause-line c =
    let xs = c.args.bytes.now in
    let i = c.args.start in
    let whole = take_all (length xs - i) (drop i xs) (omega (arith, length-drop i xs)) in
    line_found xs i c.in-Some.count
    (subst (λ (hay : List ℕ). IsFirstByte (is_byte 10) hay (Some c.in-Some.count)) whole
    c.in-Some.ensures)

pub returns-in-None-clause-line : goal.returns-in-None-clause-line
returns-in-None-clause-line c =
    let xs = c.args.bytes.now in
    let i = c.args.start in
    let whole = take_all (length xs - i) (drop i xs) (omega (arith, length-drop i xs)) in
    line_last xs i c.requires (subst (λ (hay : List ℕ). IsFirstByte (is_byte 10) hay None) whole
    c.in-None.ensures)
