use Rattle.std.proofs.Common.{◌≡◌, drop, sym, ◌∙◌, arith}
use Rattle.byteorder.specs.Endian.{big_number}
use Rattle.clog_scan.proofs.WindowLaws.{big_ahead, number_from, header_bare, header_short}
use Rattle.clog_scan.proofs.Header.{header_is}
use Rattle.clog_scan.proofs.next.next_header.Goals as goal

pub returns-then-len-lt-FIELDS_SIZE : goal.returns-then-len-lt-FIELDS_SIZE
returns-then-len-lt-FIELDS_SIZE c = λ file is.
    header_bare file c.args.id (omega (arith, is.len_is, c.if-len-lt-FIELDS_SIZE.true))

pub returns-then-len-size : goal.returns-then-len-size
returns-then-len-size c = λ file is.
    let w = c.args.window.now in
    let size : big_number 2 (drop 12 w) ≡ c.from-size.result =
    number_from 2 w 12 ∙ sym (c.from-size.ensures ∙ c.read_u16.ensures) in
    header_short file c.args.id c.from-size.result
    (big_ahead 2 file w 0 12 12 is.ahead (omega arith)
    (omega (arith, c.if-window-lt-FIELDS_SIZE.false)) ∙ size)
    (omega (arith, is.len_is, c.if-len-size.true))

pub returns : goal.returns
returns c =
    let w = c.args.window.now in
    let size : big_number 2 (drop 12 w) ≡ c.from-size.result =
    number_from 2 w 12 ∙ sym (c.from-size.ensures ∙ c.read_u16.ensures) in
    header_is c.args.len c.args.id c.args.window.now c.from-size.result c.read_header.result
    (λ i. omega (arith, c.type_inv.window i)) size
    (omega (arith, c.if-window-size.false)) (sym c.read_header.ensures.rule)
