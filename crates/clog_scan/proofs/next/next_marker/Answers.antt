use Rattle.std.proofs.Common.{◌≡◌, refl, sym, ◌∙◌, arith}
use Rattle.clog_entry.specs.Reading.{number_at, marker_judged}
use Rattle.clog_scan.proofs.WindowLaws.{number_from, marker_none}
use Rattle.clog_scan.proofs.Nexts.{marker_is}
use Rattle.clog_scan.proofs.next.next_marker.Goals as goal

pub returns-then-from : goal.returns-then-from
returns-then-from c = λ file is. marker_none file c.args.id c.args.at
    (let t = c.if-from.true in let a = c.from.ensures in let b = c.from-2.ensures in
    omega (arith, t, a, b, is.len_is))

pub returns : goal.returns
returns c =
    let w = c.args.window.now in
    let room = c.if-from.false in
    let a = c.from.ensures in
    let b = c.from-2.ensures in
    let target : number_at w 0 ≡ c.read_u32-target.result = sym c.read_u32-target.ensures in
    let check : number_at w 4 ≡ c.read_u32-check.result =
    number_from 4 w 4 ∙ sym c.read_u32-check.ensures in
    let len : c.args.len ≡ c.from-3.result = sym c.from-3.ensures in
    marker_is c.args.len c.args.id w c.args.at (number_at w 0) (number_at w 4)
    c.judge_marker.result (omega (arith, c.if-window-lt-MARKER_SIZE.false))
    (omega (arith, room, a, b)) refl refl
    ((λ i. marker_judged (len i) c.args.id c.args.at (target i) (check i))
    ∙ sym c.judge_marker.ensures)
