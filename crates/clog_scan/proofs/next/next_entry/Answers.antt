use Rattle.std.proofs.Common.{◌≡◌, ◌+◌, Ok, Err, sym, ◌∙◌, arith}
use Rattle.clog_entry.specs.Fields.{entry_front_size}
use Rattle.clog_entry.specs.Reading.{number_at, size_judged}
use Rattle.clog_scan.proofs.WindowLaws.{number_from, entry_short, entry_refused, entry_judged_at}
use Rattle.clog_scan.proofs.next.next_entry.Goals as goal

pub returns-then-room-lt-ENTRY_FRONT_SIZE : goal.returns-then-room-lt-ENTRY_FRONT_SIZE
returns-then-room-lt-ENTRY_FRONT_SIZE c = λ file at end ahead is.
    entry_short file at end (omega (arith, is, c.if-room-lt-ENTRY_FRONT_SIZE.true))

pub returns-in-Err : goal.returns-in-Err
returns-in-Err c = λ file at end ahead is.
    let w = c.args.window.now in
    let size : number_at w 0 ≡ c.read_u32-size.result = sym c.read_u32-size.ensures in
    let check : number_at w 4 ≡ c.read_u32-check.result =
    number_from 4 w 4 ∙ sym c.read_u32-check.ensures in
    entry_refused file w at end c.args.room c.in-Err.cause ahead is
    (omega (arith, c.if-room-lt-ENTRY_FRONT_SIZE.false))
    (omega (arith, c.if-window-lt-ENTRY_FRONT_SIZE.false))
    ((λ i. size_judged c.args.room (size i) (check i)) ∙ sym c.in-Err.ensures.rule)

pub returns-in-Ok : goal.returns-in-Ok
returns-in-Ok c =
    let w = c.args.window.now in
    let n = c.read_u32-size.result in
    let size : number_at w 0 ≡ n = sym c.read_u32-size.ensures in
    let check : number_at w 4 ≡ c.read_u32-check.result =
    number_from 4 w 4 ∙ sym c.read_u32-check.ensures in
    let last : number_at w (entry_front_size + n) ≡ c.read_u32-last.result =
    number_from 4 w (entry_front_size + n) ∙ sym c.read_u32-last.ensures in
    let long = c.if-window-behind.false in (
      omega (arith, long),
      c.in_default.ensures.fits,
      λ file at end ahead is. entry_judged_at file w at end c.args.room n c.read_u32-check.result
          c.read_u32-last.result (Ok c.in-Ok.field-0) ahead is
          (omega (arith, c.if-room-lt-ENTRY_FRONT_SIZE.false)) (omega (arith, long)) size check
          last (sym c.in_default.ensures.rule) (sym c.in-Ok.ensures),
    )

pub returns-in-Err-judge_body : goal.returns-in-Err-judge_body
returns-in-Err-judge_body c = λ file at end ahead is.
    let w = c.args.window.now in
    let n = c.read_u32-size.result in
    let size : number_at w 0 ≡ n = sym c.read_u32-size.ensures in
    let check : number_at w 4 ≡ c.read_u32-check.result =
    number_from 4 w 4 ∙ sym c.read_u32-check.ensures in
    let last : number_at w (entry_front_size + n) ≡ c.read_u32-last.result =
    number_from 4 w (entry_front_size + n) ∙ sym c.read_u32-last.ensures in
    entry_judged_at file w at end c.args.room n c.read_u32-check.result
    c.read_u32-last.result (Err c.in-Err-judge_body.cause) ahead is
    (omega (arith, c.if-room-lt-ENTRY_FRONT_SIZE.false))
    (let long = c.if-window-behind.false in omega (arith, long)) size check last
    (sym c.in_default.ensures.rule) (sym c.in-Err-judge_body.ensures)
