use Rattle.std.proofs.Common.{◌≤◌, length, refl, sym, ap, ◌∙◌, arith}
use Rattle.std.proofs.lemmas.List.{take_all}
use Rattle.clog_table.specs.Format.{check_bytes, behind_head}
use Rattle.clog_table.proofs.decoding.judge_end.Goals as goal

pub returns : goal.returns
returns c =
    let four : length c.args.rest.now ≤ 4 = omega arith in
    sym (take_all 4 c.args.rest.now four) ∙ c.if-not-is_check_of.ensures.0 refl
    ∙ ap check_bytes (c.split_at-2.ensures.back ∙ ap behind_head c.split_at.ensures.front)
