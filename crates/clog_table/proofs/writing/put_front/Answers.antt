use Rattle.std.proofs.Common.{ℕ, List, [], ◌∷◌, ◌++◌, ap, ◌∙◌}
use Rattle.std.specs.Int.{w32, to_be_bytes}
use Rattle.clog_table.specs.Format.{position_bytes}
use Rattle.clog_table.proofs.Pieces.{five_pieces}
use Rattle.clog_table.proofs.writing.put_front.Goals as goal

pub returns-clause-bytes : goal.returns-clause-bytes
returns-clause-bytes c =
    let head = c.args.head in
    five_pieces c.args.out.now.items _ _ _ _ _ (to_be_bytes w32 1) (head.table.0 ∷ [])
    (position_bytes head.lower) (position_bytes head.upper) (to_be_bytes w32 head.count)
    (c.in_ok-extend_from_slice.ensures.items
    ∙ ap (λ (l : List ℕ). c.args.out.now.items ++ l) c.to_be_bytes.ensures)
    c.in_ok-push.ensures.items c.in_ok-put_position.ensures.bytes
    c.in_ok-put_position-2.ensures.bytes
    (c.in_ok-extend_from_slice-2.ensures.items
    ∙ ap (λ (l : List ℕ). c.put_position-2.new.out.items ++ l) c.to_be_bytes-2.ensures)
