use Rattle.std.proofs.Common.{length, ◌≤◌, ◌-◌, arith, ap, ◌∙◌, take, drop, ◌+◌}
use Rattle.clog_io.proofs.Fronts.{front_taken, none_left}
use Rattle.clog_io.proofs.memory_source.MemSourceSource.read.Goals as goal

pub returns-clause-bytes : goal.returns-clause-bytes
returns-clause-bytes c =
    let xs = c.args.self.now.bytes.items in
    let at = c.args.self.now.at in
    let n = c.min-count.result in
    let part = c.copy_from_slice.new.self in
    let copied = c.copy_from_slice.ensures.after
    ∙ ap (λ l. take (at + n - at) (drop at l)) c.deref.ensures.value in
    let few : n ≤ length xs - at = omega (arith, c.min-count.ensures, c.len.ensures) in (
      front_taken xs part c.args.room.now at n copied few,
      λ none room.
          none_left xs at n (omega (arith, c.min.ensures, c.min-count.ensures, c.len.ensures)),
    )
