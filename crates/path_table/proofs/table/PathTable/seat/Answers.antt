use Rattle.std.proofs.Common.{◌≡◌, ap, arith}
use Rattle.path_rule.specs.declared.view.PathSize.{PathSize}
use Rattle.path_rule.proofs.seats.Dealing.{deals}
use Rattle.path_rule.specs.Lasts.{beside_of, shows_of}
use Rattle.path_table.proofs.table.PathTable.seat.Goals as goal

pub split_seat-seat-requires : goal.split_seat-seat-requires
split_seat-seat-requires g c = let t = c.args.self.now in let m = c.args.opener.now in
    let k = t.table.shared.key.size in
    let o = beside_of (g.K.Keeper.holds t.table.shared.key.first.value) in let same : k.seats ≡
    t.size.seats =
    ap (λ (z : PathSize). z.seats) t.keyed in let wide = t.wide in let left = c.requires.left in (
      c.requires.table.0,
      omega arith,
      deals (shows_of g.K.Keeper.holds) o k m.seat.id m.seat.me.0 m.made m.role
          (omega arith),
    )
