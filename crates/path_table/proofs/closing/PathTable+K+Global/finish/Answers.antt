use Rattle.std.proofs.Common.{sym, ap, ◌∙◌, subst}
use Rattle.std.specs.Slots.{slots_items}
use Rattle.path_rule.specs.declared.view.PathSize.{PathSize}
use Rattle.path_rule.specs.Lasts.{beside_of, shows_of}
use Rattle.path_rule.specs.Sharing.{HasAll}
use Rattle.path_table.proofs.seats.Ends.{ends_by, desk_home, few_words, free_all}
use Rattle.path_table.proofs.closing.PathTable+K+Global.finish.Goals as goal

pub keeper_and_log-ended-requires-clause-few : goal.keeper_and_log-ended-requires-clause-few
keeper_and_log-ended-requires-clause-few g c = let t = c.args.self in let b = c.args.member in
    let o = beside_of (g.K.Keeper.holds t.table.shared.key.first.value) in
    let closed = c.close_with.result in
    few_words (shows_of g.K.Keeper.holds) o t.table.shared.key.size b.seat.id b.seat.me.0
    (slots_items closed.words) (slots_items closed.slots) c.close_with.ensures.values.2

pub keeper_and_log-ended-requires-clause-desk : goal.keeper_and_log-ended-requires-clause-desk
keeper_and_log-ended-requires-clause-desk g c = let t = c.args.self in let b = c.args.member in
    let k = t.table.shared.key.size in
    let o = beside_of (g.K.Keeper.holds t.table.shared.key.first.value) in
    let closed = c.close_with.result in
    let d = desk_home (shows_of g.K.Keeper.holds) o k b.seat.id b.seat.me.0
    (free_all (shows_of g.K.Keeper.holds) o k b.seat.id b.number b.seat.me.0 b.role
    (subst (λ (z : PathSize). HasAll z.seats b.number b.seat.me.0.returned) (sym t.keyed)
    c.requires.all) c.requires.idle c.requires.free.sync)
    (slots_items closed.words) (slots_items closed.slots) c.close_with.ensures.values.2 in
    (d.0, d.1)

pub returns : goal.returns
returns g c = let t = c.args.self in let b = c.args.member in
    let k = t.table.shared.key.size in
    let o = beside_of (g.K.Keeper.holds t.table.shared.key.first.value) in
    let closed = c.close_with.result in
    let d = desk_home (shows_of g.K.Keeper.holds) o k b.seat.id b.seat.me.0
    (free_all (shows_of g.K.Keeper.holds) o k b.seat.id b.number b.seat.me.0 b.role
    (subst (λ (z : PathSize). HasAll z.seats b.number b.seat.me.0.returned) (sym t.keyed)
    c.requires.all) c.requires.idle c.requires.free.sync)
    (slots_items closed.words) (slots_items closed.slots) c.close_with.ensures.values.2 in
    ends_by (shows_of g.K.Keeper.holds) o t.size k b.seat.id b.number
    c.keeper_and_log-ended.result.1 (g.K.Keeper.holds c.keeper_and_log-ended.result.0) b.seat.me.0
    (slots_items closed.words) (slots_items closed.slots) t.keyed b.role
    (subst (λ (z : PathSize). HasAll z.seats b.number b.seat.me.0.returned) (sym t.keyed)
    c.requires.all) c.requires.free
    c.close_with.ensures.values.2 c.keeper_and_log-ended.ensures.log
    (ap (shows_of g.K.Keeper.holds) (c.keeper_and_log-ended.ensures.keeper d.0 d.1) ∙ d.2)
    c.keeper_and_log-ended.result.2 c.keeper_and_log-ended.ensures.bounds
