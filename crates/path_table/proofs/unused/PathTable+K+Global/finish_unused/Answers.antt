use Rattle.std.proofs.Common.{ap, ◌∙◌}
use Rattle.std.specs.Slots.{slots_items}
use Rattle.path_rule.specs.declared.view.Role.TheVariants as roles
use Rattle.path_rule.specs.Lasts.{beside_of, shows_of}
use Rattle.path_table.proofs.seats.Ends.{desk_home, ends_unmade, few_words, free_unmade}
use Rattle.path_table.proofs.unused.PathTable+K+Global.finish_unused.Goals as goal

pub keeper_and_log-requires-clause-few : goal.keeper_and_log-requires-clause-few
keeper_and_log-requires-clause-few g c = let t = c.args.self in let w = c.args.opener in
    let o = beside_of (g.K.Keeper.holds t.table.shared.key.first.value) in
    let closed = c.close_with.result in
    few_words (shows_of g.K.Keeper.holds) o t.table.shared.key.size w.seat.id w.seat.me.0
    (slots_items closed.words) (slots_items closed.slots) c.close_with.ensures.values.2

pub keeper_and_log-requires-clause-desk : goal.keeper_and_log-requires-clause-desk
keeper_and_log-requires-clause-desk g c = let t = c.args.self in let w = c.args.opener in
    let k = t.table.shared.key.size in
    let o = beside_of (g.K.Keeper.holds t.table.shared.key.first.value) in
    let closed = c.close_with.result in
    let d = desk_home (shows_of g.K.Keeper.holds) o k w.seat.id w.seat.me.0
    (free_unmade (shows_of g.K.Keeper.holds) o k w.seat.id w.seat.me.0
    (w.role ∙ ap roles.Opener c.requires.unused))
    (slots_items closed.words) (slots_items closed.slots) c.close_with.ensures.values.2 in
    (d.0, d.1)

pub returns-clause-ended : goal.returns-clause-ended
returns-clause-ended g c = let t = c.args.self in let w = c.args.opener in
    let k = t.table.shared.key.size in
    let o = beside_of (g.K.Keeper.holds t.table.shared.key.first.value) in
    let closed = c.close_with.result in let role = w.role ∙ ap roles.Opener c.requires.unused in
    let d = desk_home (shows_of g.K.Keeper.holds) o k w.seat.id w.seat.me.0
    (free_unmade (shows_of g.K.Keeper.holds) o k w.seat.id w.seat.me.0 role)
    (slots_items closed.words) (slots_items closed.slots) c.close_with.ensures.values.2 in
    (ends_unmade (shows_of g.K.Keeper.holds) o t.size k w.seat.id
    c.keeper_and_log.result.1 (g.K.Keeper.holds c.keeper_and_log.result.0) w.seat.me.0
    (slots_items closed.words) (slots_items closed.slots) t.keyed role
    c.close_with.ensures.values.2 c.keeper_and_log.ensures.log
    (ap (shows_of g.K.Keeper.holds) (c.keeper_and_log.ensures.keeper d.0 d.1) ∙ d.2)
    c.keeper_and_log.result.2 c.keeper_and_log.ensures.bounds).0

pub returns-clause-bounds : goal.returns-clause-bounds
returns-clause-bounds g c = let t = c.args.self in let w = c.args.opener in
    let k = t.table.shared.key.size in
    let o = beside_of (g.K.Keeper.holds t.table.shared.key.first.value) in
    let closed = c.close_with.result in let role = w.role ∙ ap roles.Opener c.requires.unused in
    let d = desk_home (shows_of g.K.Keeper.holds) o k w.seat.id w.seat.me.0
    (free_unmade (shows_of g.K.Keeper.holds) o k w.seat.id w.seat.me.0 role)
    (slots_items closed.words) (slots_items closed.slots) c.close_with.ensures.values.2 in
    (ends_unmade (shows_of g.K.Keeper.holds) o t.size k w.seat.id
    c.keeper_and_log.result.1 (g.K.Keeper.holds c.keeper_and_log.result.0) w.seat.me.0
    (slots_items closed.words) (slots_items closed.slots) t.keyed role
    c.close_with.ensures.values.2 c.keeper_and_log.ensures.log
    (ap (shows_of g.K.Keeper.holds) (c.keeper_and_log.ensures.keeper d.0 d.1) ∙ d.2)
    c.keeper_and_log.result.2 c.keeper_and_log.ensures.bounds).1
