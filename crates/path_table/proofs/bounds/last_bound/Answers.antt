use Rattle.std.proofs.Common.{◌+◌, ◌*◌, ◌%◌, ◌-◌, arith}
use Rattle.std.specs.Slots.{slots_items}
use Rattle.path_table.proofs.seats.LastBounds.{at_first, at_later, stands}
use Rattle.path_table.proofs.bounds.last_bound.Goals as goal

pub returns-then-newest-eq0 : goal.returns-then-newest-eq0
returns-then-newest-eq0 g c = let words = slots_items c.args.closed.now.words in
    at_first words c.args.table c.word-newest.result
    (stands words (64 + 4 * c.args.table) c.word-newest.result c.word-newest.ensures)
    (omega (arith, c.if-newest-eq0.true))

pub overflow_mul-newest : goal.overflow_mul-newest
overflow_mul-newest g c = let few = c.requires.few in
    let is = stands (slots_items c.args.closed.now.words) (64 + 4 * c.args.table)
    c.word-newest.result c.word-newest.ensures in omega (arith, few, is)

pub overflow_add-newest : goal.overflow_add-newest
overflow_add-newest g c = let few = c.requires.few in
    let is = stands (slots_items c.args.closed.now.words) (64 + 4 * c.args.table)
    c.word-newest.result c.word-newest.ensures in omega (arith, few, is)

pub overflow_add-newest-2 : goal.overflow_add-newest-2
overflow_add-newest-2 g c = let few = c.requires.few in let low = c.requires.table in
    let is = stands (slots_items c.args.closed.now.words) (64 + 4 * c.args.table)
    c.word-newest.result c.word-newest.ensures in omega (arith, few, low, is)

pub word-word-requires : goal.word-word-requires
word-word-requires g c = let few = c.requires.few in let low = c.requires.table in
    let wide = c.requires.wide in
    let is = stands (slots_items c.args.closed.now.words) (64 + 4 * c.args.table)
    c.word-newest.result c.word-newest.ensures in
    (omega (arith, few, low, wide, is), c.requires.full)

pub returns : goal.returns
returns g c = let words = slots_items c.args.closed.now.words in
    at_later words c.args.table c.word-newest.result c.word-word.result
    (stands words (64 + 4 * c.args.table) c.word-newest.result c.word-newest.ensures)
    (λ e. omega (arith, c.if-newest-eq0.false, e))
    (stands words (640 + 16 * ((c.word-newest.result - 1) % 4) + c.args.table) c.word-word.result
    c.word-word.ensures)
