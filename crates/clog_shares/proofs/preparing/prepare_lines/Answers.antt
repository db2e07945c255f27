use Rattle.std.proofs.Common.{◌+◌, List, get_or, length, sym, ap, ◌∙◌, subst, arith}
use Rattle.clog_shares.specs.declared.preparing.LineWrite.{LineWrite}
use Rattle.clog_shares.specs.LineWrites.{HaveWritesOf, PreparesPlace, WaitsWithin}
use Rattle.clog_shares.proofs.LineWrites.{have_all, wait_in}
use Rattle.clog_shares.proofs.WrittenBack.{written_back}
use Rattle.clog_shares.proofs.preparing.prepare_lines.Goals as goal

pub for_each_mut-requires-clause-accepts : goal.for_each_mut-requires-clause-accepts
for_each_mut-requires-clause-accepts g c = λ κs within i p inside is.
    let waits = wait_in c.args.mutations.items c.as_mut_slice.result.now
    (c.as_mut_slice.ensures.value ∙ c.in_ok-places.ensures) c.requires.within i p.now inside in
    let few = c.requires.few in
    let low = waits.0 in (
      omega (arith, few, low),
      subst WaitsWithin (sym is) waits.1,
      c.requires.tables,
    )

pub returns : goal.returns
returns g c =
    let sizes = c.args.sizes in
    let flush = c.args.flush_at in
    let ms = c.args.mutations.items in
    let before = c.as_mut_slice.result.now in
    let now = c.for_each_mut.new.s in
    let same = c.for_each_mut.auto.s in
    let value = ap (λ (l : List LineWrite). length l) c.as_mut_slice.ensures.value in
    let places = c.in_ok-places.places in
    subst (HaveWritesOf sizes flush 0 ms)
    (sym (written_back places.len now _ (omega (arith, same, value, places.ok))))
    (have_all sizes flush ms before now (c.as_mut_slice.ensures.value ∙ c.in_ok-places.ensures)
    same (λ i d inside.
    let one = (c.for_each_mut.ensures i d inside).1 in
    subst (λ (x : LineWrite). PreparesPlace sizes flush (i + 1) x (get_or now i d))
    one.argument_is
    (subst (λ (y : LineWrite). PreparesPlace sizes flush (i + 1) one.argument.now y) one.left
    one.call)))
