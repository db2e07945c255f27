use Rattle.std.proofs.Common.{◌++◌, List, length, map, take, drop, ap, ◌∙◌, arith}
use Rattle.path_core.specs.declared.note.EntryNote.{EntryNote}
use Rattle.write_path.specs.Writes.{said}
use Rattle.write_path.proofs.NoteCopies.{all_turned, as_many, one_taken, one_turned}
use Rattle.write_path.proofs.copies.say_in_each.Goals as goal

pub take_first-first-requires : goal.take_first-first-requires
take_first-first-requires c =
    let old = c.args.notes.now in let l = c.loop in
    let low = c.loop-test.true in let len = c.len-end.ensures.value in
    let many = ap (λ (l : List EntryNote). length l) l.invariant
    ∙ as_many (said c.args.start c.args.end c.args.writer) old l.counter (omega (arith, low, len))
    in omega (arith, many, low, len)

pub put_behind-requires : goal.put_behind-requires
put_behind-requires c =
    let old = c.args.notes.now in let l = c.loop in
    let f = said c.args.start c.args.end c.args.writer in
    let low = c.loop-test.true in let len = c.len-end.ensures.value in
    let fits = c.len-end.ensures.fits in let first = c.take_first-first.ensures in
    let rest = ap (λ (l : List EntryNote). length l) first.rest in
    let told = ap (λ (l : List EntryNote). length l)
    (c.say.ensures ∙ ap (λ l. map f l) first.first) in
    let many = one_taken f l.notes ∙ (ap (λ (l : List EntryNote). length l) l.invariant
    ∙ as_many f old l.counter (omega (arith, low, len))) in
    omega (arith, rest, told, many, fits, len)

pub loop-preserved : goal.loop-preserved
loop-preserved c =
    let old = c.args.notes.now in let l = c.loop in
    let f = said c.args.start c.args.end c.args.writer in
    let low = c.loop-test.true in let len = c.len-end.ensures.value in
    let first = c.take_first-first.ensures in
    c.put_behind.ensures ∙ ((λ i. first.rest i ++ (c.say.ensures ∙ ap (λ l. map f l) first.first) i)
    ∙ (ap (λ l. drop 1 l ++ map f (take 1 l)) l.invariant
    ∙ one_turned f old l.counter (omega (arith, low, len))))

pub returns : goal.returns
returns c =
    let high = c.loop-test.false in let len = c.len-end.ensures.value in
    c.loop.invariant ∙ all_turned (said c.args.start c.args.end c.args.writer) c.args.notes.now
    c.loop.counter (omega (arith, high, len))
