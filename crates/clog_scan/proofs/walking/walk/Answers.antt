use Rattle.std.proofs.Common.{◌+◌, ◌-◌, length, take, drop, refl, sym, ◌≡◌, ◌∙◌, ap, subst, arith}
use Rattle.std.proofs.lemmas.List.{take_rest}
use Rattle.clog_spec.specs.Sizes.{frame_size}
use Rattle.clog_scan.proofs.WalkedSo.{WalkedSo, walk_section, walk_entry, walk_ends, walk_waits}
use Rattle.clog_scan.proofs.walking.walk.Goals as goal

pub loop-next-preserved-in-Section : goal.loop-next-preserved-in-Section
loop-next-preserved-in-Section c =
    let w = c.args.window.now in
    let k = c.loop-next.at - c.args.from in
    walk_section c.args.len c.args.id w c.args.from c.args.until c.loop-next.at c.loop-next.until
    c.loop-next.wholes.items (take (length w - k) (drop k w)) c.in-Section.next
    c.loop-next.invariant (take_rest w k) c.in-Section.ensures

pub loop-next-preserved : goal.loop-next-preserved
loop-next-preserved c =
    let w = c.args.window.now in
    let k = c.loop-next.at - c.args.from in
    let rest = take (length w - k) (drop k w) in
    let size = c.in-Entry.size in
    let less : 8 + size - 8 ≡ size = omega arith in
    let copied = c.in_ok-payload-in-Entry.ensures.items_if_clones_equal (λ x y e. e) in
    subst (WalkedSo c.args.len c.args.id w c.args.from c.args.until
    (c.loop-next.at + size + frame_size) c.loop-next.until)
    (sym c.in_ok-push-in-Entry.ensures.items)
    (walk_entry c.args.len c.args.id w c.args.from c.args.until c.loop-next.at c.loop-next.until
    c.loop-next.wholes.items rest size
    (record {
      start = c.loop-next.at;
      end = c.loop-next.at + size + frame_size;
      payload = c.in_ok-payload-in-Entry.payload;
    })
    c.loop-next.invariant (take_rest w k) c.in-Entry.ensures refl refl
    (copied ∙ ap (λ n. take n (drop 8 rest)) less))

pub returns-in-End : goal.returns-in-End
returns-in-End c =
    let w = c.args.window.now in
    let k = c.loop-next.at - c.args.from in
    walk_ends c.args.len c.args.id w c.args.from c.args.until _
    (take (length w - k) (drop k w)) c.in-End.end
    c.loop-next.invariant (take_rest w k) c.in-End.ensures refl

pub returns-in-Wait : goal.returns-in-Wait
returns-in-Wait c =
    let w = c.args.window.now in
    let k = c.loop-next.at - c.args.from in
    walk_waits c.args.len c.args.id w c.args.from c.args.until _
    (take (length w - k) (drop k w))
    c.loop-next.invariant (take_rest w k) c.in-Wait.ensures refl
