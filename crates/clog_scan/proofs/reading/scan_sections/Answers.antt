use Rattle.std.proofs.Common.{◌+◌, ◌∙◌, arith}
use Rattle.clog_entry.specs.Spelled.{payload_at}
use Rattle.clog_scan.proofs.Trace.{held_from}
use Rattle.clog_scan.proofs.Reached.{reaches_section, reaches_entry, payload_size}
use Rattle.clog_scan.proofs.Theorems.{segment_by_way}
use Rattle.clog_scan.proofs.reading.scan_sections.Goals as goal
use Rattle.clog_spec.specs.Sizes.{header_size, frame_size}

pub loop-next-preserved-in-Section : goal.loop-next-preserved-in-Section
loop-next-preserved-in-Section c =
    reaches_section c.args.bytes.now c.args.id c.loop-next.at c.loop-next.until c.in-Section.next
    c.loop-next.entries.items c.loop-next.invariant c.in-Section.ensures.0 c.in-Section.ensures.1

pub loop-next-preserved : goal.loop-next-preserved
loop-next-preserved c =
    let held = c.in-Entry.ensures.1 in
    let size = payload_size c.args.bytes.now c.loop-next.at c.loop-next.until c.in-Entry.size held
    c.loop-next.invariant.within in
    reaches_entry c.args.bytes.now c.args.id c.loop-next.at c.loop-next.until
    (payload_at c.args.bytes.now c.loop-next.at c.in-Entry.size) c.loop-next.entries.items
    c.push.new.self.items (c.loop-next.at + c.in-Entry.size + frame_size) c.loop-next.invariant
    c.in-Entry.ensures.0 held (omega (arith, size)) c.in_ok-push-in-Entry.ensures.items

pub returns-in-End : goal.returns-in-End
returns-in-End c = (
  held_from header_size c.loop-next.invariant.items,
  segment_by_way c.args.bytes.now c.args.id c.loop-next.invariant.items c.loop-next.at
      c.loop-next.until c.in-End.end
      (record { are_bytes = λ i. omega (arith, c.type_inv.bytes i); short = c.requires.short })
      c.requires.header c.loop-next.invariant.way c.in-End.ensures,
  c.new-entries-in-End.ensures ∙ c.loop-next.invariant.found_are,
)
