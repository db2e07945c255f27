use Rattle.std.proofs.Common.{◌+◌, ◌∙◌, List, map, ap, refl, arith}
use Rattle.clog_base.specs.declared.position.Key.{Key}
use Rattle.path_core.specs.declared.note.EntryNote.{EntryNote}
use Rattle.write_path.specs.Writes.{said}
use Rattle.write_path.proofs.NoteCopies.{said_copies}
use Rattle.write_path.proofs.prepared.Prepared.claimed.Goals as goal

pub returns : goal.returns
returns c = λ sizes line m p.
    let end : Key = record { 0 = c.args.start.0 + c.from.result } in
    let f = said c.args.start end c.args.writer in record {
      prepared = record {
        note = f p.note;
        one = c.say_in_each.ensures ∙ ap (λ (l : List EntryNote). map f l) p.one;
        of = record {
          bytes = p.of.bytes;
          tables = p.of.tables;
          told = p.of.told;
          stored = p.of.stored;
        };
        copies = c.say_in_each-2.ensures ∙ (ap (λ (l : List EntryNote). map f l) p.copies
            ∙ said_copies f p.note refl);
        size = p.size;
        limits = p.limits;
        fits = p.fits;
        below = p.below;
      };
      begins = refl;
      ends = omega (arith, c.from.ensures, p.size);
      by = refl;
    }
