use Rattle.std.proofs.Common.{◌-◌, length, take, drop, true, false, Some, refl, sym, subst}
use Rattle.std.proofs.lemmas.List.{take_rest}
use Rattle.clog_scan.specs.declared.answer.End.TheVariants.{Torn}
use Rattle.clog_scan.specs.Walks.{Reads}
use Rattle.clog_scan.proofs.Fed.{reads_header, reads_torn}
use Rattle.clog_scan.proofs.feeding.read_on.Goals as goal

pub returns-in_ok-walk-in-Some-Ok : goal.returns-in_ok-walk-in-Some-Ok
returns-in_ok-walk-in-Some-Ok c =
    let w = c.args.window.now in
    let r = c.in_ok-walk-in-Some-Ok.field-0 in
    subst (λ b. Reads c.args.len c.args.id w c.args.from c.args.until b (r, true))
    (sym c.if-begun.false)
    (reads_header c.args.len c.args.id w (take (length w - 20) (drop 20 w)) c.args.from
    c.args.until r (rw c.in-Some-Ok.field-0-is at c.in-Some-Ok.ensures) (take_rest w 20)
    c.in_ok-walk-in-Some-Ok.ensures)

pub returns-in-Some-Err : goal.returns-in-Some-Err
returns-in-Some-Err c =
    let w = c.args.window.now in
    subst (λ b. Reads c.args.len c.args.id w c.args.from c.args.until b (
      record {
        wholes = c.new.result;
        at = c.args.from;
        until = c.args.until;
        end = Some (Torn 0 c.in-Some-Err.cause);
      },
      false,
    ))
    (sym c.if-begun.false)
    (reads_torn c.args.len c.args.id w c.args.from c.args.until
    (record {
      wholes = c.new.result;
      at = c.args.from;
      until = c.args.until;
      end = Some (Torn 0 c.in-Some-Err.cause);
    }) c.in-Some-Err.cause
    c.ranges.id.fits c.requires.order c.requires.within
    (rw c.in-Some-Err.field-0-is at c.in-Some-Err.ensures) c.new.ensures.items refl refl refl)
