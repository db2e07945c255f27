use Rattle.std.proofs.Common.{refl}
use Rattle.clog_scan.proofs.Fed.{starts}
use Rattle.clog_scan.proofs.scanner.Scanner.new.Goals as goal

pub returns-clause-none : goal.returns-clause-none
returns-clause-none c = λ file is_file len_is.
    starts file _ is_file len_is refl refl refl c.new.ensures.items c.first_end-end.ensures
