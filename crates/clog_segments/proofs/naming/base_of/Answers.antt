use Rattle.std.proofs.Common.{inl}
use Rattle.clog_segments.specs.Named.{EndsIn, HasId, OneHas}
use Rattle.clog_segments.proofs.Ids.{gives_then}
use Rattle.clog_segments.proofs.naming.base_of.Goals as goal

pub returns-in-Err : goal.returns-in-Err
returns-in-Err c =
    let h = c.in-Err.ensures in (h.0, (h.1.0, inl h.1.1, h.1.2))

pub returns : goal.returns
returns c =
    gives_then (OneHas HasId c.args.names.now) (OneHas EndsIn c.args.tables.now) c.args.now
    c.in-Ok.base c.base_of_tables.result c.in-Ok.ensures c.base_of_tables.ensures
