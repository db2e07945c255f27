use Rattle.std.proofs.Common.{ℕ, ◌-◌, List, OnOk, length, take, drop, sym, ap, ◌∙◌, subst}
use Rattle.clog_cells.specs.Batches.{Adds}
use Rattle.clog_cells.specs.Merge.{part_on}
use Rattle.clog_mutation.specs.declared.mutation.Mutation.{Mutation}
use Rattle.clog_mutation.specs.Payload.{cells_of}
use Rattle.clog_mutation.proofs.Decoding.{one_mutation}
use Rattle.clog_memtable.proofs.Filled.{payload_read}
use Rattle.clog_memtable.proofs.filling.put_note.Goals as goal

pub returns : goal.returns
returns c whole = let bytes = c.as_slice-bytes.ensures in
    let spelled = ap (λ (l : List ℕ). take (length l - 4 - 8) (drop 8 l)) bytes
    ∙ payload_read c.args.note.now whole in
    let read = c.in-Ok.ensures.decodes in
    let same = one_mutation c.in-Ok.mutation whole.mutation read.stored whole.stored
    (sym read.spelled ∙ spelled) in
    subst (λ (m : Mutation). OnOk c.put_mutation.result
    (Adds (part_on c.args.table (cells_of m)) c.args.cells.now c.put_mutation.new.cells)) same
    c.put_mutation.ensures
