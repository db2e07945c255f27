use Rattle.std.proofs.Common.{◌≡◌, ◌∙◌, None, sym, ap}
use Rattle.clog_disk.specs.Stored.{cut_to}
use Rattle.clog_disk.specs.InMemory.{state_of}
use Rattle.clog_disk.proofs.States.{with_same}
use Rattle.clog_disk.proofs.stored.past.cut_at.Goals as goal

pub returns-in-None : goal.returns-in-None
returns-in-None c =
    let old = state_of c.args.files.now.entries in
    let name = c.args.name.now in
    let was = c.args.was.now in
    let none : old name ≡ None = sym c.in-None.ensures.value in
    ap (λ m. state_of m.entries) c.get_mut.follows.holds-at-none
    ∙ sym (with_same old name _ (ap (λ f. cut_to f was.size was.synced was.sure) none ∙ sym none))
