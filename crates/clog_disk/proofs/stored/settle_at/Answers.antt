use Rattle.std.proofs.Common.{◌≡◌, ◌∙◌, None, sym, ap}
use Rattle.std.specs.Prelude.{option_map}
use Rattle.clog_disk.specs.Stored.{settled}
use Rattle.clog_disk.specs.InMemory.{state_of}
use Rattle.clog_disk.proofs.States.{with_same}
use Rattle.clog_disk.proofs.stored.settle_at.Goals as goal

pub returns-in-None : goal.returns-in-None
returns-in-None c =
    let old = state_of c.args.files.now.entries in
    let name = c.args.name.now in
    let none : old name ≡ None = sym c.in-None.ensures.value in
    ap (λ m. state_of m.entries) c.get_mut.follows.holds-at-none
    ∙ sym (with_same old name _ (ap (option_map settled) none ∙ sym none))
