use Rattle.std.proofs.Common.{◌≡◌, List, ℕ, subst, sym}
use Rattle.std.proofs.lemmas.List.{take_all}
use Rattle.clog_folder.specs.declared.tables.TableHeld.{TableHeld}
use Rattle.clog_segments.specs.Named.{EndsIn, IsIdBase, OneHas}
use Rattle.clog_segments.proofs.Ids.{id_base_more, no_id_base, one_there, same_id_base}
use Rattle.clog_segments.proofs.naming.base_of_tables.Goals as goal

pub loop-held-init : goal.loop-held-init
loop-held-init c = no_id_base EndsIn c.args.now

pub loop-held-preserved : goal.loop-held-preserved
loop-held-preserved c =
    let held = c.held-item.result in
    id_base_more EndsIn c.args.tables.now c.loop-held.held-index held c.args.now
    c.loop-held.base c.in-Ok.base c.loop-held-test.true c.held-item.is c.loop-held.invariant
    (same_id_base (λ (n : ℕ). n ≡ held.file.upper.id) (EndsIn held) c.loop-held.base c.in-Ok.base
    (λ n e. sym e) (λ n e. sym e) c.in-Ok.ensures)

pub returns-in-Err : goal.returns-in-Err
returns-in-Err c =
    let h = c.in-Err.ensures in (
      h.0,
      (
        h.1.0,
        one_there EndsIn c.args.tables.now c.held-item.result h.1.0
            (c.loop-held.held-index, c.loop-held-test.true, sym c.held-item.is)
            (sym h.1.1),
        h.1.2,
      ),
    )

pub returns : goal.returns
returns c =
    subst (λ (l : List TableHeld). IsIdBase (OneHas EndsIn l) c.args.now c.loop-held.base)
    (take_all c.loop-held.held-index c.args.tables.now c.loop-held-test.false)
    c.loop-held.invariant
