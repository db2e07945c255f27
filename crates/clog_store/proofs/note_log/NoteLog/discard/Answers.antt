use Rattle.std.proofs.Common.{ℕ, ◌+◌, Contains, ap, sym, subst, take}
use Rattle.std.specs.Prelude.{IfSome}
use Rattle.clog_crash.specs.Flush.{IsCovered}
use Rattle.clog_segments.specs.Discarding.{fault_of}
use Rattle.clog_segments.specs.NoteLog.{NoteState}
use Rattle.clog_segments.proofs.NamesKept.{names_from}
use Rattle.clog_store.proofs.NotePasses.{noted_passed}
use Rattle.clog_store.proofs.note_log.NoteLog.discard.Goals as goal

pub discard-requires-clause-covered : goal.discard-requires-clause-covered
discard-requires-clause-covered g c =
    subst (λ (x : NoteState g.row.D.Denot). IfSome (g.D.Disk.files x.log.disk) (λ f. (o : ℕ)
    → Contains c.args.ordinals.now o
    → IsCovered f x.log.id (take x.log.synced x.log.sections) (x.base + o))) (sym c.self.view_is)
    c.requires.covered

pub returns-clause-names_last : goal.returns-clause-names_last
returns-clause-names_last g c =
    names_from g.D.Disk.files g.D.Disk.leaves
    (ap (λ (x : NoteState g.row.D.Denot). x.log) c.self.view_is) c.discard.ensures.names_last

pub invariant_of-self : goal.invariant_of-self
invariant_of-self g c =
    noted_passed _ c.discard.new.self (fault_of c.discard.result) c.discard.ensures.passes
    c.self.invariant
