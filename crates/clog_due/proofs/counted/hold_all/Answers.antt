use Rattle.std.proofs.Common.{ℕ, List, Contains, subst, take}
use Rattle.std.specs.Prelude.{◌≡◌, ◌↔◌, ◌⊎◌}
use Rattle.std.proofs.lemmas.List.{take_all}
use Rattle.path_core.specs.declared.note.EntryNote.{EntryNote}
use Rattle.replay_merge.proofs.Taken.{seen}
use Rattle.clog_due.specs.Dropping.{HasEntry}
use Rattle.clog_due.proofs.HeldSegments.{held_more}
use Rattle.clog_due.proofs.counted.hold_all.Goals as goal

pub loop-note-preserved : goal.loop-note-preserved
loop-note-preserved c =
    let notes = c.args.notes.now in
    let i = c.loop-note.note-index in
    let note = c.note-item.result in
    let first = c.args.held.now.items in
    let before = c.loop-note.held.items in
    let now = c.hold.new.held.items in
    subst (λ (l : List EntryNote). (o : ℕ) → Contains now o ↔ (Contains first o ⊎ HasEntry l o))
    (seen notes i note c.loop-note-test.true c.note-item.is)
    (held_more first before now (take i notes) note c.loop-note.invariant
    (subst (λ (k : ℕ). (o : ℕ) → Contains now o ↔ (Contains before o ⊎ (k ≡ o)))
    c.ordinal.ensures c.in_ok-hold.ensures))

pub returns : goal.returns
returns c =
    subst (λ (l : List EntryNote). (o : ℕ) → Contains c.loop-note.held.items o
    ↔ (Contains c.args.held.now.items o ⊎ HasEntry l o))
    (take_all c.loop-note.note-index c.args.notes.now c.loop-note-test.false) c.loop-note.invariant
