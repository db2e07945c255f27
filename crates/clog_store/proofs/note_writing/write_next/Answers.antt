use Rattle.std.proofs.Common.{ℕ, ◌+◌, ◌∙◌, List, drop, take, sym, ap, subst}
use Rattle.std.specs.Prelude.{Err, Ok}
use Rattle.clog_base.specs.declared.position.Position.{Position}
use Rattle.clog_crash.specs.Sections.{next_section}
use Rattle.path_core.specs.declared.note.EntryNote.{EntryNote}
use Rattle.clog_segments.specs.NoteSections.{AreOneSection, MayBeNext, payloads_in}
use Rattle.clog_store.specs.NoteSteps.{Enters}
use Rattle.clog_segments.specs.Stepped.{Keeps}
use Rattle.clog_store.proofs.NoteGoes.{goes_then}
use Rattle.clog_store.proofs.NoteLeaves.{leaves_then}
use Rattle.clog_store.proofs.NoteNext.{
  enters_runs,
  may_be,
  ready_then,
  same_rest,
  stands_unkept,
  start_in,
  unentered,
  unkept,
}
use Rattle.clog_store.proofs.NoteStands.{stands_by}
use Rattle.clog_store.proofs.note_writing.write_next.Goals as goal

pub returns-in_err-enter-clause-held : goal.returns-in_err-enter-clause-held
returns-in_err-enter-clause-held g c sizes synced logged upto ready runs =
    unentered c.args.base c.args.notes.now sizes synced logged upto c.args.log.now
    c.args.written.now ready c.requires.some c.enter.new.log c.in_err-enter.field-0.0
    c.in_err-enter.ensures.enters

pub keep_notes-requires-clause-next : goal.keep_notes-requires-clause-next
keep_notes-requires-clause-next g c =
    let notes = c.args.notes.now in
    let w = c.args.written.now in
    let count = c.section_length-count.result in
    let mid = c.enter.new.log in
    let r = c.requires.ready in
    let whole = same_rest w notes in
    let id = ap (λ (p : Position). p.id) c.position.ensures
    ∙ start_in c.args.base w notes c.index-rest-0.result c.requires.some in
    subst (λ (l : List EntryNote). MayBeNext c.args.base mid (take count l)) (sym whole)
    (may_be c.args.base notes r.sizes r.synced r.logged r.upto c.args.log.now w r.at
    c.requires.some mid c.in_ok-enter.field-0
    (subst (λ (k : ℕ). Enters c.args.log.now mid k (Ok c.in_ok-enter.field-0)) id
    c.in_ok-enter.ensures.enters) count
    (subst (λ (l : List EntryNote). AreOneSection l count) whole c.section_length-count.ensures))

pub keep_notes-requires-clause-payloads : goal.keep_notes-requires-clause-payloads
keep_notes-requires-clause-payloads g c =
    let w = c.args.written.now in
    let count = c.section_length-count.result in
    c.of-payloads.ensures
    ∙ ap (λ (l : List EntryNote). payloads_in (take count (drop w l))) c.requires.seen
    ∙ ap (λ (l : List EntryNote). payloads_in (take count l)) (sym (same_rest w c.args.notes.now))

pub returns-in_err-keep_notes-clause-held : goal.returns-in_err-keep_notes-clause-held
returns-in_err-keep_notes-clause-held g c sizes synced logged upto ready runs =
    let notes = c.args.notes.now in
    let w = c.args.written.now in
    let count = c.section_length-count.result in
    let mid = c.enter.new.log in
    let id = ap (λ (p : Position). p.id) c.position.ensures
    ∙ start_in c.args.base w notes c.index-rest-0.result c.requires.some in
    let enters = subst (λ (k : ℕ). Enters c.args.log.now mid k (Ok c.in_ok-enter.field-0)) id
    c.in_ok-enter.ensures.enters in
    unkept c.args.base notes sizes synced logged upto c.args.log.now w ready c.requires.some mid
    c.in_ok-enter.field-0 enters count
    (subst (λ (l : List EntryNote). AreOneSection l count) (same_rest w notes)
    c.section_length-count.ensures) c.keep_notes.new.log _ c.in_err-keep_notes.field-0.0
    c.in_err-keep_notes.ensures.keeps
    (enters_runs c.args.log.now mid c.position.result.id c.in_ok-enter.field-0
    c.in_ok-enter.ensures.enters c.requires.runs) runs

pub returns-in_err-keep_notes-clause-goes : goal.returns-in_err-keep_notes-clause-goes
returns-in_err-keep_notes-clause-goes g c =
    let D = g.D.Disk in
    goes_then D.files D.moment D.since D.leaves D.read_at D.lasted_at c.args.log.now
    c.enter.new.log c.keep_notes.new.log c.enter.ensures.goes c.keep_notes.ensures.goes

pub returns-clause-goes : goal.returns-clause-goes
returns-clause-goes g c =
    let D = g.D.Disk in
    goes_then D.files D.moment D.since D.leaves D.read_at D.lasted_at c.args.log.now
    c.enter.new.log c.keep_notes.new.log c.enter.ensures.goes c.keep_notes.ensures.goes

pub returns-clause-ready : goal.returns-clause-ready
returns-clause-ready g c sizes synced logged upto ready =
    let notes = c.args.notes.now in
    let w = c.args.written.now in
    let count = c.section_length-count.result in
    let mid = c.enter.new.log in
    let now = c.keep_notes.new.log in
    let whole = same_rest w notes in
    let id = ap (λ (p : Position). p.id) c.position.ensures
    ∙ start_in c.args.base w notes c.index-rest-0.result c.requires.some in
    ready_then c.args.base notes sizes synced logged upto c.args.log.now w ready c.requires.some mid
    c.in_ok-enter.field-0
    (subst (λ (k : ℕ). Enters c.args.log.now mid k (Ok c.in_ok-enter.field-0)) id
    c.in_ok-enter.ensures.enters) count
    (subst (λ (l : List EntryNote). AreOneSection l count) whole c.section_length-count.ensures)
    now c.in_ok-keep_notes.field-0
    (subst (λ (l : List EntryNote). Keeps mid now
    (next_section mid.sections (payloads_in (take count l))) (Ok c.in_ok-keep_notes.field-0)) whole
    c.in_ok-keep_notes.ensures.keeps) c.keep_notes.ensures.few

pub returns-clause-held : goal.returns-clause-held
returns-clause-held g c sizes synced logged upto ready runs =
    (returns-clause-ready g c sizes synced logged upto ready).held

pub returns-in_err-keep_notes-clause-leaves : goal.returns-in_err-keep_notes-clause-leaves
returns-in_err-keep_notes-clause-leaves g c =
    let mid = c.enter.new.log in
    leaves_then g.D.Disk.files g.D.Disk.changes c.args.log.now mid c.keep_notes.new.log
    (enters_runs c.args.log.now mid c.position.result.id c.in_ok-enter.field-0
    c.in_ok-enter.ensures.enters c.requires.runs) c.enter.ensures.leaves
    c.keep_notes.ensures.leaves

pub returns-clause-leaves : goal.returns-clause-leaves
returns-clause-leaves g c =
    let mid = c.enter.new.log in
    leaves_then g.D.Disk.files g.D.Disk.changes c.args.log.now mid c.keep_notes.new.log
    (enters_runs c.args.log.now mid c.position.result.id c.in_ok-enter.field-0
    c.in_ok-enter.ensures.enters c.requires.runs) c.enter.ensures.leaves
    c.keep_notes.ensures.leaves

-- ---- whatever the disk has done

pub returns-in_err-enter-clause-stands : goal.returns-in_err-enter-clause-stands
returns-in_err-enter-clause-stands g c sizes synced logged upto ready =
    stands_by c.args.base c.args.notes.now sizes synced logged c.enter.new.log c.args.written.now
    c.args.written.now ready.few
    (unentered c.args.base c.args.notes.now sizes synced logged upto c.args.log.now
    c.args.written.now ready c.requires.some c.enter.new.log c.in_err-enter.field-0.0
    c.in_err-enter.ensures.enters)

pub returns-in_err-keep_notes-clause-stands : goal.returns-in_err-keep_notes-clause-stands
returns-in_err-keep_notes-clause-stands g c sizes synced logged upto ready =
    let notes = c.args.notes.now in
    let w = c.args.written.now in
    let count = c.section_length-count.result in
    let mid = c.enter.new.log in
    let now = c.keep_notes.new.log in
    let whole = same_rest w notes in
    let fault = c.in_err-keep_notes.field-0.0 in
    let id = ap (λ (p : Position). p.id) c.position.ensures
    ∙ start_in c.args.base w notes c.index-rest-0.result c.requires.some in
    let enters = subst (λ (k : ℕ). Enters c.args.log.now mid k (Ok c.in_ok-enter.field-0)) id
    c.in_ok-enter.ensures.enters in
    stands_unkept c.args.base notes sizes synced logged upto c.args.log.now w ready c.requires.some
    mid c.in_ok-enter.field-0 enters count
    (subst (λ (l : List EntryNote). AreOneSection l count) whole c.section_length-count.ensures)
    now fault
    (subst (λ (l : List EntryNote). Keeps {T = Unit {0}} mid now
    (next_section mid.sections (payloads_in (take count l))) (Err fault)) whole
    c.in_err-keep_notes.ensures.keeps)
    (enters_runs c.args.log.now mid c.position.result.id c.in_ok-enter.field-0
    c.in_ok-enter.ensures.enters c.requires.runs) c.keep_notes.ensures.few

pub returns-clause-stands : goal.returns-clause-stands
returns-clause-stands g c sizes synced logged upto ready =
    let then_ = returns-clause-ready g c sizes synced logged upto ready in
    let more = c.args.written.now + c.section_length-count.result in
    stands_by c.args.base c.args.notes.now sizes synced logged c.keep_notes.new.log more more
    then_.few then_.held
