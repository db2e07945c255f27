use Rattle.std.proofs.Common.{◌≡◌, ◌∙◌, ℕ, ap, subst}
use Rattle.clog_base.specs.declared.position.Position.{Position}
use Rattle.clog_base.specs.Positions.{offset_of}
use Rattle.clog_scan.specs.Cut.{Section}
use Rattle.clog_crash.specs.Sections.{next_bytes}
use Rattle.clog_segments.specs.NoteSections.{bytes_in, first_start, size_before}
use Rattle.clog_segments.specs.Stepped.{Keeps}
use Rattle.clog_store.proofs.NoteGoes.{goes_still, kept_opened}
use Rattle.clog_store.proofs.NoteGrows.{spells}
use Rattle.clog_store.proofs.NoteLeaves.{leaves_kept, leaves_still}
use Rattle.clog_segments.proofs.NoteRuns.{brings, first_is, next_is, room, some_payloads}
use Rattle.clog_store.proofs.note_steps.keep_notes.Goals as goal

pub section_of-requires-clause-room : goal.section_of-requires-clause-room
section_of-requires-clause-room g c =
    let notes = c.args.notes.now in
    let at : c.position-at.result.offset ≡ offset_of (first_start notes) =
    ap (λ (p : Position). p.offset) c.position-at.ensures
    ∙ ap offset_of (first_is notes c.index-notes-0.result c.requires.next.some)
    in room c.args.base c.args.log.now notes c.requires.next c.position-at.result.offset at

pub keep-requires : goal.keep-requires
keep-requires g c =
    let notes = c.args.notes.now in
    let at : c.position-at.result.offset ≡ offset_of (first_start notes) =
    ap (λ (p : Position). p.offset) c.position-at.ensures
    ∙ ap offset_of (first_is notes c.index-notes-0.result c.requires.next.some)
    in record {
      brings = brings c.args.base c.args.log.now notes c.requires.next
          c.position-at.result.offset at
          c.in-Ok.section c.in-Ok.ensures.0 c.id.ensures.stored c.deref.result.now
          (c.deref.ensures.value ∙ c.in-Ok.ensures.1
          ∙ ap (λ (k : ℕ). next_bytes k (size_before c.position-at.result.offset) (bytes_in notes))
          c.id.ensures.id);
    }

pub returns-in-Ok-clause-keeps : goal.returns-in-Ok-clause-keeps
returns-in-Ok-clause-keeps g c =
    let notes = c.args.notes.now in
    let at : c.position-at.result.offset ≡ offset_of (first_start notes) =
    ap (λ (p : Position). p.offset) c.position-at.ensures
    ∙ ap offset_of (first_is notes c.index-notes-0.result c.requires.next.some) in
    subst (λ (s : Section). Keeps c.args.log.now c.keep.new.self s c.keep.result)
    (next_is c.args.base c.args.log.now notes c.requires.next c.position-at.result.offset at
    c.in-Ok.section c.in-Ok.ensures.0) c.keep.ensures.keeps

pub returns-in-Ok-clause-leaves : goal.returns-in-Ok-clause-leaves
returns-in-Ok-clause-leaves g c =
    let D = g.D.Disk in
    let a = c.args.log.now in
    let b = c.keep.new.self in
    let notes = c.args.notes.now in
    let bytes = c.deref.result.now in
    let stored = c.id.ensures.stored in
    let at : c.position-at.result.offset ≡ offset_of (first_start notes) =
    ap (λ (p : Position). p.offset) c.position-at.ensures
    ∙ ap offset_of (first_is notes c.index-notes-0.result c.requires.next.some) in
    let brought = brings c.args.base a notes c.requires.next c.position-at.result.offset at
    c.in-Ok.section c.in-Ok.ensures.0 stored bytes
    (c.deref.ensures.value ∙ c.in-Ok.ensures.1
    ∙ ap (λ (k : ℕ). next_bytes k (size_before c.position-at.result.offset) (bytes_in notes))
    c.id.ensures.id) in
    leaves_kept D.files D.changes a b c.in-Ok.section bytes c.keep.result c.keep.ensures.keeps
    c.keep.ensures.adds c.keep.ensures.others c.requires.runs stored.fits c.id.ensures.below
    c.id.ensures.few
    (spells a.id a.synced a.sections c.in-Ok.section bytes brought)
    (some_payloads notes c.in-Ok.section (ap (λ (s : Section). s.payloads) c.in-Ok.ensures.0)
    c.requires.next.some)

pub returns-in-Err-clause-leaves : goal.returns-in-Err-clause-leaves
returns-in-Err-clause-leaves g c =
    leaves_still g.D.Disk.files g.D.Disk.changes c.args.log.now

pub returns-in-Ok-clause-goes : goal.returns-in-Ok-clause-goes
returns-in-Ok-clause-goes g c =
    let of_one = kept_opened c.args.log.now c.keep.new.self c.in-Ok.section c.keep.result
    c.keep.ensures.keeps in
    record {
      opened = of_one.0;
      first = of_one.1;
      later = c.keep.ensures.later;
      lives = c.keep.ensures.lives;
      names = c.keep.ensures.names_last;
    }

pub returns-in-Err-clause-goes : goal.returns-in-Err-clause-goes
returns-in-Err-clause-goes g c =
    let D = g.D.Disk in
    goes_still D.files D.moment D.since D.leaves D.read_at D.lasted_at c.args.log.now
    (g.met.D.Disk.only_now c.args.log.now.disk)
