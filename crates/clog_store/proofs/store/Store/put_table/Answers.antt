use Rattle.std.proofs.Common.{◌≡◌, true, sym, subst}
use Rattle.std.proofs.lemmas.Bool.{true≢false}
use Rattle.clog_segments.specs.Life.{LivesOn}
use Rattle.clog_store.specs.NoteSteps.{GoesOn}
use Rattle.clog_segments.specs.Stepped.{IsQuiet}
use Rattle.clog_segments.specs.StoreState.{HasMoved, StoreState}
use Rattle.clog_store.specs.StoreTakes.{GoesOnTaking, TakesNext}
use Rattle.clog_segments.proofs.Lived.{lives_still}
use Rattle.clog_store.proofs.NoteGoes.{goes_then}
use Rattle.clog_store.proofs.StorePuts.{may_moved, moved_both, quiet_both, stays_both}
use Rattle.clog_store.proofs.StoreTaking.{taking_both}
use Rattle.clog_store.proofs.store.Store.put_table.Goals as goal

pub put_next-requires-clause-may : goal.put_next-requires-clause-may
put_next-requires-clause-may g c =
    let D = g.D.Disk in
    let moved = subst (λ (x : StoreState g.row.D.Denot). HasMoved x c.reach.new.self)
    c.make_room_for_file.ensures.same c.reach.ensures.moved in
    may_moved D.files D.changes D.moment D.faults g.row.D.coded.code c.args.self.now
    c.next_sequence.new.self _
    (moved_both D.files D.changes D.moment D.faults g.row.D.coded.code c.args.self.now
    c.reach.new.self c.next_sequence.new.self moved c.next_sequence.ensures.moved)
    c.requires

pub returns-in_err-make_room_for_file-clause-lives :
    goal.returns-in_err-make_room_for_file-clause-lives
returns-in_err-make_room_for_file-clause-lives g c lives =
    let D = g.D.Disk in
    let log = c.args.self.now.notes.log in
    subst (λ (x : StoreState g.row.D.Denot). LivesOn D.files D.moment D.since D.leaves D.read_at
    D.lasted_at log x.notes.log) (sym c.make_room_for_file.ensures.same)
    (lives_still D.files D.moment D.since D.leaves D.read_at D.lasted_at log
    (g.met.D.Disk.only_now log.disk) lives)

pub returns-in_err-sequence-clause-lives : goal.returns-in_err-sequence-clause-lives
returns-in_err-sequence-clause-lives g c =
    let D = g.D.Disk in
    let goes = subst (λ (x : StoreState g.row.D.Denot). GoesOn D.files D.moment D.since D.leaves
    D.read_at D.lasted_at x.notes.log c.reach.new.self.notes.log)
    c.make_room_for_file.ensures.same c.reach.ensures.goes in
    (goes_then D.files D.moment D.since D.leaves D.read_at D.lasted_at c.args.self.now.notes.log
    c.reach.new.self.notes.log c.next_sequence.new.self.notes.log goes
    c.next_sequence.ensures.goes).lives

pub returns-clause-lives : goal.returns-clause-lives
returns-clause-lives g c =
    let D = g.D.Disk in
    let goes = subst (λ (x : StoreState g.row.D.Denot). GoesOn D.files D.moment D.since D.leaves
    D.read_at D.lasted_at x.notes.log c.reach.new.self.notes.log)
    c.make_room_for_file.ensures.same c.reach.ensures.goes in
    (goes_then D.files D.moment D.since D.leaves D.read_at D.lasted_at c.args.self.now.notes.log
    c.next_sequence.new.self.notes.log c.put_next.new.self.notes.log
    (goes_then D.files D.moment D.since D.leaves D.read_at D.lasted_at c.args.self.now.notes.log
    c.reach.new.self.notes.log c.next_sequence.new.self.notes.log goes
    c.next_sequence.ensures.goes) c.put_next.ensures.goes).lives

pub returns-in_err-sequence-clause-quiet : goal.returns-in_err-sequence-clause-quiet
returns-in_err-sequence-clause-quiet g c still =
    let faults = g.D.Disk.faults in
    let quiet = subst (λ (x : StoreState g.row.D.Denot). IsQuiet faults x.notes.log
    c.reach.new.self.notes.log) c.make_room_for_file.ensures.same c.reach.ensures.quiet in
    (quiet_both faults c.args.self.now.notes.log c.reach.new.self.notes.log
    c.next_sequence.new.self.notes.log quiet c.next_sequence.ensures.quiet still).1

pub returns-clause-quiet : goal.returns-clause-quiet
returns-clause-quiet g c still =
    let faults = g.D.Disk.faults in
    let log = c.args.self.now.notes.log in
    let quiet = subst (λ (x : StoreState g.row.D.Denot). IsQuiet faults x.notes.log
    c.reach.new.self.notes.log) c.make_room_for_file.ensures.same c.reach.ensures.quiet in
    (quiet_both faults log c.next_sequence.new.self.notes.log c.put_next.new.self.notes.log
    (quiet_both faults log c.reach.new.self.notes.log c.next_sequence.new.self.notes.log
    quiet c.next_sequence.ensures.quiet) c.put_next.ensures.quiet still).1

pub returns-in_err-make_room_for_file-clause-takes :
    goal.returns-in_err-make_room_for_file-clause-takes
returns-in_err-make_room_for_file-clause-takes g c takes still =
    subst (λ (x : StoreState g.row.D.Denot). TakesNext x)
    (sym c.make_room_for_file.ensures.same) takes

pub returns-in_err-reach-clause-takes : goal.returns-in_err-reach-clause-takes
returns-in_err-reach-clause-takes g c =
    subst (λ (x : StoreState g.row.D.Denot). GoesOnTaking x c.reach.new.self)
    c.make_room_for_file.ensures.same c.reach.ensures.takes

pub returns-in_err-sequence-clause-takes : goal.returns-in_err-sequence-clause-takes
returns-in_err-sequence-clause-takes g c =
    let takes = subst (λ (x : StoreState g.row.D.Denot). GoesOnTaking x c.reach.new.self)
    c.make_room_for_file.ensures.same c.reach.ensures.takes in
    taking_both g.D.Disk.faults c.args.self.now c.reach.new.self c.next_sequence.new.self
    takes c.next_sequence.ensures.quiet c.next_sequence.ensures.takes

pub returns-clause-takes : goal.returns-clause-takes
returns-clause-takes g c =
    let faults = g.D.Disk.faults in
    let takes = subst (λ (x : StoreState g.row.D.Denot). GoesOnTaking x c.reach.new.self)
    c.make_room_for_file.ensures.same c.reach.ensures.takes in
    taking_both faults c.args.self.now c.next_sequence.new.self c.put_next.new.self
    (taking_both faults c.args.self.now c.reach.new.self c.next_sequence.new.self
    takes c.next_sequence.ensures.quiet c.next_sequence.ensures.takes)
    c.put_next.ensures.quiet c.put_next.ensures.takes

pub returns-in_err-sequence-clause-stays : goal.returns-in_err-sequence-clause-stays
returns-in_err-sequence-clause-stays g c =
    let stays = subst (λ (x : StoreState g.row.D.Denot). x.notes.log.is_stopped ≡ true
    → c.reach.new.self ≡ x) c.make_room_for_file.ensures.same c.reach.ensures.stays in
    stays_both c.args.self.now c.reach.new.self c.next_sequence.new.self stays
    c.next_sequence.ensures.stays

-- a store that had stopped does not come so far
pub returns-clause-stays : goal.returns-clause-stays
returns-clause-stays g c was =
    absurd (true≢false (sym (c.in_ok-make_room_for_file.ensures.cause.for_good was)))
