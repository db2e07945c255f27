use Rattle.std.proofs.Common.{◌≡◌, List, ℕ, ◌++◌, ◌∙◌, length, sym, subst, ap, arith}
use Rattle.std.proofs.lemmas.List.{nil_from_length}
use Rattle.std.proofs.lemmas.Map.Views.{exact_unsigned_eq}
use Rattle.clog_folder.specs.Whole.{HasFirstPart}
use Rattle.clog_folder.proofs.Passing.{both, one_call}
use Rattle.clog_folder.proofs.WholeFiles.{
  front_none,
  front_more,
  read_before,
  whole_by_size,
  whole_by_end,
}
use Rattle.clog_folder.proofs.whole.read_whole.Goals.{
  else-loop-disk-test,
  then-loop-disk-test+in-Ok+then-is_empty,
}
use Rattle.clog_folder.proofs.whole.read_whole.Goals as goal

pub loop-disk-init : goal.loop-disk-init
loop-disk-init g c = record {
  keeps = one_call g.D.Disk.files g.D.Disk.changes g.D.Disk.leaves g.D.Disk.moment
      g.D.Disk.since g.D.Disk.read_at g.D.Disk.lasted_at
      g.D.Disk.faults c.args.disk.now c.len.new.self c.in_ok-len.ensures.same
      c.in_ok-len.ensures.quiet
      c.in_ok-len.ensures.time c.in_ok-len.ensures.cause.later;
  quiet = c.in_ok-len.ensures.cause.quiet (λ e. cc);
  front = subst
      (HasFirstPart (g.D.Disk.files c.args.disk.now) c.args.name.now c.in_ok-len.len)
      (sym c.new-bytes.ensures.items)
      (front_none (g.D.Disk.files c.args.disk.now) c.args.name.now c.in_ok-len.len
      c.in_ok-len.ensures.length);
}

pub loop-disk-preserved : goal.loop-disk-preserved
loop-disk-preserved g c =
    let files = g.D.Disk.files c.args.disk.now in
    let l = c.loop-disk in
    let piece = c.in-Ok.piece.items in
    let at : c.len-in-loop-disk-2.result ≡ length l.bytes.items =
    omega (arith, c.len-in-loop-disk-2.ensures, l.bytes.ok) in
    record {
      keeps = both g.D.Disk.files g.D.Disk.changes g.D.Disk.leaves g.D.Disk.moment
          g.D.Disk.since g.D.Disk.read_at g.D.Disk.lasted_at g.D.Disk.faults c.args.disk.now l.disk
          c.read.new.self
          l.invariant.keeps
          (one_call g.D.Disk.files g.D.Disk.changes g.D.Disk.leaves g.D.Disk.moment
          g.D.Disk.since g.D.Disk.read_at g.D.Disk.lasted_at g.D.Disk.faults l.disk c.read.new.self
          c.in-Ok.ensures.same c.in-Ok.ensures.quiet
          c.in-Ok.ensures.time c.in-Ok.ensures.cause.later);
      quiet = c.in-Ok.ensures.cause.quiet (λ e. cc) ∙ l.invariant.quiet;
      front = subst (HasFirstPart files c.args.name.now c.in_ok-len.len)
          (sym (c.in_ok-extend_from_slice.ensures.items
          ∙ ap (λ (p : List ℕ). l.bytes.items ++ p) c.deref.ensures.value))
          (front_more files c.args.name.now l.bytes.items piece c.in_ok-len.len 1048576
          l.invariant.front
          (read_before files (g.D.Disk.files l.disk) c.args.name.now
          c.len-in-loop-disk-2.result (length l.bytes.items) 1048576 piece
          l.invariant.keeps.same.files at c.in-Ok.ensures.bytes));
    }

pub returns-in-Err-clause-quiet : goal.returns-in-Err-clause-quiet
returns-in-Err-clause-quiet g c other =
    c.in-Err.ensures.cause.quiet other ∙ c.loop-disk.invariant.quiet

pub returns-in_err-extend_from_slice-clause-quiet :
    goal.returns-in_err-extend_from_slice-clause-quiet
returns-in_err-extend_from_slice-clause-quiet g c other =
    c.in-Ok.ensures.cause.quiet (λ e. cc) ∙ c.loop-disk.invariant.quiet

pub returns-clause-quiet : goal.returns-clause-quiet
returns-clause-quiet g c other = elim c.loop-disk-test.branch [
  | else-loop-disk-test w ↦ ap (λ d. g.D.Disk.faults d) w.disk-is ∙ c.loop-disk.invariant.quiet
  | then-loop-disk-test+in-Ok+then-is_empty w ↦
      ap (λ d. g.D.Disk.faults d) w.disk-is
      ∙ w.in-Ok.ensures.cause.quiet (λ e. cc) ∙ c.loop-disk.invariant.quiet
]

pub returns-clause-whole : goal.returns-clause-whole
returns-clause-whole g c =
    let files = g.D.Disk.files c.args.disk.now in
    let l = c.loop-disk in
    elim c.loop-disk-test.branch [
      | else-loop-disk-test w ↦ whole_by_size files c.args.name.now l.bytes.items c.in_ok-len.len
          (omega (arith, w.loop-disk-test.false, c.len-in-loop-disk.ensures, l.bytes.ok))
          l.invariant.front
      | then-loop-disk-test+in-Ok+then-is_empty w ↦
          let piece = w.in-Ok.piece.items in
          let none : length piece ≡ 0 =
          omega (
            arith,
            exact_unsigned_eq _ 0 (sym w.if-is_empty.ensures),
            w.in-Ok.piece.ok,
          ) in
          let at : w.len-in-loop-disk-2.result ≡ length l.bytes.items =
          omega (arith, w.len-in-loop-disk-2.ensures, l.bytes.ok) in
          whole_by_end files c.args.name.now l.bytes.items piece c.in_ok-len.len 1048576
          (omega arith) (nil_from_length piece none) l.invariant.front
          (read_before files (g.D.Disk.files l.disk) c.args.name.now
          w.len-in-loop-disk-2.result (length l.bytes.items) 1048576 piece
          l.invariant.keeps.same.files at w.in-Ok.ensures.bytes)
    ]
